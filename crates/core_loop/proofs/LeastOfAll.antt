-- The least of the least ticks of all cores: where all posts and takes of a round are made, the next window starts there.
use Rattle.std.proofs.Common.{◌≡◌, ◌≢◌, ◌⊎◌, inl, inr, ℕ, ◌+◌, ◌<◌, ◌≤◌, List, length, Option, Some, None, slice_index_or, refl, ap, subst, arith}
use Rattle.std.specs.Prelude.{min}
use Rattle.std.proofs.lemmas.Bool.{cases_eq, cases_lt}
use Rattle.journal.specs.IsSetup.{IsSetup}
use Rattle.parcel.proofs.WindowLaws.{starts-counted}
use Rattle.parcel.proofs.Due.{least-starts}
use Rattle.core_loop.specs.CoreView.{CoreView, PeerView, windows_of, no_peer, peer_at}
use Rattle.core_loop.specs.WorldState.{CoreStands}
use Rattle.core_loop.specs.Turns.{HasTradedAll}
use Rattle.core_loop.specs.Trading.{IsLeastBy, LeastSays}
use Rattle.core_loop.specs.Handing.{earlier_of}
use Rattle.core_loop.proofs.AtDone.{done-ended, leasts-known, is-done}

-- a least tick of those below this number
abbrev pub HasLeast : List PeerView → ℕ → ℕ → Type 0
HasLeast peers end tick = (core : ℕ) × (core < end) × ((slice_index_or peers core no_peer).least ≡ Some tick)

least-as : (P Q : ℕ → Type 0) → ((t : ℕ) → P t → Q t) → ((t : ℕ) → Q t → P t) → (o : Option ℕ) → IsLeastBy P o → IsLeastBy Q o
least-as P Q to from None none = λ t q. none t (from t q)
least-as P Q to from (Some x) one = (to x one.0, λ t q. one.1 t (from t q))

-- the earlier of two is the least of both
least-of-two : (P : ℕ → Type 0) (a b : Option ℕ) → IsLeastBy P a → IsLeastBy (λ t. P t ⊎ (b ≡ Some t)) (earlier_of a b)
least-of-two P None None none = λ t. both t
  where
    both : (t : ℕ) → P t ⊎ (None ≡ Some t) → ⊥
    both t (inl p) = none t p
    both t (inr e) = cc
least-of-two P None (Some y) none = (inr refl, λ t. both t)
  where
    both : (t : ℕ) → P t ⊎ (Some y ≡ Some t) → y ≤ t
    both t (inl p) = absurd (none t p)
    both t (inr e) = (let q : y ≡ t = cc in omega arith)
least-of-two P (Some x) None one = (inl one.0, λ t. both t)
  where
    both : (t : ℕ) → P t ⊎ (None ≡ Some t) → x ≤ t
    both t (inl p) = one.1 t p
    both t (inr e) = absurd (let q : ⊥ = cc in q)
least-of-two P (Some x) (Some y) one = (which, λ t. both t)
  where
    which : P (min x y) ⊎ (Some y ≡ Some (min x y))
    which = go (cases_lt x y)
      where
        go : (x < y) ⊎ (y ≤ x) → P (min x y) ⊎ (Some y ≡ Some (min x y))
        go (inl l) = inl (subst P (let e : x ≡ min x y = omega arith in e) one.0)
        go (inr l) = inr (ap (λ (n : ℕ). Some n) (let e : y ≡ min x y = omega arith in e))

    both : (t : ℕ) → P t ⊎ (Some y ≡ Some t) → min x y ≤ t
    both t (inl p) = (let l = one.1 t p in omega arith)
    both t (inr e) = (let q : y ≡ t = cc in omega arith)

-- one core more
pub least-more : (peers : List PeerView) (end : ℕ) (o : Option ℕ) → IsLeastBy (HasLeast peers end) o
    → IsLeastBy (HasLeast peers (end + 1)) (earlier_of o (slice_index_or peers end no_peer).least)
least-more peers end o is =
    let b = (slice_index_or peers end no_peer).least in
    least-as (λ t. HasLeast peers end t ⊎ (b ≡ Some t)) (HasLeast peers (end + 1)) there back (earlier_of o b)
    (least-of-two (HasLeast peers end) o b is)
  where
    there : (t : ℕ) → HasLeast peers end t ⊎ ((slice_index_or peers end no_peer).least ≡ Some t) → HasLeast peers (end + 1) t
    there t (inl h) = (h.0, (let l = h.1 in omega arith), h.2)
    there t (inr e) = (end, omega arith, e)

    back : (t : ℕ) → HasLeast peers (end + 1) t → HasLeast peers end t ⊎ ((slice_index_or peers end no_peer).least ≡ Some t)
    back t h = go (cases_eq h.0 end)
      where
        go : (h.0 ≡ end) ⊎ (h.0 ≢ end) → HasLeast peers end t ⊎ ((slice_index_or peers end no_peer).least ≡ Some t)
        go (inl e) = inr (subst (λ (k : ℕ). (slice_index_or peers k no_peer).least ≡ Some t) e h.2)
        go (inr ne) = inl (h.0, (let l = h.1 in omega arith), h.2)

-- what the least of all of them says
pub least-says : (c : CoreView) → IsSetup c.setup → (bytes : List (List ℕ)) → CoreStands bytes c → HasTradedAll c → length c.peers ≡ c.setup.cores
    → (o : Option ℕ) → IsLeastBy (HasLeast c.peers (length c.peers)) o
    → LeastSays c o
least-says c is bytes s t each None none =
    let d = is-done c is bytes s t (λ core below. absent core below (peer_at c core).least refl) in
    (d, done-ended c is bytes s d)
  where
    absent : (core : ℕ) → core < c.setup.cores → (o : Option ℕ) → (peer_at c core).least ≡ o → (peer_at c core).least ≡ None
    absent core below None e = e
    absent core below (Some tick) e = absurd (none tick (core, omega (arith, below, each), e))
least-says c is bytes s t each (Some start) one =
    let starts = least-starts c.setup is (windows_of c) (λ core. (peer_at c core).least) (leasts-known c is bytes s t) start one.0.0
    (let l = one.0.1 in omega (arith, l, each)) one.0.2
    (λ core tick below e. one.1 tick (core, omega (arith, below, each), e)) in
    (starts, starts-counted c.setup (windows_of c) start starts)
