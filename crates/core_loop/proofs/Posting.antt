-- A core that posts a parcel that it owes: one number rises, and it stands still.
use Rattle.std.proofs.Common.{◌≡◌, ◌≢◌, ◌⊎◌, inl, inr, ℕ, ◌+◌, ◌^◌, ◌<◌, ◌≤◌, List, length, Some, None, false, slice_index_or, refl, sym, ap, ◌∙◌, subst, arith, get_or-set_same, get_or-set_other}
use Rattle.std.proofs.lemmas.List.{get_or_default}
use Rattle.std.specs.Vec.{with_item}
use Rattle.std.proofs.Math.ListN.{length-set}
use Rattle.std.proofs.lemmas.Bool.{cases_eq}
use Rattle.parcel.specs.Windows.{window_count}
use Rattle.parcel.proofs.FewWindows.{few_windows}
use Rattle.parcel.specs.ParcelView.{ParcelView}
use Rattle.parcel.specs.Parcels.{IsParcel}
use Rattle.parcel.specs.Known.{IsLeastKnown}
use Rattle.core_loop.specs.declared.one_core.Core.TheInside.{Inside}
use Rattle.core_loop.specs.Inside.{core_view, IsCore}
use Rattle.core_loop.specs.CoreView.{CoreView, PeerView, windows_of, no_peer, peer_at, posted_of, taken_of, IsOtherCore}
use Rattle.core_loop.specs.WorldState.{IsNumber, IsHeapAt, IsDecidedBy, AreSettled, CoreStands}
use Rattle.core_loop.specs.Turns.{NoCountFalls, OwesPost}
use Rattle.core_loop.specs.Trading.{posted_once, MakesOne}

module _ (c : CoreView) (other : ℕ) (each : length c.peers ≡ c.setup.cores) (owed : OwesPost c other) where
  abbrev d : CoreView
  d = posted_once c other

  abbrev new_peer : PeerView
  new_peer = record (peer_at c other) { posted = (peer_at c other).posted + 1; owed = None }

  -- what is kept of that core, and of the others
  here : peer_at d other ≡ new_peer
  here = get_or-set_same c.peers other new_peer no_peer (omega (arith, owed.0.0, each))

  elsewhere : (core : ℕ) → core ≢ other → peer_at d core ≡ peer_at c core
  elsewhere core ne = get_or-set_other c.peers other core new_peer no_peer ne

  posted-here : posted_of d other ≡ windows_of c + 1
  posted-here = ap (λ (p : PeerView). p.posted) here ∙ ap (λ (n : ℕ). n + 1) owed.1

  posted-elsewhere : (core : ℕ) → core ≢ other → posted_of d core ≡ posted_of c core
  posted-elsewhere core ne = ap (λ (p : PeerView). p.posted) (elsewhere core ne)

  -- a fact of what is kept of a core that is the same of all
  same : {A : Type 0} (f : PeerView → A) → f new_peer ≡ f (peer_at c other) → (core : ℕ) → f (peer_at d core) ≡ f (peer_at c core)
  same f e core = go (cases_eq core other)
    where
      go : (core ≡ other) ⊎ (core ≢ other) → f (peer_at d core) ≡ f (peer_at c core)
      go (inl is) = subst (λ (k : ℕ). f (peer_at d k) ≡ f (peer_at c k)) (sym is) (ap f here ∙ e)
      go (inr ne) = ap f (elsewhere core ne)

  taken-still : (core : ℕ) → taken_of d core ≡ taken_of c core
  taken-still = same (λ (p : PeerView). p.taken) refl

  least-still : (core : ℕ) → (peer_at d core).least ≡ (peer_at c core).least
  least-still = same (λ (p : PeerView). p.least) refl

  all-taken : taken_of d ≡ taken_of c
  all-taken = λ i core. taken-still core i

  -- a number that isn't that of the windows is that of another core's
  not-here : (core : ℕ) → posted_of d core ≡ windows_of c → core ≢ other
  not-here core e is = (let p : posted_of d core ≡ windows_of c + 1 = subst (λ (k : ℕ). posted_of d k ≡ windows_of c + 1) (sym is) posted-here in
      omega arith)

  pub post-stands : (bytes : List (List ℕ)) → CoreStands bytes c → CoreStands bytes (posted_once c other)
  post-stands bytes s = record {
    in_step = record {
      within = s.in_step.within;
      posted = λ core is. posted core is (cases_eq core other);
      taken = λ core is. subst (IsNumber (windows_of c)) (sym (taken-still core)) (s.in_step.taken core is);
    };
    knows = record {
      heap = subst (λ (taken : ℕ → ℕ). IsHeapAt c.setup c.number (windows_of c) taken c.heap) (sym all-taken) s.knows.heap;
      least = subst (IsLeastKnown c.setup c.number (windows_of c)) (sym (least-still c.number)) s.knows.least;
      owed = λ core is e. owed-still core is (not-here core e) e;
      told = λ core is e.
          subst (IsLeastKnown c.setup core (windows_of c)) (sym (least-still core)) (s.knows.told core is (sym (taken-still core) ∙ e));
    };
    works = record { pipes = s.works.pipes; pipe_counts = s.works.pipe_counts; counts = s.works.counts };
    settles =
        subst (λ (taken : ℕ → ℕ).
        AreSettled c.setup bytes c.number (IsDecidedBy c.setup c.number (windows_of c) taken) c.settled c.store)
        (sym all-taken) s.settles;
  }
    where
      posted : (core : ℕ) → IsOtherCore c core → (core ≡ other) ⊎ (core ≢ other) → IsNumber (windows_of c) (posted_of d core)
      posted core is (inl e) = inr (subst (λ (k : ℕ). posted_of d k ≡ windows_of c + 1) (sym e) posted-here)
      posted core is (inr ne) = subst (IsNumber (windows_of c)) (sym (posted-elsewhere core ne)) (s.in_step.posted core is)

      owed-still : (core : ℕ) → IsOtherCore c core → core ≢ other → posted_of d core ≡ windows_of c
          → (p : ParcelView) × ((peer_at d core).owed ≡ Some p) × IsParcel c.setup c.number core (windows_of c) p
      owed-still core is ne e =
          let o = s.knows.owed core is (sym (posted-elsewhere core ne) ∙ e) in
          (o.0, ap (λ (p : PeerView). p.owed) (elsewhere core ne) ∙ o.1, o.2)

  posts-rise : (core : ℕ) → posted_of c core ≤ posted_of d core
  posts-rise core = go (cases_eq core other)
    where
      go : (core ≡ other) ⊎ (core ≢ other) → posted_of c core ≤ posted_of d core
      go (inl e) =
          let n : posted_of d core ≡ windows_of c + 1 = subst (λ (k : ℕ). posted_of d k ≡ windows_of c + 1) (sym e) posted-here in
          let o : posted_of c core ≡ windows_of c = subst (λ (k : ℕ). posted_of c k ≡ windows_of c) (sym e) owed.1 in
          omega arith
      go (inr ne) = (let e = posted-elsewhere core ne in omega arith)

  post-rises : NoCountFalls c d
  post-rises = record {
    setup = refl;
    number = refl;
    windows = omega arith;
    posts = posts-rise;
    takes = λ core. (let e = taken-still core in omega arith);
  }

  -- the post that was owed is made, and no other
  pub post-makes : c.failed ≡ false → MakesOne OwesPost c other (posted_once c other)
  post-makes works = record {
    owed = owed;
    moved = inr (inl (other, owed.0, (let n = posted-here in let o = owed.1 in omega arith)));
    trades = record {
      rises = post-rises;
      windows = refl;
      stands = λ bytes s. inr (post-stands bytes s);
      works = works;
    };
    made = λ o. not-here other o.1 refl;
    others = λ core ne.
        (λ o. (o.0, sym (posted-elsewhere core ne) ∙ o.1), λ o. (o.0, posted-elsewhere core ne ∙ o.1));
  }

-- ---- the fields of a core that posts

-- a core that owes a post, by its fields i and by what contracts see of it, c
pub record IsPosting (i : Inside) (c : CoreView) (other : ℕ) : Type 0 where
  pub core : IsCore i
  pub view_is : core_view i ≡ c
  pub works : c.failed ≡ false
  pub owed : OwesPost c other

module _ {i : Inside} {c : CoreView} {other : ℕ} (t : IsPosting i c other) where
  its-works : i.failed ≡ false
  its-works = ap (λ (z : CoreView). z.failed) t.view_is ∙ t.works

  its-owed : OwesPost (core_view i) other
  its-owed = subst (λ (z : CoreView). OwesPost z other) (sym t.view_is) t.owed

  -- the number of a parcel that is owed is far from the end of its type
  post-fits : posted_of (core_view i) other < 2 ^ 28
  post-fits =
      let few : window_count i.setup.now < 2 ^ 28 = few_windows i.setup.now t.core.is_setup in
      let within : windows_of (core_view i) ≤ window_count i.setup.now = (t.core.stands its-works).1.in_step.within in
      let e : posted_of (core_view i) other ≡ windows_of (core_view i) = its-owed.1 in
      omega (arith, few, within, e)

  -- what is found at the place of a core is what is kept of it
  pub found-peer : {q : PeerView} → q ≡ slice_index_or i.peers.items other q → q ≡ peer_at (core_view i) other
  found-peer {q} e =
      let each = t.core.one_peer_each in
      let below : other < i.setup.now.cores = its-owed.0.0 in
      e ∙ get_or_default i.peers.items other q no_peer (omega (arith, below, each))

  pub found-fits : {q : PeerView} → q ≡ slice_index_or i.peers.items other q → q.posted < 2 ^ 28
  found-fits e = subst (λ (p : PeerView). p.posted < 2 ^ 28) (sym (found-peer e)) post-fits

  -- what is kept of that core, once it was posted to
  abbrev pub peer_then : PeerView
  peer_then = record (peer_at (core_view i) other) { posted = posted_of (core_view i) other + 1; owed = None }

  -- the fields keep what is true of all cores
  pub posted-core : (p : PeerView) → p ≡ peer_then → IsCore (record i { peers = with_item i.peers other p })
  posted-core p e =
      subst (λ (z : PeerView). IsCore (record i { peers = with_item i.peers other z })) (sym e) (record {
        is_setup = t.core.is_setup;
        lookahead = t.core.lookahead;
        same_setup = t.core.same_setup;
        same_number = t.core.same_number;
        known = t.core.known;
        one_peer_each = length-set i.peers.items other _ ∙ t.core.one_peer_each;
        none_told = t.core.none_told;
        stands = λ f. (let b = t.core.stands its-works in
            (b.0, post-stands (core_view i) other t.core.one_peer_each its-owed b.0 b.1));
      })

  -- and the core has made the post
  pub posted-makes : (p : PeerView) → p ≡ peer_then
      → MakesOne OwesPost c other (core_view (record i { peers = with_item i.peers other p }))
  posted-makes p e =
      subst (λ (z : PeerView). MakesOne OwesPost c other (core_view (record i { peers = with_item i.peers other z }))) (sym e)
      (subst (λ (z : CoreView). MakesOne OwesPost z other (posted_once (core_view i) other)) t.view_is
      (post-makes (core_view i) other t.core.one_peer_each its-owed its-works))

-- what is kept of the core to which it was posted
pub posted-peer : {p q r : PeerView} → p ≡ q → r.posted ≡ p.posted + 1 → r.taken ≡ p.taken → r.owed ≡ None → r.least ≡ p.least
    → r ≡ record q { posted = q.posted + 1; owed = None }
posted-peer {p} {q} {r} e posted taken owed least =
    subst (λ (z : PeerView). r ≡ record z { posted = z.posted + 1; owed = None }) e
    (λ i. record { posted = posted i; taken = taken i; owed = owed i; least = least i })
