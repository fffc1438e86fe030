-- The result of a core that is done: all its packets are settled, and its counts are those of the whole run.
use Rattle.std.proofs.Common.{◌≡◌, inl, inr, ℕ, ◌+◌, ◌<◌, ◌≤◌, ◌==◌, nat_lt, nat_le, Bool, true, false, cond, ◌&&◌, not, List, [], ◌∷◌, length, map, filter, Option, Some, None, refl, sym, ap, ◌∙◌, arith}
use Rattle.std.proofs.lemmas.Bool.{lt-ltb, le-leb}
use Rattle.std.specs.Option.{option_map_or}
use Rattle.mn_base.specs.Among.{Among}
use Rattle.journal.specs.declared.setup.PacketPlan.{PacketPlan}
use Rattle.journal.specs.declared.visit.Visit.{Visit}
use Rattle.journal.specs.SetupView.{SetupView}
use Rattle.journal.specs.IsSetup.{IsSetup}
use Rattle.journal.specs.Journal.{journal_of}
use Rattle.journal.specs.Fates.{last_visit}
use Rattle.parcel.specs.declared.counts.CoreCounts.{CoreCounts}
use Rattle.parcel.specs.Owners.{owner_of, own_pipes}
use Rattle.parcel.specs.Windows.{window_of, window_count}
use Rattle.parcel.specs.Known.{Origin, origin_of}
use Rattle.parcel.specs.Counts.{counts_of}
use Rattle.parcel.specs.Results.{is_decided_by, arrivals_from, decisions_from, counts_at, IsResult}
use Rattle.parcel.proofs.WindowLaws.{in-window, starts-counted}
use Rattle.parcel.proofs.Origins.{Comes, comes, origin-first, origin-next}
use Rattle.parcel.proofs.Notes.{last-ends}
use Rattle.core_loop.specs.CoreView.{CoreView}
use Rattle.core_loop.specs.Stocked.{Enters}
use Rattle.core_loop.specs.WorldState.{visits_below, is_decided_below, counts_below, CoreStands}
use Rattle.core_loop.specs.Turns.{IsCoreDone}
use Rattle.core_loop.proofs.AtDone.{all-decided}
use Rattle.core_loop.proofs.Differ.{filter-same}

-- a test that all pass keeps all
pub filter-all : {X : Type 0} (p : X → Bool) (xs : List X) → ((x : X) → Among x xs → p x ≡ true) → filter p xs ≡ xs
filter-all p [] all = refl
filter-all p (x ∷ xs) all =
    ap (λ (b : Bool). cond b (x ∷ filter p xs) (filter p xs)) (all x (inl refl)) ∙ ap (λ (l : List _). x ∷ l) (filter-all p xs (λ y a. all y (inr a)))

beside : (a m b : Bool) → m ≡ true → ((a && m) && b) ≡ (a && b)
beside true m b e = ap (λ (c : Bool). c && b) e
beside false m b e = refl

module _ (S : SetupView) (is : IsSetup S) (core : ℕ) where
  counted : (v : Visit) → Among v (journal_of S) → window_of S v.tick < window_count S
  counted v a = let i = in-window S is v a in starts-counted S (window_of S v.tick) i.start i.starts

  -- the windows below their number are all of them
  all-below : visits_below S (window_count S) ≡ journal_of S
  all-below = filter-all (λ (v : Visit). nat_lt (window_of S v.tick) (window_count S)) (journal_of S) (λ v a. lt-ltb _ _ (counted v a))

  -- each visit is told of by then
  origin-counted : (v : Visit) → Among v (journal_of S) → (origin_of S v).number ≤ window_count S
  origin-counted v a = go (comes S is v a)
    where
      go : Comes S v → (origin_of S v).number ≤ window_count S
      go (inl e) = let n : (origin_of S v).number ≡ 0 = ap (λ (o : Origin). o.number) (origin-first S is v e) in omega (arith, n)
      go (inr u) =
          let n : (origin_of S v).number ≡ window_of S u.0.tick + 1 = ap (λ (o : Origin). o.number) (origin-next S is u.0 v u.1) in
          let l = counted u.0 u.1.among in
          omega (arith, n, l)

  arrivals-all : filter (λ v. (((origin_of S v).core == core) && nat_le (origin_of S v).number (window_count S))
      && not (owner_of S v.pipe == core)) (journal_of S)
      ≡ arrivals_from S core
  arrivals-all =
      filter-same _ _ (journal_of S)
      (λ v a. beside ((origin_of S v).core == core) _ (not (owner_of S v.pipe == core)) (le-leb _ _ (origin-counted v a)))

  decided-all : (p : PacketPlan) → Among p S.packets → is_decided_below S core (window_count S) p ≡ is_decided_by S core p
  decided-all p a = go (last_visit (journal_of S) p.number) refl
    where
      go : (o : Option Visit) → last_visit (journal_of S) p.number ≡ o → is_decided_below S core (window_count S) p ≡ is_decided_by S core p
      go None e =
          ap (λ (q : Option Visit). option_map_or (λ v. (owner_of S v.pipe == core) && nat_lt (window_of S v.tick) (window_count S)) q false) e
          ∙ sym (ap (λ (q : Option Visit). option_map_or (λ v. owner_of S v.pipe == core) q false) e)
      go (Some v) e =
          ap (λ (q : Option Visit). option_map_or (λ v. (owner_of S v.pipe == core) && nat_lt (window_of S v.tick) (window_count S)) q false) e
          ∙ both (owner_of S v.pipe == core) (lt-ltb _ _ (counted v (last-ends S is p v a e).among))
          ∙ sym (ap (λ (q : Option Visit). option_map_or (λ v. owner_of S v.pipe == core) q false) e)
        where
          both : (x : Bool) → nat_lt (window_of S v.tick) (window_count S) ≡ true
              → (x && nat_lt (window_of S v.tick) (window_count S)) ≡ x
          both true m = m
          both false m = refl

  settles-all : filter (λ p. is_decided_below S core (window_count S) p && not (p.core == core)) S.packets ≡ decisions_from S core
  settles-all = filter-same _ _ S.packets (λ p a. ap (λ (b : Bool). b && not (p.core == core)) (decided-all p a))

  counts-all : counts_below S core (window_count S) ≡ counts_at S core
  counts-all =
      ap (λ (J : List Visit). record (counts_below S core (window_count S)) { visits = length (filter (λ v. owner_of S v.pipe == core) J) }) all-below
      ∙ ap (λ (l : List Visit). record (counts_below S core (window_count S)) {
        visits = length (filter (λ v. owner_of S v.pipe == core) (journal_of S));
        arrivals = length l;
      }) arrivals-all
      ∙ ap (λ (l : List PacketPlan). record (counts_at S core) { settles = length l }) settles-all

-- a core that is done gives its result
pub finished : (c : CoreView) → IsSetup c.setup → IsCoreDone c → (bytes : List (List ℕ)) → CoreStands bytes c
    → IsResult c.setup bytes c.number (record { settled = c.settled; pipe_counts = c.pipe_counts; counts = c.counts })
finished c is d bytes s = record {
  each_has_bytes = s.settles.each_has_bytes;
  settled = s.settles.sound;
  all = λ p a own. (let e : Enters c.setup c.number p = record { among = a; entered = own } in s.settles.all p e (all-decided c is d p e));
  once = s.settles.once;
  pipe_counts =
      s.works.pipe_counts
      ∙ ap (λ (J : List Visit). map (counts_of J) (own_pipes c.setup c.number))
      (ap (visits_below c.setup) d.windows ∙ all-below c.setup is c.number);
  counts = s.works.counts ∙ ap (counts_below c.setup c.number) d.windows ∙ counts-all c.setup is c.number;
}

-- and its counts are so many windows and visits
pub finished-windows : (c : CoreView) → IsCoreDone c → c.counts.windows ≡ window_count c.setup
finished-windows c d = d.windows

pub finished-visits : (c : CoreView) → IsSetup c.setup → IsCoreDone c → (bytes : List (List ℕ)) → CoreStands bytes c
    → c.counts.visits ≡ length (filter (λ v. owner_of c.setup v.pipe == c.number) (journal_of c.setup))
finished-visits c is d bytes s = ap (λ (x : CoreCounts). x.visits) (finished c is d bytes s).counts
