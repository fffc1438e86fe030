-- What stands before the first window, once pipes are put to their owners and packets have entered.
use Rattle.std.proofs.Common.{◌≡◌, inl, inr, ⊎_elim, ℕ, zero, suc, ◌<◌, nat_lt, false, List, [], ◌∷◌, length, map, Some, slice_get, slice_index, refl, sym, ap, ◌∙◌, subst, arith}
use Rattle.std.specs.Prelude.{◌↔◌}
use Rattle.std.specs.List.{range_with_len}
use Rattle.std.proofs.lemmas.Bool.{le-ltb}
use Rattle.std.proofs.lemmas.List.{length-map}
use Rattle.std.proofs.lemmas.Option.{slice_get_within}
use Rattle.mn_base.specs.Among.{Among}
use Rattle.mn_base.specs.declared.due.Due.{Due}
use Rattle.journal.specs.declared.setup.PacketPlan.{PacketPlan}
use Rattle.journal.specs.declared.visit.Visit.{Visit}
use Rattle.journal.specs.SetupView.{SetupView}
use Rattle.journal.specs.IsSetup.{IsSetup}
use Rattle.journal.specs.Hops.{entry}
use Rattle.journal.specs.IsJournal.{scheme_of}
use Rattle.journal.specs.Journal.{journal_of, pending}
use Rattle.parcel.specs.declared.counts.PipeCounts.{PipeCounts}
use Rattle.parcel.specs.Counts.{counts_of}
use Rattle.payload_store.specs.StoreView.{StoreView}
use Rattle.mn_base.proofs.Members.{Among-filter_map, Among-from-filter_map}
use Rattle.pipe.proofs.Growing.{growing-nil}
use Rattle.pipe.proofs.Grown.{pending_from, pending_parts}
use Rattle.pipe.proofs.Origins.{OriginBy, origin_by, due_from-first}
use Rattle.journal.proofs.HeldFirst.{at-within}
use Rattle.journal.proofs.Orderly.{IsGrowing}
use Rattle.journal.proofs.Packets.{among-get}
use Rattle.core_loop.specs.Stocked.{AreStores, AreBytesIn}
use Rattle.core_loop.specs.WorldState.{AreSettled}
use Rattle.core_loop.proofs.Kept.{filter-none}
use Rattle.migrate.specs.ShelvesView.{ShelfView, ShelvesView, pipe_in}
use Rattle.migrate.specs.Windows.{visits_before}
use Rattle.migrate.specs.Standing.{ShelvesStand}
use Rattle.migrate.specs.Running.{HoldsPipe, IsDecidedIn, IsAfter, idle_shelf}
use Rattle.migrate.specs.Starting.{AreLaidOut, SameButPipes, IsFirstVisit, IsWayless, PacketsEntered}
use Rattle.migrate.proofs.After.{settled-alike}
use Rattle.migrate.proofs.OneWindow.{stands-from}
use Rattle.migrate.proofs.Started.{none-settled, stored_bytes, stored-are}

among-at : {X : Type 0} (x : X) (xs : List X) → Among x xs → (i : ℕ) × (i < length xs) × (slice_get xs i ≡ Some x)
among-at x [] a = absurd a
among-at x (y ∷ ys) (inl e) = (zero, omega arith, ap Some e)
among-at x (y ∷ ys) (inr a) = let t = among-at x ys a in (suc t.0, (let l = t.1 in omega (arith, l)), t.2)

pub get-of-map : (stores : List StoreView) (core : ℕ) (s : ShelfView) → slice_get (map idle_shelf stores) core ≡ Some s
    → (store : StoreView) × (slice_get stores core ≡ Some store) × (s ≡ idle_shelf store)
get-of-map [] core s e = cc
get-of-map (t ∷ stores) zero s e = (t, refl, cc)
get-of-map (t ∷ stores) (suc core) s e = get-of-map stores core s e

-- before any visit no visit is before the first window
pub none-before : (S : SetupView) → visits_before S 0 ≡ []
none-before S = filter-none (λ (v : Visit). nat_lt v.tick 0) (journal_of S) (λ v m. le-ltb v.tick 0 (omega arith))

module _ (S : SetupView) where
  -- what is pending at first are the first visits of packets
  pending-first : (x : Due) → Among x (pending S []) ↔ IsFirstVisit S (length S.packets) x
  pending-first x = (into, out)
    where
      into : Among x (pending S []) → IsFirstVisit S (length S.packets) x
      into m = go (origin_by (scheme_of S) [] x (pending_parts (scheme_of S) [] x m).0)
        where
          go : OriginBy (scheme_of S) [] x → IsFirstVisit S (length S.packets) x
          go (inl a) =
              let p = Among-from-filter_map (entry S) x S.packets a in
              let i = among-at p.0 S.packets p.1 in
              (i.0, p.0, i.1, i.2, p.2)
          go (inr v) = absurd v.1

      out : IsFirstVisit S (length S.packets) x → Among x (pending S [])
      out (i, p, l, e, f) =
          pending_from (scheme_of S) [] x
          (due_from-first (scheme_of S) [] x (Among-filter_map (entry S) p x S.packets (among-get S.packets i p e) f)) refl

  decided-first : (p : PacketPlan) → Among p S.packets → IsWayless S (length S.packets) p ↔ IsDecidedIn S [] p
  decided-first p m = (
    (λ w. inl w.3),
    λ d. ⊎_elim (λ r. let i = among-at p S.packets m in (i.0, i.1, i.2, r)) (λ v. absurd v.2) d,
  )

module _ {S : SetupView} (is : IsSetup S) {stores : List StoreView} (are : AreStores S stores) {first laid : List ShelfView}
    (idle : first ≡ map idle_shelf stores) (same : SameButPipes first laid) where
  pub laid-at : (core : ℕ) (t : ShelfView) → slice_get laid core ≡ Some t
      → (store : StoreView) × (slice_get stores core ≡ Some store) × (t ≡ record (idle_shelf store) { pipes = t.pipes })
  laid-at core t e =
      let s = at-within first core (let l = slice_get_within laid core t e in omega (arith, l, same.as_many)) in
      let i = get-of-map stores core s.0 (ap (λ (l : List ShelfView). slice_get l core) (sym idle) ∙ s.1) in
      (i.0, i.1, same.each core s.0 t s.1 e ∙ ap (λ (u : ShelfView). record u { pipes = t.pipes }) i.2)

  pub laid-empty : (core : ℕ) (t : ShelfView) → slice_get laid core ≡ Some t → t.due ≡ []
  laid-empty core t e = ap (λ (u : ShelfView). u.due) (laid-at core t e).2

  laid-many : length laid ≡ S.cores
  laid-many = same.as_many ∙ ap length idle ∙ length-map stores idle_shelf ∙ are.one_a_core

  laid-settled : (bytes : List (List ℕ)) → AreBytesIn S stores bytes → (core : ℕ) (t : ShelfView) → slice_get laid core ≡ Some t
      → AreSettled S bytes core (λ p. ⊥) t.settled t.store
  laid-settled bytes in-stores core t e =
      let i = laid-at core t e in
      subst (λ (u : ShelfView). AreSettled S bytes core (λ p. ⊥) u.settled u.store) (sym i.2)
      (none-settled S core i.0 bytes (are.holds core i.0 i.1) (in-stores core i.0 i.1))

  pub laid-stored : (bytes : List (List ℕ)) × ((core : ℕ) (t : ShelfView) → slice_get laid core ≡ Some t
      → AreSettled S bytes core (λ p. ⊥) t.settled t.store)
  laid-stored = (stored_bytes S is stores are, laid-settled (stored_bytes S is stores are) (stored-are S is stores are))

-- the cores of a setup before any visit, as they are made: idle ones over these stores, to which pipes are laid out, and where then
-- packets enter
pub record AreBegun (S : SetupView) (stores : List StoreView) (owners : List ℕ) (counts : List PipeCounts)
    (new : List ShelfView) : Type 0 where
  pub is : IsSetup S
  pub are : AreStores S stores
  pub first : List ShelfView
  pub idle : first ≡ map idle_shelf stores
  pub laid : List ShelfView
  pub same : SameButPipes first laid
  pub out : AreLaidOut S (length S.pipes) laid
  pub entered : PacketsEntered S (length S.packets) laid new
  pub owners_are : owners ≡ S.owners
  pub counted : counts ≡ map (counts_of []) (range_with_len 0 (length S.pipes))

-- nothing is made before the first tick
pub grows-at-first : (S : SetupView) → IsGrowing S (visits_before S 0)
grows-at-first S = subst (λ (J : List Visit). IsGrowing S J) (sym (none-before S)) (growing-nil (scheme_of S))

module _ {S : SetupView} {stores : List StoreView} {owners : List ℕ} {counts : List PipeCounts} {new : List ShelfView}
    (b : AreBegun S stores owners counts new) where
  laid-was : (core : ℕ) (t : ShelfView) → slice_get new core ≡ Some t → (s : ShelfView) × (slice_get b.laid core ≡ Some s)
  laid-was core t e = at-within b.laid core (let l = slice_get_within new core t e in omega (arith, l, b.entered.as_many))

  pub begun-visits : (core : ℕ) (t : ShelfView) → slice_get new core ≡ Some t → t.visits ≡ 0
  begun-visits core t e =
      let s = laid-was core t e in
      (b.entered.same core s.0 t s.1 e).1 ∙ ap (λ (u : ShelfView). u.visits) (laid-at b.is b.are b.idle b.same core s.0 s.1).2

  begun : (bytes : List (List ℕ)) → AreBytesIn S stores bytes → IsAfter S bytes [] S.owners counts new
  begun bytes in-stores = record {
    growing = growing-nil (scheme_of S);
    one_a_core = b.entered.as_many ∙ laid-many b.is b.are b.idle b.same;
    one_a_pipe = b.is.one_owner;
    owned = b.is.owners;
    pipes = record {
      there = λ q t named e.
          (let s = laid-was (slice_index S.owners q) t e in
          subst (HoldsPipe S [] q) (sym (b.entered.same (slice_index S.owners q) s.0 t s.1 e).0) (b.out.there q s.0 named s.1));
      nowhere_else = λ core q t m e l.
          (let s = laid-was core t e in
          b.out.nowhere_else core q s.0 m s.1 (ap (λ ps. pipe_in ps q) (sym (b.entered.same core s.0 t s.1 e).0) ∙ l));
    };
    due = λ core t e. record {
      canonical = b.entered.canonical core t e;
      members = λ x. (
        (λ m. let k = (b.entered.members core t x e).0 m in ((pending-first S x).1 k.0, k.1)),
        λ m. (b.entered.members core t x e).1 ((pending-first S x).0 m.0, m.1),
      );
    };
    settled = λ core t e.
        (let s = laid-was core t e in
        settled-alike S bytes core (IsWayless S (length S.packets)) (IsDecidedIn S []) t.settled t.store
        (λ p n. decided-first S p n.among)
        (b.entered.settled bytes core s.0 t s.1 e (laid-settled b.is b.are b.idle b.same bytes in-stores core s.0 s.1)));
    counted = b.counted;
  }

  abbrev with-owners : List ℕ → ShelvesView
  with-owners l = record { setup = S; owners = l; counts = counts; shelves = new; end = 0; windows = 0; made = 0; failed = false }

  -- and so the three facts hold, with 0 as the end
  pub begun-stands : (bytes : List (List ℕ)) → AreBytesIn S stores bytes
      → ShelvesStand bytes (record {
        setup = S;
        owners = owners;
        counts = counts;
        shelves = new;
        end = 0;
        windows = 0;
        made = 0;
        failed = false;
      })
  begun-stands bytes in-stores =
      subst (λ (l : List ℕ). ShelvesStand bytes (with-owners l)) (sym b.owners_are)
      (stands-from (with-owners S.owners) b.is (grows-at-first S) bytes
      (record {
        after = subst (λ (J : List Visit). IsAfter S bytes J S.owners counts new) (sym (none-before S)) (begun bytes in-stores);
        made = ap length (sym (none-before S));
        few = λ core t e. (let v = begun-visits core t e in omega (arith, v));
      }))

  -- for the bytes that the stores have
  pub begun-bytes : (bytes : List (List ℕ)) × AreBytesIn S stores bytes
  begun-bytes = (stored_bytes S b.is stores b.are, stored-are S b.is stores b.are)
