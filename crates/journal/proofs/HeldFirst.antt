-- How the first visits of packets come in.
use Rattle.std.proofs.Common.{◌≡◌, ◌⊎◌, inl, inr, ⊎_elim, ℕ, ◌+◌, ◌<◌, ◌≤◌, List, [], ◌∷◌, ◌++◌, length, map, AllPairs, Some, None, Result, Ok, Err, slice_get, slice_index_or, refl, sym, ap, ◌∙◌, subst, arith}
use Rattle.std.specs.Prelude.{◌↔◌}
use Rattle.std.specs.Result.{OnOk}
use Rattle.std.proofs.lemmas.Bool.{cases_lt}
use Rattle.std.proofs.lemmas.List.Quantifiers.{all_pairs_push}
use Rattle.std.proofs.lemmas.Option.{slice_get_within, slice_get-get_or, get_or_from_slice_get}
use Rattle.mn_base.specs.Among.{Among}
use Rattle.mn_base.specs.declared.due.Due.{Due}
use Rattle.pipe.specs.declared.due_visits.DueVisit.{DueVisit}
use Rattle.pipe.specs.HeldVisits.{plain}
use Rattle.journal.specs.declared.setup.PacketPlan.{PacketPlan}
use Rattle.journal.specs.SetupView.{SetupView}
use Rattle.journal.specs.IsSetup.{IsSetup}
use Rattle.journal.specs.Hops.{entry}
use Rattle.journal.specs.IsJournal.{scheme_of}
use Rattle.journal.specs.Journal.{pending}
use Rattle.journal.specs.Held.{IsIndexed, IsFirstBelow, HaveEntered, IsHeld}
use Rattle.mn_base.proofs.Members.{index_of, Among-map, Among-from-map, Among-index}
use Rattle.pipe.proofs.Origins.{due_from-first}
use Rattle.pipe.proofs.Grown.{pending_from, pending_parts}
use Rattle.pipe.proofs.HeldVisits.{plain-moved}
use Rattle.journal.proofs.Packets.{among-get}
use Rattle.journal.proofs.Delays.{entry_parts, entry-is}
use Rattle.journal.proofs.Orderly.{Origin, origin, first-due}

-- an index within a list has an element
pub at-within : {X : Type 0} (xs : List X) (i : ℕ) → i < length xs → (x : X) × (slice_get xs i ≡ Some x)
at-within [] i within = absurd (omega arith)
at-within (x ∷ xs) i within = (slice_index_or (x ∷ xs) i x, slice_get-get_or (x ∷ xs) i x within)

-- what follows where a call succeeds
pub on_ok : {T E : Type 0} {P Q : Type 0} (r : Result T E) → (P → Q) → OnOk r P → OnOk r Q
on_ok (Ok x) f p = f p
on_ok (Err e) f p = p

pub entered-nil : (S : SetupView) → HaveEntered S 0 []
entered-nil S = record {
  indexed = λ w a. absurd a;
  first = λ w a. absurd a;
  all = λ index p x below at e. absurd (omega arith);
}

further : (S : SetupView) (n : ℕ) (w : DueVisit) → IsFirstBelow S n w → IsFirstBelow S (n + 1) w
further S n w f = record { index = f.index; plan = f.plan; below = let l : f.index < n = f.below in omega arith; at = f.at; due = f.due }

-- a packet without a route
pub entered-none : (S : SetupView) (n : ℕ) (held : List DueVisit) (p : PacketPlan) → HaveEntered S n held
    → slice_get S.packets n ≡ Some p → None ≡ entry S p → HaveEntered S (n + 1) held
entered-none S n held p h here none = record {
  indexed = h.indexed;
  first = λ w a. further S n w (h.first w a);
  all = λ index q x below at e. go index q x at e (cases_lt index n) below;
}
  where
    go : (index : ℕ) (q : PacketPlan) (x : Due) → slice_get S.packets index ≡ Some q → entry S q ≡ Some x → (index < n) ⊎ (n ≤ index)
        → index < n + 1 → Among x (map plain held)
    go index q x at e (inl before) below = h.all index q x before at e
    go index q x at e (inr last) below =
        let same : index ≡ n = omega arith in
        let one : Some q ≡ Some p = sym at ∙ ap (slice_get S.packets) same ∙ here in
        let is : q ≡ p = cc in
        let some : Some x ≡ None = sym e ∙ ap (entry S) is ∙ sym none in
        cc

-- a packet with a route
pub entered-some : {S : SetupView} {n : ℕ} {old new : List DueVisit} {p : PacketPlan} {w : DueVisit} → HaveEntered S n old
    → slice_get S.packets n ≡ Some p → Some w.due ≡ entry S p → IsIndexed S w
    → ((other : DueVisit) → Among other new ↔ ((w ≡ other) ⊎ Among other old)) → HaveEntered S (n + 1) new
entered-some {S} {n} {old} {new} {p} {w} h here first is_indexed adds = record {
  indexed = λ u a. ⊎_elim (λ e. subst (IsIndexed S) e is_indexed) (λ b. h.indexed u b) ((adds u).0 a);
  first = λ u a. ⊎_elim
      (λ e. subst (IsFirstBelow S (n + 1)) e (record { index = n; plan = p; below = omega arith; at = here; due = sym first }))
      (λ b. further S n u (h.first u b)) ((adds u).0 a);
  all = λ index q x below at e. go index q x at e (cases_lt index n) below;
}
  where
    go : (index : ℕ) (q : PacketPlan) (x : Due) → slice_get S.packets index ≡ Some q → entry S q ≡ Some x → (index < n) ⊎ (n ≤ index)
        → index < n + 1 → Among x (map plain new)
    go index q x at e (inl before) below = plain-moved old new (λ u b. (adds u).1 (inr b)) x (h.all index q x before at e)
    go index q x at e (inr last) below =
        let same : index ≡ n = omega arith in
        let one : Some q ≡ Some p = sym at ∙ ap (slice_get S.packets) same ∙ here in
        let is : q ≡ p = cc in
        let some : Some x ≡ Some w.due = sym e ∙ ap (entry S) is ∙ sym first in
        let due : w.due ≡ x = cc in
        subst (λ d. Among d (map plain new)) due (Among-map plain w new ((adds w).1 (inl refl)))

entry-packet : (S : SetupView) (p : PacketPlan) (x : Due) → Among p S.packets → entry S p ≡ Some x → x.packet ≡ p.number
entry-packet S p x a e = ap (λ (d : Due). d.packet) (entry_parts S p x a e).is

-- the packets of the visits that are in are below a later one
pub entered-below : (S : SetupView) → IsSetup S → (n : ℕ) (held : List DueVisit) (p : PacketPlan) (w : DueVisit) → HaveEntered S n held
    → slice_get S.packets n ≡ Some p → Some w.due ≡ entry S p → (u : DueVisit) → Among u held → u.due.packet < w.due.packet
entered-below S is n held p w h here first u a =
    let f = h.first u a in
    let below : f.index < n = f.below in
    let rises : (slice_index_or S.packets f.index p).number < (slice_index_or S.packets n p).number =
    is.numbers_rise f.index n p below (slice_get_within S.packets n p here) in
    let low : (slice_index_or S.packets f.index p).number ≡ f.plan.number =
    ap (λ (q : PacketPlan). q.number) (get_or_from_slice_get S.packets f.index f.plan p f.at) in
    let high : (slice_index_or S.packets n p).number ≡ p.number =
    ap (λ (q : PacketPlan). q.number) (get_or_from_slice_get S.packets n p p here) in
    let mine : u.due.packet ≡ f.plan.number = entry-packet S f.plan u.due (among-get S.packets f.index f.plan f.at) f.due in
    let yours : w.due.packet ≡ p.number = entry-packet S p w.due (among-get S.packets n p here) (sym first) in
    omega (arith, rises, low, high, mine, yours)

-- so the numbers rise with one visit more
pub entered-rising : (S : SetupView) → IsSetup S → (n : ℕ) (held : List DueVisit) (p : PacketPlan) (w : DueVisit) → HaveEntered S n held
    → slice_get S.packets n ≡ Some p → Some w.due ≡ entry S p → AllPairs (λ u v. u.due.packet < v.due.packet) held
    → AllPairs (λ u v. u.due.packet < v.due.packet) (held ++ w ∷ [])
entered-rising S is n held p w h here first rising =
    all_pairs_push (λ (u : DueVisit) v. u.due.packet < v.due.packet) held w rising
    (λ k d within. entered-below S is n held p w h here first (slice_index_or held k d) (Among-index held k d within))

-- what holds of a list of held visits holds of each with the same members
pub held-same : (S : SetupView) (a b : List DueVisit) → ((w : DueVisit) → Among w b ↔ Among w a) → IsHeld S [] a → IsHeld S [] b
held-same S a b same h = record {
  indexed = λ w among. h.indexed w ((same w).0 among);
  pending =
      λ x. (
        λ among. (h.pending x).0 (plain-moved b a (λ w c. (same w).0 c) x among),
        λ among. plain-moved a b (λ w c. (same w).1 c) x ((h.pending x).1 among),
      );
}

-- all first visits are what is pending before any visit
pub held_from-entered : (S : SetupView) (n : ℕ) (held : List DueVisit) → HaveEntered S n held → length S.packets ≤ n → IsHeld S [] held
held_from-entered S n held h whole = record {
  indexed = h.indexed;
  pending = λ x. (into x, λ a. out x (origin S [] x (pending_parts (scheme_of S) [] x a).0));
}
  where
    into : (x : Due) → Among x (map plain held) → Among x (pending S [])
    into x a =
        let s = Among-from-map plain x held a in
        let f = h.first s.0 s.1 in
        let i = entry_parts S f.plan s.0.due (among-get S.packets f.index f.plan f.at) f.due in
        subst (λ (d : Due). Among d (pending S [])) s.2
        (pending_from (scheme_of S) [] s.0.due (due_from-first (scheme_of S) [] s.0.due (first-due S f.plan s.0.due i)) refl)

    out : (x : Due) → Origin S [] x → Among x (map plain held)
    out x (inl m) =
        let s = index_of m.0 S.packets m.1.among in
        let w : s.index < length S.packets = s.within in
        let at : slice_get S.packets s.index ≡ Some m.0 = slice_get-get_or S.packets s.index m.0 w ∙ ap Some (s.here m.0) in
        h.all s.index m.0 x (omega arith) at (entry-is S m.0 x m.1)
    out x (inr m) = absurd m.1
