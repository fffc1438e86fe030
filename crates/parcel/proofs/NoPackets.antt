-- A setup without packets has no visit, and its parcels have no note.
use Rattle.std.proofs.Common.{◌≡◌, ℕ, List, [], length, None, inl, inr, ap, subst, arith}
use Rattle.std.specs.Prelude.{sum_by}
use Rattle.mn_base.specs.Among.{Among}
use Rattle.pipe.specs.Scheme.{grown_by}
use Rattle.journal.specs.declared.setup.PacketPlan.{PacketPlan}
use Rattle.journal.specs.declared.visit.Visit.{Visit}
use Rattle.journal.specs.SetupView.{SetupView, route_of}
use Rattle.journal.specs.IsJournal.{scheme_of}
use Rattle.journal.specs.Journal.{hop_count, journal_of}
use Rattle.parcel.specs.declared.note.Note.{Note}
use Rattle.parcel.specs.Parcels.{IsNote, IsParcel}

no_visits : (S : SetupView) → S.packets ≡ [] → journal_of S ≡ []
unfolding journal_of
no_visits S none =
    let hops : hop_count S ≡ 0 = ap (λ (ps : List PacketPlan). sum_by (λ (p : PacketPlan). length (route_of S p.number)) ps) none in
    ap (λ (n : ℕ). grown_by (scheme_of S) n []) hops

pub empty_parcel : (S : SetupView) → S.packets ≡ [] → (sender receiver number : ℕ)
    → IsParcel S sender receiver number record { notes = []; least = None }
empty_parcel S none sender receiver number = record {
  rises = λ i j d before within. absurd (omega arith);
  notes = λ note. (λ there. absurd there, back note);
  least = λ v known. no_visit v known.among;
}
  where
    no_visit : (v : Visit) → Among v (journal_of S) → ⊥
    no_visit v there = subst (λ (l : List Visit). Among v l) (no_visits S none) there

    back : (note : Note) → IsNote S sender receiver number note → Among note []
    back note (inl a) = absurd (no_visit a.0 a.1.among)
    back note (inr d) = absurd (subst (λ (l : List PacketPlan). Among d.0 l) none d.1.among)
