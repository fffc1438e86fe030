-- The counts of each pipe, by the fates of the packets: what the packets did along their ways is what the visits say.
use Rattle.std.proofs.Common.{◌≡◌, ℕ, Bool, eqb, List, sym, ap, ◌∙◌, refl}
use Rattle.std.specs.Prelude.{◌&&◌}
use Rattle.mn_base.specs.Among.{Among}
use Rattle.pipe.specs.declared.step.Step.{Step}
use Rattle.pipe.specs.Finishes.{has_passed}
use Rattle.journal.specs.declared.setup.PacketPlan.{PacketPlan}
use Rattle.journal.specs.declared.visit.Visit.{Visit}
use Rattle.journal.specs.declared.fate.Fate.{Fate}
use Rattle.journal.specs.SetupView.{SetupView, route_of}
use Rattle.parcel.specs.Counts.{has_lost, has_found_full, visit_count, counts_of}
use Rattle.settle.specs.Ways.{way_of, ways_of, step_count, counts_by}
use Rattle.settle.proofs.Lists.{many, many-flat_map, sum_by-same}
use Rattle.settle.proofs.ByPacket.{NumbersRise, many-by_packet}
use Rattle.settle.proofs.Walks.{IsWalk, IsBlind, to_pipe, counted-way}

-- each packet of the setup goes its way in J, and each visit of J is one of theirs
pub record AreWalks (S : SetupView) (J : List Visit) (fate : PacketPlan → Fate) : Type 0 where
  pub rise : NumbersRise S.packets
  pub named : (v : Visit) → Among v J → (p : PacketPlan) × Among p S.packets × (p.number ≡ v.packet)
  pub walk : (p : PacketPlan) → Among p S.packets → IsWalk J p.number (route_of S p.number) (fate p)

module _ {S : SetupView} {J : List Visit} {fate : PacketPlan → Fate} (a : AreWalks S J fate) (pipe : ℕ) where
  visit_count-ways : (has : Step → Bool) → IsBlind has → visit_count has pipe J ≡ step_count has pipe (ways_of S fate S.packets)
  visit_count-ways has blind =
      many-by_packet (to_pipe has pipe) J S.packets a.rise a.named
      ∙ sum_by-same (λ p. many (λ v. eqb v.packet p.number && to_pipe has pipe v) J) (λ p. step_count has pipe (way_of (route_of S p.number)
      (fate p))) S.packets
      (λ p among. counted-way (a.walk p among) has pipe blind)
      ∙ sym (many-flat_map (λ (m : ℕ × Step). eqb m.0 pipe && has m.1) (λ p. way_of (route_of S p.number) (fate p)) S.packets)

  -- by the ways the counts of a pipe are those by the visits
  pub counts_by-ways : counts_by (ways_of S fate S.packets) pipe ≡ counts_of J pipe
  counts_by-ways =
      ap (λ n. record {
        pipe = pipe;
        passed = n;
        lost = step_count has_lost pipe
            (ways_of S fate S.packets);
        full = step_count has_found_full pipe (ways_of S fate S.packets);
      })
      (sym (visit_count-ways has_passed (λ x y. refl)))
      ∙ ap (λ n. record { pipe = pipe; passed = visit_count has_passed pipe J; lost = n; full = step_count has_found_full pipe (ways_of S fate S.packets) })
      (sym (visit_count-ways has_lost (λ x y. refl)))
      ∙ ap (λ n. record { pipe = pipe; passed = visit_count has_passed pipe J; lost = visit_count has_lost pipe J; full = n })
      (sym (visit_count-ways has_found_full (λ x y. refl)))
