-- A window from visit to visit: the first that is due is taken out of the heap; where none is before the end, all are made.
use Rattle.std.proofs.Common.{◌≡◌, ℕ, ◌+◌, ◌<◌, ◌≤◌, List, ◌∷◌, inl, length, Some, refl, sym, subst, arith}
use Rattle.mn_base.specs.Among.{Among}
use Rattle.mn_base.specs.declared.due.Due.{Due}
use Rattle.journal.specs.declared.setup.PacketPlan.{PacketPlan}
use Rattle.journal.specs.declared.visit.Visit.{Visit}
use Rattle.journal.specs.SetupView.{SetupView, packet_of, route_of}
use Rattle.journal.specs.Hops.{due_of}
use Rattle.journal.specs.Journal.{journal_of}
use Rattle.parcel.specs.Owners.{owner_of}
use Rattle.parcel.specs.Lookahead.{lookahead_of}
use Rattle.parcel.specs.Windows.{window_of}
use Rattle.parcel.specs.DueAt.{IsDueAfter}
use Rattle.core_loop.specs.Work.{WorkView, Runs, HasRun, Chooses, IsEnd, IsSplit, IsHeapAfter}
use Rattle.mn_base.proofs.Members.{Among-append-right}
use Rattle.journal.proofs.Meets.{journal-grows}
use Rattle.journal.proofs.Count.{packet-of_visit, hop-within}
use Rattle.journal.proofs.Packets.{packet-known}
use Rattle.parcel.proofs.Running.{none_left}
use Rattle.core_loop.proofs.NextOwn.{chosen, heap-without}

-- what is taken out of the heap, before the end of the window, is the next visit to be made
pub chooses : (w : WorkView) (r : Runs w) (end : ℕ) → IsEnd w end → (x : Due) (heap : List Due) → w.heap ≡ x ∷ heap → x.tick < end
    → Chooses (record w { heap = heap }) x
chooses w r end e x heap taken below =
    let h : IsHeapAfter w.setup w.number w.counts.windows r.front r.rest (x ∷ heap) =
    subst (IsHeapAfter w.setup w.number w.counts.windows r.front r.rest) taken r.heap_is in
    let ends : e.0 + lookahead_of w.setup ≡ end = e.2 in
    let c = chosen r.split e.1 h (omega (arith, ends, below)) in
    record {
      front = r.front;
      rest = r.rest;
      split = r.split;
      chosen = c;
      heap_is = heap-without r.split h c;
      have_left = record {
        pipes_have_run = r.have_left.pipes_have_run;
        visits = r.have_left.visits;
        told_is = r.have_left.told_is;
      };
    }

-- where nothing is due before the end, the core has made its visits of the window
pub has-run : (w : WorkView) (r : Runs w) (end : ℕ) → IsEnd w end → ((x : Due) → Among x w.heap → end ≤ x.tick) → HasRun w
has-run w r end e late = record { runs = r; ended = ended }
  where
    ends : e.0 + lookahead_of w.setup ≡ end
    ends = e.2

    due : (u : Visit) → IsDueAfter w.setup w.number w.counts.windows r.front r.rest u → e.0 + lookahead_of w.setup ≤ u.tick
    due u d = let l : end ≤ u.tick = late (due_of u) ((r.heap_is.members (due_of u)).1 (u, d, refl)) in omega (arith, l, ends)

    ended : (u : Visit) → Among u r.rest → owner_of w.setup u.pipe ≡ w.number → w.counts.windows < window_of w.setup u.tick
    ended u a own =
        let l : w.counts.windows + 1 ≤ window_of w.setup u.tick =
        none_left w.setup r.split.is_setup w.number w.counts.windows r.front r.rest r.split.whole e.0 e.1 r.split.late due u a own in
        omega (arith, l)

-- the packet and the hop of a visit that is to be made
pub record IsPlannedAt (S : SetupView) (x : Due) : Type 0 where
  pub plan : PacketPlan
  pub known : packet_of S x.packet ≡ Some plan
  pub number : plan.number ≡ x.packet
  pub within : x.hop < length (route_of S x.packet)

pub visit-planned : {S : SetupView} {core window : ℕ} {front rest : List Visit} → IsSplit S core window front rest → (v : Visit) → Among v rest
    → IsPlannedAt S (due_of v)
visit-planned {S} {front = front} {rest = rest} split v a =
    let j : Among v (journal_of S) = subst (Among v) split.whole (Among-append-right v front rest a) in
    let g = journal-grows S split.is_setup in
    let p = packet-of_visit S split.is_setup (journal_of S) g v j in
    record {
      plan = p.0;
      known = subst (λ (n : ℕ). packet_of S n ≡ Some p.0) p.2 (packet-known S split.is_setup p.0 p.1);
      number = p.2;
      within = hop-within S split.is_setup (journal_of S) g v j;
    }

pub planned : (w : WorkView) (x : Due) → Chooses w x → IsPlannedAt w.setup x
planned w x c =
    let v = c.chosen.visit in
    let a : Among v c.rest =
    subst (Among v) (sym c.chosen.next.split) (Among-append-right v c.chosen.skipped (v ∷ c.chosen.behind) (inl refl)) in
    subst (IsPlannedAt w.setup) c.chosen.is_due (visit-planned c.split v a)
