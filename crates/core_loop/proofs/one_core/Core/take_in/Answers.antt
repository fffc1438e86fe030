use Rattle.std.proofs.Common.{◌+◌, List, slice_index_or, inr, length-set, sym, ap, ◌∙◌, subst, arith}
use Rattle.parcel.specs.declared.note.Note.{Note}
use Rattle.parcel.specs.Parcels.{IsParcel}
use Rattle.parcel.specs.ParcelView.{ParcelView}
use Rattle.core_loop.specs.CoreView.{CoreView, PeerView, no_peer, windows_of}
use Rattle.core_loop.specs.WorldState.{CoreStands}
use Rattle.core_loop.specs.Inside.{core_view}
use Rattle.core_loop.specs.Turns.{OwesTake}
use Rattle.core_loop.specs.Work.{WorkView}
use Rattle.core_loop.specs.Handing.{CanTakeAll, TakesNotes}
use Rattle.core_loop.proofs.TakenIn.{IsTakingIn, HasTakenIn, can-parcel, peer-read, take-room, stands-taken}
use Rattle.core_loop.proofs.one_core.Core.take_in.Goals as goal
use Rattle.core_loop.proofs.one_core.Core.take_in.Goals.{After-self, In_ok-take_notes}

-- the core that takes the parcel in
taking : (c : After-self) → IsTakingIn (core_view c.self.inside) c.args.other c.args.parcel
taking c = record {
  is_setup = c.self.invariant.is_setup;
  one_peer_each = c.self.invariant.one_peer_each;
  owed = subst (λ (v : CoreView). OwesTake v c.args.other) (sym c.self.view_is) c.requires.owed;
  parcel =
      subst (λ (v : CoreView). IsParcel v.setup c.args.other v.number (windows_of v) c.args.parcel) (sym c.self.view_is) c.requires.parcel;
}

pub overflow_add-peer : goal.overflow_add-peer
overflow_add-peer c =
    let t = taking (goal.at.overflow_add-peer c).After-self in
    let s = c.self.invariant.stands (ap (λ (v : CoreView). v.failed) c.self.view_is ∙ c.requires.works) in
    let taken = ap (λ (q : PeerView). q.taken) (c.peer.view_is ∙ peer-read t c.index_mut-peer.ensures.value) in
    omega (arith, take-room t s.0 s.1, taken)

pub take_notes-requires : goal.take_notes-requires
take_notes-requires c =
    let s = c.self.invariant.stands (ap (λ (v : CoreView). v.failed) c.self.view_is ∙ c.requires.works) in
    subst (λ (ns : List Note). CanTakeAll ns c.self.inside.work.heap c.self.inside.entrants)
    (sym (c.deref.ensures.value ∙ ap (λ (p : ParcelView). p.notes) c.parcel.view_is))
    (can-parcel (taking (goal.at.take_notes-requires c).After-self) s.0 s.1)

-- its notes are taken in
has_taken : (c : In_ok-take_notes) → IsTakingIn (core_view c.self.inside) c.args.other c.args.parcel
    → HasTakenIn c.self.inside.setup.now c.self.inside.number c.self.inside.peers.items c.self.inside.work c.self.inside.entrants
    c.self.inside.failed c.args.other c.args.parcel c.take_notes.new.work c.take_notes.new.entrants
    (record {
      posted = c.peer.inside.posted;
      taken = c.peer.inside.taken + 1;
      owed = c.peer.inside.owed;
      least = c.parcel.inside.least;
    })
has_taken c t = record {
  taking = t;
  works = ap (λ (v : CoreView). v.failed) c.self.view_is ∙ c.requires.works;
  same = c.in_ok-take_notes.ensures.same;
  peer_is =
      ap (λ (q : PeerView). record q { taken = q.taken + 1; least = c.parcel.inside.least })
      (c.peer.view_is ∙ peer-read t c.index_mut-peer.ensures.value)
      ∙ ap (λ o. record (slice_index_or c.self.inside.peers.items c.args.other no_peer) {
        taken = (slice_index_or c.self.inside.peers.items c.args.other no_peer).taken + 1;
        least = o;
      }) (ap (λ (p : ParcelView). p.least) c.parcel.view_is);
  took =
      subst (λ (ns : List Note).
      TakesNotes ns c.self.inside.work.heap c.self.inside.entrants c.take_notes.new.work.heap c.take_notes.new.entrants)
      (c.deref.ensures.value ∙ ap (λ (p : ParcelView). p.notes) c.parcel.view_is) c.in_ok-take_notes.ensures.taken;
}

pub invariant_of-self-2 : goal.invariant_of-self-2
invariant_of-self-2 c =
    let t = taking (goal.at.invariant_of-self-2 c).After-self in
    let taken = has_taken (goal.at.invariant_of-self-2 c).In_ok-take_notes t in
    let s = c.self.invariant.stands taken.works in
    record {
      is_setup = c.self.invariant.is_setup;
      lookahead = c.self.invariant.lookahead;
      same_setup = ap (λ (w : WorkView). w.setup) taken.same ∙ c.self.invariant.same_setup;
      same_number = ap (λ (w : WorkView). w.number) taken.same ∙ c.self.invariant.same_number;
      known = c.self.invariant.known;
      one_peer_each = length-set c.self.inside.peers.items c.args.other _ ∙ c.self.invariant.one_peer_each;
      none_told = λ f. ap (λ (w : WorkView). w.told) taken.same ∙ c.self.invariant.none_told taken.works;
      stands = λ f. (s.0, stands-taken taken s.0 s.1);
    }

pub returns-clause-stands : goal.returns-clause-stands
returns-clause-stands c = λ bytes s.
    let t = taking (goal.at.returns-clause-stands c).After-self in
    let taken = has_taken (goal.at.returns-clause-stands c).In_ok-take_notes t in
    inr (stands-taken taken bytes (subst (CoreStands bytes) (sym c.self.view_is) s))
