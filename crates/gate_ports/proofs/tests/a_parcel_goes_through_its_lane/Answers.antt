use Rattle.std.proofs.Common.{◌≡◌, ℕ, ◌+◌, List, [], ◌∷◌, ◌++◌, length, slice_index_or, Option, Some, None, sym, ap, ◌∙◌, subst, arith, length-append}
use Rattle.std.specs.Option.{option_to_list}
use Rattle.journal.specs.SetupView.{SetupView}
use Rattle.parcel.specs.declared.note.Note.{Note}
use Rattle.parcel.specs.Parcels.{IsParcel}
use Rattle.parcel.proofs.NoPackets.{empty_parcel}
use Rattle.gate_ports.specs.GatePortsView.{GatePortsView, IsFresh, EachAt, lane_posted}
use Rattle.gate_ports.proofs.tests.a_parcel_goes_through_its_lane.Goals as goal
use Rattle.gate_ports.proofs.tests.a_parcel_goes_through_its_lane.Goals.{After-unwrap-sender}
use Rattle.gate_ports.proofs.tests.a_parcel_goes_through_its_lane.Given.{Over}

-- a list of two elements that were taken off its end, the second one first
record AreTakenOff {X : Type 0} (xs ys zs : List X) (r s : Option X) (y x : X) : Type 0 where
  two : length xs ≡ 2
  last : xs ≡ ys ++ option_to_list r
  first : ys ≡ zs ++ option_to_list s
  last_is : r ≡ Some y
  first_is : s ≡ Some x

-- what holds of each element and its index holds of the two
both : {X : Type 0} (P : ℕ → X → Type 0) (xs ys zs : List X) (r s : Option X) (y x : X) → EachAt P xs → AreTakenOff xs ys zs r s y x
    → P 0 x × P 1 y
both {X = X} P xs ys zs r s y x each off = go zs all
  where
    all : xs ≡ (zs ++ x ∷ []) ++ y ∷ []
    all =
        off.last ∙ ap (λ (o : Option X). ys ++ option_to_list o) off.last_is
        ∙ ap (λ (l : List X). l ++ y ∷ []) (off.first ∙ ap (λ (o : Option X). zs ++ option_to_list o) off.first_is)

    go : (front : List X) → xs ≡ (front ++ x ∷ []) ++ y ∷ [] → P 0 x × P 1 y
    go [] e = (
      subst (λ (z : X). P 0 z) (ap (λ (l : List X). slice_index_or l 0 x) e) (each 0 x (omega (arith, off.two))),
      subst (λ (z : X). P 1 z) (ap (λ (l : List X). slice_index_or l 1 y) e) (each 1 y (omega (arith, off.two))),
    )
    go (z ∷ front) e =
        let len = ap (λ (l : List X). length l) e in
        absurd (omega (arith, off.two, len, length-append ((z ∷ front) ++ x ∷ []) (y ∷ []), length-append (z ∷ front) (x ∷ [])))

-- the ports that were taken off the list are those of cores 0 and 1, and none was used
fresh_ports : (g : Over) (c : After-unwrap-sender g)
    → IsFresh c.new-setup.result 0 c.unwrap-sender.result × IsFresh c.new-setup.result 1 c.unwrap-receiver.result
fresh_ports g c =
    both (IsFresh c.new-setup.result) c.in_ok-ports.ports.items c.pop.new.self.items c.pop-2.new.self.items c.pop.result c.pop-2.result
    c.unwrap-receiver.result c.unwrap-sender.result c.in_ok-ports.ensures.fresh (record {
      two = c.in_ok-ports.ensures.count ∙ ap (λ (v : SetupView). v.cores) c.new-setup.ensures;
      last = c.pop.ensures.items;
      first = c.pop-2.ensures.items;
      last_is = c.unwrap-receiver.ensures;
      first_is = c.unwrap-sender.ensures;
    })

pub try_post-requires-clause-known : goal.try_post-requires-clause-known
try_post-requires-clause-known g c =
    let cores = ap (λ (v : SetupView). v.cores) c.new-setup.ensures in
    let fresh = fresh_ports g (goal.at.try_post-requires-clause-known g c).After-unwrap-sender in
    let same = ap (λ (v : SetupView). v.cores) fresh.0.setup in
    omega (arith, same, cores)

pub try_post-requires-clause-other : goal.try_post-requires-clause-other
try_post-requires-clause-other g c = λ e.
    let fresh = fresh_ports g (goal.at.try_post-requires-clause-other g c).After-unwrap-sender in
    omega (arith, e, fresh.0.core)

pub try_post-requires-clause-room : goal.try_post-requires-clause-room
try_post-requires-clause-room g c =
    let fresh = fresh_ports g (goal.at.try_post-requires-clause-room g c).After-unwrap-sender in
    omega (arith, fresh.0.posted 1)

pub try_post-requires-clause-parcel : goal.try_post-requires-clause-parcel
try_post-requires-clause-parcel g c =
    let fresh = fresh_ports g (goal.at.try_post-requires-clause-parcel g c).After-unwrap-sender in
    let sender : GatePortsView = c.unwrap-sender.result in
    let none : sender.setup.packets ≡ [] =
    ap (λ (v : SetupView). v.packets) (fresh.0.setup ∙ c.new-setup.ensures) ∙ c.new-4.ensures.items in
    subst (λ (notes : List Note). IsParcel sender.setup sender.core 1 (lane_posted sender 1) record { notes = notes; least = None })
    (sym c.new-6.ensures.items) (empty_parcel sender.setup none sender.core 1 (lane_posted sender 1))

pub try_take-requires-2-clause-other : goal.try_take-requires-2-clause-other
try_take-requires-2-clause-other g c = λ e.
    let fresh = fresh_ports g (goal.at.try_take-requires-2-clause-other g c).After-unwrap-sender in
    omega (arith, e, c.try_take.ensures.same_core, fresh.1.core)

pub try_take-requires-2-clause-room : goal.try_take-requires-2-clause-room
try_take-requires-2-clause-room g c =
    let fresh = fresh_ports g (goal.at.try_take-requires-2-clause-room g c).After-unwrap-sender in
    omega (arith, c.in-Err.ensures.err, fresh.1.taken 0)
