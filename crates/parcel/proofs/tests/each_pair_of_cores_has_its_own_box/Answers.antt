use Rattle.std.proofs.Common.{◌≡◌, ◌≢◌, ℕ, ◌<◌, List, [], None, sym, ap, ◌∙◌, subst, arith}
use Rattle.mn_base.specs.declared.limits.TheConstants.{CORES_MAX}
use Rattle.journal.specs.SetupView.{SetupView}
use Rattle.parcel.specs.declared.note.Note.{Note}
use Rattle.parcel.specs.PlainBoxesView.{BoxView, PlainBoxesView, Keeps, box_at, posted_to, taken_from}
use Rattle.parcel.specs.Parcels.{IsParcel}
use Rattle.parcel.proofs.NoPackets.{empty_parcel}
use Rattle.parcel.proofs.tests.each_pair_of_cores_has_its_own_box.Goals as goal

-- how many parcels a core has taken stays while another core is served, and as cores change
unserved : (p q : PlainBoxesView) → Keeps p q → (core : ℕ) → p.core ≡ core → (sender receiver : ℕ) → receiver < CORES_MAX
    → receiver ≢ core
    → (box_at q sender receiver).taken ≡ (box_at p sender receiver).taken
unserved p q keeps core is sender receiver within other =
    keeps.takes_of_others sender receiver within (λ e. other (e ∙ is))

turned : (p q : PlainBoxesView) (core : ℕ) → q ≡ record p { core = core } → (sender receiver : ℕ)
    → (box_at q sender receiver).taken ≡ (box_at p sender receiver).taken
turned p q core is sender receiver = ap (λ (v : PlainBoxesView). (box_at v sender receiver).taken) is

at_core : (p : PlainBoxesView) (core : ℕ) → p.core ≡ core → (sender : ℕ) → taken_from p sender ≡ (box_at p sender core).taken
at_core p core is sender = ap (λ (k : ℕ). (box_at p sender k).taken) is

pub try_post-requires-clause-room : goal.try_post-requires-clause-room
try_post-requires-clause-room g c =
    let idle = ap (λ (b : BoxView). b.posted) (c.in_ok-boxes.ensures.idle c.in_ok-boxes.boxes.core 2) in
    omega (arith, idle)

pub try_post-requires-clause-parcel : goal.try_post-requires-clause-parcel
try_post-requires-clause-parcel g c =
    let boxes : PlainBoxesView = c.in_ok-boxes.boxes in
    let setup : SetupView = boxes.setup in
    let none : setup.packets ≡ [] =
    ap (λ (v : SetupView). v.packets) (c.in_ok-boxes.ensures.setup ∙ c.new-setup.ensures) ∙ c.in_ok-vec-4.ensures.items in
    subst (λ (notes : List Note). IsParcel setup boxes.core 2 (posted_to boxes 2) record { notes = notes; least = None }) (sym c.new-2.ensures.items)
    (empty_parcel setup none boxes.core 2 (posted_to boxes 2))

pub try_take-requires-clause-room : goal.try_take-requires-clause-room
try_take-requires-clause-room g c =
    let made : PlainBoxesView = c.in_ok-boxes.boxes in
    let posted : PlainBoxesView = c.try_post.new.self in
    let served : PlainBoxesView = c.serve.new.self in
    let at = at_core served 1 (ap (λ (v : PlainBoxesView). v.core) c.serve.ensures.serves) 0 in
    let turn = turned posted served 1 c.serve.ensures.serves 0 1 in
    let post = unserved made posted c.try_post.ensures.keeps 0 c.in_ok-boxes.ensures.core 0 1 (omega arith) (omega arith) in
    let idle = ap (λ (b : BoxView). b.taken) (c.in_ok-boxes.ensures.idle 0 1) in
    omega (arith, at, turn, post, idle)

pub try_take-requires-2-clause-room : goal.try_take-requires-2-clause-room
try_take-requires-2-clause-room g c =
    let made : PlainBoxesView = c.in_ok-boxes.boxes in
    let posted : PlainBoxesView = c.try_post.new.self in
    let served : PlainBoxesView = c.serve.new.self in
    let took : PlainBoxesView = c.try_take.new.self in
    let last : PlainBoxesView = c.serve-2.new.self in
    let core : served.core ≡ 1 = ap (λ (v : PlainBoxesView). v.core) c.serve.ensures.serves in
    let at = at_core last 2 (ap (λ (v : PlainBoxesView). v.core) c.serve-2.ensures.serves) 1 in
    let turn = turned took last 2 c.serve-2.ensures.serves 1 2 in
    let take = unserved served took c.try_take.ensures.keeps 1 core 1 2 (omega arith) (omega arith) in
    let turn_before = turned posted served 1 c.serve.ensures.serves 1 2 in
    let post = unserved made posted c.try_post.ensures.keeps 0 c.in_ok-boxes.ensures.core 1 2 (omega arith) (omega arith) in
    let idle = ap (λ (b : BoxView). b.taken) (c.in_ok-boxes.ensures.idle 1 2) in
    omega (arith, at, turn, take, turn_before, post, idle)

pub try_take-requires-3-clause-room : goal.try_take-requires-3-clause-room
try_take-requires-3-clause-room g c =
    let made : PlainBoxesView = c.in_ok-boxes.boxes in
    let posted : PlainBoxesView = c.try_post.new.self in
    let served : PlainBoxesView = c.serve.new.self in
    let took : PlainBoxesView = c.try_take.new.self in
    let last : PlainBoxesView = c.serve-2.new.self in
    let core : served.core ≡ 1 = ap (λ (v : PlainBoxesView). v.core) c.serve.ensures.serves in
    let at = at_core last 2 (ap (λ (v : PlainBoxesView). v.core) c.serve-2.ensures.serves) 0 in
    let others = c.try_take-2.ensures.others 0 (omega arith) in
    let turn = turned took last 2 c.serve-2.ensures.serves 0 2 in
    let take = unserved served took c.try_take.ensures.keeps 1 core 0 2 (omega arith) (omega arith) in
    let turn_before = turned posted served 1 c.serve.ensures.serves 0 2 in
    let post = unserved made posted c.try_post.ensures.keeps 0 c.in_ok-boxes.ensures.core 0 2 (omega arith) (omega arith) in
    let idle = ap (λ (b : BoxView). b.taken) (c.in_ok-boxes.ensures.idle 0 2) in
    omega (arith, others, at, turn, take, turn_before, post, idle)
