use Rattle.std.proofs.Common.{◌≡◌, ◌≢◌, ℕ, ◌+◌, ◌<◌, List, [], length, map, filter, set, slice_index_or, Option, All, AllPairs, sym, ap, ◌∙◌, subst, arith}
use Rattle.std.specs.Prelude.{option_map, slice_get}
use Rattle.mn_base.specs.declared.due.Due.{Due}
use Rattle.parcel.specs.declared.note.Note.{Note}
use Rattle.parcel.specs.Parcels.{note_packet}
use Rattle.parcel.specs.Told.{Told}
use Rattle.core_loop.specs.WorldState.{CoreStands}
use Rattle.core_loop.specs.Trading.{IsLeastBy}
use Rattle.core_loop.specs.Work.{WorkView}
use Rattle.core_loop.specs.Handing.{TakesNotes, CanTakeAll, earlier_of, is_told_arrival, is_told_settle, IsToldTick, notes_for, parts_view, AreHanded}
use Rattle.core_loop.proofs.Tellings.{apart-other}
use Rattle.core_loop.proofs.Sums.{items_of, list-read, list-other}
use Rattle.core_loop.proofs.HandedOut.{HasHandedOut, counts_after, receivers-named, arrivals-room, settles-room, own-taken, stands-now}
use Rattle.core_loop.proofs.handing.hand_out.Goals as goal
use Rattle.core_loop.proofs.handing.hand_out.Goals.{After-sum_up-sent, After-reuse, After-count_sent, After-replace-own, After-deref-3, After-make_parcels}

pub sort_out-requires : goal.sort_out-requires
sort_out-requires c =
    let told = c.deref.ensures.value ∙ c.take_told-told.ensures.told in
    subst (λ (ts : List Told). All (λ t. t.receiver < c.len.result) ts) (sym told)
    (λ k d l. omega (arith, receivers-named c.requires.ready k d l, c.len.ensures))

-- what is summed up is how many notes the core tells
counts_sent : (c : After-sum_up-sent)
    → (c.sum_up-sent.result.arrivals ≡ length (filter (is_told_arrival c.args.work.now.number) c.args.work.now.told))
    × (c.sum_up-sent.result.settles ≡ length (filter (is_told_settle c.args.work.now.number) c.args.work.now.told))
counts_sent c =
    let told = c.deref-2.ensures.value ∙ c.take_told-told.ensures.told in (
      c.sum_up-sent.ensures.arrivals
          ∙ ap (λ (k : ℕ). length (filter (is_told_arrival k) c.deref-2.result.now)) c.number-number.ensures
          ∙ ap (λ (ts : List Told). length (filter (is_told_arrival c.args.work.now.number) ts)) told,
      c.sum_up-sent.ensures.settles
          ∙ ap (λ (k : ℕ). length (filter (is_told_settle k) c.deref-2.result.now)) c.number-number.ensures
          ∙ ap (λ (ts : List Told). length (filter (is_told_settle c.args.work.now.number) ts)) told,
    )

-- the work, when what it told is taken out
emptied : (c : After-reuse) → c.reuse.new.self ≡ record c.args.work.now { told = [] }
emptied c = c.reuse.ensures ∙ ap (λ (v : WorkView). record v { told = [] }) c.take_told-told.ensures.same

pub count_sent-requires-clause-arrivals : goal.count_sent-requires-clause-arrivals
count_sent-requires-clause-arrivals c =
    let at = goal.at.count_sent-requires-clause-arrivals c in
    omega (
      arith,
      arrivals-room c.requires.ready,
      ap (λ (v : WorkView). v.counts.arrivals) (emptied at.After-reuse),
      (counts_sent at.After-sum_up-sent).0,
    )

pub count_sent-requires-clause-settles : goal.count_sent-requires-clause-settles
count_sent-requires-clause-settles c =
    let at = goal.at.count_sent-requires-clause-settles c in
    omega (
      arith,
      settles-room c.requires.ready,
      ap (λ (v : WorkView). v.counts.settles) (emptied at.After-reuse),
      (counts_sent at.After-sum_up-sent).1,
    )

-- the core's own list is taken out
own_notes : (c : After-deref-3) → c.deref-3.result.now ≡ notes_for c.args.work.now.told c.args.work.now.number
own_notes c =
    let n = c.number-number.result in
    let ready = c.requires.ready in
    let within : n < c.len.result = omega (arith, c.number-number.ensures, ready.known, ready.one_peer_each, c.len.ensures) in
    c.deref-3.ensures.value
    ∙ list-read c.in_ok-notes.notes.items n c.replace-own.result c.index_mut.result.now
    (omega (arith, within, c.in_ok-notes.ensures.count)) c.index_mut.ensures.value c.replace-own.ensures.value
    ∙ c.in_ok-notes.ensures.each n within
    ∙ ap (λ (ts : List Told). notes_for ts n) (c.deref.ensures.value ∙ c.take_told-told.ensures.told)
    ∙ ap (notes_for c.args.work.now.told) c.number-number.ensures

-- and the lists of other cores are still there
others_notes : (c : After-replace-own) (other : ℕ) → other < length c.args.peers.now.items → other ≢ c.args.work.now.number
    → slice_index_or (items_of (set c.in_ok-notes.notes.items c.number-number.result c.replace-own.new.dest)) other []
    ≡ notes_for c.args.work.now.told other
others_notes c other within apart =
    list-other c.in_ok-notes.notes.items c.number-number.result other c.replace-own.new.dest (λ e. apart (e ∙ c.number-number.ensures))
    ∙ c.in_ok-notes.ensures.each other (omega (arith, within, c.len.ensures))
    ∙ ap (λ (ts : List Told). notes_for ts other) (c.deref.ensures.value ∙ c.take_told-told.ensures.told)

pub take_notes-requires : goal.take_notes-requires
take_notes-requires c =
    let W = c.args.work.now in
    let at = goal.at.take_notes-requires c in
    let heap : c.count_sent.new.self.heap ≡ W.heap =
    ap (λ (v : WorkView). v.heap) c.count_sent.ensures ∙ ap (λ (v : WorkView). v.heap) (emptied at.After-reuse) in
    subst (λ (ns : List Note). CanTakeAll ns c.count_sent.new.self.heap c.args.entrants.now) (sym (own_notes at.After-deref-3))
    (subst (λ (h : List Due). CanTakeAll (notes_for W.told W.number) h c.args.entrants.now) (sym heap)
    (own-taken c.requires.ready c.requires.settled.0 c.args.entrants.now c.requires.settled.1))

pub make_parcels-requires-clause-apart : goal.make_parcels-requires-clause-apart
make_parcels-requires-clause-apart c = λ other within apart.
    let W = c.args.work.now in
    let ready = c.requires.ready in
    let another : other ≢ W.number = λ e. apart (e ∙ sym c.number-number.ensures) in
    let at = goal.at.make_parcels-requires-clause-apart c in
    subst (λ (ns : List Note). AllPairs (λ a b. a ≢ b) (map note_packet ns)) (sym (others_notes at.After-replace-own other within another))
    (apart-other ready.is_setup ready.told_are other another)

-- the work, when what it tells is counted
counted : (c : After-count_sent) → c.reuse.new.self ≡ record c.args.work.now { told = [] }
    → c.sum_up-sent.result.arrivals ≡ length (filter (is_told_arrival c.args.work.now.number) c.args.work.now.told)
    → c.sum_up-sent.result.settles ≡ length (filter (is_told_settle c.args.work.now.number) c.args.work.now.told)
    → c.count_sent.new.self ≡ record c.args.work.now { told = []; counts = counts_after c.args.work.now }
counted c rest arrivals settles =
    let W = c.args.work.now in
    c.count_sent.ensures
    ∙ ap (λ (v : WorkView). record v {
      counts = record v.counts {
        arrivals = v.counts.arrivals + c.sum_up-sent.result.arrivals;
        settles = v.counts.settles + c.sum_up-sent.result.settles;
      };
    }) rest
    ∙ ap (λ (k : ℕ). record W {
      told = [];
      counts = record W.counts { arrivals = W.counts.arrivals + k; settles = W.counts.settles + c.sum_up-sent.result.settles };
    }) arrivals
    ∙ ap (λ (k : ℕ). record W { told = []; counts = record (counts_after W) { settles = W.counts.settles + k } }) settles

-- all is handed out
handed_out : (c : After-make_parcels) → c.deref-3.result.now ≡ notes_for c.args.work.now.told c.args.work.now.number
    → ((other : ℕ) → other < length c.args.peers.now.items → other ≢ c.args.work.now.number
    → slice_index_or (items_of (set c.in_ok-notes.notes.items c.number-number.result c.replace-own.new.dest)) other []
    ≡ notes_for c.args.work.now.told other)
    → c.count_sent.new.self.heap ≡ c.args.work.now.heap
    → HasHandedOut c.args.work.now c.args.peers.now.items c.args.entrants.now c.take_notes.new.entrants c.take_notes.new.work.heap
    (items_of (set c.in_ok-notes.notes.items c.number-number.result c.replace-own.new.dest)) c.make_parcels.new.peers.items
handed_out c own others heap =
    let W = c.args.work.now in
    let E = c.args.entrants.now in
    let F = c.take_notes.new.entrants in
    let H = c.take_notes.new.work.heap in
    let PS = c.args.peers.now.items in
    let QS = c.make_parcels.new.peers.items in
    let lists = items_of (set c.in_ok-notes.notes.items c.number-number.result c.replace-own.new.dest) in
    let least = c.earlier-least.ensures
    ∙ ap (λ (o : Option ℕ). earlier_of o c.sum_up-sent.result.least)
    (c.least.ensures.first ∙ ap (λ (h : List Due). option_map (λ due. due.tick) (slice_get h 0)) heap) in
    record {
      ready = c.requires.ready;
      taken =
          subst (λ (ns : List Note). TakesNotes ns W.heap E H F) own
          (subst (λ (h : List Due). TakesNotes c.deref-3.result.now h E H F) heap c.in_ok-take_notes.ensures.taken);
      least = c.sum_up-sent.result.least;
      sent =
          subst (λ (ts : List Told). IsLeastBy (IsToldTick W.number ts) c.sum_up-sent.result.least)
          (c.deref-2.ensures.value ∙ c.take_told-told.ensures.told)
          (subst (λ (k : ℕ). IsLeastBy (IsToldTick k c.deref-2.result.now) c.sum_up-sent.result.least) c.number-number.ensures
          c.sum_up-sent.ensures.least);
      sorted = others;
      handed =
          subst (λ (o : Option ℕ). AreHanded W.number lists o PS QS) least
          (subst (λ (k : ℕ). AreHanded k lists c.earlier-least.result PS QS) c.number-number.ensures c.make_parcels.ensures);
    }

pub returns-clause-stands : goal.returns-clause-stands
returns-clause-stands c = λ bytes s.
    let at = goal.at.returns-clause-stands c in
    let sent = counts_sent at.After-sum_up-sent in
    let work = counted at.After-count_sent (emptied at.After-reuse) sent.0 sent.1 in
    let handed = handed_out at.After-make_parcels (own_notes at.After-deref-3) (others_notes at.After-replace-own)
    (ap (λ (v : WorkView). v.heap) work) in
    subst (λ (v : WorkView). CoreStands bytes (parts_view v c.take_notes.new.entrants c.make_parcels.new.peers.items))
    (sym (c.in_ok-take_notes.ensures.same ∙ ap (λ (v : WorkView). record v { heap = c.take_notes.new.work.heap }) work))
    (stands-now handed bytes s)
