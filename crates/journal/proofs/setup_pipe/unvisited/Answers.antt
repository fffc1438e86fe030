use Rattle.std.proofs.Common.{◌≡◌, List, length, slice_index_or, refl, sym, ap, ◌∙◌, subst, AllPairs, ◌<◌}
use Rattle.std.proofs.lemmas.Option.{slice_get_read}
use Rattle.mn_base.specs.declared.params.PipeParams.{PipeParams}
use Rattle.journal.specs.SetupView.{SetupView}
use Rattle.journal.proofs.AtWork.{changes-rise, idle-is}
use Rattle.journal.proofs.setup_pipe.unvisited.Goals as goal

pub with_changes-requires-clause-rising : goal.with_changes-requires-clause-rising
with_changes-requires-clause-rising c =
    subst (AllPairs (λ a b. a.0 < b.0)) (sym c.requires.own) (changes-rise c.args.setup.now c.parts-parts.ensures.kept c.args.number)

pub returns : goal.returns
returns c =
    let S = c.args.setup.now in
    let same = c.parts.view_is ∙ c.parts-parts.ensures.same in
    let read = subst (λ (ps : List PipeParams). c.index.result.now ≡ slice_index_or ps c.args.number c.index.result.now)
    (ap (λ (s : SetupView). s.pipes) same) c.index.ensures in
    idle-is (record {
      first = c.index.result.now;
      changes = c.args.changes.items;
      tick_ns = c.parts.inside.tick_ns;
      seed = c.parts.inside.seed;
      idle = c.with_changes.ensures.idle;
      stands = c.with_changes.ensures.stands;
      words_are = c.new.ensures;
      first_is = slice_get_read S.pipes (length S.pipes) c.args.number c.index.result.now refl c.requires.within read;
      changes_are = c.requires.own;
      tick_is = ap (λ (s : SetupView). s.tick_ns) same;
      seed_is = ap (λ (s : SetupView). s.seed) same;
    })
