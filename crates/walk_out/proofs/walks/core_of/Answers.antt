use Rattle.std.proofs.Common.{◌≡◌, ◌+◌, ◌-◌, min, max, length, take, drop, ap, ◌∙◌, arith, length-drop}
use Rattle.std.proofs.lemmas.List.{length-take-le, take_all}
use Rattle.walk_out.proofs.Outer.{core-is}
use Rattle.walk_out.proofs.walks.core_of.Goals as goal

pub returns : goal.returns
returns c =
    let count = c.nonempty_count-count.result in
    let nonempty = take count c.args.frontiers.now in
    let len = length-take-le count c.args.frontiers.now c.nonempty_count-count.ensures.bound in
    let start : c.min-start.result ≡ min (max (count - c.args.o) (c.args.w + 1)) count = c.min-start.ensures
    ∙ ap (λ n. min n count) (c.max.ensures ∙ ap (λ n. max n (c.args.w + 1)) c.saturating_sub.ensures) in
    take_all (length nonempty - c.min-start.result) (drop c.min-start.result nonempty) (omega (arith, length-drop c.min-start.result nonempty))
    ∙ ap (λ s. drop s nonempty) start
    ∙ core-is c.args.frontiers.now count _ c.args.o c.args.w c.nonempty_count-count.ensures.value len
