use Rattle.std.proofs.Common.{◌++◌, [], ◌∷◌, map, take, string_bytes, sym, ◌∙◌, ap}
use Rattle.std.proofs.lemmas.List.{map_push, map_more}
use Rattle.modelnet.proofs.command_line.lent.Goals as goal

-- both sides have one text more, which is the same
pub loop-word-preserved : goal.loop-word-preserved
loop-word-preserved c =
    let front = map string_bytes (take c.loop-word.word-index c.args.owned.now) in
    rw c.in_ok-push.ensures.items (map_push (λ word. word.now) c.loop-word.words.items c.as_str.result ∙ ap
    (λ ts. ts ++ c.as_str.result.now ∷ []) c.loop-word.invariant
    ∙ ap (λ t. front ++ t ∷ []) (c.as_str.ensures.value ∙ ap (λ s. string_bytes s) c.word-item.is)
    ∙ sym (map_more string_bytes c.args.owned.now c.loop-word.word-index c.word-item.result c.loop-word-test.true))
