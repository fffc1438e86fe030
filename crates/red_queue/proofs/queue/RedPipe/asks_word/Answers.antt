use Rattle.red_queue.proofs.Standing.{asked-nothing}
use Rattle.red_queue.proofs.queue.RedPipe.asks_word.Goals as goal

pub returns : goal.returns
returns c =
    rw (← c.self.view_is)
    (λ none. asked-nothing c.args.tick c.count_above-waiting.result c.aged_by-average.result c.self.view_is c.requires.order
    c.count_above-waiting.ensures.value c.aged_by-average.ensures.value (c.words_decide.ensures none))
