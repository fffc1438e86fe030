use Rattle.std.proofs.Common.{◌≡◌, map, take, string_bytes}
use Rattle.mn_words.specs.Words.{texts}
use Rattle.modelnet.proofs.command_line.lent.Given as goal

abbrev pub invariant-loop-word : goal.invariant-loop-word
invariant-loop-word l = texts l.words.items ≡ map string_bytes (take l.word-index l.owned)
