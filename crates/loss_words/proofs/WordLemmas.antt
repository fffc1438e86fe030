-- A loss word is a number of 32 bits.
use Rattle.std.proofs.Common.{ℕ, ◌^◌, ◌<◌, lit<}
use Rattle.std.proofs.Math.Nat.{mod-lt}
use Rattle.rand_chacha.specs.Block.{block_word}
use Rattle.loss_words.specs.Word.{loss_word}

pub loss_word-bound : (seed pipe place : ℕ) → loss_word seed pipe place < 2 ^ 32
unfolding loss_word block_word
loss_word-bound seed pipe place = mod-lt _ (lit< tt)
