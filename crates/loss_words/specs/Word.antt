-- The words by which a packet is lost at a pipe or not, and by which a queue drops it early or not.
use Rattle.std.specs.Prelude.{ℕ, ◌+◌, ◌^◌, List, ◌++◌, replicate}
use Rattle.std.specs.Int.{w64, to_le_bytes}
use Rattle.rand_chacha.specs.ChaCha.{word_at, key_of}

-- the bytes of a seed: its own eight, the least first, and then 24 zero bytes
abbrev pub seed_bytes : ℕ → List ℕ
seed_bytes seed = to_le_bytes w64 seed ++ replicate 24 0

-- the key of a seed
abbrev pub key_of_seed : ℕ → List ℕ
key_of_seed seed = key_of (seed_bytes seed)

-- the word of a pipe at a place: of ChaCha with 8 rounds (four double rounds) under the seed's key,
-- the stream has the pipe's number
unfoldable pub loss_word : ℕ → ℕ → ℕ → ℕ
loss_word seed pipe place = word_at 4 (key_of_seed seed) pipe place

-- the early word of a pipe at a place: the same, in a stream after those of all loss words
unfoldable pub early_word : ℕ → ℕ → ℕ → ℕ
early_word seed pipe place = word_at 4 (key_of_seed seed) (2 ^ 32 + pipe) place
