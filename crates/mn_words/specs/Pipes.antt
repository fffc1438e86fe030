-- What a PIPE says, and what a list of bare words says. A text is the list of its bytes.
use Rattle.std.specs.Prelude.{ℕ, ◌+◌, nat_le, List, [], ◌∷◌, Option, Some, None, length, if◌then◌else◌}
use Rattle.mn_base.specs.declared.limits.TheConstants.{BPS_MIN, BPS_MAX, LINK_LATENCY_US_MAX, QUEUE_MIN, QUEUE_MAX, LOSS_PPM_MAX, RED_SHIFT_MAX, RED_MIN_MAX, RED_MAX_MAX, RED_EARLY_PPM_MAX}
use Rattle.mn_words.specs.declared.order.PipeSpec.{PipeSpec}
use Rattle.mn_words.specs.declared.order.RedSpec.{RedSpec}
use Rattle.mn_words.specs.Steps.{◌>>=◌}
use Rattle.mn_words.specs.Values.{number_within, colon_parts}

-- the pipe of four parts: bandwidth in bit/s, latency in us, queue limit in packets, loss in ppm
unfoldable pub pipe_of_parts : List (List ℕ) → Option PipeSpec
pipe_of_parts (first ∷ second ∷ third ∷ fourth ∷ []) = do
  bps ← number_within BPS_MIN BPS_MAX first
  latency_us ← number_within 0 LINK_LATENCY_US_MAX second
  queue ← number_within QUEUE_MIN QUEUE_MAX third
  ppm ← number_within 0 LOSS_PPM_MAX fourth
  Some (record { bps = bps; latency_us = latency_us; queue = queue; ppm = ppm })
pipe_of_parts parts = None

-- the PIPE of a chain
unfoldable pub pipe_spec_of : List ℕ → Option PipeSpec
pipe_spec_of word = pipe_of_parts (colon_parts word)

-- how a pipe drops early, of four parts: the weight of the average, the averages from which it may drop and from which it drops, in
-- packets, and how often it drops between them, in ppm
unfoldable pub red_of_parts : PipeSpec → List (List ℕ) → Option RedSpec
red_of_parts base (first ∷ second ∷ third ∷ fourth ∷ []) = do
  shift ← number_within 0 RED_SHIFT_MAX first
  least ← number_within 0 RED_MIN_MAX second
  most ← number_within (least + 1) RED_MAX_MAX third
  early ← number_within 0 RED_EARLY_PPM_MAX fourth
  Some (record { base = base; shift = shift; min = least; max = most; early = early })
red_of_parts base parts = None

-- the pipe of the first four of eight parts, and how it drops early, of the others
unfoldable pub red_pipe_of_parts : List (List ℕ) → Option RedSpec
red_pipe_of_parts (first ∷ second ∷ third ∷ fourth ∷ parts) = do
  base ← pipe_of_parts (first ∷ second ∷ third ∷ fourth ∷ [])
  red_of_parts base parts
red_pipe_of_parts parts = None

-- the PIPE of `red`
unfoldable pub red_spec_of : List ℕ → Option RedSpec
red_spec_of word = red_pipe_of_parts (colon_parts word)

-- what these words say, in order
unfoldable pub each_of : {A : Type 0} → (List ℕ → Option A) → List (List ℕ) → Option (List A)
each_of said [] = Some []
each_of said (word ∷ words) = do
  first ← said word
  others ← each_of said words
  Some (first ∷ others)

-- the same of at most so many words
unfoldable pub few_of : {A : Type 0} → ℕ → (List ℕ → Option A) → List (List ℕ) → Option (List A)
few_of most said words = if nat_le (length words) most then each_of said words else None
