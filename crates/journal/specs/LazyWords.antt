-- The words of a pipe, once they are made, are those of its seed and number.
use Rattle.std.specs.Prelude.{◌≡◌}
use Rattle.std.specs.Option.{ForSome}
use Rattle.journal.specs.declared.lazy_words.LazyWords.TheInside.{Inside}

abbrev pub AreOfPipe : Inside → Type 0
AreOfPipe w = ForSome w.words (λ made. made.value ≡ record { seed = w.seed; pipe = w.pipe })
