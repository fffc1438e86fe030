-- What may come next, token by token.
use Rattle.std.specs.Prelude.{ℕ, Option, Some, None}
use Rattle.std.proofs.Common.{zero, suc}
use Rattle.gml_lex.specs.declared.kinds.TokenKind.{TokenKind}
use Rattle.gml_lex.specs.declared.kinds.TokenKind.TheVariants as kind
use Rattle.gml_reader.specs.declared.grammar.Wanted.{Wanted}
use Rattle.gml_reader.specs.declared.grammar.Wanted.TheVariants.{KeyOrEnd, Value}

-- what is wanted after a token, and how many lists are open there
abbrev pub after : Wanted → ℕ → TokenKind → Option (Wanted × ℕ)
after KeyOrEnd depth kind.Key = Some (Value, depth)
after KeyOrEnd zero kind.Right = None
after KeyOrEnd (suc depth) kind.Right = Some (KeyOrEnd, depth)
after KeyOrEnd depth kind.Integer = None
after KeyOrEnd depth kind.Real = None
after KeyOrEnd depth kind.Text = None
after KeyOrEnd depth kind.Left = None
after Value depth kind.Key = None
after Value depth kind.Integer = Some (KeyOrEnd, depth)
after Value depth kind.Real = Some (KeyOrEnd, depth)
after Value depth kind.Text = Some (KeyOrEnd, depth)
after Value depth kind.Left = Some (KeyOrEnd, suc depth)
after Value depth kind.Right = None
