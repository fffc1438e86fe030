-- Whole texts: which topology they read to, and their first fault.
use Rattle.std.specs.Prelude.{◌≡◌, ◌⊎◌, ℕ, List, length, Some, None, slice_get}
use Rattle.topo.specs.TopologyView.{TopologyView}
use Rattle.gml_lex.specs.declared.kinds.Token.{Token}
use Rattle.gml_lex.specs.Tokens.{AreTokens, IsLexFault}
use Rattle.gml_reader.specs.declared.faults.GmlFault.{GmlFault}
use Rattle.gml_reader.specs.declared.faults.GmlFault.TheVariants as fault
use Rattle.gml_reader.specs.Grammar.{Pairs, IsList, spelled}
use Rattle.gml_reader.specs.Places.{IsShallow, IsBadAt, IsDeepAt, IsCut}
use Rattle.gml_reader.specs.Values.{pairs}
use Rattle.gml_reader.specs.Reading.{graph_in, file_fault, graph_topology}

-- the text's tokens are those of a file whose lists nest at most 32 deep
pub record IsTextOf (text : List ℕ) (file : Pairs) : Type 0 where
  pub tokens : List Token
  pub are : AreTokens text tokens
  pub list : IsList file
  pub spelled_is : tokens ≡ spelled file
  pub shallow : IsShallow tokens

-- the text reads to the topology
pub record Reads (text : List ℕ) (topology : TopologyView) : Type 0 where
  pub file : Pairs
  pub is_text : IsTextOf text file
  pub no_fault : file_fault text file ≡ None
  pub graph : Pairs
  pub graph_is : graph_in text (pairs file) ≡ Some graph
  pub read : topology ≡ graph_topology text (pairs graph)

abbrev pub StartsAt : List Token → ℕ → ℕ → Type 0
StartsAt tokens at place = (token : Token) × (slice_get tokens at ≡ Some token) × (token.start ≡ place)

-- the first token with which the text's tokens begin no file; or they end in an open list or after a key
pub record IsGrammarFault (text : List ℕ) (place : ℕ) : Type 0 where
  pub tokens : List Token
  pub are : AreTokens text tokens
  pub where_is : ((at : ℕ) × IsBadAt tokens at × StartsAt tokens at place) ⊎ (IsCut tokens × (place ≡ length text))

-- the first list at depth 33
pub record IsTooDeep (text : List ℕ) (place : ℕ) : Type 0 where
  pub tokens : List Token
  pub are : AreTokens text tokens
  pub at : ℕ
  pub deep : IsDeepAt tokens at
  pub starts : StartsAt tokens at place

-- a fault of what is read
abbrev pub IsFileFault : List ℕ → GmlFault → Type 0
IsFileFault text f = (file : Pairs) × IsTextOf text file × (file_fault text file ≡ Some f)

-- the first fault of the text
abbrev pub IsFirstFault : List ℕ → GmlFault → Type 0
IsFirstFault text (fault.Lex place) = IsLexFault text place
IsFirstFault text (fault.Grammar place) = IsGrammarFault text place
IsFirstFault text (fault.TooDeep place) = IsTooDeep text place
IsFirstFault text fault.NoGraph = IsFileFault text fault.NoGraph
IsFirstFault text (fault.Missing i k) = IsFileFault text (fault.Missing i k)
IsFirstFault text (fault.Kind i k) = IsFileFault text (fault.Kind i k)
IsFirstFault text (fault.BadAddress n) = IsFileFault text (fault.BadAddress n)
IsFirstFault text (fault.Topo f) = IsFileFault text (fault.Topo f)
