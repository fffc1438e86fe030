-- Each text reads to a topology or has a first fault.
use Rattle.std.proofs.Common.{◌≡◌, ◌<◌, ◌≤◌, ◌+◌, ◌⊎◌, ℕ, zero, suc, List, length, get_or, refl, sym, ◌∙◌, ap, arith, inl, inr, Option, Some, None}
use Rattle.std.proofs.lemmas.Bool.{cases_lt}
use Rattle.std.proofs.lemmas.Option.{slice_get-get_or}
use Rattle.topo.specs.TopologyView.{TopologyView}
use Rattle.gml_lex.specs.declared.kinds.TokenKind.TheVariants as kind
use Rattle.gml_lex.specs.declared.kinds.Token.{Token}
use Rattle.gml_lex.specs.Tokens.{AreTokens}
use Rattle.gml_lex.proofs.EachText as lex
use Rattle.gml_reader.specs.declared.faults.GmlFault.{GmlFault}
use Rattle.gml_reader.specs.declared.faults.GmlFault.TheVariants as fault
use Rattle.gml_reader.specs.declared.grammar.Misplaced.{Misplaced}
use Rattle.gml_reader.specs.declared.grammar.Misplaced.TheVariants.{Bad, Deep, Cut}
use Rattle.gml_reader.specs.declared.grammar.Wanted.{Wanted}
use Rattle.gml_reader.specs.declared.grammar.Wanted.TheVariants as wanted
use Rattle.gml_reader.specs.Grammar.{Pairs, IsFile}
use Rattle.gml_reader.specs.Places.{IsShallow, IsMisplaced}
use Rattle.gml_reader.specs.States.{after}
use Rattle.gml_reader.specs.Values.{pairs}
use Rattle.gml_reader.specs.Reading.{graph_in, fault_in, file_fault, graph_topology}
use Rattle.gml_reader.specs.Texts.{IsTextOf, Reads, StartsAt, IsFirstFault}
use Rattle.gml_reader.specs.Laws.{EachTextIsAnswered}
use Rattle.gml_reader.proofs.Checked.{IsRead, IsRead-start, IsNext, IsRead-more, bad_at, deep_at, whole_file, whole_shallow, cut_end, value_isnt_key}
use Rattle.gml_reader.proofs.ReadFaults.{some_isnt_none, first_fault_of}
use Rattle.gml_reader.proofs.WholeTexts.{text_of}

-- ---- tokens are a file that nests at most 32 deep, or are misplaced
abbrev AreFiled : List Token → Type 0
AreFiled tokens = (IsFile tokens × IsShallow tokens) ⊎ ((m : Misplaced) × IsMisplaced tokens m)

no_token : Token
no_token = record { kind = kind.Key; start = 0; end = 0 }

-- all of them were read
at_end : (tokens : List Token) (at : ℕ) (w : Wanted) (d : ℕ) → length tokens ≤ at → IsRead tokens at w d → AreFiled tokens
at_end tokens at wanted.KeyOrEnd zero end r = inl (whole_file end r refl refl, whole_shallow end r)
at_end tokens at wanted.KeyOrEnd (suc d) end r = inr (Cut, cut_end end r (λ key none. absurd (omega (arith, none))))
at_end tokens at wanted.Value d end r = inr (Cut, cut_end end r (λ key none. value_isnt_key wanted.Value refl key))

-- the walk over them, with so many left to read
walk : (left : ℕ) (tokens : List Token) (at : ℕ) (w : Wanted) (d : ℕ) → length tokens ≤ at + left → IsRead tokens at w d
    → AreFiled tokens
walk zero tokens at w d few r = at_end tokens at w d (omega (arith, few)) r
walk (suc left) tokens at w d few r =
    elim (cases_lt at (length tokens)) [
      | inl within ↦
          by_state within (after w d (get_or tokens at no_token).kind) refl
          (λ p here shallow. walk left tokens (at + 1) p.0 p.1 (omega (arith, few)) (IsRead-more here shallow))
      | inr end ↦ at_end tokens at w d end r
    ]
  where
    by_state : at < length tokens → (o : Option (Wanted × ℕ)) → after w d (get_or tokens at no_token).kind ≡ o
        → ((p : Wanted × ℕ) → IsNext tokens at no_token w d p.0 p.1 → p.1 ≤ 32 → AreFiled tokens) → AreFiled tokens
    by_state within None e later = inr (Bad at, bad_at no_token within r (sym e))
    by_state within (Some p) e later =
        let here : IsNext tokens at no_token w d p.0 p.1 = record { inside = within; read = r; state = sym e } in
        elim (cases_lt 32 p.1) [ inl deep ↦ inr (Deep at, deep_at here deep) | inr shallow ↦ later p here shallow ]

-- ---- answers
abbrev Answered : List ℕ → Type 0
Answered text = ((topology : TopologyView) × Reads text topology) ⊎ ((f : GmlFault) × IsFirstFault text f)

-- a token within the text starts at a place
start_of : (tokens : List Token) (at : ℕ) → at < length tokens → (place : ℕ) × StartsAt tokens at place
start_of tokens at within =
    let token = get_or tokens at no_token in
    (token.start, (token, slice_get-get_or tokens at no_token within, refl))

-- where tokens are misplaced, that is the first fault
misplaced_fault : (text : List ℕ) (tokens : List Token) → AreTokens text tokens → (m : Misplaced) → IsMisplaced tokens m
    → (f : GmlFault) × IsFirstFault text f
misplaced_fault text tokens are (Bad at) is =
    let start = start_of tokens at is.inside in
    (fault.Grammar start.0, record { tokens = tokens; are = are; where_is = inl (at, is, start.1) })
misplaced_fault text tokens are (Deep at) is =
    let start = start_of tokens at is.inside in
    (fault.TooDeep start.0, record { tokens = tokens; are = are; at = at; deep = is; starts = start.1 })
misplaced_fault text tokens are Cut is =
    (fault.Grammar (length text), record { tokens = tokens; are = are; where_is = inr (is, refl) })

-- a file has a first fault, or it has a graph and reads to its topology
file_answer : (text : List ℕ) (file : Pairs) → IsTextOf text file → (o : Option GmlFault) → file_fault text file ≡ o → Answered text
file_answer text file tree (Some f) e = inr (f, first_fault_of text file f tree e)
file_answer text file tree None e = by_graph (graph_in text (pairs file)) refl
  where
    by_graph : (o : Option Pairs) → graph_in text (pairs file) ≡ o → Answered text
    by_graph None none = absurd (some_isnt_none fault.NoGraph (sym (ap (fault_in text) none) ∙ e))
    by_graph (Some graph) is =
        inl (
          graph_topology text (pairs graph),
          record
              { file = file; is_text = tree; no_fault = e; graph = graph; graph_is = is; read = refl },
        )

pub each_text_is_answered : EachTextIsAnswered
each_text_is_answered text =
    elim (lex.each_text_is_answered text) [
      | inl read ↦
          let tokens = read.0 in
          elim (walk (length tokens) tokens 0 wanted.KeyOrEnd 0 (omega arith) (IsRead-start tokens)) [
            | inl filed ↦
                let tree = text_of text tokens read.1 filed.0 filed.1 in
                let f = filed.0 in
                file_answer text f.file tree _ refl
            | inr misplaced ↦ inr (misplaced_fault text tokens read.1 misplaced.0 misplaced.1)
          ]
      | inr stuck ↦ inr (fault.Lex stuck.0, stuck.1)
    ]
