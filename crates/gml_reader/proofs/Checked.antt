-- The check, token by token.
use Rattle.std.proofs.Common.{◌≡◌, ◌<◌, ◌≤◌, ◌+◌, ◌⊎◌, ℕ, zero, suc, Bool, true, false, cond, List, [], ◌∷◌, ◌++◌, length, take, get_or, refl, sym, ◌∙◌, ap, subst, arith, inl, inr, Some, None, append_assoc, append-nil}
use Rattle.std.proofs.lemmas.Bool.{cases_lt}
use Rattle.std.proofs.lemmas.List.{take_more, take_all}
use Rattle.std.proofs.lemmas.List.Sums.{sum_by_more}
use Rattle.std.proofs.lemmas.Option.{same_Some}
use Rattle.gml_lex.specs.declared.kinds.TokenKind.{TokenKind}
use Rattle.gml_lex.specs.declared.kinds.TokenKind.TheVariants as kind
use Rattle.gml_lex.specs.declared.kinds.Token.{Token}
use Rattle.gml_reader.specs.declared.grammar.Wanted.{Wanted}
use Rattle.gml_reader.specs.declared.grammar.Wanted.TheVariants as wanted
use Rattle.gml_reader.specs.Grammar.{done, IsFile, IsFront}
use Rattle.gml_reader.specs.Places.{is_left, is_right, is_left_kind, is_right_kind, lefts, rights, IsShallowTo, IsShallow, IsBadAt, IsDeepAt, IsCut}
use Rattle.gml_reader.specs.States.{after}
use Rattle.gml_reader.proofs.Ends.{Ends, ends_file, some_end, open_is_no_file, key_is_no_file}
use Rattle.gml_reader.proofs.ListSteps.{nothing}
use Rattle.gml_reader.proofs.Steps.{step_to, step_from, dead}

-- the tokens with such an end are a file, and nothing else completes them
pub record IsState (tokens : List Token) (w : Wanted) (d : ℕ) : Type 0 where
  pub to : (rest : List Token) → IsFile (tokens ++ rest) → Ends w d rest
  pub from : (rest : List Token) → Ends w d rest → IsFile (tokens ++ rest)

-- before the first token a whole file is to come
pub IsState-start : IsState [] wanted.KeyOrEnd zero
IsState-start = record { to = λ rest e. e; from = λ rest e. e }

-- a token more in front of the rest
joined : (tokens : List Token) (k : Token) (rest : List Token) → (tokens ++ k ∷ []) ++ rest ≡ tokens ++ (k ∷ rest)
joined tokens k rest = append_assoc tokens (k ∷ []) rest

-- after a token the state is the one that the rules name
pub IsState-push : (tokens : List Token) (w : Wanted) (d : ℕ) (k : Token) (p : Wanted × ℕ) → IsState tokens w d
    → after w d k.kind ≡ Some p → IsState (tokens ++ k ∷ []) p.0 p.1
IsState-push tokens w d k p s e = record {
  to = λ rest file. step_to w d k p rest e (s.to (k ∷ rest) (subst IsFile (joined tokens k rest) file));
  from = λ rest ends. subst IsFile (sym (joined tokens k rest)) (s.from (k ∷ rest) (step_from w d k p rest e ends));
}

-- in every state the tokens begin a file, since every state can be ended
pub front_of : (tokens : List Token) (w : Wanted) (d : ℕ) → IsState tokens w d → IsFront tokens
front_of tokens w d s =
    let ended = some_end w d in
    let file = s.from ended.0 ended.1 in
    record { more = ended.0; file = file.file; list = file.list; spelled_is = file.spelled_is }

-- with a token after which there is no state they begin none
pub no_front : (tokens : List Token) (w : Wanted) (d : ℕ) (k : Token) → IsState tokens w d → after w d k.kind ≡ None
    → IsFront (tokens ++ k ∷ []) → ⊥
no_front tokens w d k s e front =
    dead w d k front.more e (s.to (k ∷ front.more) (record {
      file = front.file;
      list = front.list;
      spelled_is = sym (joined tokens k front.more) ∙ front.spelled_is;
    }))

-- where nothing is open and a key is wanted they are a file
pub file_of : (tokens : List Token) → IsState tokens wanted.KeyOrEnd zero → IsFile tokens
file_of tokens s = subst IsFile (append-nil tokens) (s.from [] (ends_file done tt))

-- and where nothing at all doesn't end the state they are none
pub no_file : (tokens : List Token) (w : Wanted) (d : ℕ) → IsState tokens w d → (Ends w d [] → ⊥) → IsFile tokens → ⊥
no_file tokens w d s none file = none (s.to [] (subst IsFile (sym (append-nil tokens)) file))

-- ---- open lists
-- one token opens or closes at most one list
abbrev MovesBy : Wanted × ℕ → ℕ → TokenKind → Type 0
MovesBy p d k = p.1 + cond (is_right_kind k) 1 0 ≡ d + cond (is_left_kind k) 1 0

-- the number of open lists in a state that the rules name
depth_is : (w : Wanted) (n : ℕ) (p : Wanted × ℕ) → Some (w, n) ≡ Some p → p.1 ≡ n
depth_is w n p e = sym (ap (λ q. q.1) (same_Some (w, n) p e))

pub moves_by : (w : Wanted) (d : ℕ) (k : TokenKind) (p : Wanted × ℕ) → after w d k ≡ Some p → MovesBy p d k
moves_by wanted.KeyOrEnd d kind.Key p e = let n = depth_is wanted.Value d p e in omega (arith, n)
moves_by wanted.KeyOrEnd d kind.Integer p e = nothing p e
moves_by wanted.KeyOrEnd d kind.Real p e = nothing p e
moves_by wanted.KeyOrEnd d kind.Text p e = nothing p e
moves_by wanted.KeyOrEnd d kind.Left p e = nothing p e
moves_by wanted.KeyOrEnd zero kind.Right p e = nothing p e
moves_by wanted.KeyOrEnd (suc d) kind.Right p e = let n = depth_is wanted.KeyOrEnd d p e in omega (arith, n)
moves_by wanted.Value d kind.Key p e = nothing p e
moves_by wanted.Value d kind.Integer p e = let n = depth_is wanted.KeyOrEnd d p e in omega (arith, n)
moves_by wanted.Value d kind.Real p e = let n = depth_is wanted.KeyOrEnd d p e in omega (arith, n)
moves_by wanted.Value d kind.Text p e = let n = depth_is wanted.KeyOrEnd d p e in omega (arith, n)
moves_by wanted.Value d kind.Left p e = let n = depth_is wanted.KeyOrEnd (suc d) p e in omega (arith, n)
moves_by wanted.Value d kind.Right p e = nothing p e

-- what is known of so many tokens that were read: their state, no list too deep, and the open lists counted
pub record IsRead (tokens : List Token) (at : ℕ) (w : Wanted) (d : ℕ) : Type 0 where
  pub state : IsState (take at tokens) w d
  pub shallow : IsShallowTo at tokens
  pub few : d ≤ 32
  pub opened : d + rights (take at tokens) ≡ lefts (take at tokens)

-- none was read yet
pub IsRead-start : (tokens : List Token) → IsRead tokens 0 wanted.KeyOrEnd 0
IsRead-start tokens = record {
  state = IsState-start;
  shallow = λ i none. shallow_at i (omega (arith, none));
  few = omega arith;
  opened = refl;
}
  where
    shallow_at : (i : ℕ) → i ≡ 0 → lefts (take i tokens) ≤ 32 + rights (take i tokens)
    shallow_at zero e = omega arith
    shallow_at (suc i) e = absurd (omega (arith, e))

-- one token more is a Left, a Right or neither
lefts_more : (tokens : List Token) (at : ℕ) (none : Token) → at < length tokens
    → lefts (take (at + 1) tokens) ≡ lefts (take at tokens) + cond (is_left_kind (get_or tokens at none).kind) 1 0
lefts_more tokens at none within = sum_by_more (λ t. cond (is_left t) 1 0) tokens at none within

rights_more : (tokens : List Token) (at : ℕ) (none : Token) → at < length tokens
    → rights (take (at + 1) tokens) ≡ rights (take at tokens) + cond (is_right_kind (get_or tokens at none).kind) 1 0
rights_more tokens at none within = sum_by_more (λ t. cond (is_right t) 1 0) tokens at none within

-- one token more, after those that were read, after which the rules name a state
pub record IsNext (tokens : List Token) (at : ℕ) (none : Token) (w : Wanted) (d : ℕ) (v : Wanted) (n : ℕ) : Type 0 where
  pub inside : at < length tokens
  pub read : IsRead tokens at w d
  pub state : Some (v, n) ≡ after w d (get_or tokens at none).kind

module _ {tokens : List Token} {at : ℕ} {none : Token} {w : Wanted} {d : ℕ} {v : Wanted} {n : ℕ}
    (next : IsNext tokens at none w d v n) where
  -- that state is the one of the tokens with it
  state_more : IsState (take (at + 1) tokens) v n
  state_more =
      subst (λ ts. IsState ts v n) (sym (take_more tokens at none next.inside))
      (IsState-push (take at tokens) w d (get_or tokens at none) (v, n) (let r = next.read in r.state) (sym next.state))

  -- and it has as many open lists as Lefts without a Right
  open_more : n + rights (take (at + 1) tokens) ≡ lefts (take (at + 1) tokens)
  open_more =
      let moved = moves_by w d (get_or tokens at none).kind (v, n) (sym next.state) in
      let before : d + rights (take at tokens) ≡ lefts (take at tokens) = let r = next.read in r.opened in
      omega (arith, moved, lefts_more tokens at none next.inside, rights_more tokens at none next.inside, before)

-- so it is read, where it opens no list too deep
pub IsRead-more : {tokens : List Token} {at : ℕ} {none : Token} {w : Wanted} {d : ℕ} {v : Wanted} {n : ℕ}
    → IsNext tokens at none w d v n → n ≤ 32 → IsRead tokens (at + 1) v n
IsRead-more {tokens} {at} {none} {w} {d} {v} {n} next few =
    let r = next.read in
    record {
      state = state_more next;
      shallow = λ i upto. shallow_at r.shallow i upto (open_more next) (cases_lt i (at + 1));
      few = few;
      opened = open_more next;
    }
  where
    shallow_at : IsShallowTo at tokens → (i : ℕ) → i ≤ at + 1 → n + rights (take (at + 1) tokens) ≡ lefts (take (at + 1) tokens)
        → (i < at + 1) ⊎ (at + 1 ≤ i) → lefts (take i tokens) ≤ 32 + rights (take i tokens)
    shallow_at so_far i upto unclosed where_is =
        elim where_is [
          | inl before ↦ so_far i (omega (arith, before))
          | inr here ↦
              let same : i ≡ at + 1 = omega (arith, here, upto) in
              subst (λ j. lefts (take j tokens) ≤ 32 + rights (take j tokens)) (sym same) (omega (arith, unclosed, few))
        ]

-- a token after which there is no state is misplaced
pub bad_at : {tokens : List Token} {at : ℕ} (none : Token) {w : Wanted} {d : ℕ} → at < length tokens → IsRead tokens at w d
    → None ≡ after w d (get_or tokens at none).kind → IsBadAt tokens at
bad_at {tokens} {at} none {w} {d} within r e = record {
  inside = within;
  before = front_of (take at tokens) w d r.state;
  bad = λ front.
      no_front (take at tokens) w d (get_or tokens at none) r.state (sym e) (subst IsFront (take_more tokens at none within) front);
  shallow = r.shallow;
}

-- and one that opens a list at depth 33 is too deep, since a token opens one list at most
pub deep_at : {tokens : List Token} {at : ℕ} {none : Token} {w : Wanted} {d : ℕ} {v : Wanted} {n : ℕ}
    → IsNext tokens at none w d v n → 32 < n → IsDeepAt tokens at
deep_at {tokens} {at} {none} {w} {d} {v} {n} next over =
    let r = next.read in
    let moved = moves_by w d (get_or tokens at none).kind (v, n) (sym next.state) in
    let unclosed = open_more next in
    let one = at_most_one (is_left_kind (get_or tokens at none).kind) in
    let few : d ≤ 32 = r.few in
    record {
      inside = next.inside;
      before = front_of (take (at + 1) tokens) v n (state_more next);
      shallow = r.shallow;
      deep = omega (arith, moved, unclosed, one, few, over);
    }
  where
    at_most_one : (b : Bool) → cond b 1 0 ≤ 1
    at_most_one true = omega arith
    at_most_one false = omega arith

-- ---- all tokens were read
whole_state : {tokens : List Token} {at : ℕ} {w : Wanted} {d : ℕ} → length tokens ≤ at → IsRead tokens at w d → IsState tokens w d
whole_state {tokens} {at} {w} {d} end r = subst (λ ts. IsState ts w d) (take_all at tokens end) r.state

pub whole_shallow : {tokens : List Token} {at : ℕ} {w : Wanted} {d : ℕ} → length tokens ≤ at → IsRead tokens at w d → IsShallow tokens
whole_shallow end r = λ i upto. r.shallow i (omega (arith, end, upto))

file_at_end : (tokens : List Token) (d : ℕ) → IsState tokens wanted.KeyOrEnd d → d ≡ 0 → IsFile tokens
file_at_end tokens zero s e = file_of tokens s
file_at_end tokens (suc d) s e = absurd (omega (arith, e))

-- nothing is open and a key is wanted: they are a file
pub whole_file : {tokens : List Token} {at : ℕ} {w : Wanted} {d : ℕ} → length tokens ≤ at → IsRead tokens at w d → w ≡ wanted.KeyOrEnd
    → d ≡ 0 → IsFile tokens
whole_file {tokens} {at} {w} {d} end r key none =
    file_at_end tokens d (subst (λ v. IsState tokens v d) key (whole_state end r)) none

pub value_isnt_key : (w : Wanted) → w ≡ wanted.Value → w ≡ wanted.KeyOrEnd → ⊥
value_isnt_key w value key = cc

no_end : (w : Wanted) (d : ℕ) → (w ≡ wanted.KeyOrEnd → d ≡ 0 → ⊥) → Ends w d [] → ⊥
no_end wanted.KeyOrEnd zero more ends = more refl refl
no_end wanted.KeyOrEnd (suc d) more ends = open_is_no_file d ends
no_end wanted.Value d more ends = key_is_no_file d ends

-- else they are cut off
pub cut_end : {tokens : List Token} {at : ℕ} {w : Wanted} {d : ℕ} → length tokens ≤ at → IsRead tokens at w d
    → (w ≡ wanted.KeyOrEnd → d ≡ 0 → ⊥) → IsCut tokens
cut_end {tokens} {at} {w} {d} end r more =
    let s : IsState tokens w d = whole_state end r in
    record { front = front_of tokens w d s; cut = no_file tokens w d s (no_end w d more); shallow = whole_shallow end r }
