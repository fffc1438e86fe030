-- The changes of a setup are put into lists, pipe by pipe.
use Rattle.std.proofs.Common.{◌≡◌, ◌≢◌, ◌⊎◌, inl, inr, ℕ, zero, suc, ◌+◌, ◌<◌, ◌≤◌, ◌==◌, List, [], ◌∷◌, ◌++◌, length, map, filter, take, replicate, get_or, set, append-nil, get_or-set_same, get_or-set_other, length-set, refl, sym, ap, ◌∙◌, subst, arith, eq-eqb, Vec, Global}
use Rattle.std.proofs.lemmas.Bool.{cases_eq, ne_eqb}
use Rattle.std.proofs.lemmas.List.{get_or-map, get_or-replicate, length-map, length-replicate, map-append, map-set, take_more, take_all}
use Rattle.std.proofs.lemmas.List.Elements.{filter-append}
use Rattle.mn_base.specs.declared.params.PipeParams.{PipeParams}
use Rattle.journal.specs.declared.setup.PipeChange.{PipeChange}
use Rattle.journal.specs.SetupView.{SetupView, changes_of}
use Rattle.journal.specs.IsSetup.{IsSetup}
use Rattle.journal.specs.PipeChanges.{AreChangesOf}

-- a change of a pipe, without the pipe
abbrev pub timed : PipeChange → ℕ × PipeParams
timed c = (c.tick, c.params)

-- the setup with its first so many changes
abbrev pub front_of : SetupView → ℕ → SetupView
front_of S n = record S { changes = take n S.changes }

-- at first no pipe has a change
pub changes-none : (S : SetupView) (lists : List (List (ℕ × PipeParams))) → lists ≡ replicate (length S.pipes) []
    → AreChangesOf (front_of S 0) lists
changes-none S lists is = record {
  count = ap length is ∙ length-replicate (length S.pipes) [];
  each = λ pipe d within.
      let inside : pipe < length S.pipes = omega (arith, ap length is ∙ length-replicate (length S.pipes) []) in
      ap (λ (ls : List (List (ℕ × PipeParams))). get_or ls pipe d) is ∙ get_or-replicate (length S.pipes) pipe [] d inside;
}

-- a change is put after those of its own pipe, and no other pipe has it
pub changes-more : (S : SetupView) (n : ℕ) (lists more : List (List (ℕ × PipeParams))) (c d : PipeChange) (own : List (ℕ × PipeParams))
    → AreChangesOf (front_of S n) lists → n < length S.changes → c ≡ get_or S.changes n d → c.pipe < length lists
    → own ≡ get_or lists c.pipe own → more ≡ set lists c.pipe (own ++ timed c ∷ [])
    → AreChangesOf (front_of S (n + 1)) more
changes-more S n lists more c d own are within read named own_is written = record {
  count = ap length written ∙ length-set lists c.pipe (own ++ timed c ∷ []) ∙ are.count;
  each = λ pipe e inside. ap (λ (ls : List (List (ℕ × PipeParams))). get_or ls pipe e) written ∙ go pipe e (omega (arith, longer)) (cases_eq pipe c.pipe);
}
  where
    longer : length more ≡ length lists
    longer = ap length written ∙ length-set lists c.pipe (own ++ timed c ∷ [])

    front : take (n + 1) S.changes ≡ take n S.changes ++ c ∷ []
    front = take_more S.changes n d within ∙ ap (λ x. take n S.changes ++ x ∷ []) (sym read)

    -- the changes of a pipe with this one more
    split : (pipe : ℕ) → changes_of (front_of S (n + 1)) pipe
        ≡ changes_of (front_of S n) pipe ++ map timed (filter (λ x. x.pipe == pipe) (c ∷ []))
    split pipe =
        ap (λ xs. map timed (filter (λ x. x.pipe == pipe) xs)) front
        ∙ ap (map timed) (filter-append (λ (x : PipeChange). x.pipe == pipe) (take n S.changes) (c ∷ []))
        ∙ map-append timed (filter (λ x. x.pipe == pipe) (take n S.changes)) (filter (λ x. x.pipe == pipe) (c ∷ []))

    its_own : (pipe : ℕ) → c.pipe ≡ pipe → filter (λ (x : PipeChange). x.pipe == pipe) (c ∷ []) ≡ c ∷ []
    its_own pipe same = rw (eq-eqb c.pipe pipe same)

    no_other : (pipe : ℕ) → c.pipe ≢ pipe → filter (λ (x : PipeChange). x.pipe == pipe) (c ∷ []) ≡ []
    no_other pipe other = rw (ne_eqb c.pipe pipe other)

    go : (pipe : ℕ) (e : List (ℕ × PipeParams)) → pipe < length lists → (pipe ≡ c.pipe) ⊎ (pipe ≡ c.pipe → ⊥)
        → get_or (set lists c.pipe (own ++ timed c ∷ [])) pipe e ≡ changes_of (front_of S (n + 1)) pipe
    go pipe e inside (inl here) =
        ap (λ k. get_or (set lists c.pipe (own ++ timed c ∷ [])) k e) here
        ∙ get_or-set_same lists c.pipe (own ++ timed c ∷ []) e named
        ∙ ap (λ xs. xs ++ timed c ∷ []) (own_is ∙ are.each c.pipe own named ∙ ap (changes_of (front_of S n)) (sym here))
        ∙ ap (λ xs. changes_of (front_of S n) pipe ++ map timed xs) (sym (its_own pipe (sym here)))
        ∙ sym (split pipe)
    go pipe e inside (inr there) =
        get_or-set_other lists c.pipe pipe (own ++ timed c ∷ []) e there
        ∙ are.each pipe e inside
        ∙ sym (append-nil (changes_of (front_of S n) pipe))
        ∙ ap (λ xs. changes_of (front_of S n) pipe ++ map timed xs) (sym (no_other pipe (λ same. there (sym same))))
        ∙ sym (split pipe)

-- once all changes are put in, the lists are those of the setup
pub changes-all : (S : SetupView) (n : ℕ) (lists : List (List (ℕ × PipeParams))) → AreChangesOf (front_of S n) lists
    → length S.changes ≤ n → AreChangesOf S lists
changes-all S n lists are all =
    subst (λ xs. AreChangesOf (record S { changes = xs }) lists) (take_all n S.changes all) are

-- ---- the lists as vectors

abbrev pub Changes : Type 0
Changes = Vec (ℕ × PipeParams) Global

abbrev pub items_of : List Changes → List (List (ℕ × PipeParams))
items_of lists = map (λ list. list.items) lists

-- one more empty list
pub empty-more : (lists more : List Changes) (new : Changes) (n : ℕ) → items_of lists ≡ replicate n [] → more ≡ lists ++ new ∷ []
    → new.items ≡ [] → items_of more ≡ replicate (n + 1) []
empty-more lists more new n empty pushed none =
    ap items_of pushed ∙ map-append (λ (list : Changes). list.items) lists (new ∷ [])
    ∙ ap (λ xs. xs ++ new.items ∷ []) empty ∙ ap (λ x. replicate n [] ++ x ∷ []) none ∙ replicate-more n
    ∙ ap (λ k. replicate k []) (let more : suc n ≡ n + 1 = omega arith in more)
  where
    replicate-more : (k : ℕ) → replicate k [] ++ [] ∷ [] ≡ replicate {A = List (ℕ × PipeParams)} (suc k) []
    replicate-more zero = refl
    replicate-more (suc k) = ap (λ xs. [] ∷ xs) (replicate-more k)

-- a change of the setup is of a pipe that has a list
pub named-list : (S : SetupView) → IsSetup S → (n : ℕ) (lists : List Changes) (c : PipeChange)
    → AreChangesOf (front_of S n) (items_of lists) → n < length S.changes → c ≡ get_or S.changes n c → c.pipe < length lists
named-list S is n lists c are within read =
    let named = is.changes_named n c within in
    omega (arith, named, ap (λ (x : PipeChange). x.pipe) read, are.count, length-map lists (λ (list : Changes). list.items))

pub put-more : {S : SetupView} → IsSetup S → {n : ℕ} (lists : List Changes) {c : PipeChange} {own : Changes} (new : Changes)
    → AreChangesOf (front_of S n) (items_of lists) → n < length S.changes → c ≡ get_or S.changes n c
    → own ≡ get_or lists c.pipe own → new.items ≡ own.items ++ timed c ∷ []
    → AreChangesOf (front_of S (n + 1)) (items_of (set lists c.pipe new))
put-more {S} is {n} lists {c} {own} new are within read own_is pushed =
    let named = named-list S is n lists c are within read in
    changes-more S n (items_of lists) (items_of (set lists c.pipe new)) c c own.items are within read
    (omega (arith, named, length-map lists (λ (list : Changes). list.items)))
    (ap (λ (list : Changes). list.items) own_is ∙ sym (get_or-map (λ (list : Changes). list.items) lists c.pipe own own.items named))
    (map-set (λ (list : Changes). list.items) lists c.pipe new ∙ ap (set (items_of lists) c.pipe) pushed)

-- what is taken out of the lists at a pipe's number are its changes
pub taken-own : (lists : List Changes) (number : ℕ) (taken there : Changes) (own : List (ℕ × PipeParams)) → taken ≡ there
    → there ≡ get_or lists number there → number < length lists → get_or (items_of lists) number [] ≡ own → taken.items ≡ own
taken-own lists number taken there own same read within is =
    ap (λ (list : Changes). list.items) (same ∙ read)
    ∙ sym (get_or-map (λ (list : Changes). list.items) lists number there [] within) ∙ is

-- and those of the pipes after stay
pub others-stay : (lists : List Changes) (number pipe : ℕ) (new : Changes) (d : List (ℕ × PipeParams)) → pipe ≢ number
    → get_or (items_of (set lists number new)) pipe d ≡ get_or (items_of lists) pipe d
others-stay lists number pipe new d other =
    ap (λ ls. get_or ls pipe d) (map-set (λ (list : Changes). list.items) lists number new)
    ∙ get_or-set_other (items_of lists) number pipe new.items d other
