-- The rows of pipes by the nodes at their ends, filled pipe by pipe.
use Rattle.std.proofs.Common.{◌≡◌, ◌⊎◌, ⊎_elim, ℕ, suc, zero, ◌+◌, ◌<◌, ◌==◌, inl, inr, true, false, ◌||◌, List, [], ◌∷◌, ◌++◌, length, get_or, set, Vec, Global, Option, Some, None, refl, sym, ap, subst, ◌∙◌, arith, length-set}
use Rattle.std.specs.Prelude.{slice_get}
use Rattle.std.specs.List.{All}
use Rattle.std.specs.Option.{option_map_or}
use Rattle.std.proofs.lemmas.Bool.{cases_eq, or_cases, or_left, or_right, eqb-true, eq-eqb, false≢true}
use Rattle.std.proofs.lemmas.Option.{slice_get_read, slice_get_within}
use Rattle.std.proofs.lemmas.List.{get_or-set_same, get_or-set_other, get_or-map, map-set, length-map}
use Rattle.std.proofs.lemmas.List.Elements.{All-head, All-tail}
use Rattle.mn_base.specs.Among.{Among}
use Rattle.mn_base.proofs.Members.{Among-append, Among-append-left, Among-last}
use Rattle.distill.specs.declared.pipes.DistilledPipe.{DistilledPipe}
use Rattle.distill.specs.Distilled.{DistilledView, IsPipeAmong, KeepsPipeLimits}
use Rattle.ownership.specs.Assignment.{is_end}
use Rattle.ownership.specs.Turning.{IsRowOf, AreRows, row_lists}

-- each row has exactly the numbers for which a fact holds
pub record HasRows (nodes : ℕ) (P : ℕ → ℕ → Type 0) (rows : List (List ℕ)) : Type 0 where
  pub len : length rows ≡ nodes
  pub all : (v q : ℕ) → v < nodes → P v q → Among q (get_or rows v [])
  pub only : (v q : ℕ) → v < nodes → Among q (get_or rows v []) → P v q

-- the first n pipes, at their ends
abbrev pub EndBefore : List DistilledPipe → ℕ → ℕ → ℕ → Type 0
EndBefore pipes n v q = (q < n) × (is_end pipes v q ≡ true)

-- a number more in one row
pub one_number_more : (nodes : ℕ) (P : ℕ → ℕ → Type 0) (rows : List (List ℕ)) (u n : ℕ) → HasRows nodes P rows → u < nodes
    → HasRows nodes (λ v q. P v q ⊎ ((v ≡ u) × (q ≡ n))) (set rows u (get_or rows u [] ++ n ∷ []))
one_number_more nodes P rows u n had low = record {
  len = length-set rows u (get_or rows u [] ++ n ∷ []) ∙ had.len;
  all = λ v q place either.
      ⊎_elim
      (λ (here : v ≡ u).
      subst (Among q) (sym (at_u v here))
      (⊎_elim
      (λ p. Among-append-left q (get_or rows u []) (n ∷ []) (subst (λ w. Among q (get_or rows w [])) here (had.all v q place p)))
      (λ both. subst (λ k. Among k (get_or rows u [] ++ n ∷ [])) (sym both.1) (Among-last n (get_or rows u [])))
      either))
      (λ (away : v ≡ u → ⊥).
      subst (Among q) (sym (get_or-set_other rows u v (get_or rows u [] ++ n ∷ []) [] away))
      (⊎_elim (λ p. had.all v q place p) (λ both. absurd (away both.0)) either))
      (cases_eq v u);
  only = λ v q place there.
      ⊎_elim
      (λ (here : v ≡ u).
      ⊎_elim
      (λ old. inl (had.only v q place (subst (λ w. Among q (get_or rows w [])) (sym here) old)))
      (λ new. elim new [ inl same ↦ inr (here, sym same) | inr never ↦ absurd never ])
      (Among-append q (get_or rows u []) (n ∷ []) (subst (Among q) (at_u v here) there)))
      (λ (away : v ≡ u → ⊥).
      inl (had.only v q place (subst (Among q) (get_or-set_other rows u v (get_or rows u [] ++ n ∷ []) [] away) there)))
      (cases_eq v u);
}
  where
    at_u : (v : ℕ) → v ≡ u → get_or (set rows u (get_or rows u [] ++ n ∷ [])) v [] ≡ get_or rows u [] ++ n ∷ []
    at_u v here =
        ap (λ w. get_or (set rows u (get_or rows u [] ++ n ∷ [])) w []) here
        ∙ get_or-set_same rows u (get_or rows u [] ++ n ∷ []) [] (let len = had.len in omega (arith, low))

-- facts that say the same
same_rows : (nodes : ℕ) (P Q : ℕ → ℕ → Type 0) (rows : List (List ℕ)) → ((v q : ℕ) → P v q → Q v q) → ((v q : ℕ) → Q v q → P v q)
    → HasRows nodes P rows → HasRows nodes Q rows
same_rows nodes P Q rows to from had = record {
  len = had.len;
  all = λ v q place fact. had.all v q place (from v q fact);
  only = λ v q place there. to v q (had.only v q place there);
}

-- both ends of pipe n
pub pipe_pushed : (pipes : List DistilledPipe) (n : ℕ) (pipe : DistilledPipe) (nodes : ℕ) (rows : List (List ℕ))
    → slice_get pipes n ≡ Some pipe
    → HasRows nodes (λ v q. (EndBefore pipes n v q ⊎ ((v ≡ pipe.from) × (q ≡ n))) ⊎ ((v ≡ pipe.to) × (q ≡ n))) rows
    → HasRows nodes (EndBefore pipes (n + 1)) rows
pipe_pushed pipes n pipe nodes rows is had =
    same_rows nodes (λ v q. (EndBefore pipes n v q ⊎ ((v ≡ pipe.from) × (q ≡ n))) ⊎ ((v ≡ pipe.to) × (q ≡ n)))
    (EndBefore pipes (n + 1)) rows to from had
  where
    to : (v q : ℕ) → (EndBefore pipes n v q ⊎ ((v ≡ pipe.from) × (q ≡ n))) ⊎ ((v ≡ pipe.to) × (q ≡ n)) → EndBefore pipes (n + 1) v q
    to v q (inl (inl before)) = let low : q < n = before.0 in (omega arith, before.1)
    to v q (inl (inr both)) =
        let same : q ≡ n = both.1 in (
          omega (arith, same),
          ap (is_end pipes v) same ∙ ap (λ (o : Option DistilledPipe). option_map_or (λ p. p.from == v || p.to == v) o false) is
              ∙ or_left (pipe.from == v) (pipe.to == v) (eq-eqb pipe.from v (sym both.0)),
        )
    to v q (inr both) =
        let same : q ≡ n = both.1 in (
          omega (arith, same),
          ap (is_end pipes v) same ∙ ap (λ (o : Option DistilledPipe). option_map_or (λ p. p.from == v || p.to == v) o false) is
              ∙ or_right (pipe.from == v) (pipe.to == v) (eq-eqb pipe.to v (sym both.0)),
        )

    from : (v q : ℕ) → EndBefore pipes (n + 1) v q → (EndBefore pipes n v q ⊎ ((v ≡ pipe.from) × (q ≡ n))) ⊎ ((v ≡ pipe.to) × (q ≡ n))
    from v q both =
        ⊎_elim
        (λ (same : q ≡ n).
        let ends : (pipe.from == v || pipe.to == v) ≡ true =
        sym (ap (λ (o : Option DistilledPipe). option_map_or (λ p. p.from == v || p.to == v) o false) is) ∙ ap (is_end pipes v) (sym same) ∙ both.1 in
        ⊎_elim
        (λ at_from. inl (inr (sym (eqb-true pipe.from v at_from), same)))
        (λ at_to. inr (sym (eqb-true pipe.to v at_to), same))
        (or_cases (pipe.from == v) (pipe.to == v) ends))
        (λ (other : q ≡ n → ⊥). let low : q < n + 1 = both.0 in inl (inl (omega (arith, other), both.1)))
        (cases_eq q n)

-- ---- at the start and at the end
empty_at : (rows : List (Vec ℕ Global)) → All (λ (row : Vec ℕ Global). row.items ≡ []) rows → (u : ℕ) → get_or (row_lists rows) u [] ≡ []
empty_at [] all u = refl
empty_at (r ∷ rs) all zero = All-head (λ (row : Vec ℕ Global). row.items ≡ []) r rs all
empty_at (r ∷ rs) all (suc u) = empty_at rs (All-tail (λ (row : Vec ℕ Global). row.items ≡ []) r rs all) u

pub none_yet : (pipes : List DistilledPipe) (nodes : ℕ) (rows : List (Vec ℕ Global)) → length rows ≡ nodes
    → All (λ (row : Vec ℕ Global). row.items ≡ []) rows → HasRows nodes (EndBefore pipes 0) (row_lists rows)
none_yet pipes nodes rows len all = record {
  len = length-map rows (λ (r : Vec ℕ Global). r.items) ∙ len;
  all = λ v q place before. (let low : q < 0 = before.0 in absurd (omega arith));
  only = λ v q place there. absurd (subst (Among q) (empty_at rows all v) there);
}

pub all_rows : (d : DistilledView) (ps : List DistilledPipe) (n : ℕ) (rows : List (List ℕ)) → ps ≡ d.pipes → n ≡ length ps
    → HasRows d.nodes (EndBefore ps n) rows → AreRows d rows
all_rows d ps n rows same done had = record {
  len = had.len;
  rows_are = λ v place. record {
    all = λ q ends.
        had.all v q place
        (within q v ends, subst (λ (xs : List DistilledPipe). is_end xs v q ≡ true) (sym same) ends);
    ends = λ q there. subst (λ (xs : List DistilledPipe). is_end xs v q ≡ true) same (had.only v q place there).1;
  };
}
  where
    within : (q v : ℕ) → is_end d.pipes v q ≡ true → q < n
    within q v ends = go (slice_get d.pipes q) refl ends
      where
        go : (o : Option DistilledPipe) → slice_get d.pipes q ≡ o → option_map_or (λ p. p.from == v || p.to == v) o false ≡ true → q < n
        go None is e = absurd (false≢true e)
        go (Some pipe) is e =
            let low : q < length d.pipes = slice_get_within d.pipes q pipe is in
            let len : length ps ≡ length d.pipes = ap length same in
            omega (arith, low, len, done)

-- ---- the same in the code's lists: a number is pushed to the row of a node
pub number_pushed : (nodes : ℕ) (P : ℕ → ℕ → Type 0) (rows : List (Vec ℕ Global)) (u n : ℕ) (row row' : Vec ℕ Global)
    → HasRows nodes P (row_lists rows) → u < nodes → row ≡ get_or rows u row → row'.items ≡ row.items ++ n ∷ []
    → HasRows nodes (λ v q. P v q ⊎ ((v ≡ u) × (q ≡ n))) (row_lists (set rows u row'))
number_pushed nodes P rows u n row row' had low read pushed =
    subst (λ (rs : List (List ℕ)). HasRows nodes (λ v q. P v q ⊎ ((v ≡ u) × (q ≡ n))) rs) (sym is)
    (one_number_more nodes P (row_lists rows) u n had low)
  where
    was : get_or (row_lists rows) u [] ≡ row.items
    was =
        get_or-map (λ (r : Vec ℕ Global). r.items) rows u row []
        (let len = had.len in omega (arith, low, length-map rows (λ (r : Vec ℕ Global). r.items)))
        ∙ ap (λ (r : Vec ℕ Global). r.items) (sym read)

    is : row_lists (set rows u row') ≡ set (row_lists rows) u (get_or (row_lists rows) u [] ++ n ∷ [])
    is =
        map-set (λ (r : Vec ℕ Global). r.items) rows u row'
        ∙ ap (λ (ns : List ℕ). set (row_lists rows) u ns) (pushed ∙ ap (λ (ns : List ℕ). ns ++ n ∷ []) (sym was))

-- the row that is read has the pipes at its node
pub row_of : (d : DistilledView) (rows : List (Vec ℕ Global)) (u : ℕ) (row : Vec ℕ Global) → AreRows d (row_lists rows) → u < d.nodes
    → row ≡ get_or rows u row → IsRowOf d.pipes u row.items
row_of d rows u row are low read =
    subst (λ (ns : List ℕ). IsRowOf d.pipes u ns)
    (get_or-map (λ (r : Vec ℕ Global). r.items) rows u row []
    (let len = are.len in omega (arith, low, length-map rows (λ (r : Vec ℕ Global). r.items)))
    ∙ ap (λ (r : Vec ℕ Global). r.items) (sym read))
    (are.rows_are u low)

-- pipe n is pushed to the row of its first end, and then to that of its second, which may be the same
pub record Pushes (d : DistilledView) (n : ℕ) (rows : List (Vec ℕ Global)) : Type 0 where
  pub keeps : KeepsPipeLimits d
  pub pipes : List DistilledPipe
  pub pipes_are : pipes ≡ d.pipes
  pub low : n < length pipes
  pub pipe : DistilledPipe
  pub pipe_is : pipe ≡ get_or pipes n pipe
  pub from_row : Vec ℕ Global
  pub from_row_is : from_row ≡ get_or rows pipe.from from_row
  pub from_row_after : Vec ℕ Global
  pub from_pushed : from_row_after.items ≡ from_row.items ++ n ∷ []
  pub to_row : Vec ℕ Global
  pub to_row_is : to_row ≡ get_or (set rows pipe.from from_row_after) pipe.to to_row
  pub to_row_after : Vec ℕ Global
  pub to_pushed : to_row_after.items ≡ to_row.items ++ n ∷ []

-- then the rows have one pipe more
pub both_pushed : (d : DistilledView) (n : ℕ) (rows : List (Vec ℕ Global)) (p : Pushes d n rows)
    → HasRows d.nodes (EndBefore d.pipes n) (row_lists rows)
    → HasRows d.nodes (EndBefore d.pipes (n + 1)) (row_lists (set (set rows p.pipe.from p.from_row_after) p.pipe.to p.to_row_after))
both_pushed d n rows p had =
    pipe_pushed d.pipes n p.pipe d.nodes (row_lists (set (set rows p.pipe.from p.from_row_after) p.pipe.to p.to_row_after)) at
    (number_pushed d.nodes (λ v q. EndBefore d.pipes n v q ⊎ ((v ≡ p.pipe.from) × (q ≡ n))) (set rows p.pipe.from p.from_row_after) p.pipe.to n
    p.to_row p.to_row_after
    (number_pushed d.nodes (EndBefore d.pipes n) rows p.pipe.from n p.from_row p.from_row_after had ends.from p.from_row_is p.from_pushed) ends.to
    p.to_row_is p.to_pushed)
  where
    within : n < length d.pipes
    within = let len : length p.pipes ≡ length d.pipes = ap length p.pipes_are in let low = p.low in omega (arith, len, low)

    read : p.pipe ≡ get_or d.pipes n p.pipe
    read = subst (λ (xs : List DistilledPipe). p.pipe ≡ get_or xs n p.pipe) p.pipes_are p.pipe_is

    at : slice_get d.pipes n ≡ Some p.pipe
    at = slice_get_read d.pipes (length d.pipes) n p.pipe refl within read

    ends : IsPipeAmong d.nodes p.pipe
    ends = subst (IsPipeAmong d.nodes) (sym read) (p.keeps.pipes n p.pipe within)
