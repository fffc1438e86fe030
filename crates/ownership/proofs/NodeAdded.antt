-- A node that is added to what a core reaches, pipe by pipe of its row.
use Rattle.std.proofs.Common.{◌≡◌, ◌↔◌, ◌<◌, ◌+◌, ◌==◌, ◌⊎◌, inl, inr, ⊎_elim, ℕ, Bool, true, false, ◌||◌, List, [], ◌∷◌, length, get_or, Option, Result, Ok, Err, OnOk, refl, sym, ap, ◌∙◌, subst, arith}
use Rattle.std.proofs.lemmas.Bool.{cases_eq}
use Rattle.mn_base.specs.Among.{Among}
use Rattle.mn_base.proofs.Members.{Among-index, IndexOf, index_of}
use Rattle.mn_base.specs.declared.refusal.NoMemory.{NoMemory}
use Rattle.frontier.specs.NodeSets.{has, is_in}
use Rattle.ownership.specs.declared.reach.Reach.{Reach}
use Rattle.ownership.specs.Owners.{IsFree}
use Rattle.ownership.specs.Turning.{AddsIfFree, AddsNode}

-- a pipe that was put in since it is free
pub inserted_free : (result : Result (Unit {0}) NoMemory) (owners : List (Option ℕ)) (pipe : ℕ) (old new : List ℕ)
    → OnOk result ((k : ℕ) → Among k new ↔ ((pipe ≡ k) ⊎ Among k old)) → OnOk result (AddsIfFree owners pipe old new)
inserted_free (Ok u) owners pipe old new puts = record {
  from = λ k there. ⊎_elim (λ same. inr (sym same)) (λ before. inl before) ((puts k).0 there);
  kept = λ k before. (puts k).1 (inr before);
  added = λ free. (puts pipe).1 (inl refl);
}
inserted_free (Err e) owners pipe old new puts = tt

-- one that has an owner isn't free
pub nothing_added : (owners : List (Option ℕ)) (pipe : ℕ) (near : List ℕ) → (IsFree owners pipe → ⊥) → AddsIfFree owners pipe near near
nothing_added owners pipe near owned = record {
  from = λ k there. inl there;
  kept = λ k before. before;
  added = λ free. absurd (owned free);
}

-- the first i pipes of the row were put in, if they are free
pub record RowSoFar (start row : List ℕ) (owners : List (Option ℕ)) (i : ℕ) (near : List ℕ) : Type 0 where
  pub from : (k : ℕ) → Among k near → Among k start ⊎ Among k row
  pub kept : (k : ℕ) → Among k start → Among k near
  pub added : (j : ℕ) → j < i → IsFree owners (get_or row j 0) → Among (get_or row j 0) near

pub row_begun : (start row : List ℕ) (owners : List (Option ℕ)) → RowSoFar start row owners 0 start
row_begun start row owners = record {
  from = λ k there. inl there;
  kept = λ k before. before;
  added = λ j low. absurd (omega arith);
}

pub row_more : (start row : List ℕ) (owners : List (Option ℕ)) (i : ℕ) (now new : List ℕ) → i < length row
    → RowSoFar start row owners i now → AddsIfFree owners (get_or row i 0) now new → RowSoFar start row owners (i + 1) new
row_more start row owners i now new within had adds = record {
  from = λ k there.
      ⊎_elim (λ before. had.from k before)
      (λ (same : k ≡ get_or row i 0). inr (subst (λ n. Among n row) (sym same) (Among-index row i 0 within)))
      (adds.from k there);
  kept = λ k before. adds.kept k (had.kept k before);
  added = λ j low free.
      ⊎_elim
      (λ (same : j ≡ i). subst (λ n. Among (get_or row n 0) new) (sym same) (adds.added (subst (λ n. IsFree owners (get_or row n 0)) same free)))
      (λ (other : j ≡ i → ⊥). adds.kept (get_or row j 0) (had.added j (omega (arith, other, low)) free))
      (cases_eq j i);
}

-- the node is marked, and its whole row was put in
pub record NodeMarked (v : ℕ) (row : List ℕ) (owners : List (Option ℕ)) (old new : Reach) : Type 0 where
  pub marks : List Bool
  pub marks_are : new.nodes ≡ marks
  pub size : length marks ≡ length old.nodes
  pub marked : (u : ℕ) → has marks u ≡ (has old.nodes u || is_in u (v ∷ []))
  pub count : ℕ
  pub whole : length row ≡ count
  pub row_in : RowSoFar old.near row owners count new.near

-- then the node was added
pub node_added : (v : ℕ) (row : List ℕ) (owners : List (Option ℕ)) (old new : Reach) → NodeMarked v row owners old new → AddsNode v row owners old new
node_added v row owners old new is = record {
  size = ap length is.marks_are ∙ is.size;
  nodes = λ u. ap (λ (m : List Bool). has m u) is.marks_are ∙ is.marked u ∙ ap (λ (b : Bool). has old.nodes u || b) (or_false (v == u));
  from = is.row_in.from;
  kept = is.row_in.kept;
  added = λ unmarked k there free.
      let at : IndexOf k row = index_of k row there in
      let within : at.index < is.count = (let low = at.within in let whole = is.whole in omega (arith, low, whole)) in
      subst (λ n. Among n new.near) (at.here 0)
      (is.row_in.added at.index within (subst (λ n. IsFree owners n) (sym (at.here 0)) free));
}
  where
    or_false : (b : Bool) → (b || false) ≡ b
    or_false true = refl
    or_false false = refl
