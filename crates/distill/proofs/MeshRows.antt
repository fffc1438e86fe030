-- What is found for one destination, source by source.
use Rattle.std.proofs.Common.{◌≡◌, ℕ, ◌+◌, ◌<◌, ◌≤◌, inl, ⊎_elim, Bool, true, false, if◌then◌else◌, IsTrue, ◌↔◌, List, [], ◌∷◌, ◌++◌, length, take, get_or, Option, None, Some, refl, sym, ap, subst, ◌∙◌, arith, length-append}
use Rattle.std.specs.Option.{option_to_list}
use Rattle.std.proofs.lemmas.Bool.{false≢true}
use Rattle.std.proofs.lemmas.List.{map-append, take_more}
use Rattle.mn_base.specs.Among.{Among}
use Rattle.mn_base.proofs.Members.{Among-append-left, Among-append-right, Among-push}
use Rattle.topo.specs.declared.parts.Link.{Link}
use Rattle.routes.specs.declared.graph.Arc.{Arc}
use Rattle.distill.specs.declared.pipes.DistilledPipe.{DistilledPipe}
use Rattle.distill.specs.Mesh.{arcs_of, StandsForLeast}
use Rattle.distill.specs.PipeCount.{AreDistinct}
use Rattle.distill.specs.Rows.{IsSource, AreSources, HasSourceCount, IsRow, IsPipeFrom, starts_of}
use Rattle.distill.proofs.Distinct.{AreDistinct-append, not_before}

-- none at first
pub no_sources : (arcs : List Arc) (b : ℕ) → AreSources arcs [] b []
no_sources arcs b = record {
  among = λ a there. there;
  each = λ a there. absurd there;
  all = λ a there is. there;
  once = tt;
}

-- a node that is a source
pub one_source_more : (arcs : List Arc) (nodes : List ℕ) (b a : ℕ) (found : List ℕ) → ¬ Among a nodes → AreSources arcs nodes b found
    → IsSource arcs b a → AreSources arcs (nodes ++ a ∷ []) b (found ++ a ∷ [])
one_source_more arcs nodes b a found new s is = record {
  among = λ x there. ⊎_elim (λ old. Among-append-left x nodes (a ∷ []) (s.among x old))
      (λ (same : a ≡ x). Among-append-right x nodes (a ∷ []) (inl same)) (Among-push x found a there);
  each = λ x there. ⊎_elim (λ old. s.each x old) (λ (same : a ≡ x). subst (IsSource arcs b) same is) (Among-push x found a there);
  all = λ x there source. ⊎_elim (λ old. Among-append-left x found (a ∷ []) (s.all x old source))
      (λ (same : a ≡ x). Among-append-right x found (a ∷ []) (inl same)) (Among-push x nodes a there);
  once = AreDistinct-append found (a ∷ []) s.once ((λ none. none), tt)
      (λ x old here. ⊎_elim (λ (same : a ≡ x). new (s.among a (subst (λ z. Among z found) (sym same) old))) (λ none. none) here);
}

-- a node that is none
pub no_source_more : (arcs : List Arc) (nodes : List ℕ) (b a : ℕ) (found : List ℕ) → AreSources arcs nodes b found → ¬ IsSource arcs b a
    → AreSources arcs (nodes ++ a ∷ []) b found
no_source_more arcs nodes b a found s isnt = record {
  among = λ x there. Among-append-left x nodes (a ∷ []) (s.among x there);
  each = s.each;
  all = λ x there source. ⊎_elim (λ old. s.all x old source)
      (λ (same : a ≡ x). absurd (isnt (subst (IsSource arcs b) (sym same) source))) (Among-push x nodes a there);
  once = s.once;
}

pub no_source_count : (arcs : List Arc) (b : ℕ) → HasSourceCount arcs [] b 0
no_source_count arcs b = record { found = []; are = no_sources arcs b; count_is = refl }

-- the count with one node more
pub source_count_more : (arcs : List Arc) (nodes : List ℕ) (b a count : ℕ) (is : Bool) → ¬ Among a nodes
    → HasSourceCount arcs nodes b count → IsTrue is ↔ IsSource arcs b a
    → HasSourceCount arcs (nodes ++ a ∷ []) b (count + (if is then 1 else 0))
source_count_more arcs nodes b a count true new s iff = record {
  found = s.found ++ a ∷ [];
  are = one_source_more arcs nodes b a s.found new s.are (iff.0 refl);
  count_is = let had : count ≡ length s.found = s.count_is in omega (arith, length-append s.found (a ∷ []));
}
source_count_more arcs nodes b a count false new s iff = record {
  found = s.found;
  are = no_source_more arcs nodes b a s.found s.are (λ is. false≢true (iff.1 is));
  count_is = let had : count ≡ length s.found = s.count_is in omega arith;
}

append-nil : {X : Type 0} (xs : List X) → xs ++ [] ≡ xs
append-nil [] = refl
append-nil (x ∷ xs) = ap (λ l. x ∷ l) (append-nil xs)

-- ---- a pipe for each source
pub no_row : (tick_ns : ℕ) (middle : List Link) (b : ℕ) → IsRow tick_ns middle [] b []
no_row tick_ns middle b = record {
  starts = no_sources (arcs_of middle) b;
  ends = λ pipe there. absurd there;
  least = λ pipe there. absurd there;
}

starts_of-push : (row : List DistilledPipe) (pipe : DistilledPipe) (a : ℕ) → pipe.from ≡ a → starts_of (row ++ pipe ∷ []) ≡ starts_of row ++ a ∷ []
starts_of-push row pipe a from = map-append (λ (p : DistilledPipe). p.from) row (pipe ∷ []) ∙ ap (λ (x : ℕ). starts_of row ++ x ∷ []) from

-- the row with what was found for one source more
pub row_more : (tick_ns : ℕ) (middle : List Link) (nodes : List ℕ) (b a : ℕ) (row : List DistilledPipe) (found : Option DistilledPipe)
    → ¬ Among a nodes
    → IsRow tick_ns middle nodes b row → IsPipeFrom tick_ns middle a b found → IsRow tick_ns middle (nodes ++ a ∷ []) b (row ++ option_to_list found)
row_more tick_ns middle nodes b a row None new r isnt =
    subst (IsRow tick_ns middle (nodes ++ a ∷ []) b) (sym (append-nil row))
    (record { starts = no_source_more (arcs_of middle) nodes b a (starts_of row) r.starts isnt; ends = r.ends; least = r.least })
row_more tick_ns middle nodes b a row (Some pipe) new r (source, from, to, least) = record {
  starts = subst (AreSources (arcs_of middle) (nodes ++ a ∷ []) b) (sym (starts_of-push row pipe a from))
      (one_source_more (arcs_of middle) nodes b a (starts_of row) new r.starts source);
  ends = λ p there. ⊎_elim (λ old. r.ends p old)
      (λ (same : pipe ≡ p). sym (ap (λ (q : DistilledPipe). q.to) same) ∙ to) (Among-push p row pipe there);
  least = λ p there. ⊎_elim (λ old. r.least p old)
      (λ (same : pipe ≡ p). subst (StandsForLeast tick_ns middle) same least) (Among-push p row pipe there);
}

-- the same, where the nodes are those in front of a place and the one there
pub source_count_next : {arcs : List Arc} (nodes : List ℕ) {b : ℕ} (i d : ℕ) {count : ℕ} (is : Bool) → AreDistinct nodes → i < length nodes
    → HasSourceCount arcs (take i nodes) b count
    → IsTrue is ↔ IsSource arcs b (get_or nodes i d) → HasSourceCount arcs (take (i + 1) nodes) b (count + (if is then 1 else 0))
source_count_next {arcs} nodes {b} i d {count} is distinct within s iff =
    subst (λ (ns : List ℕ). HasSourceCount arcs ns b (count + (if is then 1 else 0))) (sym (take_more nodes i d within))
    (source_count_more arcs (take i nodes) b (get_or nodes i d) count is (not_before nodes i d distinct within) s iff)

-- so it is for rows
pub row_next : {tick_ns : ℕ} {middle : List Link} (nodes : List ℕ) {b : ℕ} (i d : ℕ) {row row' : List DistilledPipe}
    (found : Option DistilledPipe) → AreDistinct nodes → i < length nodes
    → IsRow tick_ns middle (take i nodes) b row → IsPipeFrom tick_ns middle (get_or nodes i d) b found → row' ≡ row ++ option_to_list found
    → IsRow tick_ns middle (take (i + 1) nodes) b row'
row_next {tick_ns} {middle} nodes {b} i d {row} {row'} found distinct within r is pushed =
    subst (λ (ns : List ℕ). IsRow tick_ns middle ns b row') (sym (take_more nodes i d within))
    (subst (IsRow tick_ns middle (take i nodes ++ get_or nodes i d ∷ []) b) (sym pushed)
    (row_more tick_ns middle (take i nodes) b (get_or nodes i d) row found (not_before nodes i d distinct within) r is))

pub one_or_none : (b : Bool) → (if b then 1 else 0) ≤ 1
one_or_none true = omega arith
one_or_none false = omega arith
