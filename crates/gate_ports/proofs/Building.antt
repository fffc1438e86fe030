-- Lists of lanes' ends as they grow, one end or one row of ends at a time.
use Rattle.std.proofs.Common.{◌≡◌, ◌≢◌, ◌⊎◌, inl, inr, ℕ, zero, suc, ◌+◌, ◌<◌, List, [], ◌∷◌, ◌++◌, length, map, slice_index, slice_index_or, refl, sym, ap, subst, arith, get_or-set_same, get_or-set_other}
use Rattle.std.proofs.Math.ListN.{set, length-set}
use Rattle.std.proofs.Math.Seq.{get_or-append_seam}
use Rattle.std.proofs.lemmas.List.{get_or_append_left, length-append}
use Rattle.std.proofs.lemmas.Bool.{cases_order}
use Rattle.std.specs.Prelude.{Vec}
use Rattle.std.specs.declared.alloc.Global.{Global}
use Rattle.gate_ports.specs.GatePortsView.{EachAt}
use Rattle.journal.specs.SetupView.{SetupView}
use Rattle.gate_box.specs.EndView.{EndView}
use Rattle.gate_ports.specs.declared.lane_name.LaneName.{LaneName}
use Rattle.gate_ports.specs.Building.{EachBefore, EachFrom, IsIdle, HasSenders, HasReceivers}

module _ {X : Type 0} (P : ℕ → X → Type 0) (xs : List X) where
  -- one more element, at the end
  pub each_push : (x : X) → EachAt P xs → P (length xs) x → EachAt P (xs ++ x ∷ [])
  each_push x each last = λ j d within.
      let order : (j ≡ length xs) ⊎ ((j < length xs) ⊎ (length xs < j)) = cases_order j (length xs) in
      go j d within order
    where
      go : (j : ℕ) (d : X) → j < length (xs ++ x ∷ []) → (j ≡ length xs) ⊎ ((j < length xs) ⊎ (length xs < j))
          → P j (slice_index_or (xs ++ x ∷ []) j d)
      go j d within (inl e) =
          let at_end : P (length xs) (slice_index_or (xs ++ x ∷ []) (length xs) d) =
          subst (λ (y : X). P (length xs) y) (sym (get_or-append_seam xs x [] d)) last in
          subst (λ (n : ℕ). P n (slice_index_or (xs ++ x ∷ []) n d)) (sym e) at_end
      go j d within (inr (inl l)) = subst (λ (y : X). P j y) (sym (get_or_append_left xs (x ∷ []) d j l)) (each j d l)
      go j d within (inr (inr l)) = absurd (omega (arith, length-append xs (x ∷ []), within, l))

  -- the element at an index gets the fact, beside those before it
  pub before_set : (i : ℕ) (y : X) → EachBefore i P xs → P i y → EachBefore (i + 1) P (set xs i y)
  before_set i y before new = λ j d below within. go j d below within (cases_order j i)
    where
      go : (j : ℕ) (d : X) → j < i + 1 → j < length (set xs i y) → (j ≡ i) ⊎ ((j < i) ⊎ (i < j)) → P j (slice_index_or (set xs i y) j d)
      go j d below within (inl e) =
          let wide : i < length xs = omega (arith, length-set xs i y, within, e) in
          let at_i : P i (slice_index_or (set xs i y) i d) = subst (λ (z : X). P i z) (sym (get_or-set_same xs i y d wide)) new in
          subst (λ (n : ℕ). P n (slice_index_or (set xs i y) n d)) (sym e) at_i
      go j d below within (inr (inl l)) =
          let ne : j ≢ i = omega arith in
          let wide : j < length xs = omega (arith, length-set xs i y, within) in
          subst (λ (z : X). P j z) (sym (get_or-set_other xs i j y d ne)) (before j d l wide)
      go j d below within (inr (inr l)) = absurd (omega arith)

  -- those after it stay as they are
  pub from_set : (i : ℕ) (y : X) → EachFrom i P xs → EachFrom (i + 1) P (set xs i y)
  from_set i y from = λ j d behind within.
      let ne : j ≢ i = omega arith in
      let wide : j < length xs = omega (arith, length-set xs i y, within) in
      subst (λ (z : X). P j z) (sym (get_or-set_other xs i j y d ne)) (from j d (omega arith) wide)

-- a list that grows by one element has one more
pub longer : {X : Type 0} (xs ys : List X) (x : X) (n : ℕ) → length xs ≡ n → ys ≡ xs ++ x ∷ [] → length ys ≡ n + 1
longer {X = X} xs ys x n count more =
    let e : length ys ≡ length (xs ++ x ∷ []) = ap (λ (l : List X). length l) more in
    omega (arith, e, count, length-append xs (x ∷ []))

-- the next sender of a core
pub more_senders : (S : SetupView) (n core : ℕ) (v w : Vec (EndView LaneName) Global) (e : EndView LaneName)
    → HasSenders S n core v → w.items ≡ v.items ++ e ∷ [] → IsIdle S core n e
    → HasSenders S (n + 1) core w
more_senders S n core v w e has more idle =
    let P : ℕ → EndView LaneName → Type 0 = λ j x. IsIdle S core j x in
    let last : P (length v.items) e = subst (λ (k : ℕ). P k e) (sym has.count) idle in
    record {
      count = longer v.items w.items e n has.count more;
      each = subst (λ (l : List (EndView LaneName)). EachAt P l) (sym more) (each_push P v.items e has.each last);
    }

-- the next receiver of a core
pub more_receivers : (S : SetupView) (n core : ℕ) (v w : Vec (EndView LaneName) Global) (e : EndView LaneName)
    → HasReceivers S n core v → w.items ≡ v.items ++ e ∷ [] → IsIdle S n core e
    → HasReceivers S (n + 1) core w
more_receivers S n core v w e has more idle =
    let P : ℕ → EndView LaneName → Type 0 = λ j x. IsIdle S j core x in
    let last : P (length v.items) e = subst (λ (k : ℕ). P k e) (sym has.count) idle in
    record {
      count = longer v.items w.items e n has.count more;
      each = subst (λ (l : List (EndView LaneName)). EachAt P l) (sym more) (each_push P v.items e has.each last);
    }

-- where something is 0 of each element, it is 0 at each index
pub zeros : {X : Type 0} (f : X → ℕ) (xs : List X) → EachAt (λ j x. f x ≡ 0) xs → (j : ℕ) → slice_index (map f xs) j ≡ 0
zeros f [] each j = refl
zeros f (x ∷ xs) each zero = each 0 x (omega arith)
zeros f (x ∷ xs) each (suc j) = zeros f xs (λ k d within. each (suc k) d (omega (arith, within))) j
