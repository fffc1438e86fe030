-- The rows of arcs by the node that they lead to, filled arc by arc.
use Rattle.std.proofs.Common.{◌≡◌, ℕ, suc, zero, ◌+◌, ◌<◌, inl, inr, List, [], ◌∷◌, ◌++◌, length, get_or, set, Vec, Global, refl, sym, ap, subst, ◌∙◌, arith, length-set}
use Rattle.std.specs.List.{All}
use Rattle.std.proofs.lemmas.Bool.{cases_eq}
use Rattle.std.proofs.lemmas.List.{get_or-set_same, get_or-set_other, get_or-map, map-set}
use Rattle.std.proofs.lemmas.List.Elements.{All-head, All-tail}
use Rattle.mn_base.specs.Among.{Among}
use Rattle.mn_base.proofs.Members.{Among-append, Among-append-left, Among-last}
use Rattle.routes.specs.declared.graph.Arc.{Arc}
use Rattle.routes.specs.GraphView.{GraphView, IsWithinLimits}
use Rattle.routes.specs.Walk.{no_arc, arc_at}
use Rattle.routes.specs.Search.{IsInto, IsIncoming, lists_of}

-- the row has exactly the first n arcs into u
pub record IsIntoBefore (arcs : List Arc) (n u : ℕ) (row : List ℕ) : Type 0 where
  pub all : (e : ℕ) → e < n → (arc_at arcs e).to ≡ u → Among e row
  pub below : (e : ℕ) → Among e row → e < n
  pub to : (e : ℕ) → Among e row → (arc_at arcs e).to ≡ u

-- each row has the first n arcs into its node
pub record HasFirst (g : GraphView) (n : ℕ) (rows : List (List ℕ)) : Type 0 where
  pub len : length rows ≡ g.nodes
  pub rows_are : (u : ℕ) → u < g.nodes → IsIntoBefore g.arcs n u (get_or rows u [])

-- where all rows are empty, each is
empty_at : (rows : List (Vec ℕ Global)) → All (λ (row : Vec ℕ Global). row.items ≡ []) rows → (u : ℕ) → get_or (lists_of rows) u [] ≡ []
empty_at [] all u = refl
empty_at (r ∷ rs) all zero = All-head (λ (row : Vec ℕ Global). row.items ≡ []) r rs all
empty_at (r ∷ rs) all (suc u) = empty_at rs (All-tail (λ (row : Vec ℕ Global). row.items ≡ []) r rs all) u

-- as many lists as vectors
length-lists_of : (rows : List (Vec ℕ Global)) → length (lists_of rows) ≡ length rows
length-lists_of [] = refl
length-lists_of (r ∷ rs) = ap suc (length-lists_of rs)

-- at the start no arc has its place
pub none_yet : (g : GraphView) (rows : List (Vec ℕ Global)) → length rows ≡ g.nodes → All (λ (row : Vec ℕ Global). row.items ≡ []) rows
    → HasFirst g 0 (lists_of rows)
none_yet g rows len all =
    record {
      len = length-lists_of rows ∙ len;
      rows_are = λ u low.
          subst
          (λ (row : List ℕ). IsIntoBefore g.arcs 0 u row)
          (sym (empty_at rows all u))
          (record { all = λ e below to. absurd (omega arith); below = λ e there. absurd there; to = λ e there. absurd there });
    }

-- the arc n goes to the end of its row
pub one_more : (g : GraphView) (n : ℕ) (rows rows' : List (List ℕ)) → HasFirst g n rows → (arc_at g.arcs n).to < g.nodes
    → rows' ≡ set rows (arc_at g.arcs n).to (get_or rows (arc_at g.arcs n).to [] ++ n ∷ [])
    → HasFirst g (n + 1) rows'
one_more g n rows rows' on low is =
    record {
      len = ap length is ∙ length-set rows t (old ++ n ∷ []) ∙ on.len;
      rows_are = λ u place.
          subst
          (λ (rs : List (List ℕ)). IsIntoBefore g.arcs (n + 1) u (get_or rs u []))
          (sym is)
          (elim (cases_eq u t) [
            | inl here ↦
                subst
                (λ (v : ℕ). IsIntoBefore g.arcs (n + 1) v (get_or (set rows t (old ++ n ∷ [])) v []))
                (sym here)
                (subst
                (λ (row : List ℕ). IsIntoBefore g.arcs (n + 1) t row)
                (sym (get_or-set_same rows t (old ++ n ∷ []) [] in_rows))
                longer)
            | inr away ↦
                subst
                (λ (row : List ℕ). IsIntoBefore g.arcs (n + 1) u row)
                (sym (get_or-set_other rows t u (old ++ n ∷ []) [] away))
                (same u away (on.rows_are u place))
          ]);
    }
  where
    t : ℕ
    t = (arc_at g.arcs n).to

    old : List ℕ
    old = get_or rows (arc_at g.arcs n).to []

    in_rows : (arc_at g.arcs n).to < length rows
    in_rows = let len = on.len in omega arith

    longer : IsIntoBefore g.arcs (n + 1) t (old ++ n ∷ [])
    longer =
        let was = on.rows_are t low in
        record {
          all = λ e below to.
              elim (cases_eq e n) [
                | inl new ↦ subst (λ k. Among k (old ++ n ∷ [])) (sym new) (Among-last n old)
                | inr before ↦ Among-append-left e old (n ∷ []) (was.all e (omega arith) to)
              ];
          below = λ e there.
              elim (Among-append e old (n ∷ []) there) [
                | inl front ↦ (let below = was.below e front in omega arith)
                | inr back ↦ elim back [ inl here ↦ omega arith | inr never ↦ absurd never ]
              ];
          to = λ e there.
              elim (Among-append e old (n ∷ []) there) [
                | inl front ↦ was.to e front
                | inr back ↦ elim back [ inl here ↦ subst (λ k. (arc_at g.arcs k).to ≡ t) here refl | inr never ↦ absurd never ]
              ];
        }

    same : (u : ℕ) → (u ≡ t → ⊥) → IsIntoBefore g.arcs n u (get_or rows u []) → IsIntoBefore g.arcs (n + 1) u (get_or rows u [])
    same u away was =
        record {
          all = λ e below to.
              elim (cases_eq e n) [
                | inl new ↦ absurd (away (sym to ∙ ap (λ k. (arc_at g.arcs k).to) new))
                | inr before ↦ was.all e (omega arith) to
              ];
          below = λ e there. (let below = was.below e there in omega arith);
          to = was.to;
        }

-- at the end each has
pub all_rows : (g : GraphView) (n : ℕ) (rows : List (List ℕ)) → HasFirst g n rows → n ≡ length g.arcs → IsIncoming g rows
all_rows g n rows on done =
    record {
      len = on.len;
      rows_are = λ u low.
          let row = on.rows_are u low in
          record {
            all = λ e below to. row.all e (omega arith) to;
            below = λ e there. (let below = row.below e there in omega arith);
            to = row.to;
          };
    }

-- ---- the same in the code's lists
-- the number n is pushed to the row of the node that the arc n leads to
pub record Pushes (g : GraphView) (arcs : List Arc) (n : ℕ) (rows : List (Vec ℕ Global)) (row row' : Vec ℕ Global) : Type 0 where
  pub arcs_are : arcs ≡ g.arcs
  pub limits : IsWithinLimits g
  pub on : HasFirst g n (lists_of rows)
  pub below : n < length arcs
  pub read : row ≡ get_or rows (arc_at arcs n).to row
  pub pushed : row'.items ≡ row.items ++ n ∷ []

pub one_arc_more : {g : GraphView} {arcs : List Arc} {n : ℕ} {rows : List (Vec ℕ Global)} {row row' : Vec ℕ Global}
    → Pushes g arcs n rows row row' → HasFirst g (n + 1) (lists_of (set rows (arc_at arcs n).to row'))
one_arc_more {g} {arcs} {n} {rows} {row} {row'} step =
    subst
    (λ (as' : List Arc). HasFirst g (n + 1) (lists_of (set rows (arc_at as' n).to row')))
    (sym step.arcs_are)
    (one_more
    g
    n
    (lists_of rows)
    (lists_of (set rows (arc_at g.arcs n).to row'))
    step.on
    low
    (map-set (λ (r : Vec ℕ Global). r.items) rows (arc_at g.arcs n).to row'
    ∙ ap (λ (ns : List ℕ). set (lists_of rows) (arc_at g.arcs n).to ns) (step.pushed ∙ ap (λ (ns : List ℕ). ns ++ n ∷ []) (sym had))))
  where
    low : (arc_at g.arcs n).to < g.nodes
    low = (step.limits.arcs n no_arc (let below = step.below in let same = ap length step.arcs_are in omega arith)).to

    in_rows : (arc_at g.arcs n).to < length rows
    in_rows = let len = step.on.len in let same = length-lists_of rows in let place = low in omega arith

    had : get_or (lists_of rows) (arc_at g.arcs n).to [] ≡ row.items
    had =
        get_or-map (λ (r : Vec ℕ Global). r.items) rows (arc_at g.arcs n).to row [] in_rows
        ∙ ap
        (λ (r : Vec ℕ Global). r.items)
        (sym (subst (λ (as' : List Arc). row ≡ get_or rows (arc_at as' n).to row) step.arcs_are step.read))

-- the row that is read has the arcs into its node
pub row_into : {g : GraphView} (rows : List (Vec ℕ Global)) (u : ℕ) (row : Vec ℕ Global) → IsIncoming g (lists_of rows) → u < g.nodes
    → row ≡ get_or rows u row → IsInto g.arcs u row.items
row_into {g} rows u row incoming low read =
    subst
    (λ (ns : List ℕ). IsInto g.arcs u ns)
    (get_or-map
    (λ (r : Vec ℕ Global). r.items)
    rows
    u
    row
    []
    (let len = incoming.len in let same = length-lists_of rows in omega arith)
    ∙ ap (λ (r : Vec ℕ Global). r.items) (sym read))
    (incoming.rows_are u low)
