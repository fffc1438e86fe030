-- The first of all due visits, core by core.
use Rattle.std.proofs.Common.{◌≡◌, ◌⊎◌, inl, inr, ⊎_elim, ℕ, ◌+◌, ◌<◌, ◌≤◌, Bool, true, false, cond, List, [], ◌∷◌, length, Option, Some, None, slice_get, refl, sym, ap, ◌∙◌, subst, arith}
use Rattle.std.specs.Prelude.{IfSome, IfNone}
use Rattle.std.proofs.lemmas.Bool.{cases_lt}
use Rattle.std.proofs.lemmas.Option.{slice_get_within}
use Rattle.mn_base.specs.Among.{Among}
use Rattle.mn_base.specs.Canonical.{Before, is_before}
use Rattle.mn_base.specs.declared.due.Due.{Due}
use Rattle.deadline_heap.specs.Canonical.{IsCanonical}
use Rattle.pipe.proofs.CanonicalOrder.{before-irreflexive, before-asymmetric, before-transitive, not_before-transitive, is_before-true, is_before-false}
use Rattle.migrate.specs.ShelvesView.{ShelfView}
use Rattle.migrate.specs.declared.window.Head.{Head}
use Rattle.migrate.specs.Running.{IsHeadOf, IsHeadBelow, HaveNoneBelow, HaveNone, LeadsOn}

-- of the cores below a number
abbrev pub FirstBelow : List ShelfView → ℕ → Option Head → Type 0
FirstBelow shelves many None = HaveNoneBelow shelves many
FirstBelow shelves many (Some head) = IsHeadBelow shelves many head

-- what is due at a core is no earlier than its first
first-least : (due : List Due) → IsCanonical due → (x y : Due) → slice_get due 0 ≡ Some x → Among y due → Before y x → ⊥
first-least [] c x y e m b = absurd m
first-least (z ∷ due) c x y e (inl same) b =
    let first : z ≡ x = cc in
    before-irreflexive x (subst (λ (d : Due). Before d x) (sym same ∙ first) b)
first-least (z ∷ due) c x y e (inr m) b =
    let first : z ≡ x = cc in
    before-asymmetric x y (subst (λ (d : Due). Before d y) first (c.0 y m)) b

none-due : (due : List Due) → slice_get due 0 ≡ None → due ≡ []
none-due [] e = refl
none-due (z ∷ due) e = cc

-- with one core more
pub first-more : (shelves : List ShelfView) (many : ℕ) (s : ShelfView) → slice_get shelves many ≡ Some s → IsCanonical s.due
    → (head new : Option Head) (first : Option Due) → first ≡ slice_get s.due 0 → FirstBelow shelves many head
    → LeadsOn head many first new → FirstBelow shelves (many + 1) new
first-more shelves many s at order head new None is below leads =
    subst (FirstBelow shelves (many + 1)) (sym leads) (go head below)
  where
    empty : s.due ≡ []
    empty = none-due s.due (sym is)

    here : (core : ℕ) (t : ShelfView) (y : Due) → core < many + 1 → slice_get shelves core ≡ Some t → Among y t.due
        → (core < many) ⊎ (many ≤ core) → (core < many) ⊎ ⊥
    here core t y l e m (inl low) = inl low
    here core t y l e m (inr high) =
        let same : core ≡ many = omega (arith, l, high) in
        let both : Some t ≡ Some s = sym e ∙ ap (slice_get shelves) same ∙ at in
        let shelf : t ≡ s = cc in
        inr (subst (Among y) (ap (λ (u : ShelfView). u.due) shelf ∙ empty) m)

    go : (h : Option Head) → FirstBelow shelves many h → FirstBelow shelves (many + 1) h
    go None b = λ core t y l e m.
        ⊎_elim (λ low. b core t y low e m) (λ no. no) (here core t y l e m (cases_lt core many))
    go (Some h) b = record {
      shelf = b.shelf;
      there = b.there;
      first = b.first;
      least = λ core t y l e m before.
          ⊎_elim (λ low. b.least core t y low e m before) (λ no. no) (here core t y l e m (cases_lt core many));
    }
first-more shelves many s at order None new (Some x) is below leads =
    subst (FirstBelow shelves (many + 1)) (sym leads)
    (record { shelf = s; there = at; first = sym is; least = least })
  where
    least : (core : ℕ) (t : ShelfView) (y : Due) → core < many + 1 → slice_get shelves core ≡ Some t → Among y t.due → Before y x → ⊥
    least core t y l e m before = go (cases_lt core many)
      where
        go : (core < many) ⊎ (many ≤ core) → ⊥
        go (inl low) = below core t y low e m
        go (inr high) =
            let same : core ≡ many = omega (arith, l, high) in
            let both : Some t ≡ Some s = sym e ∙ ap (slice_get shelves) same ∙ at in
            let shelf : t ≡ s = cc in
            first-least s.due order x y (sym is) (subst (λ (u : ShelfView). Among y u.due) shelf m) before
first-more shelves many s at order (Some h) new (Some x) is below leads =
    subst (FirstBelow shelves (many + 1)) (sym leads) (go (is_before h.due x) refl)
  where
    mine : (core : ℕ) (t : ShelfView) (y : Due) → core < many + 1 → many ≤ core → slice_get shelves core ≡ Some t → Among y t.due
        → Among y s.due
    mine core t y l high e m =
        let same : core ≡ many = omega (arith, l, high) in
        let both : Some t ≡ Some s = sym e ∙ ap (slice_get shelves) same ∙ at in
        let shelf : t ≡ s = cc in
        subst (λ (u : ShelfView). Among y u.due) shelf m

    go : (b : Bool) → is_before h.due x ≡ b
        → FirstBelow shelves (many + 1) (cond b (Some h) (Some (record { core = many; due = x })))
    go true e = record { shelf = below.shelf; there = below.there; first = below.first; least = least }
      where
        least : (core : ℕ) (t : ShelfView) (y : Due) → core < many + 1 → slice_get shelves core ≡ Some t → Among y t.due
            → Before y h.due → ⊥
        least core t y l f m before = ⊎_elim
            (λ low. below.least core t y low f m before)
            (λ high. first-least s.due order x y (sym is) (mine core t y l high f m)
            (before-transitive y h.due x before (is_before-true h.due x e))) (cases_lt core many)
    go false e = record { shelf = s; there = at; first = sym is; least = least }
      where
        least : (core : ℕ) (t : ShelfView) (y : Due) → core < many + 1 → slice_get shelves core ≡ Some t → Among y t.due
            → Before y x → ⊥
        least core t y l f m before = ⊎_elim
            (λ low. not_before-transitive x h.due y (is_before-false h.due x e) (below.least core t y low f m) before)
            (λ high. first-least s.due order x y (sym is) (mine core t y l high f m) before) (cases_lt core many)

-- of all cores
pub first-whole : (shelves : List ShelfView) (many : ℕ) (head : Option Head) → length shelves ≤ many → FirstBelow shelves many head
    → IfSome head (IsHeadOf shelves)
first-whole shelves many None all below = tt
first-whole shelves many (Some h) all below = record {
  shelf = below.shelf;
  there = below.there;
  first = below.first;
  least = λ core t y e m.
      below.least core t y (let l = slice_get_within shelves core t e in omega (arith, l, all)) e m;
}

pub none-whole : (shelves : List ShelfView) (many : ℕ) (head : Option Head) → length shelves ≤ many → FirstBelow shelves many head
    → IfNone head (HaveNone shelves)
none-whole shelves many None all below = λ core t y e m.
    below core t y (let l = slice_get_within shelves core t e in omega (arith, l, all)) e m
none-whole shelves many (Some h) all below = tt

pub none-first : (shelves : List ShelfView) → FirstBelow shelves 0 None
none-first shelves = λ core t y l e m. omega (arith, l)
