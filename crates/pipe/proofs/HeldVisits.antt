-- What is held with indexes, as a list of due visits without them.
use Rattle.std.proofs.Common.{◌≡◌, ◌⊎◌, inl, inr, ⊎_elim, ℕ, List, [], ◌∷◌, ◌++◌, map, Option, Some, None, refl, sym, ap, ◌∙◌, subst}
use Rattle.std.specs.Prelude.{◌↔◌}
use Rattle.mn_base.specs.Among.{Among}
use Rattle.mn_base.specs.declared.due.Due.{Due}
use Rattle.mn_base.specs.Canonical.{Before}
use Rattle.mn_base.proofs.Members.{Among-map, Among-from-map, Among-push, Among-last, Among-append-left}
use Rattle.pipe.specs.declared.due_visits.DueVisit.{DueVisit}
use Rattle.pipe.specs.HeldVisits.{plain, TakesVisit, PutsNext}
use Rattle.pipe.specs.Scheme.{TakesFirst, AddsNext}

-- members stay members without their indexes
pub plain-moved : (old new : List DueVisit) → ((w : DueVisit) → Among w old → Among w new) → (x : Due) → Among x (map plain old)
    → Among x (map plain new)
plain-moved old new into x a =
    let s = Among-from-map plain x old a in
    subst (λ (d : Due). Among d (map plain new)) s.2 (Among-map plain s.0 new (into s.0 s.1))

pub takes-plain : {old : List DueVisit} {first : DueVisit} {new : List DueVisit} → TakesVisit old first new
    → TakesFirst (map plain old) first.due (map plain new)
takes-plain {old} {first} {new} t = record { taken = λ y. (into y, out y); first = before }
  where
    into : (y : Due) → Among y (map plain old) → (first.due ≡ y) ⊎ Among y (map plain new)
    into y a =
        let s = Among-from-map plain y old a in
        ⊎_elim (λ e. inl (ap plain e ∙ s.2)) (λ b. inr (subst (λ (d : Due). Among d (map plain new)) s.2 (Among-map plain s.0 new b)))
        ((t.taken s.0).0 s.1)

    out : (y : Due) → (first.due ≡ y) ⊎ Among y (map plain new) → Among y (map plain old)
    out y (inl e) = subst (λ (d : Due). Among d (map plain old)) e (Among-map plain first old ((t.taken first).1 (inl refl)))
    out y (inr a) = plain-moved new old (λ w b. (t.taken w).1 (inr b)) y a

    before : (y : Due) → Among y (map plain new) → Before first.due y
    before y a = let s = Among-from-map plain y new a in subst (λ (d : Due). Before first.due d) s.2 (t.before s.0 s.1)

pub adds-plain : {next : Option Due} {index : ℕ} {old new : List DueVisit} → PutsNext next index old new
    → AddsNext next (map plain old) (map plain new)
adds-plain {next} {index} {old} {new} p y = (into, out)
  where
    into : Among y (map plain new) → (next ≡ Some y) ⊎ Among y (map plain old)
    into a =
        let s = Among-from-map plain y new a in
        ⊎_elim (λ b. inr (subst (λ (d : Due). Among d (map plain old)) s.2 (Among-map plain s.0 old b))) (λ c. inl (c.0 ∙ ap Some s.2))
        (p.comes s.0 s.1)

    out : (next ≡ Some y) ⊎ Among y (map plain old) → Among y (map plain new)
    out (inl e) = p.follows y e
    out (inr a) = plain-moved old new p.keeps y a

-- what follows a visit, put in or not
pub puts-some : {next : Option Due} {index : ℕ} {put : DueVisit} {old new : List DueVisit} → next ≡ Some put.due → put.index ≡ index
    → ((w : DueVisit) → Among w new ↔ ((put ≡ w) ⊎ Among w old)) → PutsNext next index old new
puts-some {next} {index} {put} {old} {new} is same adds = record {
  keeps = λ w a. (adds w).1 (inr a);
  comes = λ w a. ⊎_elim
      (λ e. inr (is ∙ ap (λ (u : DueVisit). Some u.due) e, ap (λ (u : DueVisit). u.index) (sym e) ∙ same))
      (λ b. inl b) ((adds w).0 a);
  follows = λ x e. let some : Some put.due ≡ Some x = sym is ∙ e in let due : put.due ≡ x = cc in
      subst (λ (d : Due). Among d (map plain new)) due (Among-map plain put new ((adds put).1 (inl refl)));
}

pub puts-none : {next : Option Due} {index : ℕ} {held : List DueVisit} → next ≡ None → PutsNext next index held held
puts-none {next} {index} {held} none = record {
  keeps = λ w a. a;
  comes = λ w a. inl a;
  follows = λ x e. clash x (sym none ∙ e);
}
  where
    clash : (x : Due) → None ≡ Some x → Among x (map plain held)
    clash x e = cc

-- the visit that is put after the others
pub pushed-among : (held : List DueVisit) (w other : DueVisit) → Among other (held ++ w ∷ []) ↔ ((w ≡ other) ⊎ Among other held)
pushed-among held w other = (
  λ a. ⊎_elim (λ b. inr b) (λ e. inl e) (Among-push other held w a),
  λ a. ⊎_elim (λ e. subst (λ v. Among v (held ++ w ∷ [])) e (Among-last w held)) (λ b. Among-append-left other held (w ∷ []) b) a,
)
