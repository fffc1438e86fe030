-- A visit that comes to be due is due here, or its owner is told.
use Rattle.std.proofs.Common.{◌≡◌, ◌⊎◌, ◌↔◌, inl, inr, ℕ, Result, Ok, Err, OnOk, sym, ◌∙◌, subst}
use Rattle.std.proofs.lemmas.Result.{on_ok_weaker}
use Rattle.mn_base.specs.Among.{Among}
use Rattle.mn_base.specs.declared.due.Due.{Due}
use Rattle.journal.specs.Hops.{pipe_of}
use Rattle.parcel.specs.declared.note.Note.TheVariants.{Arrive}
use Rattle.parcel.specs.Owners.{owner_of}
use Rattle.deadline_heap.specs.Canonical.{placed}
use Rattle.core_loop.specs.Work.{WorkView, Announces, Tells}

-- two facts at Ok
pub both-ok : {X E : Type 0} {P Q R : Type 0} (r : Result X E) → (P → Q → R) → OnOk r P → OnOk r Q → OnOk r R
both-ok (Ok x) f p q = f p q
both-ok (Err e) f p q = p

pub due-here : {X E : Type 0} (r : Result X E) (v w : WorkView) (x : Due) (owner : ℕ) → owner ≡ owner_of v.setup (pipe_of v.setup x)
    → owner ≡ v.number
    → OnOk r ((y : Due) → Among y w.heap ↔ ((x ≡ y) ⊎ Among y v.heap))
    → OnOk r (w ≡ record v { heap = placed x v.heap })
    → OnOk r (Announces v x w)
due-here r v w x owner is own members same =
    both-ok r (λ m s. inl (record { own = sym is ∙ own; members = m; same = s })) members same

pub due-elsewhere : {X E : Type 0} (r : Result X E) (v w : WorkView) (x : Due) (owner : ℕ) → owner ≡ owner_of v.setup (pipe_of v.setup x)
    → (owner ≡ v.number → ⊥)
    → OnOk r (Tells v owner (Arrive x.packet x.hop x.tick) w)
    → OnOk r (Announces v x w)
due-elsewhere r v w x owner is other tells = on_ok_weaker r told tells
  where
    told : Tells v owner (Arrive x.packet x.hop x.tick) w → Announces v x w
    told t = inr (record {
      other = λ own. other (is ∙ own);
      tells = subst (λ (k : ℕ). Tells v k (Arrive x.packet x.hop x.tick) w) is t;
    })
