-- Calls on one role, one after the other.
use Rattle.std.proofs.Common.{◌≡◌, ◌≤◌, ℕ, List, [], ◌++◌, None, Some, Option, Ok, Err, Result, refl, sym, ap, ◌∙◌, arith, append_assoc, append-nil}
use Rattle.std.specs.Io.KnownBytes.{prepend_known, append_known}
use Rattle.mn_edge.specs.declared.host.WriteFault.{WriteFault}
use Rattle.mn_edge.specs.Part.{Part, Takes, Adds}
use Rattle.mn_edge.specs.Whole.{AddsWhole, AddsFront}

-- what is put before known bytes in two steps is put there at once
pub prepend_known-prepend_known : (xs ys : List ℕ) (known : Option (List ℕ))
    → prepend_known xs (prepend_known ys known) ≡ prepend_known (xs ++ ys) known
prepend_known-prepend_known xs ys None = refl
prepend_known-prepend_known xs ys (Some zs) = simp append_assoc

-- what is put after known bytes in two steps is put there at once
pub append_known-append_known : (known : Option (List ℕ)) (xs ys : List ℕ)
    → append_known (append_known known xs) ys ≡ append_known known (xs ++ ys)
append_known-append_known None xs ys = refl
append_known-append_known (Some zs) xs ys = simp append_assoc

pub append_known-nil : (known : Option (List ℕ)) → append_known known [] ≡ known
append_known-nil None = refl
append_known-nil (Some zs) = ap Some (append-nil zs)

pub prepend_known-nil : (known : Option (List ℕ)) → prepend_known [] known ≡ known
prepend_known-nil None = refl
prepend_known-nil (Some zs) = refl

-- nothing was taken from a part that is as it was
pub Takes-nil : (p : Part) → Takes [] p p
Takes-nil p = let none = prepend_known-nil p.left in record { later = omega arith; taken = cc; same = refl }

-- two takes are one
pub Takes-append : (a b c : Part) (xs ys : List ℕ) → Takes xs a b → Takes ys b c → Takes (xs ++ ys) a c
Takes-append a b c xs ys first second =
    let joined = prepend_known-prepend_known xs ys c.left in
    record { later = omega arith; taken = cc; same = cc }

-- nothing was added to a part that is as it was
pub Adds-nil : (p : Part) → Adds [] p p
Adds-nil p = record {
  later = omega arith;
  same = ap (λ (bytes : Option (List ℕ)). record p { written = bytes })
      (sym (append_known-nil p.written));
}

-- two adds are one
pub Adds-append : (a b c : Part) (xs ys : List ℕ) → Adds xs a b → Adds ys b c → Adds (xs ++ ys) a c
Adds-append a b c xs ys first second =
    let joined = append_known-append_known a.written xs ys in
    record { later = omega arith; same = cc }

-- a role that was written to is as active as before
pub Adds-active : (a b : Part) (xs : List ℕ) → Adds xs a b → b.active ≡ a.active
Adds-active a b xs added = cc

-- a role from which bytes were taken is as active as before
pub Takes-active : (a b : Part) (xs : List ℕ) → Takes xs a b → b.active ≡ a.active
Takes-active a b xs taken = cc

-- a text that was written, and then a whole write
pub AddsWhole-then : (a b c : Part) (text more : List ℕ) (result : Result (Unit {0}) WriteFault) → Adds text a b
    → AddsWhole more b c result → AddsWhole (text ++ more) a c result
AddsWhole-then a b c text more (Ok _) first second = Adds-append a b c text more first second
AddsWhole-then a b c text more (Err _) first second =
    let cut = second.0 in (
      record {
        front = text ++ cut.front;
        rest = cut.rest;
        split = ap (λ bytes. text ++ bytes) cut.split ∙ sym (append_assoc text cut.front cut.rest);
        added = Adds-append a b c text cut.front first cut.added;
      },
      let later : a.faults ≤ b.faults = first.later in let rose = second.1 in omega arith,
    )

-- a whole write that failed leaves a longer text cut as well
pub AddsFront-append : (a b : Part) (text more : List ℕ) → AddsFront text a b → AddsFront (text ++ more) a b
AddsFront-append a b text more cut = record {
  front = cut.front;
  rest = cut.rest ++ more;
  split = ap (λ bytes. bytes ++ more) cut.split ∙ append_assoc cut.front cut.rest more;
  added = cut.added;
}
