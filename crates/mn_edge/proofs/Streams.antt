-- What a call of a host in memory does to the part that it tells.
use Rattle.std.proofs.Common.{◌≡◌, ℕ, ◌≤◌, List, take, Some, Result, Ok, Err, MatchResult, IfOk, refl, sym, ap, subst, arith, take-append-drop}
use Rattle.mn_edge.specs.declared.fail.Op.{Op}
use Rattle.mn_edge.specs.declared.fail.Op.TheVariants.{Begin, Read, Write, Finish}
use Rattle.mn_edge.specs.declared.host.Failed.{Failed}
use Rattle.mn_edge.specs.StreamView.{StreamView, told_part, after_fault, after_begin, after_read, after_write, after_finish}
use Rattle.mn_edge.specs.Part.{Fails, Begins, Takes, Adds, Finishes}

-- a call that failed changed nothing but the counts
Fails-after : (op : Op) (old new : StreamView) → new ≡ after_fault op old → old.faults ≤ new.faults
    → Fails (told_part old) (told_part new)
Fails-after op old new after =
    let P : StreamView → Type 0 = λ stream. old.faults ≤ stream.faults → Fails (told_part old) (told_part stream) in
    subst P (sym after) (λ later. record { rose = omega arith; later = later; same = refl })

pub Begins-after : (text : List ℕ) (old new : StreamView) (result : Result (Unit {0}) Failed) → new ≡ after_begin text old result
    → old.faults ≤ new.faults
    → MatchResult result (λ _. Begins text (told_part old) (told_part new)) (λ _. Fails (told_part old) (told_part new))
Begins-after text old new (Ok _) after =
    let P : StreamView → Type 0 = λ stream. old.faults ≤ stream.faults → Begins text (told_part old) (told_part stream) in
    subst P (sym after) (λ later. record { later = later; same = refl })
Begins-after text old new (Err _) after = Fails-after Begin old new after

pub Takes-after : (buffer : List ℕ) (old new : StreamView) (result : Result ℕ Failed) → new ≡ after_read old result
    → old.faults ≤ new.faults
    → IfOk result (λ n. take n buffer ≡ take n old.left)
    → MatchResult result (λ n. Takes (take n buffer) (told_part old) (told_part new)) (λ _. Fails (told_part old) (told_part new))
Takes-after buffer old new (Ok n) after =
    let P : StreamView → Type 0 = λ stream. old.faults ≤ stream.faults → take n buffer ≡ take n old.left → Takes (take n buffer)
    (told_part old) (told_part stream) in
    subst P (sym after) (λ later bytes. record {
      later = later;
      taken = rw bytes
          (ap Some (sym (take-append-drop n old.left)));
      same = refl;
    })
Takes-after buffer old new (Err _) after = λ later _. Fails-after Read old new after later

pub Adds-after : (piece : List ℕ) (old new : StreamView) (result : Result ℕ Failed) → new ≡ after_write piece old result
    → old.faults ≤ new.faults
    → MatchResult result (λ n. Adds (take n piece) (told_part old) (told_part new)) (λ _. Fails (told_part old) (told_part new))
Adds-after piece old new (Ok n) after =
    let P : StreamView → Type 0 = λ stream. old.faults ≤ stream.faults → Adds (take n piece) (told_part old) (told_part stream) in
    subst P (sym after) (λ later. record { later = later; same = refl })
Adds-after piece old new (Err _) after = Fails-after Write old new after

pub Finishes-after : (old new : StreamView) (result : Result (Unit {0}) Failed) → new ≡ after_finish old result → old.faults ≤ new.faults
    → MatchResult result (λ _. Finishes (told_part old) (told_part new)) (λ _. Fails (told_part old) (told_part new))
Finishes-after old new (Ok _) after =
    let P : StreamView → Type 0 = λ stream. old.faults ≤ stream.faults → Finishes (told_part old) (told_part stream) in
    subst P (sym after) (λ later. record { later = later; same = refl })
Finishes-after old new (Err _) after = Fails-after Finish old new after
