-- The results of a world that was turned until all its cores were done.
use Rattle.std.proofs.Common.{◌≡◌, ◌⊎◌, inl, inr, true, false, ℕ, List, Result, Ok, Err, IfOk, sym, ◌∙◌, subst}
use Rattle.journal.specs.SetupView.{SetupView}
use Rattle.parcel.specs.CoreResultView.{CoreResultView}
use Rattle.parcel.specs.Results.{AreResults}
use Rattle.world.specs.WorldView.{WorldView}
use Rattle.world.specs.Worlds.{WorldStands, WorldStillStands}

-- what a world stands for, it stands for after turns in which it didn't fail
pub stands_after : (bytes : List (List ℕ)) (w x : WorldView) → WorldStands bytes w → WorldStillStands w x → x.failed ≡ false → WorldStands bytes x
stands_after bytes w x stands still works = go (still bytes stands)
  where
    go : (x.failed ≡ true) ⊎ WorldStands bytes x → WorldStands bytes x
    go (inl failed) = let both : true ≡ false = sym failed ∙ works in absurd cc
    go (inr then) = then

-- the results are those of the setup and of the bytes for which the world stands
pub results_of : {V E : Type 0} (items : V → List CoreResultView) (r : Result V E) (S : SetupView) (bytes : List (List ℕ)) (w : WorldView)
    → WorldStands bytes w → w.setup ≡ S
    → IfOk r (λ v. (bs : List (List ℕ)) → WorldStands bs w → AreResults w.setup bs (items v)) → IfOk r (λ v. AreResults S bytes (items v))
results_of items (Ok v) S bytes w stands same all = subst (λ s. AreResults s bytes (items v)) same (all bytes stands)
results_of items (Err e) S bytes w stands same all = tt
