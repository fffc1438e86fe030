-- Cores that are turned one after the other.
use Rattle.std.proofs.Common.{◌≡◌, ◌⊎◌, inl, inr, ℕ, true, false, List, [], ◌∷◌, ◌++◌, refl, sym, ◌∙◌, subst}
use Rattle.world.specs.WorldView.{WorldView}
use Rattle.world.specs.Worlds.{WorldStands, WorldStillStands, TurnedTo, TurnedBy}

-- one turn more
pub turned-more : (order : List ℕ) (core : ℕ) (w m x : WorldView) → TurnedBy order w m → TurnedTo core m x → TurnedBy (order ++ core ∷ []) w x
turned-more [] core w m x same turned = (x, subst (λ (z : WorldView). TurnedTo core z x) same turned, refl)
turned-more (first ∷ order) core w m x rest turned = (rest.0, rest.1, turned-more order core rest.0 m x rest.2 turned)

-- a world that stood still and didn't fail stands still after what comes then
pub world-still-then : (w m x : WorldView) → m.failed ≡ false → WorldStillStands w m → WorldStillStands m x → WorldStillStands w x
world-still-then w m x works a b = λ bytes s. go bytes (a bytes s)
  where
    go : (bytes : List (List ℕ)) → (m.failed ≡ true) ⊎ WorldStands bytes m → (x.failed ≡ true) ⊎ WorldStands bytes x
    go bytes (inl f) = absurd (let e : true ≡ false = sym f ∙ works in cc)
    go bytes (inr s) = b bytes s
