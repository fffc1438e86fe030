-- How an average follows the list of visits.
use Rattle.std.proofs.Common.{◌≡◌, ℕ, List, [], ◌∷◌, ◌++◌, append-nil, append_assoc, sym, ap, ◌∙◌}
use Rattle.red_queue.specs.declared.params.RedParams.{RedParams}
use Rattle.red_queue.specs.Outcome.{RedPast, moved, average_from, average_of}

module _ (p : RedParams) (T : ℕ) where
  average_from-push : (average : ℕ) (front h : List RedPast) (v : RedPast)
      → average_from p T average front (h ++ v ∷ []) ≡ moved p T (front ++ h) (average_from p T average front h) v
  average_from-push average front [] v = ap (λ f. moved p T f average v) (sym (append-nil front))
  average_from-push average front (w ∷ h) v =
      average_from-push (moved p T front average w) (front ++ w ∷ []) h v
      ∙ ap (λ f. moved p T f (average_from p T (moved p T front average w) (front ++ w ∷ []) h) v) (append_assoc front (w ∷ []) h)

  -- one visit more moves the average once
  pub average-push : (h : List RedPast) (v : RedPast) → average_of p T (h ++ v ∷ []) ≡ moved p T h (average_of p T h) v
  average-push h v = average_from-push 0 [] h v
