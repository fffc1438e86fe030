-- A text is cut into pieces in one way.
use Rattle.std.proofs.Common.{◌≡◌, ℕ, List, [], ◌∷◌, drop, refl, sym, ◌∙◌, ap, subst, Some, None}
use Rattle.gml_lex.specs.declared.pieces.Piece.{Piece}
use Rattle.gml_lex.specs.Pieces.{piece_at, Pieces, place_after}
use Rattle.gml_lex.specs.Tokens.{tokens_of, NeverBoth, OneReading, OneFault}

pub piece_at-nil : piece_at [] ≡ None
unfolding piece_at
piece_at-nil = refl

same_piece : (text : List ℕ) (p q : Piece) → piece_at text ≡ Some p → piece_at text ≡ Some q → p ≡ q
same_piece text p q a b = cc

no_piece : (text : List ℕ) (p : Piece) → piece_at text ≡ None → piece_at text ≡ Some p → ⊥
no_piece text p a b = cc

-- two readings that end where no piece begins are one
pub Pieces-meet : (text : List ℕ) (ps qs : List Piece) (r s : List ℕ) → Pieces text ps r → Pieces text qs s → piece_at r ≡ None
    → piece_at s ≡ None → (ps ≡ qs) × (r ≡ s)
Pieces-meet text [] [] r s a b stuck_r stuck_s = (refl, sym a ∙ b)
Pieces-meet text [] (q ∷ qs) r s a b stuck_r stuck_s = absurd (no_piece text q (ap piece_at a ∙ stuck_r) b.0)
Pieces-meet text (p ∷ ps) [] r s a b stuck_r stuck_s = absurd (no_piece text p (ap piece_at b ∙ stuck_s) a.0)
Pieces-meet text (p ∷ ps) (q ∷ qs) r s a b stuck_r stuck_s =
    let same = same_piece text p q a.0 b.0 in
    let later = Pieces-meet (drop p.len text) ps qs r s a.1 (subst (λ x. Pieces (drop x.len text) qs s) (sym same) b.1) stuck_r stuck_s in
    (ap (λ x. x ∷ ps) same ∙ ap (λ xs. q ∷ xs) later.0, later.1)

pub never_both : NeverBoth
never_both text tokens place a b =
    b.more (sym (Pieces-meet text a.pieces b.pieces [] b.rest a.whole b.front piece_at-nil b.stuck).1)

pub one_reading : OneReading
one_reading text ts us a b =
    a.tokens_are ∙ ap (tokens_of 0) (Pieces-meet text a.pieces b.pieces [] [] a.whole b.whole piece_at-nil piece_at-nil).0
    ∙ sym b.tokens_are

pub one_fault : OneFault
one_fault text place other a b =
    a.place_is ∙ ap (place_after 0) (Pieces-meet text a.pieces b.pieces a.rest b.rest a.front b.front a.stuck b.stuck).0 ∙ sym b.place_is
