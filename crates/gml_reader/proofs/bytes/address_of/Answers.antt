use Rattle.std.proofs.Common.{◌≡◌, ◌∷◌, ◌∙◌, sym, ap}
use Rattle.std.specs.List.{slice_split}
use Rattle.gml_lex.specs.Words.{is_point}
use Rattle.gml_reader.specs.Values.{address_part, joined, address_from, address_of}
use Rattle.gml_reader.proofs.Addresses.{last_part}
use Rattle.gml_reader.proofs.bytes.address_of.Goals as goal

-- three cuts give the first three parts and what stands after them
pub returns : goal.returns
unfolding address_of
returns c =
    let a = c.in_ok-a.a.now in
    let b = c.in_ok-b.b.now in
    let third = c.in_ok-c.c.now in
    let d = c.in_ok-c.d.now in
    let cut : slice_split is_point c.args.bytes.now ≡ a ∷ b ∷ third ∷ slice_split is_point d =
    c.in_ok-a.ensures ∙ ap (λ ps. a ∷ ps) (c.in_ok-b.ensures ∙ ap (λ ps. b ∷ ps) c.in_ok-c.ensures) in
    let parts : c.joined.result ≡ joined (address_part a) (address_part b) (address_part third) (address_part d) =
    cc (c.part.ensures, c.part-2.ensures, c.part-3.ensures, c.part-4.ensures, c.joined.ensures) in
    parts ∙ sym (ap address_from cut ∙ last_part a b third d)
