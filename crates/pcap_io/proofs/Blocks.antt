-- Texts that are written to one role through a block, one after the other.
use Rattle.std.proofs.Common.{◌≡◌, ◌≢◌, true, ℕ, ◌+◌, ◌<◌, List, [], ◌∷◌, ◌++◌, length, take, drop, get_or, Result, Ok, Err, sym, ap, subst, ◌∙◌, append_assoc, append-nil}
use Rattle.std.specs.List.{flat_map}
use Rattle.std.proofs.lemmas.List.{take_more, drop_more, take-append-drop}
use Rattle.std.proofs.lemmas.List.Concat.{flat_map-append, flat_map-cons}
use Rattle.mn_edge.specs.declared.host.WriteFault.{WriteFault}
use Rattle.mn_edge.specs.declared.role.Role.{Role}
use Rattle.mn_edge.specs.Part.{Part, Adds}
use Rattle.mn_edge.specs.Whole.{AddsFront, AddsWhole}
use Rattle.mn_edge.proofs.Parts.{Adds-append, AddsFront-append, AddsWhole-then}
use Rattle.pcap_io.specs.Buffering.{Buffers, AddsBuffered}

-- the block was handed over, and then a whole piece: nothing is left in the block
pub AddsBuffered-whole : (p q r : Part) (block piece : List ℕ) (result : Result (Unit {0}) WriteFault)
    → Adds block p q → AddsWhole piece q r result → AddsBuffered (block ++ piece) p r [] result
AddsBuffered-whole p q r block piece (Ok done) added whole = record {
  front = block ++ piece;
  split = sym (append-nil (block ++ piece));
  added = Adds-append p q r block piece added whole;
}
AddsBuffered-whole p q r block piece (Err fault) added whole = AddsWhole-then p q r block piece (Err fault) added whole

-- a text of two parts: the first but for what stands in the block, and then the second after the block
pub AddsBuffered-parts : {p q : Part} (r : Part) {text first : List ℕ} (second : List ℕ) {block : List ℕ} (left : List ℕ)
    (result : Result (Unit {0}) WriteFault) → text ≡ first ++ second
    → Buffers first p q block → AddsBuffered (block ++ second) q r left result → AddsBuffered text p r left result
AddsBuffered-parts {p} {q} r {text} {first} second {block} left (Ok done) text_is begun ended = record {
  front = begun.front ++ ended.front;
  split =
      text_is ∙ ap (λ (bytes : List ℕ). bytes ++ second) begun.split ∙ append_assoc begun.front block second
      ∙ ap (λ (bytes : List ℕ). begun.front ++ bytes) ended.split ∙ sym (append_assoc begun.front ended.front left);
  added = Adds-append p q r begun.front ended.front begun.added ended.added;
}
AddsBuffered-parts {p} {q} r {text} {first} second {block} left (Err fault) text_is begun ended =
    let regrouped : text ≡ begun.front ++ (block ++ second) =
    text_is ∙ ap (λ (bytes : List ℕ). bytes ++ second) begun.split ∙ append_assoc begun.front block second in
    subst (λ (bytes : List ℕ). AddsWhole bytes p r (Err fault)) (sym regrouped)
    (AddsWhole-then p q r begun.front (block ++ second) (Err fault) begun.added ended)

-- a text of three parts: the first but for what stands in the block, and then a stop within the second after the block
pub AddsBuffered-stopped : {p q : Part} (r : Part) {text first : List ℕ} (second third : List ℕ) {block : List ℕ} (fault other : WriteFault)
    → text ≡ first ++ (second ++ third)
    → Buffers first p q block → AddsWhole (block ++ second) q r (Err fault) → AddsWhole text p r (Err other)
AddsBuffered-stopped {p} {q} r {text} {first} second third {block} fault other text_is begun stopped =
    let longer : AddsFront ((block ++ second) ++ third) q r = AddsFront-append q r (block ++ second) third stopped.0 in
    let regrouped : AddsFront (block ++ (second ++ third)) q r =
    subst (λ (bytes : List ℕ). AddsFront bytes q r) (append_assoc block second third) longer in
    AddsBuffered-parts r (second ++ third) [] (Err fault) text_is begun (regrouped, stopped.1)

-- one more text of a list after the texts before it
pub flat_map-more : {X : Type 0} (f : X → List ℕ) (xs : List X) (i : ℕ) (x : X) → i < length xs → x ≡ get_or xs i x
    → flat_map f (take (i + 1) xs) ≡ flat_map f (take i xs) ++ f x
flat_map-more {X = X} f xs i x lt is =
    let more : take (i + 1) xs ≡ take i xs ++ x ∷ [] = take_more xs i x lt ∙ ap (λ (y : X). take i xs ++ y ∷ []) (sym is) in
    ap (flat_map f) more ∙ flat_map-append f (take i xs) (x ∷ [])
    ∙ ap (λ (last : List ℕ). flat_map f (take i xs) ++ last) (flat_map-cons f x [] ∙ append-nil (f x))

-- a list's texts are those before an index, the one there, and those after it
pub flat_map-at : {X : Type 0} (f : X → List ℕ) (xs : List X) (i : ℕ) (x : X) → i < length xs → x ≡ get_or xs i x
    → flat_map f xs ≡ flat_map f (take i xs) ++ (f x ++ flat_map f (drop (i + 1) xs))
flat_map-at {X = X} f xs i x lt is =
    let rest : drop i xs ≡ x ∷ drop (i + 1) xs = drop_more xs i x lt ∙ ap (λ (y : X). y ∷ drop (i + 1) xs) (sym is) in
    ap (flat_map f) (sym (take-append-drop i xs)) ∙ flat_map-append f (take i xs) (drop i xs)
    ∙ ap (λ (ys : List X). flat_map f (take i xs) ++ flat_map f ys) rest
    ∙ ap (λ (bytes : List ℕ). flat_map f (take i xs) ++ bytes) (flat_map-cons f x (drop (i + 1) xs))

-- a text but for what stands in the block, and then the block
pub AddsBuffered-flushed : {p q : Part} (r : Part) {text block : List ℕ} (result : Result (Unit {0}) WriteFault)
    → Buffers text p q block → AddsWhole block q r result → AddsWhole text p r result
AddsBuffered-flushed {p} {q} r {text} {block} result first second =
    subst (λ (bytes : List ℕ). AddsWhole bytes p r result) (sym first.split)
    (AddsWhole-then p q r first.front block result first.added second)

-- the texts up to here went through the block, and no other role changed
pub record Writing (part before : Role → Part) (role : Role) (text block : List ℕ) : Type 0 where
  pub active : (part role).active ≡ true
  pub buffered : Buffers text (before role) (part role) block
  pub others : (other : Role) → other ≢ role → part other ≡ before other
