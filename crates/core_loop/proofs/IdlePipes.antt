-- The own pipes of a core among the first of a setup, before any visit.
use Rattle.std.proofs.Common.{◌≡◌, ◌⊎◌, inl, inr, ℕ, zero, suc, ◌+◌, ◌≤◌, ◌==◌, Bool, true, false, List, [], ◌∷◌, ◌++◌, length, map, filter, slice_get, Some, eq-eqb, refl, sym, ap, ◌∙◌, subst, arith}
use Rattle.std.specs.List.{AllZip, range_with_len}
use Rattle.std.proofs.lemmas.Bool.{ne_eqb}
use Rattle.std.proofs.lemmas.List.{map-append, length_push}
use Rattle.mn_base.specs.Among.{Among}
use Rattle.journal.specs.SetupView.{SetupView}
use Rattle.journal.specs.IsPipe.{SetupPipeView, IsPipe}
use Rattle.parcel.specs.declared.counts.PipeCounts.{PipeCounts}
use Rattle.parcel.specs.Owners.{owner_of}
use Rattle.parcel.specs.Counts.{counts_of}
use Rattle.core_loop.specs.Work.{HaveRun, AreIndexed}
use Rattle.core_loop.proofs.Kept.{filter-skip, filter-last}

range-more : (a n : ℕ) → range_with_len a (n + 1) ≡ range_with_len a n ++ (a + n) ∷ []
range-more a zero = ap (λ (k : ℕ). k ∷ []) (omega arith)
range-more a (suc n) =
    let more : suc n + 1 ≡ suc (n + 1) = omega arith in
    let last : a + 1 + n ≡ a + suc n = omega arith in
    ap (range_with_len a) more
    ∙ ap (λ (l : List ℕ). a ∷ l) (range-more (a + 1) n)
    ∙ ap (λ (k : ℕ). a ∷ (range_with_len (a + 1) n ++ k ∷ [])) last

zip-push : {A B : Type 0} (R : A → B → Type 0) (xs : List A) (ys : List B) (x : A) (y : B) → AllZip R xs ys → R x y
    → AllZip R (xs ++ x ∷ []) (ys ++ y ∷ [])
zip-push R [] [] x y z r = (r, tt)
zip-push R [] (b ∷ ys) x y z r = absurd z
zip-push R (a ∷ xs) [] x y z r = absurd z
zip-push R (a ∷ xs) (b ∷ ys) x y z r = (z.0, zip-push R xs ys x y z.1 r)

get-push-old : {X : Type 0} (xs : List X) (y : X) (i : ℕ) (x : X) → slice_get xs i ≡ Some x → slice_get (xs ++ y ∷ []) i ≡ Some x
get-push-old [] y i x e = cc
get-push-old (a ∷ xs) y zero x e = e
get-push-old (a ∷ xs) y (suc i) x e = get-push-old xs y i x e

get-push-new : {X : Type 0} (xs : List X) (y : X) → slice_get (xs ++ y ∷ []) (length xs) ≡ Some y
get-push-new [] y = refl
get-push-new (a ∷ xs) y = get-push-new xs y

get-push : {X : Type 0} (xs : List X) (y : X) (i : ℕ) (x : X) → slice_get (xs ++ y ∷ []) i ≡ Some x
    → (slice_get xs i ≡ Some x) ⊎ ((i ≡ length xs) × (x ≡ y))
get-push [] y zero x e = inr (refl, cc)
get-push [] y (suc i) x e = cc
get-push (a ∷ xs) y zero x e = inl e
get-push (a ∷ xs) y (suc i) x e = go (get-push xs y i x e)
  where
    go : (slice_get xs i ≡ Some x) ⊎ ((i ≡ length xs) × (x ≡ y)) → (slice_get xs i ≡ Some x) ⊎ ((suc i ≡ suc (length xs)) × (x ≡ y))
    go (inl f) = inl f
    go (inr f) = inr (ap suc f.0, f.1)

-- the pipes that a core owns among the first of the setup
abbrev own_below : SetupView → ℕ → ℕ → List ℕ
own_below S core count = filter (λ pipe. owner_of S pipe == core) (range_with_len 0 count)

pub record OwnBelow (S : SetupView) (core count : ℕ) (index_of : List ℕ) (pipes : List SetupPipeView) (counts : List PipeCounts) : Type 0 where
  pub places : length index_of ≡ count
  pub pipes_are : AllZip (IsPipe S []) (filter (λ pipe. owner_of S pipe == core) (range_with_len 0 count)) pipes
  pub counts_are : counts ≡ map (counts_of []) (filter (λ pipe. owner_of S pipe == core) (range_with_len 0 count))
  pub indexed : AreIndexed index_of pipes counts
  pub fewer : length pipes ≤ count

pub none-below : (S : SetupView) (core : ℕ) → OwnBelow S core 0 [] [] []
none-below S core = record {
  places = refl;
  pipes_are = tt;
  counts_are = refl;
  indexed = record { count = refl; indexed = λ index m e. cc };
  fewer = omega arith;
}

pub none-yet : (S : SetupView) (core : ℕ) (index_of : List ℕ) (pipes : List SetupPipeView) (counts : List PipeCounts)
    → index_of ≡ [] → pipes ≡ [] → counts ≡ [] → OwnBelow S core (length index_of) index_of pipes counts
none-yet S core index_of pipes counts a b c =
    subst (λ (l : List ℕ). OwnBelow S core (length l) l pipes counts) (sym a)
    (subst (λ (l : List SetupPipeView). OwnBelow S core 0 [] l counts) (sym b)
    (subst (λ (l : List PipeCounts). OwnBelow S core 0 [] [] l) (sym c) (none-below S core)))

module _ (S : SetupView) (core count : ℕ) (index_of : List ℕ) (pipes : List SetupPipeView) (counts : List PipeCounts)
    (below : OwnBelow S core count index_of pipes counts) (m : SetupPipeView) (is : IsPipe S [] count m) where
  abbrev own : ℕ → Bool
  own pipe = owner_of S pipe == core

  -- the next pipe is an own one
  pub own-more : (owner_of S count == core) ≡ true
      → OwnBelow S core (count + 1) (index_of ++ length pipes ∷ []) (pipes ++ m ∷ []) (counts ++ counts_of [] count ∷ [])
  own-more e = record {
    places = length_push index_of (length pipes) ∙ ap (λ (k : ℕ). k + 1) below.places;
    pipes_are = subst (λ (l : List ℕ). AllZip (IsPipe S []) l (pipes ++ m ∷ [])) (sym more)
        (zip-push (IsPipe S []) _ pipes count m below.pipes_are is);
    counts_are =
        ap (λ (l : List PipeCounts). l ++ counts_of [] count ∷ []) below.counts_are
        ∙ sym (map-append (counts_of []) (filter (λ pipe. owner_of S pipe == core) (range_with_len 0 count)) (count ∷ []))
        ∙ ap (map (counts_of [])) (sym more);
    indexed = record {
      count =
          length_push counts (counts_of [] count)
          ∙ ap (λ (k : ℕ). k + 1) below.indexed.count
          ∙ sym (length_push pipes m);
      indexed = indexed;
    };
    fewer = (let l : length pipes ≤ count = below.fewer in omega (arith, length_push pipes m, l));
  }
    where
      more : filter (λ pipe. owner_of S pipe == core) (range_with_len 0 (count + 1))
          ≡ filter (λ pipe. owner_of S pipe == core) (range_with_len 0 count) ++ count ∷ []
      more =
          ap (filter (λ pipe. owner_of S pipe == core)) (range-more 0 count ∙ ap (λ (k : ℕ). range_with_len 0 count ++ k ∷ []) (omega arith))
          ∙ filter-last (λ pipe. owner_of S pipe == core) (range_with_len 0 count) count e

      indexed : (index : ℕ) (k : SetupPipeView) → slice_get (pipes ++ m ∷ []) index ≡ Some k
          → slice_get (index_of ++ length pipes ∷ []) k.number ≡ Some index
      indexed index k f = go (get-push pipes m index k f)
        where
          go : (slice_get pipes index ≡ Some k) ⊎ ((index ≡ length pipes) × (k ≡ m))
              → slice_get (index_of ++ length pipes ∷ []) k.number ≡ Some index
          go (inl old) = get-push-old index_of (length pipes) k.number index (below.indexed.indexed index k old)
          go (inr new) =
              ap (slice_get (index_of ++ length pipes ∷ []))
              (ap (λ (p : SetupPipeView). p.number) new.1 ∙ is.number ∙ sym below.places)
              ∙ get-push-new index_of (length pipes)
              ∙ ap Some (sym new.0)

  -- the next pipe is another core's
  pub other-more : (owner_of S count == core) ≡ false → (any : ℕ) → OwnBelow S core (count + 1) (index_of ++ any ∷ []) pipes counts
  other-more e any = record {
    places = length_push index_of any ∙ ap (λ (k : ℕ). k + 1) below.places;
    pipes_are = subst (λ (l : List ℕ). AllZip (IsPipe S []) l pipes) (sym still) below.pipes_are;
    counts_are = below.counts_are ∙ ap (map (counts_of [])) (sym still);
    indexed = record {
      count = below.indexed.count;
      indexed = λ index k f. get-push-old index_of any k.number index (below.indexed.indexed index k f);
    };
    fewer = (let l : length pipes ≤ count = below.fewer in omega (arith, l));
  }
    where
      still : filter (λ pipe. owner_of S pipe == core) (range_with_len 0 (count + 1))
          ≡ filter (λ pipe. owner_of S pipe == core) (range_with_len 0 count)
      still =
          ap (filter (λ pipe. owner_of S pipe == core)) (range-more 0 count ∙ ap (λ (k : ℕ). range_with_len 0 count ++ k ∷ []) (omega arith))
          ∙ filter-skip (λ pipe. owner_of S pipe == core) (range_with_len 0 count) (count ∷ []) none
        where
          none : (q : ℕ) → Among q (count ∷ []) → (owner_of S q == core) ≡ false
          none q (inl s) = ap (λ (k : ℕ). owner_of S k == core) (sym s) ∙ e
          none q (inr a) = absurd a

-- all of the setup's
pub all-own : (S : SetupView) (core : ℕ) (index_of : List ℕ) (pipes : List SetupPipeView) (counts : List PipeCounts)
    → OwnBelow S core (length S.pipes) index_of pipes counts → HaveRun S core [] (record { pipes = pipes; counts = counts })
all-own S core index_of pipes counts b = record { pipes_are = b.pipes_are; counts_are = b.counts_are }

-- with the next pipe of the setup, as the lists are then
pub own-next : (S : SetupView) (core : ℕ) (index_of places : List ℕ) (pipes more : List SetupPipeView) (counts kept : List PipeCounts)
    → OwnBelow S core (length index_of) index_of pipes counts
    → (m : SetupPipeView) → IsPipe S [] (length index_of) m → (n : ℕ) (c : PipeCounts)
    → owner_of S (length index_of) ≡ core → n ≡ length pipes → c ≡ counts_of [] (length index_of)
    → places ≡ index_of ++ n ∷ [] → more ≡ pipes ++ m ∷ [] → kept ≡ counts ++ c ∷ []
    → OwnBelow S core (length places) places more kept
own-next S core index_of places pipes more counts kept below m is n c own n_is c_is a b d =
    subst (λ (k : ℕ). OwnBelow S core k places more kept) (sym (ap length a ∙ length_push index_of n))
    (subst (λ (l : List ℕ). OwnBelow S core (length index_of + 1) l more kept)
    (sym (a ∙ ap (λ (k : ℕ). index_of ++ k ∷ []) n_is))
    (subst (λ (l : List SetupPipeView). OwnBelow S core (length index_of + 1) (index_of ++ length pipes ∷ []) l kept) (sym b)
    (subst (λ (l : List PipeCounts). OwnBelow S core (length index_of + 1) (index_of ++ length pipes ∷ []) (pipes ++ m ∷ []) l)
    (sym (d ∙ ap (λ (k : PipeCounts). counts ++ k ∷ []) c_is))
    (own-more S core (length index_of) index_of pipes counts below m is (eq-eqb _ _ own)))))

pub other-next : (S : SetupView) (core : ℕ) (index_of places : List ℕ) (pipes : List SetupPipeView) (counts : List PipeCounts)
    → OwnBelow S core (length index_of) index_of pipes counts → (m : SetupPipeView) → IsPipe S [] (length index_of) m → (n : ℕ)
    → (owner_of S (length index_of) ≡ core → ⊥)
    → places ≡ index_of ++ n ∷ []
    → OwnBelow S core (length places) places pipes counts
other-next S core index_of places pipes counts below m is n other a =
    subst (λ (l : List ℕ). OwnBelow S core (length l) l pipes counts) (sym a)
    (subst (λ (k : ℕ). OwnBelow S core k (index_of ++ n ∷ []) pipes counts) (sym (length_push index_of n))
    (other-more S core (length index_of) index_of pipes counts below m is (ne_eqb _ _ other) n))
