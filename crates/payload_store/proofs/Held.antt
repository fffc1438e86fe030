-- The entries of the hash map as a finite map, and what a new one and one less do to what a store keeps.
use Rattle.std.proofs.Common.{◌≡◌, ◌≢◌, ◌⊎◌, inl, inr, ℕ, ◌+◌, ◌<◌, ◌≤◌, Bool, true, false, cond, List, [], ◌∷◌, ◌++◌, length, eqb, Option, Some, None, Result, Ok, Err, refl, sym, ap, ◌∙◌, subst, arith}
use Rattle.std.specs.Prelude.{IsSome, OnOk, is_some, is_err}
use Rattle.std.specs.List.{AllByRecursion, IsDistinct}
use Rattle.std.specs.Map.{lookup, keys_of}
use Rattle.std.specs.declared.cmp.Ordering.{Ordering}
use Rattle.std.specs.declared.cmp.Ordering.TheVariants.{Less, Equal, Greater}
use Rattle.std.specs.Ordering.{nat_cmp, eq_by_cmp, is_eq}
use Rattle.std.specs.Cmp.{nat_cmp_total}
use Rattle.std.specs.FinMap as map
use Rattle.std.proofs.lemmas.Cmp.{ranked}
use Rattle.std.proofs.lemmas.Bool.{false≢true, ne_eqb, eq-eqb, cases_eq}
use Rattle.std.proofs.lemmas.List.Quantifiers.{all_pairs_push}
use Rattle.mn_base.specs.Among.{Among}
use Rattle.mn_base.proofs.Members.{Among-push, Among-index}
use Rattle.payload_store.specs.StoreView.{ReleasesOnce, IsStore}

abbrev pub Entries : Type 0
Entries = List (ℕ × List ℕ)

abbrev pub Held : Type 0
Held = map.FinMap nat_cmp (List ℕ)

abbrev pub held_of : Entries → Held
held_of entries = map.from_entries entries

-- ---- the map and the list

-- both compare keys alike
pub same_test : (q k : ℕ) → eq_by_cmp nat_cmp q k ≡ eqb q k
same_test q k = go (nat_cmp q k) refl
  where
    go : (o : Ordering) → o ≡ nat_cmp q k → is_eq o ≡ eqb q k
    go Less is = let below : q < k = ranked q k Less is in sym (ne_eqb q k (λ same. omega (arith, same)))
    go Equal is = sym (eq-eqb q k (ranked q k Equal is))
    go Greater is = let above : k < q = ranked q k Greater is in sym (ne_eqb q k (λ same. omega (arith, same)))

-- a test says the same in either order
pub same_turned : (q k : ℕ) → eqb q k ≡ eqb k q
same_turned q k = go (cases_eq q k)
  where
    go : (q ≡ k) ⊎ (q ≡ k → ⊥) → eqb q k ≡ eqb k q
    go (inl same) = eq-eqb q k same ∙ sym (eq-eqb k q (sym same))
    go (inr differ) = ne_eqb q k differ ∙ sym (ne_eqb k q (λ same. differ (sym same)))

find_is : (q : ℕ) (es : Entries) → map.find nat_cmp q es ≡ lookup (eqb q) es
find_is q [] = refl
find_is q (e ∷ es) =
    ap (λ (b : Bool). cond b (Some e.1) (map.find nat_cmp q es)) (same_test q e.0)
    ∙ ap (λ (o : Option (List ℕ)). cond (eqb q e.0) (Some e.1) o) (find_is q es)

-- a look-up in the one is a look-up in the other
pub get-held : (es : Entries) (q : ℕ) → map.get (held_of es) q ≡ lookup (eqb q) es
get-held es q = map.get-from_entries nat_cmp_total es q ∙ find_is q es

-- a key that no entry has is not found
absent : (k : ℕ) (es : Entries) → AllByRecursion (λ y. eqb k y ≡ false) (keys_of es) → lookup (eqb k) es ≡ None
absent k [] all = refl
absent k (e ∷ es) all = ap (λ (b : Bool). cond b (Some e.1) (lookup (eqb k) es)) all.0 ∙ absent k es all.1

-- with keys apart there are as many keys as entries
pub len-held : (es : Entries) → IsDistinct eqb (keys_of es) → map.len (held_of es) ≡ length es
unfolding IsDistinct
len-held [] apart = map.len-empty nat_cmp (List ℕ)
len-held (e ∷ es) apart =
    let one_more : length es + 1 ≡ length (e ∷ es) = omega arith in
    map.len-insert nat_cmp_total (held_of es) e.0 e.1
    ∙ ap (λ (b : Bool). cond b (map.len (held_of es)) (map.len (held_of es) + 1)) (ap is_some (get-held es e.0 ∙ absent e.0 es apart.0))
    ∙ ap (λ (n : ℕ). n + 1) (len-held es apart.1)
    ∙ one_more

-- ---- one more, and one less

-- entries that answer as after an insertion are the map with it
pub held-insert : (es after : Entries) (k : ℕ) (v : List ℕ)
    → ((q : ℕ) → lookup (eqb q) after ≡ cond (eqb k q) (Some v) (lookup (eqb q) es)) → held_of after ≡ map.insert (held_of es) k v
held-insert es after k v updates =
    map.same_map nat_cmp_total map.nat_cmp-IsAntisymmetric (held_of after) (map.insert (held_of es) k v) (λ q.
    get-held after q
    ∙ updates q
    ∙ ap (λ (b : Bool). cond b (Some v) (lookup (eqb q) es)) (same_turned k q ∙ sym (same_test q k))
    ∙ ap (λ (o : Option (List ℕ)). cond (eq_by_cmp nat_cmp q k) (Some v) o) (sym (get-held es q))
    ∙ sym (map.get-insert nat_cmp_total (held_of es) k v q))

-- and as after a removal, the map without it
pub held-remove : (es after : Entries) (k : ℕ) → ((q : ℕ) → lookup (eqb q) after ≡ cond (eqb k q) None (lookup (eqb q) es))
    → held_of after ≡ map.remove (held_of es) k
held-remove es after k updates =
    map.same_map nat_cmp_total map.nat_cmp-IsAntisymmetric (held_of after) (map.remove (held_of es) k) (λ q.
    get-held after q
    ∙ updates q
    ∙ ap (λ (b : Bool). cond b None (lookup (eqb q) es)) (same_turned k q ∙ sym (same_test q k))
    ∙ ap (λ (o : Option (List ℕ)). cond (eq_by_cmp nat_cmp q k) None o) (sym (get-held es q))
    ∙ sym (map.get-remove nat_cmp_total (held_of es) k q))

-- ---- what a store keeps

-- a packet that is put was not released, so no released one becomes held
pub once-put : (held : Held) (released : List ℕ) (packet : ℕ) (bytes : List ℕ) → ReleasesOnce (record { held = held; released = released })
    → (Among packet released → ⊥) → ReleasesOnce (record { held = map.insert held packet bytes; released = released })
once-put held released packet bytes once fresh = record {
  differ = once.differ;
  not_held = λ other there.
      map.get-insert nat_cmp_total held packet bytes other
      ∙ ap (λ (b : Bool). cond b (Some bytes) (map.get held other))
      (same_test other packet ∙ ne_eqb other packet (λ same. fresh (subst (λ (p : ℕ). Among p released) same there)))
      ∙ once.not_held other there;
}

-- a packet that is released was held, so it was not released before
pub once-release : (held : Held) (released : List ℕ) (packet : ℕ) → ReleasesOnce (record { held = held; released = released })
    → IsSome (map.get held packet) → ReleasesOnce (record { held = map.remove held packet; released = released ++ packet ∷ [] })
once-release held released packet once is_held = record {
  differ = all_pairs_push (λ a b. a ≢ b) released packet once.differ (λ k d within same.
      fresh (subst (λ (p : ℕ). Among p released) same (Among-index released k d within)));
  not_held = λ other there.
      map.get-remove nat_cmp_total held packet other ∙ go other (Among-push other released packet there);
}
  where
    fresh : Among packet released → ⊥
    fresh there = false≢true (subst (λ (o : Option (List ℕ)). IsSome o) (once.not_held packet there) is_held)

    go : (other : ℕ) → Among other released ⊎ (packet ≡ other) → cond (eq_by_cmp nat_cmp other packet) None (map.get held other) ≡ None
    go other (inl before) = elim (eq_by_cmp nat_cmp other packet) as (λ b. cond b None (map.get held other) ≡ None)
        [ true ↦ refl | false ↦ once.not_held other before ]
    go other (inr same) = ap (λ (b : Bool). cond b None (map.get held other)) (same_test other packet ∙ eq-eqb other packet (sym same))

-- what holds at Ok, where the answer is no error
pub at_ok : {X E : Type 0} (r : Result X E) (P : Type 0) → false ≡ is_err r → OnOk r P → P
at_ok (Ok x) P is_ok holds = holds
at_ok (Err e) P is_ok holds = absurd (false≢true is_ok)

-- a new packet was taken in: room was made for one more, and the map was updated
pub record TakesIn (es after : Entries) (released now : List ℕ) (length_before length_now room packet : ℕ) (bytes : List ℕ) : Type 0 where
  pub released_is : now ≡ released
  pub as_long : length_now ≡ length_before
  pub fits : length_now + (length es + 1) ≤ room
  pub not_held : map.get (held_of es) packet ≡ None
  pub fresh : Among packet released → ⊥
  pub updates : (q : ℕ) → lookup (eqb q) after ≡ cond (eqb packet q) (Some bytes) (lookup (eqb q) es)
  pub found : Option (List ℕ)
  pub found_is : found ≡ lookup (eqb packet) es
  pub longer : length after ≡ length es + cond (is_some found) 0 1

-- it was not held and not released, and the room counts it
pub IsStore-put : {es after : Entries} {released now : List ℕ} {length_released length_now capacity room packet : ℕ} {bytes : List ℕ}
    → IsStore es released length_released capacity
    → TakesIn es after released now length_released length_now room packet bytes
    → IsStore after now length_now room
IsStore-put {es = es} {after = after} {released = released} {length_now = length_now} {room = room} {packet = packet} {bytes = bytes}
    store it = record {
      once = subst (λ (list : List ℕ). ReleasesOnce (record { held = held_of after; released = list })) (sym it.released_is)
          (subst (λ (held : Held). ReleasesOnce (record { held = held; released = released }))
          (sym (held-insert es after packet bytes it.updates))
          (once-put (held_of es) released packet bytes store.once it.fresh));
      room =
          let none : is_some it.found ≡ false = ap is_some (it.found_is ∙ sym (get-held es packet) ∙ it.not_held) in
          let one_more : length after ≡ length es + 1 = it.longer ∙ ap (λ (b : Bool). length es + cond b 0 1) none in
          let fits : length_now + (length es + 1) ≤ room = it.fits in
          omega arith;
    }

-- a held packet was released: it stands last in the list, and the map has one entry less
pub record Releases (es after : Entries) (released now : List ℕ) (length_released length_now capacity room packet : ℕ) : Type 0 where
  pub now_is : now ≡ released ++ packet ∷ []
  pub longer : length_now ≡ length_released + 1
  pub room_is : room ≡ capacity
  pub was_held : IsSome (map.get (held_of es) packet)
  pub updates : (q : ℕ) → lookup (eqb q) after ≡ cond (eqb packet q) None (lookup (eqb q) es)
  pub shorter : length after + 1 ≡ length es

-- what the list grew by, the map lost
pub IsStore-release : {es after : Entries} {released now : List ℕ} {length_released length_now capacity room packet : ℕ}
    → IsStore es released length_released capacity
    → Releases es after released now length_released length_now capacity room packet
    → IsStore after now length_now room
IsStore-release {es = es} {after = after} {released = released} {length_released = length_released} {length_now = length_now}
    {capacity = capacity} {room = room} {packet = packet} store it = record {
      once = subst (λ (list : List ℕ). ReleasesOnce (record { held = held_of after; released = list })) (sym it.now_is)
          (subst (λ (held : Held). ReleasesOnce (record { held = held; released = released ++ packet ∷ [] }))
          (sym (held-remove es after packet it.updates))
          (once-release (held_of es) released packet store.once it.was_held));
      room =
          let before : length_released + length es ≤ capacity = store.room in
          let longer : length_now ≡ length_released + 1 = it.longer in
          let same : room ≡ capacity = it.room_is in
          let shorter : length after + 1 ≡ length es = it.shorter in
          omega arith;
    }
