-- Going through what is told: what the notes to other cores come to, and the notes for each core.
use Rattle.std.proofs.Common.{◌≡◌, ◌≢◌, ◌⊎◌, inl, inr, ℕ, zero, suc, ◌+◌, ◌<◌, ◌≤◌, ◌==◌, Bool, true, false, cond, ◌&&◌, not, List, [], ◌∷◌, ◌++◌, length, map, filter, take, get_or, set, slice_index_or, Some, None, append-nil, get_or-set_same, get_or-set_other, length-set, refl, sym, ap, ◌∙◌, arith, eq-eqb, Vec, Global}
use Rattle.std.proofs.lemmas.Bool.{cases_eq, ne_eqb, and_right}
use Rattle.std.proofs.lemmas.List.{get_or-map, length-map, map-append, map-set, length-append, length-take-le}
use Rattle.std.proofs.lemmas.List.Sums.{length-filter, count_by-le-length}
use Rattle.std.proofs.lemmas.List.Elements.{filter-append}
use Rattle.mn_base.specs.Among.{Among}
use Rattle.parcel.specs.declared.note.Note.{Note}
use Rattle.parcel.specs.declared.note.Note.TheVariants.{Arrive, Settle}
use Rattle.parcel.specs.Told.{Told}
use Rattle.core_loop.specs.declared.handing.Sent.{Sent}
use Rattle.core_loop.specs.Work.{is_settle}
use Rattle.core_loop.specs.Trading.{IsLeastBy}
use Rattle.core_loop.specs.Handing.{earlier_of, is_told_arrival, is_told_settle, IsToldTick, notes_for, sent_with}
use Rattle.mn_base.proofs.Members.{Among-append-left, Among-append-right, Among-push}
use Rattle.core_loop.proofs.Earliest.{least-both, least-as}

-- ---- what the notes to other cores come to

-- this is what the notes of `done` come to
pub record IsSumOf (core : ℕ) (done : List Told) (s : Sent) : Type 0 where
  pub arrivals : s.arrivals ≡ length (filter (is_told_arrival core) done)
  pub settles : s.settles ≡ length (filter (is_told_settle core) done)
  pub least : IsLeastBy (IsToldTick core done) s.least

pub sum-none : (core : ℕ) → IsSumOf core [] (record { arrivals = 0; settles = 0; least = None })
sum-none core = record { arrivals = refl; settles = refl; least = λ t m. absurd m.2.2 }

push-count : (p : Told → Bool) (done : List Told) (t : Told) (b : Bool) → p t ≡ b
    → length (filter p (done ++ t ∷ [])) ≡ length (filter p done) + cond b 1 0
push-count p done t b e =
    ap length (filter-append p done (t ∷ []))
    ∙ length-append (filter p done) (filter p (t ∷ []))
    ∙ ap (λ (n : ℕ). length (filter p done) + n) (ap (λ (c : Bool). length (cond c (t ∷ []) [])) e ∙ one b)
  where
    one : (b : Bool) → length (cond b (t ∷ []) []) ≡ cond b 1 0
    one true = refl
    one false = refl

-- neither count is greater than the number of notes
pub sum-room : (core : ℕ) (told : List Told) (i : ℕ) (s : Sent) → i ≤ length told → IsSumOf core (take i told) s → (s.arrivals ≤ i) × (s.settles ≤ i)
sum-room core told i s within h = (
  (let l : length (take i told) ≡ i = length-take-le i told within in
      omega (arith, h.arrivals, length-filter (is_told_arrival core) (take i told), count_by-le-length (is_told_arrival core) (take i told), l)),
  let l : length (take i told) ≡ i = length-take-le i told within in
      omega (arith, h.settles, length-filter (is_told_settle core) (take i told), count_by-le-length (is_told_settle core) (take i told), l),
)

-- a note that the core tells itself counts for nothing
pub sum-skip : (core : ℕ) (done : List Told) (t : Told) (s : Sent) → t.receiver ≡ core → IsSumOf core done s → IsSumOf core (done ++ t ∷ []) s
sum-skip core done t s own i = record {
  arrivals = let c = push-count (is_told_arrival core) done t false (and_right _ _ (ap not (eq-eqb _ _ own))) in let e = i.arrivals in omega (arith, c, e);
  settles = let c = push-count (is_told_settle core) done t false (and_right _ _ (ap not (eq-eqb _ _ own))) in let e = i.settles in omega (arith, c, e);
  least = least-as (IsToldTick core done) (IsToldTick core (done ++ t ∷ [])) s.least (λ u. (there u, back u)) i.least;
}
  where
    there : (u : ℕ) → IsToldTick core done u → IsToldTick core (done ++ t ∷ []) u
    there u m = (m.0, m.1, (m.2.0, m.2.1, Among-append-left _ done (t ∷ []) m.2.2))

    back : (u : ℕ) → IsToldTick core (done ++ t ∷ []) u → IsToldTick core done u
    back u m = go (Among-push _ done t m.2.2)
      where
        go : Among (record { receiver = m.0; note = Arrive m.2.0 m.2.1 u }) done ⊎ (t ≡ record { receiver = m.0; note = Arrive m.2.0 m.2.1 u })
            → IsToldTick core done u
        go (inl a) = (m.0, m.1, (m.2.0, m.2.1, a))
        go (inr e) = absurd (m.1 (sym (ap (λ (x : Told). x.receiver) e) ∙ own))

-- one for another core is counted
pub sum-more : (core : ℕ) (done : List Told) (t : Told) (s : Sent) → t.receiver ≢ core → IsSumOf core done s
    → IsSumOf core (done ++ t ∷ []) (sent_with s t.note)
sum-more core done t s other i = go t.note refl
  where
    away : not (t.receiver == core) ≡ true
    away = ap not (ne_eqb _ _ other)

    keep : (u : ℕ) → IsToldTick core done u → IsToldTick core (done ++ t ∷ []) u
    keep u m = (m.0, m.1, (m.2.0, m.2.1, Among-append-left _ done (t ∷ []) m.2.2))

    go : (note : Note) → t.note ≡ note → IsSumOf core (done ++ t ∷ []) (sent_with s note)
    go (Settle packet fate) e = record {
      arrivals =
          let c = push-count (is_told_arrival core) done t false (ap (λ (n : Note). not (is_settle n) && not (t.receiver == core)) e) in
          let a = i.arrivals in
          omega (arith, c, a);
      settles =
          let c = push-count (is_told_settle core) done t true (ap (λ (n : Note). is_settle n && not (t.receiver == core)) e ∙ away) in
          let a = i.settles in
          omega (arith, c, a);
      least = least-as (IsToldTick core done) (IsToldTick core (done ++ t ∷ [])) s.least (λ u. (keep u, back u)) i.least;
    }
      where
        back : (u : ℕ) → IsToldTick core (done ++ t ∷ []) u → IsToldTick core done u
        back u m = split (Among-push _ done t m.2.2)
          where
            split : Among (record { receiver = m.0; note = Arrive m.2.0 m.2.1 u }) done ⊎ (t ≡ record { receiver = m.0; note = Arrive m.2.0 m.2.1 u })
                → IsToldTick core done u
            split (inl a) = (m.0, m.1, (m.2.0, m.2.1, a))
            split (inr same) = let clash : Settle packet fate ≡ Arrive m.2.0 m.2.1 u = sym e ∙ ap (λ (x : Told). x.note) same in cc
    go (Arrive packet hop tick) e = record {
      arrivals =
          let c = push-count (is_told_arrival core) done t true (ap (λ (n : Note). not (is_settle n) && not (t.receiver == core)) e ∙ away) in
          let a = i.arrivals in
          omega (arith, c, a);
      settles =
          let c = push-count (is_told_settle core) done t false (ap (λ (n : Note). is_settle n && not (t.receiver == core)) e) in
          let a = i.settles in
          omega (arith, c, a);
      least =
          least-as (λ u. IsToldTick core done u ⊎ (u ≡ tick)) (IsToldTick core (done ++ t ∷ [])) (earlier_of s.least (Some tick))
          (λ u. (there u, back u))
          (least-both (IsToldTick core done) (λ u. u ≡ tick) s.least (Some tick) i.least (refl, λ u same. omega (arith, same)));
    }
      where
        there : (u : ℕ) → IsToldTick core done u ⊎ (u ≡ tick) → IsToldTick core (done ++ t ∷ []) u
        there u (inl m) = keep u m
        there u (inr same) = (
          t.receiver,
          other,
          (
            packet,
            hop,
            Among-append-right _ done (t ∷ [])
                (inl (ap (λ (n : Note). record { receiver = t.receiver; note = n }) (e ∙ ap (Arrive packet hop) (sym same)))),
          ),
        )

        back : (u : ℕ) → IsToldTick core (done ++ t ∷ []) u → IsToldTick core done u ⊎ (u ≡ tick)
        back u m = split (Among-push _ done t m.2.2)
          where
            split : Among (record { receiver = m.0; note = Arrive m.2.0 m.2.1 u }) done ⊎ (t ≡ record { receiver = m.0; note = Arrive m.2.0 m.2.1 u })
                → IsToldTick core done u ⊎ (u ≡ tick)
            split (inl a) = inl (m.0, m.1, (m.2.0, m.2.1, a))
            split (inr same) = let notes : Arrive packet hop tick ≡ Arrive m.2.0 m.2.1 u = sym e ∙ ap (λ (x : Told). x.note) same in inr cc

-- ---- the notes for each core

abbrev pub Lists : Type 0
Lists = List (Vec Note Global)

abbrev pub items_of : Lists → List (List Note)
items_of lists = map (λ list. list.items) lists

-- these are the notes of `done`, a list for each core
pub record AreSorted (cores : ℕ) (done : List Told) (lists : Lists) : Type 0 where
  pub count : length lists ≡ cores
  pub each : (core : ℕ) → core < cores → slice_index_or (items_of lists) core [] ≡ notes_for done core

-- at first no list has a note
pub sorted-none : (cores : ℕ) (lists : Lists) → length lists ≡ cores → ((core : ℕ) → slice_index_or (items_of lists) core [] ≡ [])
    → AreSorted cores [] lists
sorted-none cores lists count empty = record { count = count; each = λ core within. empty core }

-- with one more empty list all are empty still
pub empty-push : (lists : Lists) (new : Vec Note Global) → ((core : ℕ) → slice_index_or (items_of lists) core [] ≡ []) → new.items ≡ []
    → (core : ℕ) → slice_index_or (items_of (lists ++ new ∷ [])) core [] ≡ []
empty-push [] new e n zero = n
empty-push [] new e n (suc core) = refl
empty-push (x ∷ lists) new e n zero = e 0
empty-push (x ∷ lists) new e n (suc core) = empty-push lists new (λ k. e (suc k)) n core

-- one more is put into the list of its receiver
pub sorted-more : (cores : ℕ) (done : List Told) (lists : Lists) (t : Told) (own new : Vec Note Global) → AreSorted cores done lists
    → t.receiver < cores → own ≡ get_or lists t.receiver own → new.items ≡ own.items ++ t.note ∷ []
    → AreSorted cores (done ++ t ∷ []) (set lists t.receiver new)
sorted-more cores done lists t own new are named own_is pushed = record {
  count = length-set lists t.receiver new ∙ are.count;
  each = λ core within.
      ap (λ (ls : List (List Note)). get_or ls core []) (map-set (λ (list : Vec Note Global). list.items) lists t.receiver new)
      ∙ go core within (cases_eq core t.receiver);
}
  where
    long : length (items_of lists) ≡ cores
    long = length-map lists (λ (list : Vec Note Global). list.items) ∙ are.count

    split : (core : ℕ) → notes_for (done ++ t ∷ []) core
        ≡ notes_for done core ++ map (λ (x : Told). x.note) (filter (λ (x : Told). x.receiver == core) (t ∷ []))
    split core =
        ap (map (λ (x : Told). x.note)) (filter-append (λ (x : Told). x.receiver == core) done (t ∷ []))
        ∙ map-append (λ (x : Told). x.note) (filter (λ (x : Told). x.receiver == core) done) (filter (λ (x : Told). x.receiver == core) (t ∷ []))

    its : (core : ℕ) (b : Bool) → (t.receiver == core) ≡ b
        → map (λ (x : Told). x.note) (filter (λ (x : Told). x.receiver == core) (t ∷ [])) ≡ cond b (t.note ∷ []) []
    its core b e = ap (λ (c : Bool). map (λ (x : Told). x.note) (cond c (t ∷ []) [])) e ∙ one b
      where
        one : (b : Bool) → map (λ (x : Told). x.note) (cond b (t ∷ []) []) ≡ cond b (t.note ∷ []) []
        one true = refl
        one false = refl

    own_notes : own.items ≡ notes_for done t.receiver
    own_notes =
        ap (λ (list : Vec Note Global). list.items) own_is
        ∙ sym (get_or-map (λ (list : Vec Note Global). list.items) lists t.receiver own [] (let c = are.count in omega (arith, named, c)))
        ∙ are.each t.receiver named

    go : (core : ℕ) → core < cores → (core ≡ t.receiver) ⊎ (core ≢ t.receiver)
        → get_or (set (items_of lists) t.receiver new.items) core [] ≡ notes_for (done ++ t ∷ []) core
    go core within (inl here) =
        ap (λ (k : ℕ). get_or (set (items_of lists) t.receiver new.items) k []) here
        ∙ get_or-set_same (items_of lists) t.receiver new.items [] (omega (arith, named, long))
        ∙ pushed
        ∙ ap (λ (l : List Note). l ++ t.note ∷ []) (own_notes ∙ ap (notes_for done) (sym here))
        ∙ ap (λ (l : List Note). notes_for done core ++ l) (sym (its core true (eq-eqb _ _ (sym here))))
        ∙ sym (split core)
    go core within (inr other) =
        get_or-set_other (items_of lists) t.receiver core new.items [] other
        ∙ are.each core within
        ∙ sym (append-nil (notes_for done core))
        ∙ ap (λ (l : List Note). notes_for done core ++ l) (sym (its core false (ne_eqb _ _ (λ same. other (sym same)))))
        ∙ sym (split core)

-- the list that is taken out of the lists at an index
pub list-read : (lists : Lists) (i : ℕ) (list there : Vec Note Global) → i < length lists → there ≡ get_or lists i there → list ≡ there
    → list.items ≡ slice_index_or (items_of lists) i []
list-read lists i list there within read same =
    ap (λ (l : Vec Note Global). l.items) (same ∙ read) ∙ sym (get_or-map (λ (l : Vec Note Global). l.items) lists i there [] within)

-- the others stay
pub list-other : (lists : Lists) (i other : ℕ) (new : Vec Note Global) → other ≢ i
    → slice_index_or (items_of (set lists i new)) other [] ≡ slice_index_or (items_of lists) other []
list-other lists i other new apart =
    ap (λ (ls : List (List Note)). get_or ls other []) (map-set (λ (l : Vec Note Global). l.items) lists i new)
    ∙ get_or-set_other (items_of lists) i other new.items [] apart
