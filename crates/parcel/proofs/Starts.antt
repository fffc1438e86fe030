-- The starts of windows as a list of ticks: they are apart by the length of a window at least, and each visit from the bound on is
-- after one of them by less than that length.
use Rattle.std.proofs.Common.{◌≡◌, ◌⊎◌, inl, inr, ℕ, zero, suc, ◌+◌, ◌<◌, ◌≤◌, Bool, true, false, cond, nat_lt, nat_le, List, [], ◌∷◌, length, filter, Some, slice_get, refl, ap, ◌∙◌, arith, ltb-true, ltb-false}
use Rattle.std.proofs.lemmas.Bool.{cases_lt, le-leb, lt-leb}
use Rattle.mn_base.specs.Among.{Among}
use Rattle.journal.specs.declared.visit.Visit.{Visit}
use Rattle.parcel.specs.Windows.{starts_from}

-- each start is at the end of the window before it or later, and the first is at `bound` or later
abbrev pub AreSpaced : ℕ → ℕ → List ℕ → Type 0
AreSpaced len bound [] = Unit {0}
AreSpaced len bound (s ∷ ss) = (bound ≤ s) × AreSpaced len (s + len) ss

-- how many windows end by a tick
abbrev pub ended : ℕ → ℕ → List ℕ → ℕ
ended len tick ss = length (filter (λ s. nat_le (s + len) tick) ss)

-- visits by ticks that don't fall
abbrev pub TicksRise : List Visit → Type 0
TicksRise [] = Unit {0}
TicksRise (v ∷ J) = ((w : Visit) → Among w J → v.tick ≤ w.tick) × TicksRise J

-- a start at this index
abbrev pub IsStart : List ℕ → ℕ → ℕ → Type 0
IsStart ss n s = slice_get ss n ≡ Some s

module _ (len : ℕ) where
  pub starts-spaced : (bound : ℕ) (J : List Visit) → AreSpaced len bound (starts_from len bound J)
  starts-spaced bound [] = tt
  starts-spaced bound (v ∷ J) = go (nat_lt v.tick bound) refl (starts-spaced bound J) (starts-spaced (v.tick + len) J)
    where
      go : (b : Bool) → nat_lt v.tick bound ≡ b → AreSpaced len bound (starts_from len bound J)
          → AreSpaced len (v.tick + len) (starts_from len (v.tick + len) J)
          → AreSpaced len bound (cond b (starts_from len bound J) (v.tick ∷ starts_from len (v.tick + len) J))
      go true t covered later = covered
      go false t covered later = (ltb-false v.tick bound t, later)

  -- a start is at the bound or later
  pub start-late : (bound : ℕ) (ss : List ℕ) (n s : ℕ) → AreSpaced len bound ss → IsStart ss n s → bound ≤ s
  start-late bound [] n s sp e = cc
  start-late bound (t ∷ ss) zero s sp e = let same : t ≡ s = cc in let b : bound ≤ t = sp.0 in omega arith
  start-late bound (t ∷ ss) (suc n) s sp e =
      let b : bound ≤ t = sp.0 in let r : t + len ≤ s = start-late (t + len) ss n s sp.1 e in omega arith

  -- and a later one is at the end of the window of an earlier one, or after it
  pub start-apart : (bound : ℕ) (ss : List ℕ) (m n s t : ℕ) → AreSpaced len bound ss → IsStart ss m s → IsStart ss n t → m < n → s + len ≤ t
  start-apart bound [] m n s t sp e f l = cc
  start-apart bound (u ∷ ss) m zero s t sp e f l = absurd (omega arith)
  start-apart bound (u ∷ ss) zero (suc n) s t sp e f l =
      let same : u ≡ s = cc in let r : u + len ≤ t = start-late (u + len) ss n t sp.1 f in omega arith
  start-apart bound (u ∷ ss) (suc m) (suc n) s t sp e f l = start-apart (u + len) ss m n s t sp.1 e f (omega arith)

  ended-skip : (tick s : ℕ) (ss : List ℕ) → tick < s + len → ended len tick (s ∷ ss) ≡ ended len tick ss
  ended-skip tick s ss l =
      ap (λ (b : Bool). length (cond b (s ∷ filter (λ s. nat_le (s + len) tick) ss) (filter (λ s. nat_le (s + len) tick) ss)))
      (lt-leb (s + len) tick l)

  ended-take : (tick s : ℕ) (ss : List ℕ) → s + len ≤ tick → ended len tick (s ∷ ss) ≡ suc (ended len tick ss)
  ended-take tick s ss l =
      ap (λ (b : Bool). length (cond b (s ∷ filter (λ s. nat_le (s + len) tick) ss) (filter (λ s. nat_le (s + len) tick) ss)))
      (le-leb (s + len) tick l)

  pub ended-none : (tick bound : ℕ) (ss : List ℕ) → AreSpaced len bound ss → tick < bound + len → ended len tick ss ≡ 0
  ended-none tick bound [] sp l = refl
  ended-none tick bound (s ∷ ss) sp l =
      let b : bound ≤ s = sp.0 in
      let r : ended len tick ss ≡ 0 = ended-none tick (s + len) ss sp.1 (omega arith) in
      ended-skip tick s ss (omega arith) ∙ r

  -- in the window of a start as many windows have ended as there are starts before it
  pub ended-in : (tick bound : ℕ) (ss : List ℕ) (n s : ℕ) → AreSpaced len bound ss → IsStart ss n s → s ≤ tick → tick < s + len
      → ended len tick ss ≡ n
  ended-in tick bound [] n s sp e low high = cc
  ended-in tick bound (u ∷ ss) zero s sp e low high =
      let same : u ≡ s = cc in
      let r : ended len tick ss ≡ 0 = ended-none tick (u + len) ss sp.1 (omega arith) in
      ended-skip tick u ss (omega arith) ∙ r
  ended-in tick bound (u ∷ ss) (suc n) s sp e low high =
      let late : u + len ≤ s = start-late (u + len) ss n s sp.1 e in
      ended-take tick u ss (omega arith) ∙ ap suc (ended-in tick (u + len) ss n s sp.1 e low high)

  -- once a window has ended, it and all before it have
  pub ended-past : (tick bound : ℕ) (ss : List ℕ) (n s : ℕ) → AreSpaced len bound ss → IsStart ss n s → s + len ≤ tick
      → n + 1 ≤ ended len tick ss
  ended-past tick bound [] n s sp e l = cc
  ended-past tick bound (u ∷ ss) zero s sp e l =
      let same : u ≡ s = cc in
      let more : ended len tick (u ∷ ss) ≡ suc (ended len tick ss) = ended-take tick u ss (omega arith) in
      omega (arith, more)
  ended-past tick bound (u ∷ ss) (suc n) s sp e l =
      let late : u + len ≤ s = start-late (u + len) ss n s sp.1 e in
      let rest : n + 1 ≤ ended len tick ss = ended-past tick (u + len) ss n s sp.1 e l in
      let more : ended len tick (u ∷ ss) ≡ suc (ended len tick ss) = ended-take tick u ss (omega arith) in
      omega (arith, more, rest)

  pub ended-rises : (t u : ℕ) (ss : List ℕ) → t ≤ u → ended len t ss ≤ ended len u ss
  ended-rises t u [] l = omega arith
  ended-rises t u (s ∷ ss) l = go (ended-rises t u ss l) (cases_lt t (s + len)) (cases_lt u (s + len))
    where
      go : ended len t ss ≤ ended len u ss → (t < s + len) ⊎ (s + len ≤ t) → (u < s + len) ⊎ (s + len ≤ u)
          → ended len t (s ∷ ss) ≤ ended len u (s ∷ ss)
      go rest (inl a) (inl b) =
          let x : ended len t (s ∷ ss) ≡ ended len t ss = ended-skip t s ss a in
          let y : ended len u (s ∷ ss) ≡ ended len u ss = ended-skip u s ss b in
          omega (arith, x, y, rest)
      go rest (inl a) (inr b) =
          let x : ended len t (s ∷ ss) ≡ ended len t ss = ended-skip t s ss a in
          let y : ended len u (s ∷ ss) ≡ suc (ended len u ss) = ended-take u s ss b in
          omega (arith, x, y, rest)
      go rest (inr a) (inl b) = absurd (omega arith)
      go rest (inr a) (inr b) =
          let x : ended len t (s ∷ ss) ≡ suc (ended len t ss) = ended-take t s ss a in
          let y : ended len u (s ∷ ss) ≡ suc (ended len u ss) = ended-take u s ss b in
          omega (arith, x, y, rest)

  -- the start of the window that a visit is in
  pub record IsCovered (ss : List ℕ) (tick : ℕ) : Type 0 where
    pub number : ℕ
    pub start : ℕ
    pub at : IsStart ss number start
    pub low : start ≤ tick
    pub high : tick < start + len

  covered-suc : (s : ℕ) (ss : List ℕ) (tick : ℕ) → IsCovered ss tick → IsCovered (s ∷ ss) tick
  covered-suc s ss tick c = record { number = suc c.number; start = c.start; at = c.at; low = c.low; high = c.high }

  pub covered : 1 ≤ len → (bound : ℕ) (J : List Visit) → TicksRise J → (v : Visit) → Among v J → bound ≤ v.tick
      → IsCovered (starts_from len bound J) v.tick
  covered pos bound [] r v a l = absurd a
  covered pos bound (u ∷ J) r v a l =
      go (nat_lt u.tick bound) refl a (λ b m. covered pos bound J r.1 v b m) (λ b m. covered pos (u.tick + len) J r.1 v b m)
    where
      late : Among v (u ∷ J) → u.tick ≤ v.tick
      late (inl e) = let same : u.tick ≡ v.tick = ap (λ (w : Visit). w.tick) e in omega arith
      late (inr b) = r.0 v b

      go : (b : Bool) → nat_lt u.tick bound ≡ b → Among v (u ∷ J)
          → (Among v J → bound ≤ v.tick → IsCovered (starts_from len bound J) v.tick)
          → (Among v J → u.tick + len ≤ v.tick → IsCovered (starts_from len (u.tick + len) J) v.tick)
          → IsCovered (cond b (starts_from len bound J) (u.tick ∷ starts_from len (u.tick + len) J)) v.tick
      go true t (inl e) early behind =
          let same : u.tick ≡ v.tick = ap (λ (w : Visit). w.tick) e in
          let below : u.tick < bound = ltb-true u.tick bound t in
          absurd (omega arith)
      go true t (inr b) early behind = early b l
      go false t b early behind = split (cases_lt v.tick (u.tick + len)) b
        where
          split : (v.tick < u.tick + len) ⊎ (u.tick + len ≤ v.tick) → Among v (u ∷ J)
              → IsCovered (u.tick ∷ starts_from len (u.tick + len) J) v.tick
          split (inl high) c = record { number = 0; start = u.tick; at = refl; low = late c; high = high }
          split (inr ends) (inl e) = let same : u.tick ≡ v.tick = ap (λ (w : Visit). w.tick) e in absurd (omega arith)
          split (inr ends) (inr c) = covered-suc u.tick (starts_from len (u.tick + len) J) v.tick (behind c ends)

  -- each window starts with a visit
  pub start-visit : (bound : ℕ) (J : List Visit) (n s : ℕ) → IsStart (starts_from len bound J) n s
      → (v : Visit) × Among v J × (v.tick ≡ s)
  start-visit bound [] n s e = cc
  start-visit bound (u ∷ J) n s e =
      go (nat_lt u.tick bound) n e (λ m. start-visit bound J m s) (λ m. start-visit (u.tick + len) J m s)
    where
      go : (b : Bool) (k : ℕ) → IsStart (cond b (starts_from len bound J) (u.tick ∷ starts_from len (u.tick + len) J)) k s
          → ((m : ℕ) → IsStart (starts_from len bound J) m s → (v : Visit) × Among v J × (v.tick ≡ s))
          → ((m : ℕ) → IsStart (starts_from len (u.tick + len) J) m s → (v : Visit) × Among v J × (v.tick ≡ s))
          → (v : Visit) × Among v (u ∷ J) × (v.tick ≡ s)
      go true k f early behind = let w = early k f in (w.0, inr w.1, w.2)
      go false zero f early behind = (u, inl refl, cc)
      go false (suc m) f early behind = let w = behind m f in (w.0, inr w.1, w.2)

  -- there are no more windows than visits
  pub starts-few : (bound : ℕ) (J : List Visit) → length (starts_from len bound J) ≤ length J
  starts-few bound [] = omega arith
  starts-few bound (u ∷ J) = go (nat_lt u.tick bound) (starts-few bound J) (starts-few (u.tick + len) J)
    where
      go : (b : Bool) → length (starts_from len bound J) ≤ length J → length (starts_from len (u.tick + len) J) ≤ length J
          → length (cond b (starts_from len bound J) (u.tick ∷ starts_from len (u.tick + len) J)) ≤ length (u ∷ J)
      go true early behind = omega (arith, early)
      go false early behind = omega (arith, behind)
