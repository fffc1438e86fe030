-- How what a core does adds up: posts, takes and windows one after the other.
use Rattle.std.proofs.Common.{◌≡◌, ◌⊎◌, inl, inr, ℕ, List, true, false, refl, sym, ap, ◌∙◌, arith}
use Rattle.journal.specs.SetupView.{SetupView}
use Rattle.core_loop.specs.CoreView.{CoreView, IsOtherCore}
use Rattle.core_loop.specs.WorldState.{CoreStands}
use Rattle.core_loop.specs.Turns.{NoCountFalls, HasMoved, StillStands, RefusedBetween}
use Rattle.core_loop.specs.Trading.{OnlyTakes, Trades}

-- another core of a setup is one, whatever the core has done meanwhile
pub other-before : (c d : CoreView) → d.setup ≡ c.setup → d.number ≡ c.number → (other : ℕ) → IsOtherCore d other → IsOtherCore c other
other-before c d setup number other is =
    let cores : d.setup.cores ≡ c.setup.cores = ap (λ (s : SetupView). s.cores) setup in
    (omega (arith, is.0, cores), λ e. is.1 (e ∙ sym number))

-- ---- no count falls

pub rises-same : (c : CoreView) → NoCountFalls c c
rises-same c = record {
  setup = refl;
  number = refl;
  windows = omega arith;
  posts = λ other. omega arith;
  takes = λ other. omega arith;
}

pub rises-then : (c m d : CoreView) → NoCountFalls c m → NoCountFalls m d → NoCountFalls c d
rises-then c m d a b = record {
  setup = b.setup ∙ a.setup;
  number = b.number ∙ a.number;
  windows = (let x = a.windows in let y = b.windows in omega arith);
  posts = λ other. (let x = a.posts other in let y = b.posts other in omega arith);
  takes = λ other. (let x = a.takes other in let y = b.takes other in omega arith);
}

-- ---- it stands still

pub still-same : (c : CoreView) → StillStands c c
still-same c = λ bytes s. inr s

pub still-then : (c m d : CoreView) → m.failed ≡ false → StillStands c m → StillStands m d → StillStands c d
still-then c m d works a b = λ bytes s. go bytes (a bytes s)
  where
    go : (bytes : List (List ℕ)) → (m.failed ≡ true) ⊎ CoreStands bytes m → (d.failed ≡ true) ⊎ CoreStands bytes d
    go bytes (inl f) = absurd (let e : true ≡ false = sym f ∙ works in cc)
    go bytes (inr s) = b bytes s

-- ---- a count rose

-- and it hasn't fallen since
pub moved-then : (c m d : CoreView) → HasMoved c m → NoCountFalls m d → HasMoved c d
moved-then c m d (inl w) r = inl (let x = r.windows in omega arith)
moved-then c m d (inr (inl p)) r = inr (inl (p.0, p.1, (let x = r.posts p.0 in let y = p.2 in omega arith)))
moved-then c m d (inr (inr t)) r = inr (inr (t.0, t.1, (let x = r.takes t.0 in let y = t.2 in omega arith)))

-- or it rose from what it had risen to before
pub then-moved : (c m d : CoreView) → NoCountFalls c m → HasMoved m d → HasMoved c d
then-moved c m d r (inl w) = inl (let x = r.windows in omega arith)
then-moved c m d r (inr (inl p)) = inr (inl (p.0, other-before c m r.setup r.number p.0 p.1, (let x = r.posts p.0 in let y = p.2 in omega arith)))
then-moved c m d r (inr (inr t)) = inr (inr (t.0, other-before c m r.setup r.number t.0 t.1, (let x = r.takes t.0 in let y = t.2 in omega arith)))

-- ---- posts and takes

pub trades-same : (c : CoreView) → c.failed ≡ false → Trades c c
trades-same c works = record { rises = rises-same c; windows = refl; stands = still-same c; works = works }

pub trades-then : (c m d : CoreView) → Trades c m → Trades m d → Trades c d
trades-then c m d a b = record {
  rises = rises-then c m d a.rises b.rises;
  windows = b.windows ∙ a.windows;
  stands = still-then c m d a.works a.stands b.stands;
  works = b.works;
}

-- takes alone
pub takes-then : (c m d : CoreView) → OnlyTakes c m → OnlyTakes m d → OnlyTakes c d
takes-then c m d a b = record {
  setup = b.setup ∙ a.setup;
  number = b.number ∙ a.number;
  windows = b.windows ∙ a.windows;
  posts = λ other. b.posts other ∙ a.posts other;
  takes = λ other. (let x = a.takes other in let y = b.takes other in omega arith);
}

-- ---- a port refused

-- between two states of which the later was followed by others
pub refused-then : {P : Type 0} (keeps : P → P → Type 0) (refuses : P → ℕ → P → Type 0) → ((p q r : P) → keeps p q → keeps q r → keeps p r)
    → (p q r : P) (other : ℕ) → RefusedBetween keeps refuses p other q → keeps q r
    → RefusedBetween keeps refuses p other r
refused-then keeps refuses trans p q r other b k = (b.0, b.1, b.2, b.3, b.4, trans b.1 q r b.5 k)

-- or of which the earlier followed others
pub then-refused : {P : Type 0} (keeps : P → P → Type 0) (refuses : P → ℕ → P → Type 0) → ((p q r : P) → keeps p q → keeps q r → keeps p r)
    → (p q r : P) (other : ℕ) → keeps p q → RefusedBetween keeps refuses q other r
    → RefusedBetween keeps refuses p other r
then-refused keeps refuses trans p q r other k b = (b.0, b.1, trans p q b.0 k b.2, b.3, b.4, b.5)
