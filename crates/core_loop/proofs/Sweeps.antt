-- A sweep over the ports: after each post, or each take, it says what it says of one core more.
use Rattle.std.proofs.Common.{◌≡◌, ◌≢◌, ◌⊎◌, inl, inr, ℕ, ◌+◌, ◌<◌, true, false, Option, Some, None, refl, sym, ◌∙◌, subst, arith}
use Rattle.std.specs.Prelude.{unwrap_or}
use Rattle.std.proofs.lemmas.Bool.{cases_eq}
use Rattle.core_loop.specs.declared.round.Sweep.{Sweep}
use Rattle.core_loop.specs.declared.round.Trade.{Trade}
use Rattle.core_loop.specs.declared.round.Trade.TheVariants.{Past, Made, Refused}
use Rattle.core_loop.specs.CoreView.{CoreView}
use Rattle.core_loop.specs.Turns.{OwesPost, OwesTake, RefusedBetween}
use Rattle.core_loop.specs.Trading.{OnlyTakes, MakesOne, TradeComesTo, IsOwed, Swept, and_trade}
use Rattle.core_loop.proofs.Rounds.{other-before, trades-same, trades-then, then-moved, refused-then, then-refused}

-- what is owed is owed by another name
owed-as : (Is Becomes : ℕ → Type 0) → ((other : ℕ) → Is other → Becomes other) → ((other : ℕ) → Becomes other → Is other)
    → (first : Option ℕ) → IsOwed Is first → IsOwed Becomes first
owed-as Is Becomes to from None none = λ other b. none other (from other b)
owed-as Is Becomes to from (Some other) one = to other one

-- below the next number is below this one, or at it
below-next : (P : ℕ → Type 0) (end other : ℕ) → (other < end → P other) → P end → other < end + 1 → P other
below-next P end other below here less = go (cases_eq other end)
  where
    go : (other ≡ end) ⊎ (other ≢ end) → P other
    go (inl e) = subst P (sym e) here
    go (inr ne) = below (omega arith)

-- before the first
pub swept-none : {P : Type 0} {keeps : P → P → Type 0} {refuses : P → ℕ → P → Type 0} {OwesOne : CoreView → ℕ → Type 0}
    → ((p : P) → keeps p p) → (p : P) (c : CoreView) → c.failed ≡ false
    → Swept keeps refuses OwesOne p c p c 0 (record { moved = false; refused = None })
swept-none same p c works = record {
  keeps_to = same p;
  trades = trades-same c works;
  says_moved = refl;
  each = λ other below. absurd (let l : other < 0 = below in omega arith);
  first = λ other is. absurd (let l : other < 0 = is.0 in omega arith);
}

module _ {P : Type 0} {keeps : P → P → Type 0} {refuses : P → ℕ → P → Type 0} {OwesOne : CoreView → ℕ → Type 0}
    {p q : P} {c d : CoreView} {end : ℕ} {s : Sweep} (w : Swept keeps refuses OwesOne p c q d end s) where
  -- one that isn't owed
  past : (OwesOne d end → ⊥) → Swept keeps refuses OwesOne p c q d (end + 1) s
  past not_owed = record {
    keeps_to = w.keeps_to;
    trades = w.trades;
    says_moved = w.says_moved;
    each = λ other below. below-next (λ k. OwesOne d k → RefusedBetween keeps refuses p k q) end other (w.each other)
        (λ owed. absurd (not_owed owed)) below;
    first = owed-as (λ other. (other < end) × OwesOne d other) (λ other. (other < end + 1) × OwesOne d other)
        (λ other is. ((let l = is.0 in omega arith), is.1))
        (λ other is. below-next (λ k. OwesOne d k → (k < end) × OwesOne d k) end other (λ l owed. (l, owed))
        (λ owed. absurd (not_owed owed)) is.0 is.1)
        s.refused w.first;
  }

  -- one that is made
  made : ((p q r : P) → keeps p q → keeps q r → keeps p r) → {r : P} {e : CoreView} → keeps q r → MakesOne OwesOne d end e
      → Swept keeps refuses OwesOne p c r e (end + 1) (record s { moved = true })
  made trans {r} {e} k m = record {
    keeps_to = trans p q r w.keeps_to k;
    trades = trades-then c d e w.trades m.trades;
    says_moved = then-moved c d e w.trades.rises m.moved;
    each = λ other below. below-next (λ k. OwesOne e k → RefusedBetween keeps refuses p k r) end other
        (λ l owed. refused-then keeps refuses trans p q r other (w.each other l (old other l owed)) k)
        (λ owed. absurd (m.made owed)) below;
    first = owed-as (λ other. (other < end) × OwesOne d other) (λ other. (other < end + 1) × OwesOne e other)
        (λ other is. ((let l = is.0 in omega arith), (m.others other (λ e. (let l : other < end = is.0 in omega arith))).1 is.1))
        (λ other is. below-next (λ k. OwesOne e k → (k < end) × OwesOne d k) end other (λ l owed. (l, old other l owed))
        (λ owed. absurd (m.made owed)) is.0 is.1)
        s.refused w.first;
  }
    where
      old : (other : ℕ) → other < end → OwesOne e other → OwesOne d other
      old other l owed = (m.others other (λ e. omega arith)).0 owed

  -- one that is refused
  refused : ((p q r : P) → keeps p q → keeps q r → keeps p r) → ((p : P) → keeps p p) → {r : P} → keeps q r → OwesOne d end
      → refuses q end r
      → Swept keeps refuses OwesOne p c r d (end + 1) (and_trade s Refused end)
  refused trans same {r} k owed said = record {
    keeps_to = trans p q r w.keeps_to k;
    trades = w.trades;
    says_moved = w.says_moved;
    each = λ other below. below-next (λ k. OwesOne d k → RefusedBetween keeps refuses p k r) end other
        (λ l o. refused-then keeps refuses trans p q r other (w.each other l o) k)
        (λ o. (q, r, w.keeps_to, k, said, same r)) below;
    first = first s.refused w.first;
  }
    where
      first : (o : Option ℕ) → IsOwed (λ other. (other < end) × OwesOne d other) o
          → IsOwed (λ other. (other < end + 1) × OwesOne d other) (Some (unwrap_or o end))
      first None none = (omega arith, owed)
      first (Some other) one = ((let l = one.0 in omega arith), one.1)

-- one more, whatever came of it
pub swept-more : {P : Type 0} {keeps : P → P → Type 0} {refuses : P → ℕ → P → Type 0} {OwesOne : CoreView → ℕ → Type 0}
    {p q r : P} {c d e : CoreView} {end : ℕ} {s : Sweep}
    → ((p q r : P) → keeps p q → keeps q r → keeps p r) → ((p : P) → keeps p p)
    → Swept keeps refuses OwesOne p c q d end s → (t : Trade) → keeps q r → TradeComesTo refuses OwesOne q d r e end t
    → Swept keeps refuses OwesOne p c r e (end + 1) (and_trade s t end)
swept-more {P} {keeps} {refuses} {OwesOne} {p} {q} {r} {c} {d} {e} {end} {s} trans same w Past k t =
    subst (λ (z : P). Swept keeps refuses OwesOne p c z e (end + 1) s) (sym t.1)
    (subst (λ (z : CoreView). Swept keeps refuses OwesOne p c q z (end + 1) s) (sym t.0) (past w t.2))
swept-more trans same w Made k t = made w trans k t
swept-more {P} {keeps} {refuses} {OwesOne} {p} {q} {r} {c} {d} {e} {end} {s} trans same w Refused k t =
    subst (λ (z : CoreView). Swept keeps refuses OwesOne p c r z (end + 1) (and_trade s Refused end)) (sym t.0)
    (refused w trans same k t.1 t.2)

-- ---- the posts of a round, and then its takes

-- from a core, with the ports p, the posts of a round were swept, and then its takes: d is the core then, and r the ports
pub record HasTraded {P : Type 0} (keeps : P → P → Type 0) (busy empty : P → ℕ → P → Type 0) (p r : P) (d : CoreView) : Type 0 where
  pub transitive : (p q r : P) → keeps p q → keeps q r → keeps p r
  pub first : CoreView
  -- the core and the ports with the posts made
  pub between : CoreView
  pub ports : P
  pub posts : Sweep
  pub takes : Sweep
  pub posted : Swept keeps busy OwesPost p first ports between first.setup.cores posts
  pub taken : Swept keeps empty OwesTake ports between r d between.setup.cores takes
  pub only : OnlyTakes between d

module _ {P : Type 0} {keeps : P → P → Type 0} {busy empty : P → ℕ → P → Type 0} {p r : P} {d : CoreView}
    (t : HasTraded keeps busy empty p r d) where
  -- a post that is owed at the end was owed before the takes
  owed-post : (other : ℕ) → OwesPost d other → OwesPost t.between other
  owed-post other owed =
      (other-before t.between d t.only.setup t.only.number other owed.0, sym (t.only.posts other) ∙ (owed.1 ∙ t.only.windows))

  pub posts-refused : (other : ℕ) → OwesPost d other → RefusedBetween keeps busy p other r
  posts-refused other owed =
      let o = owed-post other owed in
      let below = (other-before t.first t.between t.posted.trades.rises.setup t.posted.trades.rises.number other o.0).0 in
      refused-then keeps busy t.transitive p t.ports r other (t.posted.each other below o) t.taken.keeps_to

  pub takes-refused : (other : ℕ) → OwesTake d other → RefusedBetween keeps empty p other r
  takes-refused other owed =
      let below = (other-before t.between d t.only.setup t.only.number other owed.0).0 in
      then-refused keeps empty t.transitive p t.ports r other t.posted.keeps_to (t.taken.each other below owed)
