-- Lists that grow into a journal: what is true of a journal's front, of each list that `grown_by` passes, and of the journal itself.
use Rattle.std.proofs.Common.{◌≡◌, ◌⊎◌, inl, inr, ⊎_elim, ℕ, zero, suc, ◌+◌, ◌<◌, ◌≤◌, Bool, true, false, ◌&&◌, ◌==◌, List, [], ◌∷◌, ◌++◌, map, Some, refl, sym, ap, ◌∙◌, subst, arith, true≢false, eq-eqb, eqb-true}
use Rattle.std.proofs.lemmas.Bool.{and_from, and_parts, cases_order, cases_lt}
use Rattle.mn_base.specs.Among.{Among}
use Rattle.mn_base.specs.declared.due.Due.{Due}
use Rattle.mn_base.specs.Canonical.{Before}
use Rattle.pipe.specs.Scheme.{Scheme, dues_by, Rises, AreMade, IsJournalBy, is_done_by, IsGrowingBy, IsOrderly}
use Rattle.mn_base.proofs.Members.{Among-append-left, Among-last, Among-push, Among-map, Among-from-map, list_any-true, Among-from-list_any, split_push}
use Rattle.pipe.proofs.CanonicalOrder.{before-either, before-tick}
use Rattle.pipe.proofs.Origins.{OriginBy, origin_by, due_from-first, due_from-visit, dues-push, later_by, rises-push, rises-same}

-- the visit that makes a due one done
pub record IsDoneBy {V : Type 0} (s : Scheme V) (J : List V) (x : Due) : Type 0 where
  pub visit : V
  pub among : Among visit J
  pub packet : (s.due_of visit).packet ≡ x.packet
  pub hop : (s.due_of visit).hop ≡ x.hop

-- a visit of v's packet to this hop
pub record IsEarlierBy {V : Type 0} (s : Scheme V) (J : List V) (v : V) (hop : ℕ) : Type 0 where
  pub visit : V
  pub among : Among visit J
  pub packet : (s.due_of visit).packet ≡ (s.due_of v).packet
  pub at : (s.due_of visit).hop ≡ hop

-- a due visit that isn't made, and before which there is none
pub record IsLeastBy {V : Type 0} (s : Scheme V) (J : List V) (x : Due) : Type 0 where
  pub due : Among x (dues_by s J)
  pub waits : is_done_by s J x ≡ false
  pub least : (y : Due) → Among y (dues_by s J) → is_done_by s J y ≡ false → Before y x → ⊥

module _ {V : Type 0} (s : Scheme V) where
  pub done-true : (J : List V) (v : V) (x : Due) → Among v J → (s.due_of v).packet ≡ x.packet → (s.due_of v).hop ≡ x.hop
      → is_done_by s J x ≡ true
  done-true J v x h p q =
      list_any-true (λ (u : V). ((s.due_of u).packet == x.packet) && ((s.due_of u).hop == x.hop)) v J h
      (and_from _ _ (eq-eqb _ _ p) (eq-eqb _ _ q))

  pub done_parts : (J : List V) (x : Due) → is_done_by s J x ≡ true → IsDoneBy s J x
  done_parts J x e =
      let t = Among-from-list_any (λ (u : V). ((s.due_of u).packet == x.packet) && ((s.due_of u).hop == x.hop)) J e in
      let p = and_parts ((s.due_of t.0).packet == x.packet) ((s.due_of t.0).hop == x.hop) t.2 in
      record { visit = t.0; among = t.1; packet = eqb-true _ _ p.0; hop = eqb-true _ _ p.1 }

  -- what isn't done after one visit more wasn't done before it
  pub undone : (J : List V) (v : V) (y : Due) → is_done_by s (J ++ v ∷ []) y ≡ false → is_done_by s J y ≡ false
  undone J v y e = go (is_done_by s J y) refl
    where
      go : (b : Bool) → is_done_by s J y ≡ b → is_done_by s J y ≡ false
      go false t = t
      go true t =
          let d = done_parts J y t in
          absurd (true≢false (sym (done-true (J ++ v ∷ []) d.visit y (Among-append-left d.visit J (v ∷ []) d.among) d.packet d.hop) ∙ e))

  -- a visit that isn't of this packet and hop leaves it undone
  pub done-push : (J : List V) (v : V) (y : Due) → is_done_by s J y ≡ false
      → ((s.due_of v).packet ≡ y.packet → (s.due_of v).hop ≡ y.hop → ⊥) → is_done_by s (J ++ v ∷ []) y ≡ false
  done-push J v y waits other = go (is_done_by s (J ++ v ∷ []) y) refl
    where
      go : (b : Bool) → is_done_by s (J ++ v ∷ []) y ≡ b → is_done_by s (J ++ v ∷ []) y ≡ false
      go false t = t
      go true t =
          let d = done_parts (J ++ v ∷ []) y t in
          ⊎_elim
          (λ old. absurd (true≢false (sym (done-true J d.visit y old d.packet d.hop) ∙ waits)))
          (λ new. absurd (other (ap (λ (u : V). (s.due_of u).packet) new ∙ d.packet) (ap (λ (u : V). (s.due_of u).hop) new ∙ d.hop)))
          (Among-push d.visit J v d.among)

  -- before any visit the empty list grows
  pub growing-nil : IsGrowingBy s []
  growing-nil = record { rises = tt; sound = λ v h. absurd h; made = none; ahead = λ v x h. absurd h }
    where
      none : AreMade s []
      none [] rest v e = cc
      none (u ∷ front) rest v e = cc

  -- a journal is such a list, too: nothing is pending
  pub growing_from-journal : (J : List V) → IsJournalBy s J → IsGrowingBy s J
  growing_from-journal J j = record {
    rises = j.rises;
    sound = λ v a. j.sound (s.due_of v) (Among-map s.due_of v J a);
    made = j.made;
    ahead = λ v x h a w. absurd (none x a w);
  }
    where
      none : (x : Due) → Among x (dues_by s J) → is_done_by s J x ≡ false → ⊥
      none x a w =
          let t = Among-from-map s.due_of x J (j.complete x a) in
          true≢false (sym (done-true J t.0 x t.1 (ap (λ (d : Due). d.packet) t.2) (ap (λ (d : Due). d.hop) t.2)) ∙ w)

module _ {V : Type 0} (s : Scheme V) (o : IsOrderly s) (J : List V) (g : IsGrowingBy s J) where
  one_due-by_hop : (h : ℕ) (x y : Due) → Among x (dues_by s J) → Among y (dues_by s J) → x.packet ≡ y.packet → x.hop ≡ h → y.hop ≡ h → x ≡ y
  one_due-by_hop zero x y a b p e f = go (origin_by s J x a) (origin_by s J y b)
    where
      go : OriginBy s J x → OriginBy s J y → x ≡ y
      go (inl m) (inl n) = o.apart x y m n p
      go (inl m) (inr n) = let i : y.hop ≡ (s.due_of n.0).hop + 1 = o.hop n.0 y n.2 in absurd (omega arith)
      go (inr m) n = let i : x.hop ≡ (s.due_of m.0).hop + 1 = o.hop m.0 x m.2 in absurd (omega arith)
  one_due-by_hop (suc h) x y a b p e f = go (origin_by s J x a) (origin_by s J y b) (one_due-by_hop h)
    where
      go : OriginBy s J x → OriginBy s J y
          → ((u w : Due) → Among u (dues_by s J) → Among w (dues_by s J) → u.packet ≡ w.packet → u.hop ≡ h → w.hop ≡ h → u ≡ w)
          → x ≡ y
      go (inl m) n rest = let i : x.hop ≡ 0 = o.start x m in absurd (omega arith)
      go (inr m) (inl n) rest = let i : y.hop ≡ 0 = o.start y n in absurd (omega arith)
      go (inr m) (inr n) rest =
          let i : x.hop ≡ (s.due_of m.0).hop + 1 = o.hop m.0 x m.2 in
          let j : y.hop ≡ (s.due_of n.0).hop + 1 = o.hop n.0 y n.2 in
          let packet : (s.due_of m.0).packet ≡ (s.due_of n.0).packet = sym (o.packet m.0 x m.2) ∙ p ∙ o.packet n.0 y n.2 in
          let due : s.due_of m.0 ≡ s.due_of n.0 =
          rest (s.due_of m.0) (s.due_of n.0) (g.sound m.0 m.1) (g.sound n.0 n.1) packet (omega arith) (omega arith) in
          let visit : m.0 ≡ n.0 = rises-same s J m.0 n.0 g.rises m.1 n.1 due in
          let some : Some x ≡ Some y = sym m.2 ∙ ap s.next visit ∙ n.2 in
          cc

  -- of each packet and hop one visit at most is due
  pub one_due : (x y : Due) → Among x (dues_by s J) → Among y (dues_by s J) → x.packet ≡ y.packet → x.hop ≡ y.hop → x ≡ y
  one_due x y a b p e = one_due-by_hop y.hop x y a b p e refl

  -- no packet visits a hop twice
  pub one_visit : (u v : V) → Among u J → Among v J → (s.due_of u).packet ≡ (s.due_of v).packet → (s.due_of u).hop ≡ (s.due_of v).hop
      → u ≡ v
  one_visit u v h k p e = rises-same s J u v g.rises h k (one_due (s.due_of u) (s.due_of v) (g.sound u h) (g.sound v k) p e)

  earlier-by_hop : (h k : ℕ) (v : V) → Among v J → (s.due_of v).hop ≡ h → k ≤ h → IsEarlierBy s J v k
  earlier-by_hop zero k v a e l = record { visit = v; among = a; packet = refl; at = omega arith }
  earlier-by_hop (suc h) k v a e l = go (cases_lt h k) (origin_by s J (s.due_of v) (g.sound v a)) (earlier-by_hop h k)
    where
      go : (h < k) ⊎ (k ≤ h) → OriginBy s J (s.due_of v) → ((u : V) → Among u J → (s.due_of u).hop ≡ h → k ≤ h → IsEarlierBy s J u k)
          → IsEarlierBy s J v k
      go (inl at_end) q rest = record { visit = v; among = a; packet = refl; at = omega arith }
      go (inr below) (inl m) rest = let i : (s.due_of v).hop ≡ 0 = o.start (s.due_of v) m in absurd (omega arith)
      go (inr below) (inr m) rest =
          let i : (s.due_of v).hop ≡ (s.due_of m.0).hop + 1 = o.hop m.0 (s.due_of v) m.2 in
          let p : (s.due_of v).packet ≡ (s.due_of m.0).packet = o.packet m.0 (s.due_of v) m.2 in
          let r = rest m.0 m.1 (omega arith) below in
          record { visit = r.visit; among = r.among; packet = r.packet ∙ sym p; at = r.at }

  -- a packet has visited each hop before one that it visits
  pub earlier : (k : ℕ) (v : V) → Among v J → k ≤ (s.due_of v).hop → IsEarlierBy s J v k
  earlier k v a l = earlier-by_hop (s.due_of v).hop k v a refl l

  apart-by_hop : (h : ℕ) (v : V) (x : Due) → Among v J → Among x (dues_by s J) → (s.due_of v).packet ≡ x.packet → x.hop ≡ h
      → (s.due_of v).hop < h → (s.due_of v).tick < x.tick
  apart-by_hop zero v x a b p e l = absurd (omega arith)
  apart-by_hop (suc h) v x a b p e l = go (origin_by s J x b) (cases_order (s.due_of v).hop h) (apart-by_hop h v)
    where
      go : OriginBy s J x → ((s.due_of v).hop ≡ h) ⊎ (((s.due_of v).hop < h) ⊎ (h < (s.due_of v).hop))
          → ((y : Due) → Among v J → Among y (dues_by s J) → (s.due_of v).packet ≡ y.packet → y.hop ≡ h
          → (s.due_of v).hop < h → (s.due_of v).tick < y.tick)
          → (s.due_of v).tick < x.tick
      go (inl m) q rest = let i : x.hop ≡ 0 = o.start x m in absurd (omega arith)
      go (inr m) (inr (inr over)) rest = absurd (omega arith)
      go (inr m) (inl same) rest =
          let i : x.hop ≡ (s.due_of m.0).hop + 1 = o.hop m.0 x m.2 in
          let q : x.packet ≡ (s.due_of m.0).packet = o.packet m.0 x m.2 in
          let one : v ≡ m.0 = one_visit v m.0 a m.1 (p ∙ q) (omega arith) in
          let tick : (s.due_of v).tick ≡ (s.due_of m.0).tick = ap (λ (u : V). (s.due_of u).tick) one in
          let later : (s.due_of m.0).tick < x.tick = later_by s o J m.0 x g.made m.1 m.2 in
          omega (arith, tick, later)
      go (inr m) (inr (inl below)) rest =
          let i : x.hop ≡ (s.due_of m.0).hop + 1 = o.hop m.0 x m.2 in
          let q : x.packet ≡ (s.due_of m.0).packet = o.packet m.0 x m.2 in
          let before : (s.due_of v).tick < (s.due_of m.0).tick = rest (s.due_of m.0) a (g.sound m.0 m.1) (p ∙ q) (omega arith) below in
          let later : (s.due_of m.0).tick < x.tick = later_by s o J m.0 x g.made m.1 m.2 in
          omega (arith, before, later)

  -- a later hop of a packet is due at a later tick
  pub apart : (v : V) (x : Due) → Among v J → Among x (dues_by s J) → (s.due_of v).packet ≡ x.packet → (s.due_of v).hop < x.hop
      → (s.due_of v).tick < x.tick
  apart v x a b p l = apart-by_hop x.hop v x a b p refl l

  -- the next hop of a visit, where its packet has visited that
  pub follows : (u v : V) → Among u J → Among v J → (s.due_of u).packet ≡ (s.due_of v).packet → (s.due_of v).hop ≡ (s.due_of u).hop + 1
      → s.next u ≡ Some (s.due_of v)
  follows u v a b p e = go (origin_by s J (s.due_of v) (g.sound v b))
    where
      go : OriginBy s J (s.due_of v) → s.next u ≡ Some (s.due_of v)
      go (inl m) = let i : (s.due_of v).hop ≡ 0 = o.start (s.due_of v) m in absurd (omega arith)
      go (inr m) =
          let i : (s.due_of v).hop ≡ (s.due_of m.0).hop + 1 = o.hop m.0 (s.due_of v) m.2 in
          let q : (s.due_of v).packet ≡ (s.due_of m.0).packet = o.packet m.0 (s.due_of v) m.2 in
          let one : u ≡ m.0 = one_visit u m.0 a m.1 (p ∙ q) (omega arith) in
          ap s.next one ∙ m.2

  waits-below : (x y : Due) → Among y (dues_by s J) → x.packet ≡ y.packet → is_done_by s J x ≡ false → x.hop < y.hop → ⊥
  waits-below x y b p waits l = go (origin_by s J y b)
    where
      go : OriginBy s J y → ⊥
      go (inl m) = let i : y.hop ≡ 0 = o.start y m in absurd (omega arith)
      go (inr m) =
          let i : y.hop ≡ (s.due_of m.0).hop + 1 = o.hop m.0 y m.2 in
          let q : y.packet ≡ (s.due_of m.0).packet = o.packet m.0 y m.2 in
          let r = earlier x.hop m.0 m.1 (omega arith) in
          true≢false (sym (done-true s J r.visit x r.among (r.packet ∙ sym q ∙ sym p) r.at) ∙ waits)

  -- of each packet one visit at most is pending
  pub one_pending : (x y : Due) → Among x (dues_by s J) → Among y (dues_by s J) → is_done_by s J x ≡ false → is_done_by s J y ≡ false
      → x.packet ≡ y.packet → x ≡ y
  one_pending x y a b v w p = go (cases_order x.hop y.hop)
    where
      go : (x.hop ≡ y.hop) ⊎ ((x.hop < y.hop) ⊎ (y.hop < x.hop)) → x ≡ y
      go (inl e) = one_due x y a b p e
      go (inr (inl l)) = absurd (waits-below x y b p v l)
      go (inr (inr l)) = absurd (waits-below y x a (sym p) w l)

  -- where nothing is pending the list is a journal
  pub growing_whole : ((x : Due) → Among x (dues_by s J) → is_done_by s J x ≡ true) → IsJournalBy s J
  growing_whole all = record {
    rises = g.rises;
    complete = λ x a. let d = done_parts s J x (all x a) in
        let one : s.due_of d.visit ≡ x = one_due (s.due_of d.visit) x (g.sound d.visit d.among) a d.packet d.hop in
        subst (λ (y : Due). Among y (map s.due_of J)) one (Among-map s.due_of d.visit J d.among);
    sound = λ x a. let t = Among-from-map s.due_of x J a in subst (λ (y : Due). Among y (dues_by s J)) t.2 (g.sound t.0 t.1);
    made = g.made;
  }

  -- what is pending after x comes after x
  pub least-before : (x y : Due) → IsLeastBy s J x → Among y (dues_by s J) → is_done_by s J y ≡ false → (x ≡ y → ⊥) → Before x y
  least-before x y l b w other =
      before-either x y (λ same. other (one_pending x y l.due b l.waits w same)) (λ after. l.least y b w after)

  -- with one visit more, the least that is pending, a list is still growing
  pub growing-push : (x : Due) → IsLeastBy s J x → IsGrowingBy s (J ++ s.make J x ∷ [])
  growing-push x l = record { rises = rising; sound = sounds; made = made; ahead = leads }
    where
      new : V
      new = s.make J x

      is_x : s.due_of new ≡ x
      is_x = o.due J x

      behind : (u : V) → Among u J → Before (s.due_of u) x
      behind u a = g.ahead u x a l.due l.waits

      rising : Rises s (J ++ new ∷ [])
      rising = rises-push s J new g.rises (λ u a. subst (λ (d : Due). Before (s.due_of u) d) (sym is_x) (behind u a))

      new_due : Among (s.due_of new) (dues_by s (J ++ new ∷ []))
      new_due = subst (λ (d : Due). Among d (dues_by s (J ++ new ∷ []))) (sym is_x) (dues-push s J new x l.due)

      sounds : (v : V) → Among v (J ++ new ∷ []) → Among (s.due_of v) (dues_by s (J ++ new ∷ []))
      sounds v a =
          ⊎_elim (λ old. dues-push s J new (s.due_of v) (g.sound v old))
          (λ e. subst (λ (u : V). Among (s.due_of u) (dues_by s (J ++ new ∷ []))) e new_due) (Among-push v J new a)

      made : AreMade s (J ++ new ∷ [])
      made front rest v e = ⊎_elim last (λ old. g.made front old.0 v old.1) (split_push J new front rest v e)
        where
          last : (front ≡ J) × (v ≡ new) → v ≡ s.make front (s.due_of v)
          last t = t.1 ∙ ap (s.make J) (sym is_x ∙ ap s.due_of (sym t.1)) ∙ ap (λ (f : List V). s.make f (s.due_of v)) (sym t.0)

      leads : (v : V) (y : Due) → Among v (J ++ new ∷ []) → Among y (dues_by s (J ++ new ∷ [])) → is_done_by s (J ++ new ∷ []) y ≡ false
          → Before (s.due_of v) y
      leads v y a b w = go (origin_by s (J ++ new ∷ []) y b) (Among-push v J new a)
        where
          waits : is_done_by s J y ≡ false
          waits = undone s J new y w

          other : x ≡ y → ⊥
          other e =
              true≢false (sym (done-true s (J ++ new ∷ []) new y (Among-last new J)
              (ap (λ (d : Due). d.packet) (is_x ∙ e)) (ap (λ (d : Due). d.hop) (is_x ∙ e))) ∙ w)

          old : Among y (dues_by s J) → (Among v J) ⊎ (new ≡ v) → Before (s.due_of v) y
          old d (inl h) = g.ahead v y h d waits
          old d (inr e) = subst (λ (z : Due). Before z y) (sym is_x ∙ ap s.due_of e) (least-before x y l d waits other)

          go : OriginBy s (J ++ new ∷ []) y → (Among v J) ⊎ (new ≡ v) → Before (s.due_of v) y
          go (inl m) q = old (due_from-first s J y m) q
          go (inr m) q = ⊎_elim (λ h. old (due_from-visit s J m.0 y h m.2) q) next (Among-push m.0 J new m.1)
            where
              next : new ≡ m.0 → Before (s.due_of v) y
              next e = place q
                where
                  later : x.tick < y.tick
                  later =
                      let t : x.tick ≡ (s.due_of m.0).tick = ap (λ (d : Due). d.tick) (sym is_x ∙ ap s.due_of e) in
                      let u : (s.due_of m.0).tick < y.tick = later_by s o (J ++ new ∷ []) m.0 y made m.1 m.2 in
                      omega (arith, t, u)

                  place : (Among v J) ⊎ (new ≡ v) → Before (s.due_of v) y
                  place (inl h) =
                      let t : (s.due_of v).tick ≤ x.tick = before-tick (s.due_of v) x (behind v h) in inl (omega (arith, t, later))
                  place (inr f) = subst (λ (z : Due). Before z y) (sym is_x ∙ ap s.due_of f) (inl later)
