-- The walks that a table stands for are least: they are walks of the labels' keys, and no walk has a lesser key.
use Rattle.std.proofs.Common.{◌≡◌, ℕ, suc, zero, ◌<◌, ◌≤◌, ◌⊎◌, inl, inr, List, [], ◌∷◌, length, Option, Some, None, refl, sym, ap, subst, ◌∙◌, arith}
use Rattle.std.proofs.lemmas.Bool.{cases_eq}
use Rattle.std.proofs.lemmas.Option.{none-some}
use Rattle.routes.specs.declared.graph.Arc.{Arc}
use Rattle.routes.specs.declared.label.Label.{Label}
use Rattle.routes.specs.Walk.{arc_at, IsWalk, weight_of}
use Rattle.routes.specs.LeastWalk.{IsNoLater, IsNoGreater, IsLeastWalk}
use Rattle.routes.specs.Table.{home, IsTable}

-- the first arc of a label
abbrev pub next_of : Option Label → ℕ
next_of None = 0
next_of (Some l) = l.next

-- the arcs that the table names from v on, n of them
abbrev pub path : List Arc → (ℕ → Option Label) → ℕ → ℕ → List ℕ
path arcs label zero v = []
path arcs label (suc n) v = next_of (label v) ∷ path arcs label n (arc_at arcs (next_of (label v))).to

-- a walk with the key of a label
pub record IsWalkOf (arcs : List Arc) (a b : ℕ) (l : Label) (es : List ℕ) : Type 0 where
  pub walk : IsWalk arcs a b es
  pub weight : weight_of arcs es ≡ l.weight
  pub hops : length es ≡ l.hops

module _ (arcs : List Arc) (goal : ℕ) (label : ℕ → Option Label) (table : IsTable arcs goal label) where
  -- a label of no arcs is the destination's
  at_goal : (l : Label) → label goal ≡ Some l → l ≡ home
  at_goal l has = let e : Some home ≡ Some l = sym table.at_home ∙ has in cc

  -- the path of a label is a walk with its key
  pub named : (n v : ℕ) (l : Label) → label v ≡ Some l → l.hops ≡ n → IsWalkOf arcs v goal l (path arcs label n v)
  named zero v l has none =
      elim (cases_eq v goal) [
        | inl here ↦
            let is : l ≡ home = at_goal l (subst (λ w. label w ≡ Some l) here has) in
            record { walk = here; weight = sym (ap (λ (k : Label). k.weight) is); hops = sym (ap (λ (k : Label). k.hops) is) }
        | inr away ↦ let led = table.led v l has away in absurd (let e = ap (λ (k : Label). k.hops) led.is in omega arith)
      ]
  named (suc n) v l has some =
      elim (cases_eq v goal) [
        | inl here ↦
            let is : l ≡ home = at_goal l (subst (λ w. label w ≡ Some l) here has) in
            absurd (let e = ap (λ (k : Label). k.hops) is in omega arith)
        | inr away ↦
            let led = table.led v l has away in
            let fewer : led.rest.hops ≡ n = (let e = ap (λ (k : Label). k.hops) led.is in omega arith) in
            let more = named n (arc_at arcs l.next).to led.rest led.to fewer in
            let heavier = ap (λ (k : Label). k.weight) led.is in
            subst
            (λ (o : Option Label). IsWalkOf arcs v goal l (next_of o ∷ path arcs label n (arc_at arcs (next_of o)).to))
            (sym has)
            (record {
              walk = (led.next, led.from, more.walk);
              weight = (let w = more.weight in omega arith);
              hops = (let h = more.hops in omega arith);
            })
      ]

  -- the label l of v and its path have a key of at most that of fs
  abbrev pub IsPathUpTo : ℕ → Label → List ℕ → Type 0
  IsPathUpTo v l fs = (l.weight < weight_of arcs fs)
      ⊎ ((l.weight ≡ weight_of arcs fs)
      × ((l.hops < length fs) ⊎ ((l.hops ≡ length fs) × IsNoLater (path arcs label l.hops v) fs)))

  -- v has a label, and its path a key of at most that of fs
  pub record HasPathUpTo (v : ℕ) (fs : List ℕ) : Type 0 where
    pub own : Label
    pub has : label v ≡ Some own
    pub below : IsPathUpTo v own fs

  -- the first arcs are compared first
  no_later : (e v n : ℕ) (l : Label) (fs : List ℕ) → label v ≡ Some l → l.hops ≡ suc n → l.next ≤ e
      → IsNoLater (path arcs label n (arc_at arcs e).to) fs → IsNoLater (path arcs label l.hops v) (e ∷ fs)
  no_later e v n l fs has hops first rest =
      subst
      (λ k. IsNoLater (path arcs label k v) (e ∷ fs))
      (sym hops)
      (subst
      (λ (o : Option Label). IsNoLater (next_of o ∷ path arcs label n (arc_at arcs (next_of o)).to) (e ∷ fs))
      (sym has)
      (elim (cases_eq l.next e) [
        | inl same ↦ inr (same, subst (λ k. IsNoLater (path arcs label n (arc_at arcs k).to) fs) (sym same) rest)
        | inr apart ↦ inl (omega arith)
      ]))

  -- one arc more: the label that it offers is matched by the start's, and a full tie leaves the rests to compare
  one_more : (e : ℕ) (fs : List ℕ) → e < length arcs → HasPathUpTo (arc_at arcs e).to fs → HasPathUpTo (arc_at arcs e).from (e ∷ fs)
  one_more e fs there rest =
      let won = table.settled e rest.own there rest.has in
      record {
        own = won.own;
        has = won.has;
        below =
            elim won.below [
              | inl lighter ↦ elim rest.below [ inl less ↦ inl (omega arith) | inr tie ↦ inl (omega arith) ]
              | inr even ↦
                  elim rest.below [
                    | inl less ↦ inl (omega arith)
                    | inr tie ↦
                        inr (
                          omega arith,
                          elim even.1 [
                            | inl fewer ↦ elim tie.1 [ inl less ↦ inl (omega arith) | inr same ↦ inl (omega arith) ]
                            | inr first ↦
                                elim tie.1 [
                                  | inl less ↦ inl (omega arith)
                                  | inr same ↦
                                      inr (
                                        omega arith,
                                        no_later
                                            e
                                            (arc_at arcs e).from
                                            rest.own.hops
                                            won.own
                                            fs
                                            won.has
                                            (omega (arith, first.0))
                                            first.1
                                            same.1,
                                      )
                                ]
                          ],
                        )
                  ]
            ];
      }

  -- no walk has a lesser key than the path of its start's label
  pub up_to : (fs : List ℕ) (v : ℕ) → IsWalk arcs v goal fs → HasPathUpTo v fs
  up_to [] v walk =
      record {
        own = home;
        has = subst (λ w. label w ≡ Some home) (sym walk) table.at_home;
        below = inr (refl, inr (refl, tt));
      }
  up_to (e ∷ es) v walk = subst (λ w. HasPathUpTo w (e ∷ es)) walk.1 (one_more e es walk.0 (up_to es (arc_at arcs e).to walk.2))

  -- a walk of the label's key, which is its path
  least_by : (v : ℕ) (l : Label) (es fs : List ℕ) → IsWalkOf arcs v goal l es → es ≡ path arcs label l.hops v → IsPathUpTo v l fs
      → IsNoGreater arcs es fs
  least_by v l es fs own is below =
      let weight : weight_of arcs es ≡ l.weight = own.weight in
      let hops : length es ≡ l.hops = own.hops in
      elim below [
        | inl lighter ↦ inl (omega arith)
        | inr even ↦
            inr (
              weight ∙ even.0,
              elim even.1 [
                | inl fewer ↦ inl (omega arith)
                | inr same ↦ inr (hops ∙ same.0, subst (λ (gs : List ℕ). IsNoLater gs fs) (sym is) same.1)
              ],
            )
      ]

  -- the path of a label is a least walk
  pub least_walk : (v : ℕ) (l : Label) → label v ≡ Some l → IsLeastWalk arcs v goal (path arcs label l.hops v)
  least_walk v l has =
      let own = named l.hops v l has refl in
      record {
        walk = own.walk;
        least = λ fs other.
            let most = up_to fs v other in
            let same : most.own ≡ l = (let e : Some most.own ≡ Some l = sym most.has ∙ has in cc) in
            least_by v l _ fs own refl (subst (λ (k : Label). IsPathUpTo v k fs) same most.below);
      }

  -- a node with no label has no walk
  pub no_walk : (v : ℕ) → label v ≡ None → (fs : List ℕ) → IsWalk arcs v goal fs → ⊥
  no_walk v none fs walk = let most = up_to fs v walk in none-some most.own (sym none ∙ most.has)
