-- The steps of a search, over plain functions from nodes to labels.
use Rattle.std.proofs.Common.{◌≡◌, ◌≢◌, ℕ, ◌+◌, ◌*◌, ◌≤◌, inl, inr, Bool, true, false, List, [], ◌∷◌, Option, Some, None, refl, sym, subst, ◌∙◌, arith}
use Rattle.std.proofs.lemmas.Bool.{cases_eq, true≢false}
use Rattle.std.proofs.lemmas.Option.{none-some}
use Rattle.mn_base.specs.declared.limits.TheConstants.{PIPE_LATENCY_US_MAX}
use Rattle.routes.specs.declared.graph.Arc.{Arc}
use Rattle.routes.specs.declared.label.Label.{Label}
use Rattle.routes.specs.GraphView.{GraphView, IsWithinLimits}
use Rattle.routes.specs.Walk.{no_arc, arc_at}
use Rattle.routes.specs.Table.{home, offer_of, IsNoFarther, IsNoWorse, HasNoWorse, IsTable}
use Rattle.routes.specs.Search.{IsLedBySettled, IsInto, IsSearch}
use Rattle.routes.proofs.LabelOrder.{no_farther_trans, no_worse_trans, no_worse_itself, offer_beyond, farther_is_worse}

-- two labels of one node are one
pub one_label : (label : ℕ → Option Label) (v : ℕ) (l m : Label) → label v ≡ Some l → label v ≡ Some m → l ≡ m
one_label label v l m a b = let e : Some l ≡ Some m = sym a ∙ b in cc

-- what holds of an arc and its end's label holds of it under another name
same_arc : (arcs : List Arc) (label : ℕ → Option Label) (P : ℕ → Label → Type 0) {e f : ℕ} {l m : Label}
    → label (arc_at arcs e).to ≡ Some l → label (arc_at arcs f).to ≡ Some m → e ≡ f → P e l → P f m
same_arc arcs label P {e} {f} {l} {m} to to' here holds =
    let same : l ≡ m = one_label label (arc_at arcs f).to l m (subst (λ k. label (arc_at arcs k).to ≡ Some l) here to) to' in
    subst (λ (n : Label). P f n) same (subst (λ k. P k l) here holds)

-- label' has c at v, and is label elsewhere
pub record IsPut {X : Type 0} (label label' : ℕ → X) (v : ℕ) (c : X) : Type 0 where
  pub here : label' v ≡ c
  pub other : (w : ℕ) → w ≢ v → label' w ≡ label w

module _ {g : GraphView} {goal : ℕ} (limits : IsWithinLimits g) where
  -- an arc whose start has no worse label need not be looked at
  pub kept : {label : ℕ → Option Label} {settled : ℕ → Bool} {count : ℕ} {last : Label} {e : ℕ} {rest : List ℕ}
      → IsSearch g goal label settled count last (e ∷ rest)
      → HasNoWorse label (arc_at g.arcs e).from (offer_of g.arcs e last)
      → IsSearch g goal label settled count last rest
  kept {label} {settled} {count} {last} {e} {rest} on won =
      record {
        at_home = on.at_home;
        led = on.led;
        offered = λ f m below end to.
            elim (on.offered f m below end to) [
              | inl there ↦
                  elim there [
                    | inl here ↦
                        inr (same_arc
                        g.arcs
                        label
                        (λ k (l : Label). HasNoWorse label (arc_at g.arcs k).from (offer_of g.arcs k l))
                        (on.pends e (inl refl)).to
                        to
                        here
                        won)
                    | inr later ↦ inl later
                  ]
              | inr done ↦ inr done
            ];
        pends = λ f there. on.pends f (inr there);
        reached = on.reached;
        behind = on.behind;
        ahead = on.ahead;
        few = on.few;
        light = on.light;
      }

  -- an arc whose start is settled need not be looked at
  pub kept_settled : {label : ℕ → Option Label} {settled : ℕ → Bool} {count : ℕ} {last : Label} {e : ℕ} {rest : List ℕ}
      → IsSearch g goal label settled count last (e ∷ rest)
      → settled (arc_at g.arcs e).from ≡ true
      → IsSearch g goal label settled count last rest
  kept_settled {label} {settled} {count} {last} {e} {rest} on done =
      let there = on.reached (arc_at g.arcs e).from done in
      kept
      on
      (record {
        own = there.own;
        has = there.has;
        below = farther_is_worse g.arcs e there.own last (on.behind (arc_at g.arcs e).from there.own done there.has);
      })

  module _ {label label' : ℕ → Option Label} {settled : ℕ → Bool} {count : ℕ} {last : Label} {e : ℕ} {rest : List ℕ}
      (on : IsSearch g goal label settled count last (e ∷ rest))
      (put : IsPut label label' (arc_at g.arcs e).from (Some (offer_of g.arcs e last)))
      (waits : settled (arc_at g.arcs e).from ≡ false)
      (better : (l : Label) → label (arc_at g.arcs e).from ≡ Some l → IsNoWorse (offer_of g.arcs e last) l) where
    -- a settled node is another one, so it keeps its label
    apart : (w : ℕ) → settled w ≡ true → w ≢ (arc_at g.arcs e).from
    apart w done same = true≢false (sym done ∙ subst (λ v. settled v ≡ false) (sym same) waits)

    stays : (w : ℕ) → settled w ≡ true → label' w ≡ label w
    stays w done = put.other w (apart w done)

    -- what is known of each label of label' follows from what is known of the labels before and of the offer
    each : (P : ℕ → Label → Type 0) → P (arc_at g.arcs e).from (offer_of g.arcs e last)
        → (v : ℕ) (l : Label) → ((v ≡ (arc_at g.arcs e).from → ⊥) → label v ≡ Some l → P v l) → label' v ≡ Some l → P v l
    each P new v l old has =
        elim (cases_eq v (arc_at g.arcs e).from) [
          | inl here ↦
              let same : offer_of g.arcs e last ≡ l =
              one_label
              label'
              v
              (offer_of g.arcs e last)
              l
              (subst (λ w. label' w ≡ Some (offer_of g.arcs e last)) (sym here) put.here)
              has in
              subst (λ (m : Label). P v m) same (subst (λ w. P w (offer_of g.arcs e last)) (sym here) new)
          | inr away ↦ old away (sym (put.other v away) ∙ has)
        ]

    -- the destination's label isn't bettered
    goal_apart : goal ≢ (arc_at g.arcs e).from
    goal_apart here =
        let worse = better home (subst (λ v. label v ≡ Some home) here on.at_home) in
        elim worse [
          | inl less ↦ omega arith
          | inr even ↦ elim even.1 [ inl fewer ↦ omega arith | inr same ↦ (let h = same.0 in omega arith) ]
        ]

    -- a node has no worse a label than before
    lowered : (v : ℕ) (c : Label) → HasNoWorse label v c → HasNoWorse label' v c
    lowered v c won =
        elim (cases_eq v (arc_at g.arcs e).from) [
          | inl here ↦
              record {
                own = offer_of g.arcs e last;
                has = subst (λ w. label' w ≡ Some (offer_of g.arcs e last)) (sym here) put.here;
                below =
                    no_worse_trans
                    (offer_of g.arcs e last)
                    won.own
                    c
                    (better won.own (subst (λ w. label w ≡ Some won.own) here won.has))
                    won.below;
              }
          | inr away ↦ record { own = won.own; has = put.other v away ∙ won.has; below = won.below }
        ]

    -- the new label is led by the arc
    new_led : IsLedBySettled g.arcs label' settled (arc_at g.arcs e).from (offer_of g.arcs e last)
    new_led =
        let pend = on.pends e (inl refl) in
        record {
          led = record {
            rest = last;
            next = pend.below;
            from = refl;
            to = stays (arc_at g.arcs e).to pend.end ∙ pend.to;
            is = refl;
          };
          end = pend.end;
        }

    -- the other labels are led as before
    still_led : (v : ℕ) (l : Label) → IsLedBySettled g.arcs label settled v l → IsLedBySettled g.arcs label' settled v l
    still_led v l was =
        record {
          led = record {
            rest = was.led.rest;
            next = was.led.next;
            from = was.led.from;
            to = stays (arc_at g.arcs l.next).to was.end ∙ was.led.to;
            is = was.led.is;
          };
          end = was.end;
        }

    -- the start of the arc has the label that the arc offers
    taken : (f : ℕ) (m : Label) → label (arc_at g.arcs f).to ≡ Some m → e ≡ f
        → HasNoWorse label' (arc_at g.arcs f).from (offer_of g.arcs f m)
    taken f m to here =
        same_arc
        g.arcs
        label
        (λ k (l : Label). HasNoWorse label' (arc_at g.arcs k).from (offer_of g.arcs k l))
        (on.pends e (inl refl)).to
        to
        here
        (record { own = offer_of g.arcs e last; has = put.here; below = no_worse_itself (offer_of g.arcs e last) })

    -- an arc whose start waits gives it a better label
    pub bettered : IsSearch g goal label' settled count last rest
    bettered =
        let pend = on.pends e (inl refl) in
        record {
          at_home = put.other goal goal_apart ∙ on.at_home;
          led = λ v l has. each
              (λ w (k : Label). w ≢ goal → IsLedBySettled g.arcs label' settled w k)
              (λ _. new_led)
              v
              l
              (λ away old not_goal. still_led v l (on.led v l old not_goal))
              has;
          offered = λ f m below end to.
              let to_before : label (arc_at g.arcs f).to ≡ Some m = sym (stays (arc_at g.arcs f).to end) ∙ to in
              elim (on.offered f m below end to_before) [
                | inl there ↦ elim there [ inl here ↦ inr (taken f m to_before here) | inr later ↦ inl later ]
                | inr won ↦ inr (lowered (arc_at g.arcs f).from (offer_of g.arcs f m) won)
              ];
          pends = λ f there.
              let other = on.pends f (inr there) in
              record {
                below = other.below;
                end = other.end;
                to = stays (arc_at g.arcs f).to other.end ∙ other.to;
                room = other.room;
              };
          reached = λ v done. let there = on.reached v done in record { own = there.own; has = stays v done ∙ there.has };
          behind = λ v l done has. on.behind v l done (sym (stays v done) ∙ has);
          ahead = λ v l waiting has. each
              (λ w (k : Label). settled w ≡ false → IsNoFarther last k)
              (λ _. offer_beyond g.arcs e last)
              v
              l
              (λ away old still. on.ahead v l still old)
              has
              waiting;
          few = λ v l has. each
              (λ w (k : Label). k.hops ≤ count)
              (let room = pend.room in omega arith)
              v
              l
              (λ away old. on.few v l old)
              has;
          light = λ v l has. each
              (λ w (k : Label). k.weight ≤ k.hops * PIPE_LATENCY_US_MAX)
              (let before = on.light (arc_at g.arcs e).to last pend.to in
              let arc = (limits.arcs e no_arc pend.below).weight in
              omega arith)
              v
              l
              (λ away old. on.light v l old)
              has;
        }

  -- the nearest node that waits is settled, and the arcs into it are still to be looked at
  module _ {label : ℕ → Option Label} {settled settled' : ℕ → Bool} {count : ℕ} {last : Label} {u : ℕ} {l : Label} {row : List ℕ}
      (on : IsSearch g goal label settled count last [])
      (put : IsPut settled settled' u true)
      (has : label u ≡ Some l)
      (waited : settled u ≡ false)
      (nearest : (w : ℕ) (m : Label) → label w ≡ Some m → settled w ≡ false → IsNoFarther l m)
      (into : IsInto g.arcs u row) where
    -- a settled node stays so
    still : (v : ℕ) → settled v ≡ true → settled' v ≡ true
    still v done =
        elim (cases_eq v u) [
          | inl here ↦ subst (λ w. settled' w ≡ true) (sym here) put.here
          | inr away ↦ put.other v away ∙ done
        ]

    pub settled_next : IsSearch g goal label settled' (count + 1) l row
    settled_next =
        record {
          at_home = on.at_home;
          led = λ v m at away.
              let was = on.led v m at away in
              record { led = was.led; end = still (arc_at g.arcs m.next).to was.end };
          offered = λ e m below end to.
              elim (cases_eq (arc_at g.arcs e).to u) [
                | inl here ↦ inl (into.all e below here)
                | inr away ↦
                    elim (on.offered e m below (sym (put.other (arc_at g.arcs e).to away) ∙ end) to) [
                      | inl never ↦ absurd never
                      | inr won ↦ inr won
                    ]
              ];
          pends = λ e there.
              let to : (arc_at g.arcs e).to ≡ u = into.to e there in
              record {
                below = into.below e there;
                end = subst (λ w. settled' w ≡ true) (sym to) put.here;
                to = subst (λ w. label w ≡ Some l) (sym to) has;
                room = (let few = on.few u l has in omega arith);
              };
          reached = λ v done.
              elim (cases_eq v u) [
                | inl here ↦ record { own = l; has = subst (λ w. label w ≡ Some l) (sym here) has }
                | inr away ↦ on.reached v (sym (put.other v away) ∙ done)
              ];
          behind = λ v m done at.
              elim (cases_eq v u) [
                | inl here ↦
                    let same : l ≡ m = one_label label v l m (subst (λ w. label w ≡ Some l) (sym here) has) at in
                    subst (λ (k : Label). IsNoFarther k l) same (inr (refl, omega arith))
                | inr away ↦
                    no_farther_trans
                    m
                    last
                    l
                    (on.behind v m (sym (put.other v away) ∙ done) at)
                    (on.ahead u l waited has)
              ];
          ahead = λ v m waits at.
              elim (cases_eq v u) [
                | inl here ↦ absurd (true≢false (sym put.here ∙ subst (λ w. settled' w ≡ false) here waits))
                | inr away ↦ nearest v m at (sym (put.other v away) ∙ waits)
              ];
          few = λ v m at. (let few = on.few v m at in omega arith);
          light = on.light;
        }

  -- at the start only the destination has a label, and no node is settled
  pub begun : (label : ℕ → Option Label) (settled : ℕ → Bool) → IsPut (λ _. None) label goal (Some home)
      → ((v : ℕ) → settled v ≡ false) → IsSearch g goal label settled 0 home []
  begun label settled put none =
      record {
        at_home = put.here;
        led = λ v l has away. absurd (none-some l (sym (put.other v away) ∙ has));
        offered = λ e m below end to. absurd (true≢false (sym end ∙ none (arc_at g.arcs e).to));
        pends = λ e there. absurd there;
        reached = λ v done. absurd (true≢false (sym done ∙ none v));
        behind = λ v l done has. absurd (true≢false (sym done ∙ none v));
        ahead = λ v l waits has. of_home v l (λ k. IsNoFarther home k) (inr (refl, omega arith)) has;
        few = λ v l has. of_home v l (λ k. k.hops ≤ 0) (omega arith) has;
        light = λ v l has. of_home v l (λ k. k.weight ≤ k.hops * PIPE_LATENCY_US_MAX) (omega arith) has;
      }
    where
      -- each label is the destination's
      of_home : (v : ℕ) (l : Label) (P : Label → Type 0) → P home → label v ≡ Some l → P l
      of_home v l P holds has =
          elim (cases_eq v goal) [
            | inl here ↦
                subst P (one_label label v home l (subst (λ w. label w ≡ Some home) (sym here) put.here) has) holds
            | inr away ↦ absurd (none-some l (sym (put.other v away) ∙ has))
          ]

  -- once each node that has a label is settled, the labels are a table
  pub finished : {label : ℕ → Option Label} {settled : ℕ → Bool} {count : ℕ} {last : Label}
      → IsSearch g goal label settled count last [] → ((v : ℕ) (l : Label) → label v ≡ Some l → settled v ≡ true)
      → IsTable g.arcs goal label
  finished {label} {settled} {count} {last} on all =
      record {
        at_home = on.at_home;
        led = λ v l has away. (on.led v l has away).led;
        settled = λ e m below to.
            elim (on.offered e m below (all (arc_at g.arcs e).to m to) to) [
              | inl never ↦ absurd never
              | inr won ↦ won
            ];
      }
