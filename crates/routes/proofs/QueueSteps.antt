-- The queue of a search keeps exactly the nodes that have a label and aren't settled.
use Rattle.std.proofs.Common.{◌≡◌, ◌≢◌, ◌↔◌, ℕ, ◌⊎◌, inl, inr, Bool, true, false, List, Option, Some, None, refl, sym, ap, subst, ◌∙◌}
use Rattle.std.proofs.lemmas.Bool.{cases_eq, true≢false}
use Rattle.std.proofs.lemmas.Option.{none-some}
use Rattle.mn_base.specs.Among.{Among}
use Rattle.routes.specs.declared.label.Label.{Label}
use Rattle.routes.specs.NodeQueue.{Entry}
use Rattle.routes.specs.Table.{home}
use Rattle.routes.specs.Search.{entry_of, IsEntry, IsNodeQueue}
use Rattle.routes.proofs.SearchSteps.{one_label, IsPut}

-- the entry of a node's label
entry_is : (label : ℕ → Option Label) (settled : ℕ → Bool) (k : Entry) (l : Label)
    → IsEntry label settled k → label k.2 ≡ Some l → k ≡ entry_of l k.2
entry_is label settled k l on has =
    on.is ∙ ap (λ (m : Label). entry_of m k.2) (one_label label k.2 on.own l on.has has)

-- at the start only the destination waits
pub queue_begun : (label : ℕ → Option Label) (settled : ℕ → Bool) (goal : ℕ) (queue : List Entry)
    → IsPut (λ _. None) label goal (Some home) → ((v : ℕ) → settled v ≡ false)
    → ((k : Entry) → Among k queue ↔ (entry_of home goal ≡ k))
    → IsNodeQueue label settled queue
queue_begun label settled goal queue put none members =
    record {
      waits = λ v l has waits'.
          elim (cases_eq v goal) [
            | inl here ↦
                let same : home ≡ l = one_label label v home l (subst (λ w. label w ≡ Some home) (sym here) put.here) has in
                (members (entry_of l v)).1
                (ap (λ w. entry_of home w) (sym here) ∙ ap (λ (m : Label). entry_of m v) same)
            | inr away ↦ absurd (none-some l (sym (put.other v away) ∙ has))
          ];
      stands = λ k there.
          subst
          (IsEntry label settled)
          ((members k).0 there)
          (record { own = home; has = put.here; unsettled = none goal; is = refl });
    }

-- a node that is taken from the queue is settled
pub queue_settled : {label : ℕ → Option Label} {settled settled' : ℕ → Bool} {queue : List Entry} (queue' : List Entry) {first : Entry}
    → IsNodeQueue label settled queue → Among first queue → IsPut settled settled' first.2 true
    → ((k : Entry) → Among k queue' ↔ (Among k queue × (k ≢ first)))
    → IsNodeQueue label settled' queue'
queue_settled {label} {settled} {settled'} {queue} queue' {first} on was put members =
    record {
      waits = λ v l has waits.
          let away : v ≢ first.2 = (λ here. true≢false (sym put.here ∙ subst (λ w. settled' w ≡ false) here waits)) in
          (members (entry_of l v)).1
          (on.waits v l has (sym (put.other v away) ∙ waits), λ same. away (ap (λ (k : Entry). k.2) same));
      stands = λ k there.
          let old = (members k).0 there in
          let own = on.stands k old.0 in
          let head = on.stands first was in
          let away : k.2 ≢ first.2 =
          (λ here.
          let has : label first.2 ≡ Some own.own = subst (λ w. label w ≡ Some own.own) here own.has in
          let at_first : first ≡ entry_of own.own first.2 = entry_is label settled first own.own head has in
          old.1 (own.is ∙ ap (λ w. entry_of own.own w) here ∙ sym at_first)) in
          record { own = own.own; has = own.has; unsettled = put.other k.2 away ∙ own.unsettled; is = own.is };
    }

-- a node that waits gets another label, and its entry with it
pub queue_moved : {label label' : ℕ → Option Label} {settled : ℕ → Bool} {queue : List Entry} (queue' : List Entry) {v : ℕ} {c : Label}
    → IsNodeQueue label settled queue → IsPut label label' v (Some c) → settled v ≡ false
    → ((k : Entry) → Among k queue' ↔ ((entry_of c v ≡ k) ⊎ (Among k queue × (k.2 ≢ v))))
    → IsNodeQueue label' settled queue'
queue_moved {label} {label'} {settled} {queue} queue' {v} {c} on put waits' members =
    record {
      waits = λ w l has waits.
          elim (cases_eq w v) [
            | inl here ↦
                let same : c ≡ l = one_label label' w c l (subst (λ u. label' u ≡ Some c) (sym here) put.here) has in
                (members (entry_of l w)).1 (inl (ap (λ u. entry_of c u) (sym here) ∙ ap (λ (m : Label). entry_of m w) same))
            | inr away ↦ (members (entry_of l w)).1 (inr (on.waits w l (sym (put.other w away) ∙ has) waits, away))
          ];
      stands = λ k there.
          elim ((members k).0 there) [
            | inl new ↦
                subst (IsEntry label' settled) new (record { own = c; has = put.here; unsettled = waits'; is = refl })
            | inr old ↦
                let own = on.stands k old.0 in
                record { own = own.own; has = put.other k.2 old.1 ∙ own.has; unsettled = own.unsettled; is = own.is }
          ];
    }

-- without a label a node has no entry
pub no_entry : {label : ℕ → Option Label} {settled : ℕ → Bool} {queue : List Entry} (v : ℕ) → IsNodeQueue label settled queue
    → label v ≡ None → (k : Entry) → Among k queue → k.2 ≢ v
no_entry {label} {settled} {queue} v on none k there here =
    let own = on.stands k there in
    none-some own.own (sym (subst (λ w. label w ≡ None) (sym here) none) ∙ own.has)

-- a node with a label has at most the entry of that label
pub one_entry : {label : ℕ → Option Label} {settled : ℕ → Bool} {queue : List Entry} (v : ℕ) (l : Label)
    → IsNodeQueue label settled queue → label v ≡ Some l → (k : Entry) → Among k queue → (k ≢ entry_of l v) ↔ (k.2 ≢ v)
one_entry {label} {settled} {queue} v l on has k there = (
  λ other here.
      let has' : label k.2 ≡ Some l = subst (λ w. label w ≡ Some l) (sym here) has in
      other (entry_is label settled k l (on.stands k there) has' ∙ ap (λ w. entry_of l w) here),
  λ away same. away (ap (λ (e : Entry). e.2) same),
)
