-- The stores of all cores, when the first packets of the setup are put in.
use Rattle.std.proofs.Common.{◌≡◌, ◌≢◌, ◌⊎◌, inl, inr, ℕ, zero, suc, ◌+◌, ◌<◌, ◌==◌, Bool, cond, List, [], ◌∷◌, length, get_or, slice_index_or, slice_get, slice_set, replicate, get_or-set_same, get_or-set_other, length-set, Option, Some, None, IsSome, eq-eqb, refl, sym, ap, ◌∙◌, subst, arith}
use Rattle.std.specs.Option.{option_map_or}
use Rattle.std.specs.List.{zip}
use Rattle.std.specs.Prelude.{find}
use Rattle.std.specs.Ordering.{nat_cmp}
use Rattle.std.specs.Cmp.{nat_cmp_total}
use Rattle.std.specs.FinMap as fin
use Rattle.std.proofs.lemmas.Bool.{cases_eq, ne_eqb, false≢true}
use Rattle.std.proofs.lemmas.List.{get_or_default, length-replicate, get_or-replicate}
use Rattle.std.proofs.lemmas.Option.{slice_get_within, get_or_from_slice_get}
use Rattle.journal.specs.declared.setup.PacketPlan.{PacketPlan}
use Rattle.journal.specs.SetupView.{SetupView}
use Rattle.journal.specs.IsSetup.{IsSetup}
use Rattle.parcel.specs.Results.{packet_bytes}
use Rattle.payload_store.specs.StoreView.{StoreView}
use Rattle.payload_store.proofs.Held.{same_test}
use Rattle.core_loop.specs.Stocked.{Enters, HoldsEntrants, AreBytesOf, AreStores, AreBytesIn}
use Rattle.mn_base.proofs.Members.{Among-index, IndexOf, index_of}

-- of these packets and their bytes, side by side, the bytes of the packet of a number
abbrev bytes_in : List PacketPlan → List (List ℕ) → ℕ → List ℕ
bytes_in ps bs number = option_map_or (λ e. e.1) (find (λ e. e.0.number == number) (zip ps bs)) []

bytes-at : (ps : List PacketPlan) (bs : List (List ℕ)) (i : ℕ) (d : PacketPlan) (e : List ℕ) → i < length ps → length bs ≡ length ps
    → ((j : ℕ) → j < i → (get_or ps j d).number ≢ (get_or ps i d).number)
    → bytes_in ps bs (get_or ps i d).number ≡ get_or bs i e
bytes-at [] bs i d e within long apart = absurd (omega (arith, within))
bytes-at (p ∷ ps) [] i d e within long apart = absurd (omega (arith, long))
bytes-at (p ∷ ps) (b ∷ bs) zero d e within long apart =
    ap (λ (t : Bool). option_map_or (λ f. f.1) (cond t (Some (p, b)) (find (λ f. f.0.number == p.number) (zip ps bs))) []) (eq-eqb _ _ refl)
bytes-at (p ∷ ps) (b ∷ bs) (suc i) d e within long apart =
    ap (λ (t : Bool). option_map_or (λ f. f.1)
    (cond t (Some (p, b)) (find (λ f. f.0.number == (get_or ps i d).number) (zip ps bs))) [])
    (ne_eqb _ _ (apart 0 (omega arith)))
    ∙ bytes-at ps bs i d e (omega (arith, within)) (omega (arith, long)) (λ j l. apart (suc j) (omega (arith, l)))

-- a store with the first packets that enter at this core
pub record HoldsFirst (S : SetupView) (bytes : List (List ℕ)) (core count : ℕ) (store : StoreView) : Type 0 where
  pub has : (i : ℕ) (d : PacketPlan) (e : List ℕ) → i < count → i < length S.packets → (get_or S.packets i d).core ≡ core
      → fin.get store.held (get_or S.packets i d).number ≡ Some (get_or bytes i e)
  pub only : (number : ℕ) → IsSome (fin.get store.held number)
      → (i : ℕ) × (i < count) × (i < length S.packets) × ((d : PacketPlan) → ((get_or S.packets i d).core ≡ core) × ((get_or S.packets i d).number ≡ number))
  pub released : store.released ≡ []

-- nothing is put in yet
pub holds-none : (S : SetupView) (bytes : List (List ℕ)) (core : ℕ) → HoldsFirst S bytes core 0 (record { held = fin.empty; released = [] })
holds-none S bytes core = record {
  has = λ i d e l. absurd (omega (arith, l));
  only = λ number some. absurd (false≢true (subst (λ (o : Option (List ℕ)). IsSome o) (fin.get-empty nat_cmp number) some));
  released = refl;
}

module _ {S : SetupView} {bytes : List (List ℕ)} (is : IsSetup S) (long : length bytes ≡ length S.packets) where
  -- when all are put in, a store has the bytes of the packets that enter at its core
  pub holds-bytes : (core : ℕ) (store : StoreView) → HoldsFirst S bytes core (length S.packets) store → AreBytesOf S core store bytes
  holds-bytes core store h = record { each_has_bytes = long; in_store = in-store }
    where
      in-store : (p : PacketPlan) → Enters S core p → fin.get store.held p.number ≡ Some (packet_bytes S bytes p.number)
      in-store p e =
          let at : IndexOf p S.packets = index_of p S.packets e.among in
          let here : get_or S.packets at.index p ≡ p = at.here p in
          ap (λ (q : PacketPlan). fin.get store.held q.number) (sym here)
          ∙ h.has at.index p [] at.within at.within (ap (λ (q : PacketPlan). q.core) here ∙ e.entered)
          ∙ ap Some (sym (bytes-at S.packets bytes at.index p [] at.within long (λ j l same.
          (let less : (get_or S.packets j p).number < (get_or S.packets at.index p).number = is.numbers_rise j at.index p l at.within in
          omega (arith, less, same)))))
          ∙ ap (λ (q : PacketPlan). Some (packet_bytes S bytes q.number)) here

  -- and it holds just those packets
  pub holds-entrants : (core : ℕ) (store : StoreView) → HoldsFirst S bytes core (length S.packets) store → HoldsEntrants S core store
  holds-entrants core store h = record { all = λ p e. some p e; only = only; released = h.released }
    where
      some : (p : PacketPlan) → Enters S core p → IsSome (fin.get store.held p.number)
      some p e = subst (λ (o : Option (List ℕ)). IsSome o) (sym ((holds-bytes core store h).in_store p e)) refl

      only : (number : ℕ) → IsSome (fin.get store.held number) → (p : PacketPlan) × Enters S core p × (p.number ≡ number)
      only number s =
          let o = h.only number s in
          let d : PacketPlan = record { entry_tick = 0; number = 0; len = 0; route = 0; core = 0 } in
          (get_or S.packets o.0 d, record { among = Among-index S.packets o.0 d o.2; entered = (o.3 d).0 }, (o.3 d).1)

  module _ (i : ℕ) (d : PacketPlan) (payload : List ℕ) (within : i < length S.packets) where
    -- a packet that is put in isn't there yet
    pub not-held : (store : StoreView) → HoldsFirst S bytes (get_or S.packets i d).core i store
        → fin.get store.held (get_or S.packets i d).number ≡ None
    not-held store h = go (fin.get store.held (get_or S.packets i d).number) refl
      where
        go : (o : Option (List ℕ)) → fin.get store.held (get_or S.packets i d).number ≡ o
            → fin.get store.held (get_or S.packets i d).number ≡ None
        go None e = e
        go (Some b) e =
            let o = h.only (get_or S.packets i d).number (subst (λ (p : Option (List ℕ)). IsSome p) (sym e) refl) in
            let less : (get_or S.packets o.0 d).number < (get_or S.packets i d).number = is.numbers_rise o.0 i d o.1 within in
            let same : (get_or S.packets o.0 d).number ≡ (get_or S.packets i d).number = (o.3 d).1 in
            absurd (omega (arith, less, same))

    -- it is put in
    pub put-in : (old new : StoreView) → HoldsFirst S bytes (get_or S.packets i d).core i old
        → new.held ≡ fin.insert old.held (get_or S.packets i d).number (get_or bytes i payload) → new.released ≡ old.released
        → HoldsFirst S bytes (get_or S.packets i d).core (i + 1) new
    put-in old new h held released = record { has = has; only = only; released = released ∙ h.released }
      where
        at : (q : ℕ) → fin.get new.held q
            ≡ cond (q == (get_or S.packets i d).number) (Some (get_or bytes i payload)) (fin.get old.held q)
        at q =
            ap (λ (m : fin.FinMap nat_cmp (List ℕ)). fin.get m q) held
            ∙ fin.get-insert nat_cmp_total old.held (get_or S.packets i d).number (get_or bytes i payload) q
            ∙ ap (λ (b : Bool). cond b (Some (get_or bytes i payload)) (fin.get old.held q)) (same_test q (get_or S.packets i d).number)

        has : (j : ℕ) (f : PacketPlan) (e : List ℕ) → j < i + 1 → j < length S.packets
            → (get_or S.packets j f).core ≡ (get_or S.packets i d).core
            → fin.get new.held (get_or S.packets j f).number ≡ Some (get_or bytes j e)
        has j f e below inside core = go (cases_eq j i)
          where
            same-plan : get_or S.packets j f ≡ get_or S.packets j d
            same-plan = get_or_default S.packets j f d inside

            go : (j ≡ i) ⊎ (j ≢ i) → fin.get new.held (get_or S.packets j f).number ≡ Some (get_or bytes j e)
            go (inl s) =
                at (get_or S.packets j f).number
                ∙ ap (λ (b : Bool). cond b (Some (get_or bytes i payload)) (fin.get old.held (get_or S.packets j f).number))
                (eq-eqb _ _ (ap (λ (p : PacketPlan). p.number) same-plan ∙ ap (λ (k : ℕ). (get_or S.packets k d).number) s))
                ∙ ap (λ (k : ℕ). Some (get_or bytes k payload)) (sym s)
                ∙ ap Some (get_or_default bytes j payload e (omega (arith, inside, long)))
            go (inr other) =
                at (get_or S.packets j f).number
                ∙ ap (λ (b : Bool). cond b (Some (get_or bytes i payload)) (fin.get old.held (get_or S.packets j f).number))
                (ne_eqb _ _ (λ same.
                (let less : (get_or S.packets j d).number < (get_or S.packets i d).number = is.numbers_rise j i d (omega (arith, below, other)) within in
                let e : (get_or S.packets j f).number ≡ (get_or S.packets j d).number = ap (λ (p : PacketPlan). p.number) same-plan in
                omega (arith, less, same, e))))
                ∙ h.has j f e (omega (arith, below, other)) inside core

        only : (number : ℕ) → IsSome (fin.get new.held number)
            → (j : ℕ) × (j < i + 1) × (j < length S.packets)
            × ((f : PacketPlan) → ((get_or S.packets j f).core ≡ (get_or S.packets i d).core) × ((get_or S.packets j f).number ≡ number))
        only number some = go (cases_eq number (get_or S.packets i d).number)
          where
            go : (number ≡ (get_or S.packets i d).number) ⊎ (number ≢ (get_or S.packets i d).number)
                → (j : ℕ) × (j < i + 1) × (j < length S.packets)
                × ((f : PacketPlan) → ((get_or S.packets j f).core ≡ (get_or S.packets i d).core) × ((get_or S.packets j f).number ≡ number))
            go (inl e) = (
              i,
              omega arith,
              within,
              λ f. (
                ap (λ (p : PacketPlan). p.core) (get_or_default S.packets i f d within),
                ap (λ (p : PacketPlan). p.number) (get_or_default S.packets i f d within) ∙ sym e,
              ),
            )
            go (inr other) =
                let was : IsSome (fin.get old.held number) =
                subst (λ (o : Option (List ℕ)). IsSome o)
                (at number ∙ ap (λ (b : Bool). cond b (Some (get_or bytes i payload)) (fin.get old.held number)) (ne_eqb _ _ other)) some in
                let o = h.only number was in
                (o.0, (let l : o.0 < i = o.1 in omega (arith, l)), o.2, o.3)

    -- the stores of other cores get nothing
    pub put-elsewhere : (core : ℕ) (store : StoreView) → core ≢ (get_or S.packets i d).core → HoldsFirst S bytes core i store
        → HoldsFirst S bytes core (i + 1) store
    put-elsewhere core store other h = record { has = has; only = only; released = h.released }
      where
        has : (j : ℕ) (f : PacketPlan) (e : List ℕ) → j < i + 1 → j < length S.packets → (get_or S.packets j f).core ≡ core
            → fin.get store.held (get_or S.packets j f).number ≡ Some (get_or bytes j e)
        has j f e below inside same = go (cases_eq j i)
          where
            go : (j ≡ i) ⊎ (j ≢ i) → fin.get store.held (get_or S.packets j f).number ≡ Some (get_or bytes j e)
            go (inl s) =
                absurd (other (sym same ∙ ap (λ (p : PacketPlan). p.core) (get_or_default S.packets j f d inside)
                ∙ ap (λ (k : ℕ). (get_or S.packets k d).core) s))
            go (inr n) = h.has j f e (omega (arith, below, n)) inside same

        only : (number : ℕ) → IsSome (fin.get store.held number)
            → (j : ℕ) × (j < i + 1) × (j < length S.packets)
            × ((f : PacketPlan) → ((get_or S.packets j f).core ≡ core) × ((get_or S.packets j f).number ≡ number))
        only number some = let o = h.only number some in (o.0, (let l : o.0 < i = o.1 in omega (arith, l)), o.2, o.3)

-- the stores of all cores with the first packets
pub record AllHold (S : SetupView) (bytes : List (List ℕ)) (count : ℕ) (stores : List StoreView) : Type 0 where
  pub as_many : length stores ≡ S.cores
  pub each : (core : ℕ) (d : StoreView) → core < length stores → HoldsFirst S bytes core count (slice_index_or stores core d)

-- before any is put in
pub all-none : (S : SetupView) (bytes : List (List ℕ)) (stores : List StoreView) (n : ℕ)
    → stores ≡ replicate n (record { held = fin.empty; released = [] }) → n ≡ S.cores → AllHold S bytes 0 stores
all-none S bytes stores n are cores = record {
  as_many = ap length are ∙ length-replicate n (record { held = fin.empty; released = [] }) ∙ cores;
  each = λ core d within.
      subst (HoldsFirst S bytes core 0)
      (sym (ap (λ (l : List StoreView). slice_index_or l core d) are
      ∙ get_or-replicate n core (record { held = fin.empty; released = [] }) d
      (let long : length stores ≡ n = ap length are ∙ length-replicate n (record { held = fin.empty; released = [] }) in omega (arith, within, long))))
      (holds-none S bytes core);
}

-- the stores with the first packets of a setup, which has as many packets as there are bytes
pub record AreStocked (S : SetupView) (bytes : List (List ℕ)) (count : ℕ) (stores : List StoreView) : Type 0 where
  pub is_setup : IsSetup S
  pub long : length bytes ≡ length S.packets
  pub all : AllHold S bytes count stores

-- the next packet: its plan, and the store of its core
pub record IsNext (S : SetupView) (bytes : List (List ℕ)) (i : ℕ) (stores : List StoreView) (plan : PacketPlan) (store : StoreView) : Type 0 where
  pub stocked : AreStocked S bytes i stores
  pub within : i < length S.packets
  pub at : plan ≡ get_or S.packets i plan
  pub read : store ≡ get_or stores plan.core store

module _ {S : SetupView} {bytes : List (List ℕ)} {stores : List StoreView} {i : ℕ} (k : AreStocked S bytes i stores) where
  -- all are put in
  holds-all : i ≡ length S.packets → (core : ℕ) (store : StoreView) → slice_get stores core ≡ Some store
      → HoldsFirst S bytes core (length S.packets) store
  holds-all done core store at =
      subst (λ (n : ℕ). HoldsFirst S bytes core n store) done
      (subst (HoldsFirst S bytes core i) (get_or_from_slice_get stores core store store at)
      (k.all.each core store (slice_get_within stores core store at)))

  pub are-stores : i ≡ length S.packets → AreStores S stores
  are-stores done = record {
    one_a_core = k.all.as_many;
    holds = λ core store at. holds-entrants k.is_setup k.long core store (holds-all done core store at);
  }

  pub are-bytes-in : i ≡ length S.packets → AreBytesIn S stores bytes
  are-bytes-in done = λ core store at. holds-bytes k.is_setup k.long core store (holds-all done core store at)

module _ {S : SetupView} {bytes : List (List ℕ)} {stores : List StoreView} {i : ℕ} {plan : PacketPlan} {store : StoreView}
    (n : IsNext S bytes i stores plan store) where
  -- its core has a store
  pub core-within : plan.core < length stores
  core-within =
      let core : (get_or S.packets i plan).core < S.cores = n.stocked.is_setup.packet_cores i plan n.within in
      omega (arith, core, ap (λ (p : PacketPlan). p.core) n.at, n.stocked.all.as_many)

  its-store : HoldsFirst S bytes (get_or S.packets i plan).core i store
  its-store =
      subst (λ (p : PacketPlan). HoldsFirst S bytes p.core i store) n.at
      (subst (HoldsFirst S bytes plan.core i) (sym n.read) (n.stocked.all.each plan.core store core-within))

  -- the next packet isn't in the store of its core yet
  pub fresh-at : fin.get store.held plan.number ≡ None
  fresh-at =
      ap (λ (p : PacketPlan). fin.get store.held p.number) n.at
      ∙ not-held n.stocked.is_setup n.stocked.long i plan [] n.within store its-store

  -- it is put in
  pub all-more : {payload : List ℕ} (new : StoreView) → payload ≡ get_or bytes i payload
      → new.held ≡ fin.insert store.held plan.number payload → new.released ≡ store.released
      → AllHold S bytes (i + 1) (slice_set stores plan.core new)
  all-more {payload} new bytes_are held released = record {
    as_many = length-set stores plan.core new ∙ n.stocked.all.as_many;
    each = each;
  }
    where
      put : HoldsFirst S bytes plan.core (i + 1) new
      put =
          subst (λ (p : PacketPlan). HoldsFirst S bytes p.core (i + 1) new) (sym n.at)
          (put-in n.stocked.is_setup n.stocked.long i plan payload n.within store new its-store
          (held
          ∙ ap (λ (p : PacketPlan). fin.insert store.held p.number payload) n.at
          ∙ ap (fin.insert store.held (get_or S.packets i plan).number) bytes_are)
          released)

      each : (core : ℕ) (d : StoreView) → core < length (slice_set stores plan.core new)
          → HoldsFirst S bytes core (i + 1) (slice_index_or (slice_set stores plan.core new) core d)
      each core d below = go (cases_eq core plan.core)
        where
          low : core < length stores
          low = omega (arith, below, length-set stores plan.core new)

          go : (core ≡ plan.core) ⊎ (core ≢ plan.core) → HoldsFirst S bytes core (i + 1) (slice_index_or (slice_set stores plan.core new) core d)
          go (inl same) =
              subst (λ (k : ℕ). HoldsFirst S bytes k (i + 1) (slice_index_or (slice_set stores plan.core new) k d)) (sym same)
              (subst (HoldsFirst S bytes plan.core (i + 1)) (sym (get_or-set_same stores plan.core new d core-within)) put)
          go (inr other) =
              subst (HoldsFirst S bytes core (i + 1)) (sym (get_or-set_other stores plan.core core new d other))
              (put-elsewhere n.stocked.is_setup n.stocked.long i plan payload n.within core (slice_index_or stores core d)
              (λ e. other (e ∙ ap (λ (p : PacketPlan). p.core) (sym n.at))) (n.stocked.all.each core d low))
