-- A core that is done has nothing left: its visits are made, the packets that entered there are settled, and its store is empty.
use Rattle.std.proofs.Common.{◌≡◌, ◌≢◌, ◌⊎◌, inl, inr, ℕ, ◌+◌, ◌<◌, List, [], ◌∷◌, length, Option, Some, None, refl, sym, subst, arith}
use Rattle.std.proofs.lemmas.Bool.{cases_eq}
use Rattle.std.specs.Prelude.{IsSome}
use Rattle.std.specs.FinMap as fin
use Rattle.mn_base.specs.Among.{Among}
use Rattle.journal.specs.declared.setup.PacketPlan.{PacketPlan}
use Rattle.journal.specs.declared.visit.Visit.{Visit}
use Rattle.journal.specs.SetupView.{route_of}
use Rattle.journal.specs.IsSetup.{IsSetup}
use Rattle.journal.specs.Journal.{journal_of}
use Rattle.journal.specs.Laws.{EndsWay}
use Rattle.parcel.specs.Owners.{owner_of}
use Rattle.parcel.specs.Windows.{window_of, window_count}
use Rattle.parcel.specs.Known.{IsLeastKnown}
use Rattle.journal.proofs.Ends.{ways_end, end-last}
use Rattle.parcel.proofs.WindowLaws.{in-window, starts-counted}
use Rattle.parcel.proofs.Origins.{owner-below}
use Rattle.parcel.proofs.Due.{least-none}
use Rattle.core_loop.specs.CoreView.{CoreView, windows_of, peer_at, taken_of}
use Rattle.core_loop.specs.Stocked.{Enters}
use Rattle.core_loop.specs.WorldState.{IsDecidedBy, CoreStands}
use Rattle.core_loop.specs.Turns.{HasTradedAll, IsCoreDone, HasEnded}

module _ (c : CoreView) (is : IsSetup c.setup) where
  -- each visit is in a window that is counted
  pub in-count : (v : Visit) → Among v (journal_of c.setup) → window_of c.setup v.tick < window_count c.setup
  in-count v a = let i = in-window c.setup is v a in starts-counted c.setup (window_of c.setup v.tick) i.start i.starts

  -- when all windows are run and all parcels taken, every packet is decided
  pub all-decided : IsCoreDone c → (p : PacketPlan) → Enters c.setup c.number p → IsDecidedBy c.setup c.number (windows_of c) (taken_of c) p
  all-decided d p e = go (route_of c.setup p.number) refl
    where
      decided : (v : Visit) → EndsWay c.setup p v → IsDecidedBy c.setup c.number (windows_of c) (taken_of c) p
      decided v w = split (cases_eq (owner_of c.setup v.pipe) c.number)
        where
          l : window_of c.setup v.tick < window_count c.setup
          l = in-count v w.among

          n : windows_of c ≡ window_count c.setup
          n = d.windows

          split : (owner_of c.setup v.pipe ≡ c.number) ⊎ (owner_of c.setup v.pipe ≢ c.number)
              → IsDecidedBy c.setup c.number (windows_of c) (taken_of c) p
          split (inl own) = inr (inl (
            window_of c.setup v.tick + 1,
            omega (arith, l, n),
            record {
              among = e.among;
              entered = e.entered;
              last = v;
              is_last = end-last c.setup is p v w;
              owner = own;
              window = refl;
            },
          ))
          split (inr other) = inr (inr (
            owner_of c.setup v.pipe,
            window_of c.setup v.tick + 1,
            other,
            (let t : taken_of c (owner_of c.setup v.pipe) ≡ windows_of c + 1 =
                d.trades.takes (owner_of c.setup v.pipe) (owner-below c.setup is v w.among, other) in
                omega (arith, l, n, t)),
            record {
              among = e.among;
              entered = e.entered;
              last = v;
              is_last = end-last c.setup is p v w;
              owner = refl;
              window = refl;
            },
          ))

      go : (route : List ℕ) → route_of c.setup p.number ≡ route → IsDecidedBy c.setup c.number (windows_of c) (taken_of c) p
      go [] r = inl r
      go (q ∷ route) r =
          let w = ways_end c.setup is p e.among (subst (λ (l : List ℕ). 0 < length l) (sym r) (omega arith)) in
          decided w.0 w.1

  pub done-ended : (bytes : List (List ℕ)) → CoreStands bytes c → IsCoreDone c → HasEnded c
  done-ended bytes s d = record {
    visits = λ v a own. (let l : window_of c.setup v.tick < window_count c.setup = in-count v a in
        let n : windows_of c ≡ window_count c.setup = d.windows in
        omega (arith, l, n));
    settled = λ p e. s.settles.all p e (all-decided d p e);
    released = released;
    store = λ packet. empty packet (fin.get c.store.held packet) refl;
  }
    where
      released : (p : PacketPlan) → Enters c.setup c.number p → Among p.number c.store.released
      released p e = subst (Among p.number) (sym s.settles.released_are) (s.settles.all p e (all-decided d p e))

      empty : (packet : ℕ) (o : Option (List ℕ)) → fin.get c.store.held packet ≡ o → fin.get c.store.held packet ≡ None
      empty packet None g = g
      empty packet (Some b) g =
          let n = s.settles.no_other packet (subst (λ (o : Option (List ℕ)). IsSome o) (sym g) refl) in
          absurd (n.1 (subst (λ (k : ℕ). Among k c.store.released) n.0.2 (released n.0.0 n.0.1)))

  -- where all is traded, the least tick of each core is known
  pub leasts-known : (bytes : List (List ℕ)) → CoreStands bytes c → HasTradedAll c → (core : ℕ) → core < c.setup.cores
      → IsLeastKnown c.setup core (windows_of c) (peer_at c core).least
  leasts-known bytes s t core below = go (cases_eq core c.number)
    where
      go : (core ≡ c.number) ⊎ (core ≢ c.number) → IsLeastKnown c.setup core (windows_of c) (peer_at c core).least
      go (inl e) =
          subst (λ (k : ℕ). IsLeastKnown c.setup k (windows_of c) (peer_at c k).least) (sym e) s.knows.least
      go (inr other) = s.knows.told core (below, other) (t.takes core (below, other))

  -- and it is done where all is traded and all least ticks are none
  pub is-done : (bytes : List (List ℕ)) → CoreStands bytes c → HasTradedAll c → ((core : ℕ) → core < c.setup.cores → (peer_at c core).least ≡ None)
      → IsCoreDone c
  is-done bytes s t none = record {
    windows = least-none c.setup is (windows_of c) (λ core. (peer_at c core).least) (leasts-known bytes s t) none s.in_step.within;
    trades = t;
    leasts = none;
  }
