-- A setup's packets by their places and numbers, and their routes.
use Rattle.std.proofs.Common.{◌≡◌, inl, inr, ℕ, zero, suc, ◌<◌, ◌≤◌, List, [], ◌∷◌, length, map, Option, Some, slice_get, slice_index_or, All, refl, sym, ap, ◌∙◌, subst, arith, ◌==◌}
use Rattle.std.specs.Option.{option_map_or}
use Rattle.std.proofs.lemmas.List.{get_or-map, length-map}
use Rattle.mn_base.specs.Among.{Among}
use Rattle.mn_base.specs.declared.limits.TheConstants.{ROUTE_PIPES_MAX, PACKET_BYTES_MAX}
use Rattle.journal.specs.declared.setup.PacketPlan.{PacketPlan}
use Rattle.journal.specs.SetupView.{SetupView, packet_of, route_of}
use Rattle.journal.specs.IsSetup.{IsSetup}
use Rattle.mn_base.proofs.Members.{Among-find, All-Among}
use Rattle.journal.proofs.Numbers.{found}

-- what stands at a place is a member
pub among-get : {X : Type 0} (xs : List X) (i : ℕ) (x : X) → slice_get xs i ≡ Some x → Among x xs
among-get [] i x is = cc
among-get (y ∷ ys) zero x is = inl cc
among-get (y ∷ ys) (suc i) x is = inr (among-get ys i x is)

pub packet-known : (S : SetupView) → IsSetup S → (p : PacketPlan) → Among p S.packets → packet_of S p.number ≡ Some p
packet-known S is p a = sym (found S is p p.number a refl)

-- the route of a packet that the setup has
pub record HasRoute (S : SetupView) (p : PacketPlan) (route : List ℕ) : Type 0 where
  pub is : route ≡ route_of S p.number
  pub within : p.route < length S.routes
  pub short : length route ≤ ROUTE_PIPES_MAX
  pub named : All (λ pipe. pipe < length S.pipes) route

pub packet-route : (S : SetupView) → IsSetup S → (p : PacketPlan) → packet_of S p.number ≡ Some p
    → HasRoute S p (slice_index_or S.routes p.route [])
packet-route S is p known =
    let member = Among-find (λ (q : PacketPlan). q.number == p.number) p S.packets known in
    let within : p.route < length S.routes =
    All-Among (λ (q : PacketPlan). q.route < length S.routes) p S.packets is.packet_routes member.0 in
    record {
      is = sym (ap (λ (o : Option PacketPlan). option_map_or (λ q. slice_index_or S.routes q.route []) o []) known);
      within = within;
      short = is.routes_most p.route [] within;
      named = is.routes_named p.route [] within;
    }

pub packet-short : (S : SetupView) → IsSetup S → (p : PacketPlan) → packet_of S p.number ≡ Some p → p.len ≤ PACKET_BYTES_MAX
packet-short S is p known =
    let member = Among-find (λ (q : PacketPlan). q.number == p.number) p S.packets known in
    All-Among (λ (q : PacketPlan). q.len ≤ PACKET_BYTES_MAX) p S.packets is.lens_most member.0

-- the same, read out of a list whose elements hold the routes
pub route-read : {X : Type 0} (items : X → List ℕ) (xs : List X) (S : SetupView) → IsSetup S → (p : PacketPlan)
    → packet_of S p.number ≡ Some p
    → map items xs ≡ S.routes → {x : X} → x ≡ slice_index_or xs p.route x → {route : List ℕ} → route ≡ items x → HasRoute S p route
route-read items xs S is p known same {x} read {route} value =
    let has = packet-route S is p known in
    let within : p.route < length xs = omega (arith, length-map xs items, ap length same, has.within) in
    let here : route ≡ slice_index_or S.routes p.route [] =
    value ∙ ap items read ∙ sym (get_or-map items xs p.route x [] within) ∙ ap (λ rs. slice_index_or rs p.route []) same in
    subst (HasRoute S p) (sym here) has
