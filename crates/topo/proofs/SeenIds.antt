-- Ids and addresses that were seen before, by the numbers of the nodes so far.
use Rattle.std.proofs.Common.{◌≡◌, ◌<◌, ◌+◌, ◌==◌, ℕ, Bool, true, false, cond, List, length, take, get_or, refl, sym, ◌∙◌, ap, arith, Option, Some, None, is_some}
use Rattle.std.proofs.lemmas.List.{take_more, length-take-le}
use Rattle.std.proofs.lemmas.Bool.Decides.{nat_tests}
use Rattle.std.specs.List.{list_any}
use Rattle.std.specs.Option.{option_or, option_map_or}
use Rattle.std.specs.Ordering.{nat_cmp, is_eq}
use Rattle.topo.specs.declared.parts.Node.{Node}
use Rattle.topo.specs.declared.faults.TopoFault.TheVariants.{DuplicateId}
use Rattle.topo.specs.Nodes.{has_id, node_with}
use Rattle.topo.specs.Faults.{id_fault}
use Rattle.topo.proofs.Firsts.{is_some-position, position_push}

-- an earlier node has the id
pub id_seen : (nodes : List Node) (n : ℕ) (node : Node) (found : Option ℕ) → found ≡ node_with (take n nodes) node.id
    → is_some found ≡ true → Some (DuplicateId n) ≡ id_fault nodes n node
id_seen nodes n node found same there =
    let any : list_any (has_id node.id) (take n nodes) ≡ true =
    sym (is_some-position (has_id node.id) (take n nodes)) ∙ ap is_some (sym same) ∙ there in
    rw any refl

-- none has it
pub id_new : (nodes : List Node) (n : ℕ) (node : Node) (found : Option ℕ) → found ≡ node_with (take n nodes) node.id
    → is_some found ≡ false → None ≡ id_fault nodes n node
id_new nodes n node found same there =
    let any : list_any (has_id node.id) (take n nodes) ≡ false =
    sym (is_some-position (has_id node.id) (take n nodes)) ∙ ap is_some (sym same) ∙ there in
    rw any refl

-- the numbers with one node more
pub node_with_more : (nodes : List Node) (n : ℕ) (d : Node) (id : ℕ) → n < length nodes
    → let node = get_or nodes n d in node_with (take (n + 1) nodes) id ≡ option_or (node_with (take n nodes) id)
    (cond (node.id == id) (Some n) None)
node_with_more nodes n d id within =
    ap (λ xs. node_with xs id) (take_more nodes n d within) ∙ position_push (has_id id) (take n nodes) (get_or nodes n d)
    ∙ ap (λ m. option_or (node_with (take n nodes) id) (cond (let node = get_or nodes n d in node.id == id) (Some m) None))
    (length-take-le n nodes (omega arith))

none_found : (o : Option ℕ) → is_some o ≡ false → o ≡ None
none_found None e = refl
none_found (Some x) e = cc

-- a number is written at a key, which had none
pub written : (b : Bool) (n : ℕ) (before now : Option ℕ) → now ≡ cond b (Some n) before → (b ≡ true → before ≡ None)
    → now ≡ option_or before (cond b (Some n) None)
written true n before now e new = e ∙ ap (λ o. option_or o (Some n)) (sym (new refl))
written false n None now e new = e
written false n (Some x) now e new = e

is_eq-nat_cmp : (a b : ℕ) → is_eq (nat_cmp a b) ≡ (a == b)
is_eq-nat_cmp a b = grind (arith, nat_tests)

same_key : (find : ℕ → Option ℕ) (a b : ℕ) → (a == b) ≡ true → is_some (find a) ≡ false → find b ≡ None
same_key find a b e none =
    let same : a ≡ b = grind (arith, nat_tests, e) in
    none_found (find b) (ap (λ x. is_some (find x)) (sym same) ∙ none)

-- `now` has one number more than `find`, which had none of that id
pub numbers_more : (find now : ℕ → Option ℕ) (nodes : List Node) (n : ℕ) (d : Node) (q : ℕ) → n < length nodes
    → let node = get_or nodes n d in now q ≡ cond (is_eq (nat_cmp node.id q)) (Some n) (find q) → find q ≡ node_with (take n nodes) q
    → is_some (find node.id) ≡ false → now q ≡ node_with (take (n + 1) nodes) q
numbers_more find now nodes n d q within changed so_far none =
    let node = get_or nodes n d in
    let tested : now q ≡ cond (node.id == q) (Some n) (find q) = changed ∙ ap (λ b. cond b (Some n) (find q)) (is_eq-nat_cmp node.id q) in
    written (node.id == q) n (find q) (now q) tested (λ e. same_key find node.id q e none)
    ∙ ap (λ o. option_or o (cond (node.id == q) (Some n) None)) so_far ∙ sym (node_with_more nodes n d q within)

-- the address that a node is tested for is its own
pub address_is : (o : Option ℕ) (a : ℕ) → option_map_or (λ x. x == a) o false ≡ true → o ≡ Some a
address_is None a e = cc
address_is (Some x) a e = let same : x ≡ a = grind (arith, nat_tests, e) in ap Some same
