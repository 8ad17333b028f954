-- Assignments of the variables that a literal reads.
use Rattle.std.proofs.Common.{◌≡◌, ◌≢◌, ◌∙◌, ℕ, suc, ◌+◌, ◌*◌, ◌<◌, ◌≤◌, Bool, true, false, List, [], ◌∷◌, length, get_or, slice_get, Some, refl, sym, ap, arith, ◌++◌, take, drop, append-nil}
use Rattle.std.specs.Prelude.{◌==◌, Contains}
use Rattle.std.specs.List.{AllPairs}
use Rattle.std.proofs.lemmas.Bool.Decides.{Decides-eqb}
use Rattle.std.proofs.lemmas.List.{take_all, drop_all}
use Rattle.std.proofs.lemmas.Option.{slice_get-get_or, slice_get_within, get_or_from_slice_get}
use Rattle.circuit_theory.proofs.Lists.{at_of, of_at, only, Contains-head}
use Rattle.aig.specs.declared.node.Node.{Node}
use Rattle.aig.specs.declared.node.Node.TheVariants.{Constant, Input, And}
use Rattle.aig.specs.declared.cone_graph.Cones.{Cones}
use Rattle.aig.specs.Cone.{IsReached, IsPlacedNode}
use Rattle.aig.specs.Cones.{AreConesOf}
use Rattle.aig.specs.Graph.{IsGraph, vars_of}
use Rattle.aig.specs.Values.{lit_bit, node_bits, value, assigned}
use Rattle.aig.proofs.Insert.{vars_of-member}
use Rattle.aig.specs.lane_eval.Tables.{Covers, assigned_to}
use Rattle.aig.proofs.lane_eval.Numbered.{assigned_to-at}
use Rattle.pair_decide.proofs.Reached.{same-root}
use Rattle.class_search.specs.class_separations.cone_values.Bits.{HasBits}

-- one for which there is no room
pub bits_left : (vars : List ℕ) (bits : List Bool) (k : ℕ) (assignment : List Bool) → length assignment ≤ get_or vars k 0 → HasBits vars bits k assignment → HasBits vars bits (k + 1) assignment
bits_left vars bits k assignment none has j v below at room = by (j == k) refl
  where
    here : get_or vars j 0 ≡ v
    here = get_or_from_slice_get vars j v 0 at

    by : (t : Bool) → (j == k) ≡ t → get_or assignment v false ≡ get_or bits j false
    by true test =
        let e : j ≡ k = (Decides-eqb j k).0 test in
        let same : v ≡ get_or vars k 0 = sym here ∙ ap (λ (i : ℕ). get_or vars i 0) e in
        absurd (omega (arith, none, room, same))
    by false test = has j v (let apart : j ≢ k = λ (e : j ≡ k). differs ((Decides-eqb j k).1 e) test in omega (arith, apart, below)) at room
      where
        differs : (j == k) ≡ true → (j == k) ≡ false → ⊥
        differs p q = let e : true ≡ false = sym p ∙ q in cc

-- nodes whose inputs are all below a number
few_vars : (nodes : List Node) (n : ℕ) → ((k v : ℕ) → slice_get nodes k ≡ Some (Input v) → v < n) → vars_of nodes ≤ n
few_vars [] n below = omega arith
few_vars (Constant ∷ nodes) n below = few_vars nodes n (λ k v at. below (suc k) v at)
few_vars (Input v ∷ nodes) n below = let first = below 0 v refl in let rest = few_vars nodes n (λ k u at. below (suc k) u at) in omega (arith, first, rest)
few_vars (And l r ∷ nodes) n below = few_vars nodes n (λ k v at. below (suc k) v at)

input_is : (nodes : List ℕ) (node p : Node) (v : ℕ) → IsPlacedNode nodes node p → p ≡ Input v → node ≡ Input v
input_is nodes Constant p v placed is = absurd (no (sym placed ∙ is))
  where
    no : Constant ≡ Input v → ⊥
    no e = cc
input_is nodes (Input u) p v placed is = sym placed ∙ is
input_is nodes (And l r) p v placed is = absurd (no (sym placed.2 ∙ is))
  where
    no : And placed.0 placed.1 ≡ Input v → ⊥
    no e = cc

-- the variables of a part are those of the graph
pub part_vars : (g : List Node) (x : ℕ) (c : Cones) → AreConesOf g x x x c → vars_of c.part ≤ vars_of g
part_vars g x c is = few_vars c.part (vars_of g) below
  where
    below : (k v : ℕ) → slice_get c.part k ≡ Some (Input v) → v < vars_of g
    below k v at =
        let inside : k < length c.nodes = let w = slice_get_within c.part k (Input v) at in omega (arith, w, is.part_is.each) in
        let n : ℕ = get_or c.nodes k 0 in
        let at_n : slice_get c.nodes k ≡ Some n = slice_get-get_or c.nodes k 0 inside in
        let here : n < length g = is.closed.within n (of k n at_n) in
        let node : Node = get_or g n Constant in
        let at_node : slice_get g n ≡ Some node = slice_get-get_or g n Constant here in
        let p = is.part_is.placed k n node at_n at_node in
        let same : p.0 ≡ Input v = one p.0 (sym p.1 ∙ at) in
        let found : node ≡ Input v = input_is c.nodes node p.0 v p.2 same in
        let low = vars_of-member g n (Input v) (at_node ∙ ap Some found) in
        omega (arith, low)
      where
        of : (i n : ℕ) → slice_get c.nodes i ≡ Some n → Contains c.nodes n
        of i n h = of_at c.nodes i n h

        one : (p : Node) → Some p ≡ Some (Input v) → p ≡ Input v
        one p e = cc

-- the value in the cone is the value under the assignment of the variables
pub value_is : (g : List Node) → IsGraph g → (x : ℕ) → x < 2 * length g → (c : Cones) → AreConesOf g x x x c → (vars : List ℕ) (bits assignment : List Bool) → AllPairs (λ u v. u ≢ v) vars → length bits ≡ length vars → Covers g (x ∷ []) vars →
    length assignment ≡ vars_of g → HasBits vars bits (length vars) assignment → lit_bit (node_bits c.part (assigned assignment)) c.left.0 ≡ value g (assigned_to vars bits) x
unfolding value
value_is g graph x within c is vars bits assignment distinct each covers size has =
    is.values (assigned assignment) x c.left.0 is.left_is ∙ same-root g graph.ordered (x ∷ []) inside (assigned assignment) (assigned_to vars bits) agree x (head x)
  where
    inside : (y : ℕ) → Contains (x ∷ []) y → y < 2 * length g
    inside y h = let e : x ≡ y = only x y h in omega (arith, within, e)

    head : (y : ℕ) → Contains (y ∷ []) y
    head y = Contains-head y []

    agree : (n v : ℕ) → IsReached g (x ∷ []) n → slice_get g n ≡ Some (Input v) → get_or assignment v false ≡ assigned_to vars bits v
    agree n v reach at =
        let j = at_of vars v (covers n v reach at) in
        let low = vars_of-member g n (Input v) at in
        has j.0 v (slice_get_within vars j.0 v j.1) j.1 (omega (arith, low, size)) ∙ assigned_to-at vars bits distinct each j.0 v j.1

-- a list that is written over as a whole is what was written
pub written_over : (old new : List Bool) (n : ℕ) → length new ≡ length old → length new ≤ n → take n (new ++ drop (length new) old) ≡ new
written_over old new n long fits = ap (λ (rest : List Bool). take n (new ++ rest)) (drop_all (length new) old (omega (arith, long))) ∙ (ap (take n) (append-nil new) ∙ take_all n new fits)
