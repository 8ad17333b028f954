-- The operands of a literal stand in the graph.
use Rattle.std.proofs.Common.{◌≡◌, ℕ, ◌*◌, ◌/◌, ◌%◌, ◌<◌, ◌==◌, ◌||◌, ◌&&◌, Bool, true, false, if◌then◌else◌, List, length, slice_get, Option, Some, None, refl, ap, inl, inr, arith}
use Rattle.std.specs.Prelude.{◌⊎◌}
use Rattle.std.proofs.lemmas.Bool.{false≢true}
use Rattle.std.proofs.lemmas.Bool.Decides.{Decides-eqb}
use Rattle.std.proofs.lemmas.Option.{none-some, same_Some, slice_get_within}
use Rattle.aig.specs.declared.node.Lit.{Lit}
use Rattle.aig.specs.declared.node.Node.{Node}
use Rattle.aig.specs.declared.node.Node.TheVariants.{Constant, Input, And}
use Rattle.aig.specs.Graph.{IsGraph, IsLitOf}
use Rattle.aig.specs.graph_copy.aig_or.ShortOr.{operands_of, node_operands, operands}

-- tests that passed
pub passed : (m n : ℕ) → (m == n) ≡ true → m ≡ n
passed m n e = (Decides-eqb m n).0 e

pub both_passed : (b c : Bool) → (b && c) ≡ true → (b ≡ true) × (c ≡ true)
both_passed true c h = (refl, h)
both_passed false c h = absurd (false≢true h)

pub one_passed : (b c : Bool) → (b || c) ≡ true → (b ≡ true) ⊎ (c ≡ true)
one_passed true c h = inl refl
one_passed false c h = inr h

-- the node of operands
pub operands_node : (o : Option Node) (l r : Lit) → operands_of o ≡ Some (l, r) → o ≡ Some (And l r)
operands_node (Some (And m s)) l r e = ap (λ (p : Lit × Lit). Some (And p.0 p.1)) (same_Some (m, s) (l, r) e)
operands_node (Some (Input v)) l r e = absurd (none-some (l, r) e)
operands_node (Some Constant) l r e = absurd (none-some (l, r) e)
operands_node None l r e = absurd (none-some (l, r) e)

pub node_at : (g : List Node) (x : ℕ) (l r : Lit) → node_operands g x ≡ Some (l, r) → slice_get g (x / 2) ≡ Some (And l r)
unfolding node_operands
node_at g x l r e = operands_node (slice_get g (x / 2)) l r e

-- the literal is that of their and
pub operands_lit : (g : List Node) (x : ℕ) (l r : Lit) → operands g x ≡ Some (l, r) → IsLitOf g (And l r) x
unfolding operands
operands_lit g x l r = by (x % 2 == 0) refl
  where
    by : (b : Bool) → (x % 2 == 0) ≡ b → (if b then node_operands g x else None) ≡ Some (l, r) → IsLitOf g (And l r) x
    by true even e = (x / 2, (let h : x % 2 ≡ 0 = passed (x % 2) 0 even in omega arith), node_at g x l r e)
    by false odd e = absurd (none-some (l, r) e)

-- the operands of a node are literals of nodes before it
pub and_within : (g : List Node) → IsGraph g → (n : ℕ) (l r : Lit) → slice_get g n ≡ Some (And l r) → (l.0 < 2 * length g) × (r.0 < 2 * length g)
and_within g graph n l r at =
    let above = graph.ordered n (And l r) at in
    let inside = slice_get_within g n (And l r) at in
    (omega (arith, above.0, above.1, inside), omega (arith, above.1, inside))

pub operands_within : (g : List Node) → IsGraph g → (x : ℕ) (l r : Lit) → operands g x ≡ Some (l, r) → (l.0 < 2 * length g) × (r.0 < 2 * length g)
operands_within g graph x l r are = let lit = operands_lit g x l r are in and_within g graph lit.0 l r lit.2
