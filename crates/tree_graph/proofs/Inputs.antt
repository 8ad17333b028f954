-- The constant with inputs behind it.
use Rattle.std.proofs.Common.{◌≡◌, ℕ, zero, suc, ◌⊎◌, inl, inr, [], ◌∷◌, length, slice_get, Some, refl, sym, ap, subst, ◌∙◌, arith}
use Rattle.std.specs.List.{Contains}
use Rattle.std.proofs.lemmas.Option.{none-some, same_Some, slice_get_within}
use Rattle.std.proofs.lemmas.List.{length-append}
use Rattle.circuit_theory.proofs.Lists.{at_of}
use Rattle.base_tables.specs.unique_table.Places.{StandOnce}
use Rattle.aig.specs.declared.node.Node.{Node}
use Rattle.aig.specs.declared.node.Node.TheVariants.{Constant, Input}
use Rattle.aig.proofs.Insert.{push-cases}
use Rattle.tree_graph.specs.Numbering.{with_inputs}

pub inputs_length : (n : ℕ) → length (with_inputs n) ≡ suc n
inputs_length zero = refl
inputs_length (suc n) = omega (arith, length-append (with_inputs n) (Input n ∷ []), inputs_length n)

-- what stands at a place
abbrev pub IsNodeAt : ℕ → Node → Type 0
IsNodeAt zero node = node ≡ Constant
IsNodeAt (suc v) node = node ≡ Input v

pub node_at : (n i : ℕ) (node : Node) → slice_get (with_inputs n) i ≡ Some node → IsNodeAt i node
node_at zero zero node h = sym (same_Some Constant node h)
node_at zero (suc i) node h = absurd (none-some node h)
node_at (suc n) i node h = by (node_at n i node) (push-cases (with_inputs n) (Input n) i node h)
  where
    by : (slice_get (with_inputs n) i ≡ Some node → IsNodeAt i node) → (slice_get (with_inputs n) i ≡ Some node) ⊎ ((i ≡ length (with_inputs n)) × (node ≡ Input n)) → IsNodeAt i node
    by before (inl at) = before at
    by before (inr (e, f)) = subst (λ (k : ℕ). IsNodeAt k node) (sym (e ∙ inputs_length n)) f

no_constant : (v : ℕ) → Constant ≡ Input v → ⊥
no_constant v e = cc

same_input : (v w : ℕ) → Input v ≡ Input w → v ≡ w
same_input v w e = cc

one_place : (i j : ℕ) (node : Node) → IsNodeAt i node → IsNodeAt j node → i ≡ j
one_place zero zero node h k = refl
one_place zero (suc w) node h k = absurd (no_constant w (sym h ∙ k))
one_place (suc v) zero node h k = absurd (no_constant v (sym k ∙ h))
one_place (suc v) (suc w) node h k = ap suc (same_input v w (sym h ∙ k))

pub inputs_once : (n : ℕ) → StandOnce (with_inputs n)
inputs_once n i j node at other = one_place i j node (node_at n i node at) (node_at n j node other)

-- the next input isn't there
pub next_input : (n : ℕ) → Contains (with_inputs n) (Input n) → ⊥
next_input n h =
    let p = at_of (with_inputs n) (Input n) h in
    by p.0 (node_at n p.0 (Input n) p.1) p.1
  where
    by : (i : ℕ) → IsNodeAt i (Input n) → slice_get (with_inputs n) i ≡ Some (Input n) → ⊥
    by zero e at = no_constant n (sym e)
    by (suc v) e at =
        let within = slice_get_within (with_inputs n) (suc v) (Input n) at in
        omega (arith, within, inputs_length n, same_input n v e)
