-- Literals by the bits of their nodes.
use Rattle.std.proofs.Common.{◌≡◌, ℕ, ◌*◌, ◌/◌, ◌%◌, Bool, not, ◌⊎◌, inl, inr, List, ap, subst, ◌∙◌, arith}
use Rattle.aig.specs.declared.node.Node.{Node}
use Rattle.aig.specs.Graph.{flip}
use Rattle.aig.specs.Values.{value}
use Rattle.aig.proofs.Literals.{flip-even, parity}
use Rattle.aig.proofs.Meaning.{value-flip}

-- the complement of a node
pub value-odd : (g : List Node) (a : ℕ → Bool) (x : ℕ) → x % 2 ≡ 1 → value g a x ≡ not (value g a (2 * (x / 2)))
value-odd g a x odd =
    let even : (2 * (x / 2)) % 2 ≡ 0 = omega arith in
    let is : flip (2 * (x / 2)) ≡ x = flip-even (2 * (x / 2)) even ∙ omega (arith, odd) in
    subst (λ (z : ℕ). value g a z ≡ not (value g a (2 * (x / 2)))) is (value-flip g a (2 * (x / 2)))

pub value-plain : (g : List Node) (a : ℕ → Bool) (x : ℕ) → (x % 2 ≡ 1 → ⊥) → value g a x ≡ value g a (2 * (x / 2))
value-plain g a x plain = by (parity x)
  where
    by : (x % 2 ≡ 0) ⊎ (x % 2 ≡ 1) → value g a x ≡ value g a (2 * (x / 2))
    by (inl even) = let is : x ≡ 2 * (x / 2) = omega (arith, even) in ap (value g a) is
    by (inr odd) = absurd (plain odd)
