-- Literals that stand for others where a variable has a bit keep doing so, also with the other sign, and in ands.
use Rattle.std.proofs.Common.{◌≡◌, ℕ, ◌*◌, ◌/◌, ◌%◌, ◌<◌, ◌≤◌, Bool, not, ◌&&◌, List, [], ◌∷◌, ◌++◌, length, slice_get, Option, Some, sym, ◌∙◌, ap, subst, arith, inl, inr}
use Rattle.std.specs.Prelude.{◌⊎◌}
use Rattle.aig.specs.declared.node.Lit.{Lit}
use Rattle.aig.specs.declared.node.Node.{Node}
use Rattle.aig.specs.Graph.{flip}
use Rattle.aig.specs.Values.{value, KeepsValues}
use Rattle.aig.proofs.Literals.{flip-even, flip-within}
use Rattle.aig.proofs.Meaning.{value-flip}
use Rattle.aig.proofs.Insert.{push-cases}
use Rattle.sweep_candidates.specs.case_split.Under.{StandsUnder, AreUnder}

module _ (v : ℕ) (bit : Bool) (g : List Node) where
  -- its complement
  pub under-odd : (h : List Node) (x y z : ℕ) → x % 2 ≡ 1 → z ≡ flip y → StandsUnder v bit g h (2 * (x / 2)) y → StandsUnder v bit g h x z
  under-odd h x y z odd is s =
      let even : (2 * (x / 2)) % 2 ≡ 0 = omega arith in
      let e : flip (2 * (x / 2)) ≡ x = flip-even (2 * (x / 2)) even ∙ (omega arith) in
      record {
        within = subst (λ (w : ℕ). w < 2 * length h) (sym is) (flip-within y (length h) s.within);
        same = λ a here. ap (value h a) is ∙ value-flip h a y ∙ ap not (s.same a here) ∙ sym (value-flip g a (2 * (x / 2))) ∙ ap (value g a) e;
      }

  -- the and of what stands for the operands
  pub under-and : (h k : List Node) (x l r s t y : ℕ) → ((a : ℕ → Bool) → value g a x ≡ value g a l && value g a r) → StandsUnder v bit g h l s → StandsUnder v bit g h r t
      → y < 2 * length k → ((a : ℕ → Bool) → value k a y ≡ value h a s && value h a t) → StandsUnder v bit g k x y
  under-and h k x l r s t y is left right within made = record {
    within = within;
    same = λ a here. made a ∙ ap (λ (b : Bool). b && value h a t) (left.same a here) ∙ ap (λ (b : Bool). value g a l && b) (right.same a here) ∙ sym (is a);
  }
