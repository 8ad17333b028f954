-- Literals of signals, while the graph grows and one is put behind the others.
use Rattle.std.proofs.Common.{◌≡◌, ◌∙◌, ◌+◌, ◌*◌, ◌<◌, ◌⊎◌, ℕ, List, [], ◌∷◌, ◌++◌, length, slice_get, Some, sym, ap, subst, arith, inl, inr}
use Rattle.std.proofs.Math.ListN.{get_or-append, length-append}
use Rattle.std.proofs.Math.Seq.{get_or-append_seam}
use Rattle.std.proofs.lemmas.Option.{slice_get_within, get_or_from_slice_get, slice_get-get_or}
use Rattle.std.specs.List.{All}
use Rattle.circuit_theory.proofs.Lists.{All-from_each, at_of}
use Rattle.aig.specs.declared.node.Lit.{Lit}
use Rattle.aig.specs.declared.node.Node.{Node}
use Rattle.aig.specs.declared.node.Node.TheVariants.{Input}
use Rattle.aig.specs.Graph.{IsGraph, Grows}
use Rattle.aig.proofs.Growth.{Grows-length, IsLitOf-grows, HasTreeLit-grows}
use Rattle.aig.proofs.Meaning.{value-grows}
use Rattle.flat_net.specs.View.{NetView, circuit_of}
use Rattle.block_refine.specs.declared.latch_blocks.variables.Variables.{Variables}
use Rattle.block_refine.specs.latch_blocks.Signals.{IsVariableLit, IsSignalLit, AreSignalLits}
use Rattle.aig.proofs.Supports.{old_reached, old_node}

module _ (n : NetView) (w : Variables) where
  pub lit_grows : (g h : List Node) → IsGraph g → Grows g h → (s : ℕ) (x : Lit) → IsSignalLit n w g s x → IsSignalLit n w h s x
  lit_grows g h graph grows s x is = record {
    within = omega (arith, is.within, Grows-length g h grows);
    tree = HasTreeLit-grows (circuit_of n) g h grows (IsVariableLit n w g) (IsVariableLit n w h) (λ p y (k, has, lit). (k, has, IsLitOf-grows g h grows (Input k) y lit)) s x.0 is.tree;
    values = λ a v reading. is.values a v reading ∙ sym (value-grows g h grows a x.0 is.within);
    reads = λ m k reach at. let old = old_reached g h graph grows x.0 is.within reach in is.reads m k old.1 (old_node g h graph grows m (Input k) old.0 at);
  }

  pub lits_grow : (g h : List Node) → IsGraph g → Grows g h → (lits : List Lit) → AreSignalLits n w g lits → AreSignalLits n w h lits
  lits_grow g h graph grows lits are = λ s x at. lit_grows g h graph grows s x (are s x at)

  -- they are of the graph
  pub lits_within : (g : List Node) (lits : List Lit) → AreSignalLits n w g lits → All (λ x. x.0 < 2 * length g) lits
  lits_within g lits are = All-from_each (λ (x : Lit). x.0 < 2 * length g) lits (λ x h. let at = at_of lits x h in (are at.0 x at.1).within)

  pub lits_push : (g : List Node) (lits : List Lit) (s : ℕ) (x : Lit) → length lits ≡ s → IsSignalLit n w g s x → AreSignalLits n w g lits → AreSignalLits n w g (lits ++ x ∷ [])
  lits_push g lits s x each here are = λ t y at. by t y at (below_or_here t (length lits) (let inside = slice_get_within (lits ++ x ∷ []) t y at in omega (arith, inside, length-append lits (x ∷ []))))
    where
      below_or_here : (k n : ℕ) → k < n + 1 → (k < n) ⊎ (k ≡ n)
      below_or_here k n h = grind arith

      by : (t : ℕ) (y : Lit) → slice_get (lits ++ x ∷ []) t ≡ Some y → (t < length lits) ⊎ (t ≡ length lits) → IsSignalLit n w g t y
      by t y at (inl less) = are t y (slice_get-get_or lits t y less ∙ ap Some (sym (get_or-append lits (x ∷ []) y t less) ∙ get_or_from_slice_get (lits ++ x ∷ []) t y y at))
      by t y at (inr e) =
          let one : x ≡ y = sym (get_or-append_seam lits x [] y) ∙ get_or_from_slice_get (lits ++ x ∷ []) (length lits) y y (ap (slice_get (lits ++ x ∷ [])) (sym e) ∙ at) in
          subst (λ (z : Lit). IsSignalLit n w g t z) one (subst (λ r. IsSignalLit n w g r x) (sym each ∙ sym e) here)
