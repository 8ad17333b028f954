-- One node more.
use Rattle.std.proofs.Common.{◌≡◌, ℕ, zero, suc, ◌+◌, ◌-◌, ◌≤◌, List, [], ◌∷◌, ◌++◌, length, refl, sym, ◌∙◌, ap, subst, arith}
use Rattle.std.proofs.lemmas.List.{length-append}
use Rattle.aig.specs.declared.node.Lit.{Lit}
use Rattle.aig.specs.declared.node.Node.{Node}
use Rattle.aig.specs.graph_copy.graph_clone.Twins.{AreTwins}
use Rattle.aig.proofs.graph_copy.graph_clone.copies.copy_graph.Goals as goal

few_step : (g h : List Node) (n : ℕ) → (n ≡ 0 → h ≡ g) → length h ≤ length g + 1 → length g ≤ 1 + (n - 1) → length h ≤ 1 + (n + 1 - 1)
few_step g h zero first few old = omega (arith, ap length (first refl))
few_step g h (suc n) first few old = omega arith

pub loop-n-preserved : goal.loop-n-preserved
loop-n-preserved c =
    let lits = c.loop-n.lits.items in
    let made = c.in_ok-made.made in
    let pushed : c.push.new.self.items ≡ lits ++ made ∷ [] = c.in_ok-push.ensures.items in
    record {
      each = ap length pushed ∙ length-append lits (made ∷ []) ∙ ap (λ (m : ℕ). m + 1) c.loop-n.invariant.each;
      twins = subst (λ (ls : List Lit). AreTwins c.args.own.now c.copy_node.new.aig ls) (sym (pushed ∙ ap (λ (ls : List Lit). ls ++ made ∷ []) (sym c.as_slice.ensures.value))) c.in_ok-made.ensures.twins;
      few = few_step c.loop-n.aig c.copy_node.new.aig c.loop-n.n c.copy_node.ensures.first c.copy_node.ensures.few c.loop-n.invariant.few;
    }
