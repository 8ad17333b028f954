-- One node more.
use Rattle.std.proofs.Common.{◌≡◌, ℕ, zero, suc, ◌+◌, ◌-◌, ◌≤◌, List, [], ◌∷◌, ◌++◌, length, refl, sym, ◌∙◌, ap, subst, arith}
use Rattle.std.proofs.lemmas.List.{length-append}
use Rattle.aig.specs.declared.node.Lit.{Lit}
use Rattle.aig.specs.declared.node.Node.{Node}
use Rattle.aig.proofs.Growth.{Grows-trans}
use Rattle.aig.specs.graph_copy.Copy.{AreCopies}
use Rattle.aig.proofs.graph_copy.copy.copy_into.Goals as goal

few_step : (g h : List Node) (n start : ℕ) → (n ≡ 0 → h ≡ g) → length h ≤ length g + 1 → length g ≤ start + (n - 1) → length h ≤ start + (n + 1 - 1)
few_step g h zero start first few old = omega (arith, ap length (first refl))
few_step g h (suc n) start first few old = omega arith

pub loop-n-preserved : goal.loop-n-preserved
loop-n-preserved c =
    let lits = c.loop-n.lits.items in
    let made = c.in_ok-made.made in
    let pushed : c.push.new.self.items ≡ lits ++ made ∷ [] = c.in_ok-push.ensures.items in
    record {
      each = ap length pushed ∙ length-append lits (made ∷ []) ∙ ap (λ (m : ℕ). m + 1) c.loop-n.invariant.each;
      copies = subst (λ (ls : List Lit). AreCopies c.args.own.now c.args.numbers.now c.copy_node.new.aig ls) (sym (pushed ∙ ap (λ (ls : List Lit). ls ++ made ∷ []) (sym c.as_slice.ensures.value))) c.in_ok-made.ensures.copies;
      grows = Grows-trans c.args.aig.now c.loop-n.aig c.copy_node.new.aig c.loop-n.invariant.grows c.copy_node.ensures.grows;
      few = few_step c.loop-n.aig c.copy_node.new.aig c.loop-n.n (length c.args.aig.now) c.copy_node.ensures.first c.copy_node.ensures.few c.loop-n.invariant.few;
    }

pub returns-clause-copy : goal.returns-clause-copy
returns-clause-copy c =
    c.literal_for.ensures c.args.own.now c.args.numbers.now c.loop-n.aig
    (subst (λ (ls : List Lit). AreCopies c.args.own.now c.args.numbers.now c.loop-n.aig ls) (sym c.as_slice-2.ensures.value) c.loop-n.invariant.copies)
