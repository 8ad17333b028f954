use Rattle.std.proofs.Common.{◌≡◌, ℕ, ◌<◌, List, length, get_or, slice_get, Some, arith, sym, subst, ◌∙◌}
use Rattle.std.proofs.lemmas.Option.{slice_get-get_or, slice_get_within}
use Rattle.sec_base.proofs.circuit_theory.Lists.{of_at}
use Rattle.aig.specs.declared.node.Node.{Node}
use Rattle.aig.specs.declared.node.Node.TheVariants.{Constant}
use Rattle.aig.specs.Cone.{IsClosed, IsPartOf, IsPlacedNode}
use Rattle.aig.proofs.Parts.{part-ordered, part-bits, part-step}
use Rattle.aig.proofs.graph.Aig.part.Goals as goal

-- the number at a place of the cone is a node's
number-within : (g : List Node) (nodes : List ℕ) → IsClosed g nodes → (k d : ℕ) → k < length nodes → get_or nodes k d < length g
number-within g nodes closed k d inside = closed.within (get_or nodes k d) (of_at nodes k (get_or nodes k d) (slice_get-get_or nodes k d inside))

pub bounds-nodes-cone : goal.bounds-nodes-cone
bounds-nodes-cone c =
    subst (λ (g : List Node). get_or c.args.cone.now c.loop-k.k 0 < length g) (sym c.nodes-nodes.ensures.nodes) (number-within c.args.self.now c.args.cone.now c.requires c.loop-k.k 0 c.loop-k-test.true)

pub placed-node-requires-clause-few : goal.placed-node-requires-clause-few
placed-node-requires-clause-few c = λ k d inside. omega (arith, number-within c.args.self.now c.args.cone.now c.requires k d inside, c.nodes-nodes.ensures.graph.few)

pub placed-node-requires-clause-operands : goal.placed-node-requires-clause-operands
placed-node-requires-clause-operands c = λ x reading.
    let n = get_or c.args.cone.now c.loop-k.k 0 in
    let node = get_or c.nodes-nodes.result.now (get_or c.args.cone.now c.loop-k.k 0) Constant in
    let here = slice_get-get_or c.args.cone.now c.loop-k.k 0 c.loop-k-test.true in
    let inside : get_or c.args.cone.now c.loop-k.k 0 < length c.nodes-nodes.result.now =
    subst (λ (g : List Node). get_or c.args.cone.now c.loop-k.k 0 < length g) (sym c.nodes-nodes.ensures.nodes) (number-within c.args.self.now c.args.cone.now c.requires c.loop-k.k 0 c.loop-k-test.true) in
    let there = slice_get-get_or c.nodes-nodes.result.now (get_or c.args.cone.now c.loop-k.k 0) Constant inside in
    c.requires.operands n x node (of_at c.args.cone.now c.loop-k.k n here) (subst (λ (g : List Node). slice_get g (get_or c.args.cone.now c.loop-k.k 0) ≡ Some (get_or c.nodes-nodes.result.now (get_or c.args.cone.now c.loop-k.k 0) Constant)) c.nodes-nodes.ensures.nodes there) reading

pub loop-k-preserved : goal.loop-k-preserved
loop-k-preserved c =
    let n = get_or c.args.cone.now c.loop-k.k 0 in
    let node = get_or c.nodes-nodes.result.now (get_or c.args.cone.now c.loop-k.k 0) Constant in
    let here = slice_get-get_or c.args.cone.now c.loop-k.k 0 c.loop-k-test.true in
    let inside : get_or c.args.cone.now c.loop-k.k 0 < length c.nodes-nodes.result.now =
    subst (λ (g : List Node). get_or c.args.cone.now c.loop-k.k 0 < length g) (sym c.nodes-nodes.ensures.nodes) (number-within c.args.self.now c.args.cone.now c.requires c.loop-k.k 0 c.loop-k-test.true) in
    let there = slice_get-get_or c.nodes-nodes.result.now (get_or c.args.cone.now c.loop-k.k 0) Constant inside in
    let step = part-step c.nodes-nodes.result.now c.args.cone.now c.loop-k.part.items c.push.new.self.items c.loop-k.k c.placed-node.result n node c.loop-k.invariant.each c.loop-k.invariant.placed c.in_ok-push.ensures.items here there c.placed-node.ensures in
    record { each = step.0; placed = step.1 }

-- the whole part
whole : (g g' : List Node) (nodes : List ℕ) (part : List Node) (k : ℕ) → g' ≡ g → length part ≡ k → k ≡ length nodes → ((j n : ℕ) (node : Node) → j < k → slice_get nodes j ≡ Some n → slice_get g' n ≡ Some node → (p : Node) × (slice_get part j ≡ Some p) × IsPlacedNode nodes node p) → IsPartOf g nodes part
whole g g' nodes part k same each all placed = record {
  each = each ∙ all;
  placed = λ j n node at there. placed j n node (omega (arith, slice_get_within nodes j n at, all)) at (subst (λ (h : List Node). slice_get h n ≡ Some node) (sym same) there);
}

pub returns-clause-part : goal.returns-clause-part
returns-clause-part c =
    whole c.args.self.now c.nodes-nodes.result.now c.args.cone.now c.loop-k.part.items c.loop-k.k c.nodes-nodes.ensures.nodes c.loop-k.invariant.each (omega (arith, c.loop-k-test.false, c.loop-k.auto.k-end)) c.loop-k.invariant.placed

pub returns-clause-ordered : goal.returns-clause-ordered
returns-clause-ordered c =
    let is = whole c.args.self.now c.nodes-nodes.result.now c.args.cone.now c.loop-k.part.items c.loop-k.k c.nodes-nodes.ensures.nodes c.loop-k.invariant.each (omega (arith, c.loop-k-test.false, c.loop-k.auto.k-end)) c.loop-k.invariant.placed in
    part-ordered c.args.self.now c.nodes-nodes.ensures.graph c.args.cone.now c.requires c.loop-k.part.items is

pub returns-clause-bits : goal.returns-clause-bits
returns-clause-bits c =
    let is = whole c.args.self.now c.nodes-nodes.result.now c.args.cone.now c.loop-k.part.items c.loop-k.k c.nodes-nodes.ensures.nodes c.loop-k.invariant.each (omega (arith, c.loop-k-test.false, c.loop-k.auto.k-end)) c.loop-k.invariant.placed in
    part-bits c.args.self.now c.nodes-nodes.ensures.graph c.args.cone.now c.requires c.loop-k.part.items is
