-- One step towards the root more.
use Rattle.std.proofs.Common.{◌∙◌, ◌++◌, ◌∷◌, [], ℕ, List, reverse, sym, ap, arith, append_assoc, append-nil}
use Rattle.event_nodes.specs.Nodes.{path_of}
use Rattle.event_nodes.proofs.event_variables.Climbing.{parent_child, parent_lower, root_path}
use Rattle.event_nodes.proofs.event_variables.paths.node_path.Goals as goal

pub loop-at-init : goal.loop-at-init
loop-at-init c = record { climbs = ap (λ (l : List ℕ). l ++ path_of c.args.events.now.children c.args.node) c.new-steps.ensures.items; inside = c.requires }

pub loop-at-smaller : goal.loop-at-smaller
loop-at-smaller c = parent_lower c.args.events.now.children c.keeps.ensures.events.is_tree c.loop-at.at c.step-parent.result c.loop-at-test.true c.step-parent.ensures

pub loop-at-preserved : goal.loop-at-preserved
loop-at-preserved c = record {
  climbs = ap (λ (l : List ℕ). l ++ path_of c.args.events.now.children c.step-parent.result.0) c.in_ok-push.ensures.items ∙ (append_assoc c.loop-at.steps.items (c.step-parent.result.1 ∷ []) (path_of c.args.events.now.children c.step-parent.result.0)
      ∙ (ap (λ (l : List ℕ). c.loop-at.steps.items ++ l) (sym (parent_child c.args.events.now.children c.keeps.ensures.events.is_tree c.loop-at.at c.step-parent.result c.loop-at-test.true c.step-parent.ensures)) ∙ c.loop-at.invariant.climbs));
  inside = let k = parent_lower c.args.events.now.children c.keeps.ensures.events.is_tree c.loop-at.at c.step-parent.result c.loop-at-test.true c.step-parent.ensures in omega (arith, k, c.loop-at.invariant.inside);
}

pub returns : goal.returns
returns c =
    c.reverse.ensures.items ∙ ap reverse (sym (append-nil c.loop-at.steps.items) ∙ (ap (λ (l : List ℕ). c.loop-at.steps.items ++ l) (sym (root_path c.args.events.now.children c.loop-at.at c.loop-at-test.false)) ∙ c.loop-at.invariant.climbs))
