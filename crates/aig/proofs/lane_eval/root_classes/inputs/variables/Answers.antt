use Rattle.std.proofs.Common.{◌∙◌, ℕ, Vec, Global, ap}
use Rattle.std.proofs.lemmas.List.{take_all}
use Rattle.aig.specs.declared.node.Node.TheVariants.{Constant}
use Rattle.aig.specs.lane_eval.root_classes.Inputs.{inputs_of}
use Rattle.aig.proofs.lane_eval.root_classes.Listed.{inputs_of-input, inputs_of-other}
use Rattle.aig.proofs.lane_eval.root_classes.inputs.variables.Goals as goal
use Rattle.aig.proofs.lane_eval.root_classes.inputs.variables.Goals.{in-Input+in_ok-push, in_default}

pub loop-n-preserved : goal.loop-n-preserved
loop-n-preserved c = elim c.match-nodes-n.branch [
  | in-Input+in_ok-push w ↦
      let e =
      inputs_of-input c.nodes-nodes.result.now c.loop-n.n w.in-Input.v Constant c.loop-n.vars.items w.push.new.self.items c.loop-n-test.true w.in-Input.is c.loop-n.invariant w.in_ok-push.ensures.items in
      ap (λ (vars : Vec ℕ Global). vars.items) w.vars-is ∙ e
  | in_default w ↦
      let e = inputs_of-other c.nodes-nodes.result.now c.loop-n.n Constant c.loop-n.vars.items c.loop-n-test.true (λ v e. w.in_default.not-Input v e) c.loop-n.invariant in
      ap (λ (vars : Vec ℕ Global). vars.items) w.vars-is ∙ e
]

pub returns : goal.returns
returns c = c.from_vec.ensures ∙ c.loop-n.invariant ∙ ap inputs_of (take_all c.loop-n.n c.nodes-nodes.result.now c.loop-n-test.false ∙ c.nodes-nodes.ensures.nodes)
