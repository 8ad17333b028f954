-- One variable more.
use Rattle.std.proofs.Common.{◌≡◌, ◌∙◌, ℕ, ◌+◌, ◌<◌, List, length, take, get_or, slice_get, Option, Some, None, refl, sym, ap, subst, arith}
use Rattle.std.proofs.lemmas.List.{take_all}
use Rattle.std.proofs.lemmas.Option.{slice_get-get_or}
use Rattle.circuit_theory.specs.Query.{Variable}
use Rattle.event_nodes.specs.Nodes.{path_of}
use Rattle.event_nodes.specs.event_variables.Variables.{variable_of}
use Rattle.event_nodes.proofs.event_variables.NodePaths.{variable_is}
use Rattle.event_nodes.specs.event_variables.frame_sequences.Frames.{AreAlwaysSteps}
use Rattle.event_under.proofs.event_shown_under.Shifts.{AreSteps, next_never, next_steps}
use Rattle.event_under.proofs.event_shown_under.steps.steps_of.Goals as goal
use Rattle.event_under.proofs.event_shown_under.steps.steps_of.Goals.{in-Some+in_ok-push, in_default}

pub loop-i-preserved : goal.loop-i-preserved
loop-i-preserved c =
    let w = c.args.events.now in
    let sides = c.args.sides.now in
    let i = c.loop-i.i in
    let v = get_or sides i 0 in
    let low : i < length sides = omega (arith, c.loop-i-test.true) in
    let at : slice_get sides i ≡ Some v = slice_get-get_or sides i 0 low in
    let path : (variable_of w v).at ≡ path_of w.children c.place-node.result.1 = ap (λ (x : Variable (List ℕ)). x.at) (variable_is w c.keeps.ensures.events v c.place-node.result c.place-node.ensures) in
    elim c.match-always_steps.branch [
      | in-Some+in_ok-push b ↦ next_steps w sides i v at c.loop-i.steps.items c.loop-i.invariant b.in-Some.at c.match-always_steps.steps.items
          (path ∙ subst (AreAlwaysSteps (path_of w.children c.place-node.result.1)) b.in-Some.is c.always_steps.ensures) (ap (λ z. z.items) b.steps-is ∙ b.in_ok-push.ensures.items)
      | in_default b ↦ subst (AreSteps w (take (i + 1) sides)) (sym (ap (λ z. z.items) b.steps-is))
          (next_never w sides i v at c.loop-i.steps.items c.loop-i.invariant (λ k e. subst (AreAlwaysSteps (path_of w.children c.place-node.result.1)) (nothing _ b.in_default.not-Some) c.always_steps.ensures k (sym path ∙ e)))
    ]
  where
    nothing : (o : Option ℕ) → ((d : ℕ) → o ≡ Some d → ⊥) → o ≡ None
    nothing None missing = refl
    nothing (Some d) missing = absurd (missing d refl)

pub returns : goal.returns
returns c = subst (λ (sides : List ℕ). AreSteps c.args.events.now sides c.loop-i.steps.items) (take_all c.loop-i.i c.args.sides.now (omega (arith, c.loop-i-test.false))) c.loop-i.invariant
