use Rattle.std.proofs.Common.{◌≡◌, List, get_or, slice_get, Some, length, subst, ap, arith}
use Rattle.latch_graph.specs.declared.states.Step.{Step}
use Rattle.latch_graph.specs.Settling.{IsGivenUp}
use Rattle.signal_graph.proofs.Lists.{read_at}
use Rattle.latch_graph.proofs.Ways.{given_up_none, given_up_more}
use Rattle.latch_graph.proofs.states.give_up.Goals as goal

pub loop-step-init : goal.loop-step-init
loop-step-init c = given_up_none c.deref-step-items.result.now c.args.states.now

pub loop-step-preserved : goal.loop-step-preserved
loop-step-preserved c =
    let i = c.loop-step.step-index in
    let step : Step = get_or c.deref-step-items.result.now i (record { signal = 0; read = 0 }) in
    let at : slice_get c.deref-step-items.result.now i ≡ Some step = read_at c.deref-step-items.result.now i (record { signal = 0; read = 0 }) c.loop-step-test.true in
    given_up_more c.deref-step-items.result.now i c.args.states.now c.loop-step.states step c.loop-step.invariant at
    (c.requires i step (subst (λ (z : List Step). slice_get z i ≡ Some step) c.deref-step-items.ensures.value at))

pub returns-clause-states : goal.returns-clause-states
returns-clause-states c =
    let all : c.loop-step.step-index ≡ length c.args.way.now.items = omega (arith, c.loop-step-test.false, c.loop-step.auto.step-index-end, ap length c.deref-step-items.ensures.value) in
    subst (λ z. IsGivenUp c.args.way.now.items z c.args.states.now c.loop-step.states) all
    (subst (λ (z : List Step). IsGivenUp z c.loop-step.step-index c.args.states.now c.loop-step.states) c.deref-step-items.ensures.value c.loop-step.invariant)

pub bounds-states-step : goal.bounds-states-step
bounds-states-step c =
    let i = c.loop-step.step-index in
    let read = c.deref-step-items.result.now in
    let step : Step = get_or read i (record { signal = 0; read = 0 }) in
    let at = read_at read i (record { signal = 0; read = 0 }) c.loop-step-test.true in
    let below = c.requires i step (subst (λ (z : List Step). slice_get z i ≡ Some step) c.deref-step-items.ensures.value at) in
    omega (arith, below, c.loop-step.auto.states)
