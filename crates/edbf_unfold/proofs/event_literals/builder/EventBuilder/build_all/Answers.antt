-- The places have a plan, and each step of it is built.
use Rattle.std.proofs.Common.{◌∙◌, ◌+◌, ◌^◌, ◌<◌, List, length, ap, sym, subst, arith}
use Rattle.std.proofs.lemmas.Result.{on_ok_weaker}
use Rattle.std.specs.List.{sum_by}
use Rattle.event_nodes.specs.flat_net.Sound.{IsSound}
use Rattle.event_nodes.specs.View.{EventCircuitView}
use Rattle.event_nodes.specs.flat_net.Weights.{weight_at}
use Rattle.edbf_unfold.specs.declared.event_literals.event_walk.frames.Step.{Step}
use Rattle.edbf_unfold.specs.event_literals.event_walk.Plan.{IsPlanOf}
use Rattle.edbf_unfold.specs.event_literals.event_walk.Ready.{IsPlan}
use Rattle.edbf_unfold.specs.event_literals.Known.{EventUnfolderView, IsLater}
use Rattle.edbf_unfold.proofs.event_literals.Going.{later_none}
use Rattle.edbf_unfold.proofs.event_literals.Rooted.{expanded_frames, expanded_plan, table_met}
use Rattle.edbf_unfold.proofs.event_literals.builder.EventBuilder.build_all.Goals as goal

pub plan-requires-clause-seen : goal.plan-requires-clause-seen
plan-requires-clause-seen c =
    expanded_frames _ _ _ _ _ _ _ c.requires.expanded (ap (λ (k : EventUnfolderView). k.frames) c.self.view_is) c.nodes.ensures

pub build-requires-clause-plan : goal.build-requires-clause-plan
build-requires-clause-plan c =
    let u = c.args.self.now in
    let sound : IsSound u.circuit.net = subst (λ (e : EventCircuitView). IsSound e.net) c.circuit-circuit.ensures c.keeps.ensures.sound in
    let is : IsPlanOf u.circuit u.frames c.args.events.now.children c.args.table.now c.in_ok-plan.plan.items =
    expanded_plan _ _ _ _ _ _ _ _ c.requires.expanded (ap (λ (k : EventUnfolderView). k.frames) c.self.view_is) c.nodes.ensures c.keeps-2.ensures.events.is_tree sound c.in_ok-plan.ensures in
    subst (λ (p : List Step). IsPlan u.circuit u.frames c.args.events.now.children p) (sym c.as_slice.ensures.value) is.is_plan

pub build-requires-clause-nodes : goal.build-requires-clause-nodes
build-requires-clause-nodes c =
    let u = c.args.self.now in
    let sound : IsSound u.circuit.net = subst (λ (e : EventCircuitView). IsSound e.net) c.circuit-circuit.ensures c.keeps.ensures.sound in
    let is : IsPlanOf u.circuit u.frames c.args.events.now.children c.args.table.now c.in_ok-plan.plan.items =
    expanded_plan _ _ _ _ _ _ _ _ c.requires.expanded (ap (λ (k : EventUnfolderView). k.frames) c.self.view_is) c.nodes.ensures c.keeps-2.ensures.events.is_tree sound c.in_ok-plan.ensures in
    let sum = ap (sum_by (λ (s : Step). weight_at u.circuit.net s.signal)) c.as_slice.ensures.value in
    let few : length c.args.events.now.graph + sum_by (λ (s : Step). weight_at u.circuit.net s.signal) c.as_slice.result.now < 2 ^ 30 = omega (arith, sum, is.weighs, c.requires.nodes) in
    few

pub build-requires-clause-places : goal.build-requires-clause-places
build-requires-clause-places c =
    let u = c.args.self.now in
    let sound : IsSound u.circuit.net = subst (λ (e : EventCircuitView). IsSound e.net) c.circuit-circuit.ensures c.keeps.ensures.sound in
    let is : IsPlanOf u.circuit u.frames c.args.events.now.children c.args.table.now c.in_ok-plan.plan.items =
    expanded_plan _ _ _ _ _ _ _ _ c.requires.expanded (ap (λ (k : EventUnfolderView). k.frames) c.self.view_is) c.nodes.ensures c.keeps-2.ensures.events.is_tree sound c.in_ok-plan.ensures in
    let sum = ap (sum_by (λ (s : Step). weight_at u.circuit.net s.signal)) c.as_slice.ensures.value in
    let few : length c.args.events.now.places + sum_by (λ (s : Step). weight_at u.circuit.net s.signal) c.as_slice.result.now < 2 ^ 31 = omega (arith, sum, is.weighs, c.requires.places) in
    few

pub returns-in_err-plan-clause-later : goal.returns-in_err-plan-clause-later
returns-in_err-plan-clause-later c = later_none c.args.self.now c.args.events.now _

pub returns-clause-met : goal.returns-clause-met
returns-clause-met c =
    let u = c.args.self.now in
    let sound : IsSound u.circuit.net = subst (λ (e : EventCircuitView). IsSound e.net) c.circuit-circuit.ensures c.keeps.ensures.sound in
    let is : IsPlanOf u.circuit u.frames c.args.events.now.children c.args.table.now c.in_ok-plan.plan.items =
    expanded_plan _ _ _ _ _ _ _ _ c.requires.expanded (ap (λ (k : EventUnfolderView). k.frames) c.self.view_is) c.nodes.ensures c.keeps-2.ensures.events.is_tree sound c.in_ok-plan.ensures in
    on_ok_weaker c.build.result (λ met p h. table_met _ _ _ c.args.table.now c.in_ok-plan.plan.items c.as_slice.result.now c.build.new.self.memo is c.as_slice.ensures.value met p h) c.build.ensures.met

pub returns-clause-later : goal.returns-clause-later
returns-clause-later c =
    let u = c.args.self.now in
    let sound : IsSound u.circuit.net = subst (λ (e : EventCircuitView). IsSound e.net) c.circuit-circuit.ensures c.keeps.ensures.sound in
    let is : IsPlanOf u.circuit u.frames c.args.events.now.children c.args.table.now c.in_ok-plan.plan.items =
    expanded_plan _ _ _ _ _ _ _ _ c.requires.expanded (ap (λ (k : EventUnfolderView). k.frames) c.self.view_is) c.nodes.ensures c.keeps-2.ensures.events.is_tree sound c.in_ok-plan.ensures in
    let sum = ap (sum_by (λ (s : Step). weight_at u.circuit.net s.signal)) c.as_slice.ensures.value in
    subst (IsLater u c.build.new.self c.args.events.now c.build.new.events) (sum ∙ is.weighs) c.build.ensures.later
