use Rattle.std.proofs.Common.{◌≡◌, List, [], ◌∷◌, ◌++◌, get_or, slice_get, Option, Some, length, subst, sym, ap, ◌∙◌, arith}
use Rattle.std.proofs.lemmas.Option.{slice_get_within}
use Rattle.signal_graph.proofs.flat_net.Growth.{length-push}
use Rattle.signal_graph.proofs.flat_net.Nets.{some_at}
use Rattle.latch_graph.specs.declared.states.State.{State}
use Rattle.latch_graph.specs.declared.states.State.TheVariants.{New, Open}
use Rattle.latch_graph.specs.declared.states.Step.{Step}
use Rattle.latch_graph.specs.Settling.{IsLater, IsWay}
use Rattle.signal_graph.proofs.Lists.{set_same, read_at}
use Rattle.latch_graph.proofs.Ways.{way_along, way_opens, later_same, later_after, set_later}
use Rattle.latch_graph.proofs.states.settle_from.Goals as goal

pub loop-step-init : goal.loop-step-init
loop-step-init c =
    let at = read_at c.args.states.now c.args.root New (omega (arith, c.requires.root, c.requires.way.table.size)) in
    let new : slice_get c.args.states.now c.args.root ≡ Some New = at ∙ ap Some (c.is_new.ensures.yes c.if-not-is_new.false) in
    let node = some_at c.args.nodes.now c.args.root c.requires.root in
    record {
      way = way_along c.args.nodes.now c.in_ok-open.ensures.states (c.in_ok-open.ensures.way ∙ ap (λ (z : List Step). z ++ record { signal = c.args.root; read = 0 } ∷ []) c.requires.empty)
          (way_opens c.args.nodes.now c.args.states.now [] c.args.root c.requires.way c.requires.root new (λ i a l h. absurd (let m = slice_get_within [] i a h in omega (arith, m))) node.0 node.1);
      later = later_same c.open.new.states;
    }

pub loop-step-smaller : goal.loop-step-smaller
loop-step-smaller c = omega (arith, c.in_ok-take_step.ensures.nearer, ap length c.in-Some.ensures.items, length-push c.pop.new.self.items c.in-Some.step)

pub returns-clause-later : goal.returns-clause-later
returns-clause-later c =
    let at = read_at c.args.states.now c.args.root New (omega (arith, c.requires.root, c.requires.way.table.size)) in
    let new : slice_get c.args.states.now c.args.root ≡ Some New = at ∙ ap Some (c.is_new.ensures.yes c.if-not-is_new.false) in
    later_after (subst (λ z. IsLater c.args.states.now z) (sym c.in_ok-open.ensures.states) (set_later c.args.states.now c.args.root New Open new (λ e. cc) (λ e. cc) (λ e. cc))) c.loop-step.invariant.later

pub returns-clause-root : goal.returns-clause-root
returns-clause-root c = λ h.
    let at = read_at c.args.states.now c.args.root New (omega (arith, c.requires.root, c.requires.way.table.size)) in
    let was = c.loop-step.invariant.later.news c.args.root h in
    let is = subst (λ (z : List State). slice_get z c.args.root ≡ Some New) c.in_ok-open.ensures.states was in
    open_new (sym (set_same c.args.states.now c.args.root (get_or c.args.states.now c.args.root New) Open at) ∙ is)
  where
    open_new : ◌≡◌ {A = Option State} (Some Open) (Some New) → ⊥
    open_new e = cc

pub take_step-requires-clause-way : goal.take_step-requires-clause-way
take_step-requires-clause-way c = subst (λ (z : List Step). IsWay c.args.nodes.now c.loop-step.states z) c.in-Some.ensures.items c.loop-step.invariant.way

pub loop-step-preserved : goal.loop-step-preserved
loop-step-preserved c = record { way = c.in_ok-take_step.ensures.way; later = later_after c.loop-step.invariant.later c.in_ok-take_step.ensures.later }
