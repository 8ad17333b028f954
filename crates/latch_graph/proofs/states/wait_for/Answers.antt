use Rattle.std.proofs.Common.{◌≡◌, ◌+◌, slice_get, Option, Some, length, subst, sym, ap, ◌∙◌, refl, arith}
use Rattle.std.proofs.Math.ListN.{set}
use Rattle.std.proofs.lemmas.Option.{slice_get_within}
use Rattle.signal_graph.proofs.flat_net.Growth.{length-push}
use Rattle.signal_graph.proofs.flat_net.Nets.{some_at}
use Rattle.latch_graph.specs.declared.states.State.TheVariants.{New, Open}
use Rattle.latch_graph.specs.declared.states.State.{State}
use Rattle.latch_graph.specs.Settling.{IsLater, new_count}
use Rattle.signal_graph.proofs.Lists.{read_at}
use Rattle.latch_graph.proofs.Tables.{new_count-set}
use Rattle.latch_graph.proofs.Ways.{way_along, way_opens, way_given_up, given_up_later, set_later}
use Rattle.latch_graph.proofs.states.wait_for.Goals as goal

pub give_up-requires : goal.give_up-requires
give_up-requires c = λ i step h. slice_get_within c.args.states.now step.signal Open (c.requires.way.steps i step h).opened

pub returns-in_ok-open-clause-way : goal.returns-in_ok-open-clause-way
returns-in_ok-open-clause-way c =
    let at = read_at c.args.states.now c.args.signal New (omega (arith, c.requires.signal, c.requires.way.table.size)) in
    let new : slice_get c.args.states.now c.args.signal ≡ Some New = at ∙ ap Some (c.is_new.ensures.yes c.if-is_new.true) in
    let node = some_at c.args.nodes.now c.args.signal c.requires.signal in
    way_along c.args.nodes.now c.in_ok-open.ensures.states c.in_ok-open.ensures.way
    (way_opens c.args.nodes.now c.args.states.now c.args.way.now.items c.args.signal c.requires.way c.requires.signal new (λ i a l h. c.requires.leads a i l h) node.0 node.1)

pub returns-in_ok-open-clause-later : goal.returns-in_ok-open-clause-later
returns-in_ok-open-clause-later c =
    let at = read_at c.args.states.now c.args.signal New (omega (arith, c.requires.signal, c.requires.way.table.size)) in
    let new : slice_get c.args.states.now c.args.signal ≡ Some New = at ∙ ap Some (c.is_new.ensures.yes c.if-is_new.true) in
    subst (λ z. IsLater c.args.states.now z) (sym c.in_ok-open.ensures.states) (set_later c.args.states.now c.args.signal New Open new (λ e. cc) (λ e. cc) (λ e. cc))

pub returns-in_ok-open-clause-nearer : goal.returns-in_ok-open-clause-nearer
returns-in_ok-open-clause-nearer c =
    let at = read_at c.args.states.now c.args.signal New (omega (arith, c.requires.signal, c.requires.way.table.size)) in
    let new : slice_get c.args.states.now c.args.signal ≡ Some New = at ∙ ap Some (c.is_new.ensures.yes c.if-is_new.true) in
    let count : new_count (set c.args.states.now c.args.signal Open) + 1 ≡ new_count c.args.states.now + 0 = new_count-set c.args.states.now c.args.signal New Open new in
    let states : new_count c.open.new.states ≡ new_count (set c.args.states.now c.args.signal Open) = ap new_count c.in_ok-open.ensures.states in
    omega (arith, count, states, ap length c.in_ok-open.ensures.way, length-push c.args.way.now.items (record { signal = c.args.signal; read = 0 }))

pub returns-else-is_new-clause-way : goal.returns-else-is_new-clause-way
returns-else-is_new-clause-way c =
    let at = read_at c.args.states.now c.args.signal New (omega (arith, c.requires.signal, c.requires.way.table.size)) in
    way_along c.args.nodes.now refl c.give_up.ensures.way
    (way_given_up c.args.nodes.now c.args.states.now c.give_up.new.states c.args.way.now.items c.args.signal c.requires.way c.give_up.ensures.states c.requires.signal c.requires.unknown
    (λ h. c.is_new.ensures.not c.if-is_new.false (some_one _ _ (sym at ∙ h))) (λ i a l h. c.requires.leads a i l h))
  where
    some_one : (x y : State) → ◌≡◌ {A = Option State} (Some x) (Some y) → x ≡ y
    some_one x y e = cc

pub returns-else-is_new-clause-later : goal.returns-else-is_new-clause-later
returns-else-is_new-clause-later c = given_up_later c.args.nodes.now c.args.states.now c.give_up.new.states c.args.way.now.items c.requires.way c.give_up.ensures.states

pub returns-else-is_new-clause-nearer : goal.returns-else-is_new-clause-nearer
returns-else-is_new-clause-nearer c = omega (arith, c.give_up.ensures.states.fewer, ap length c.give_up.ensures.way, c.requires.some)
