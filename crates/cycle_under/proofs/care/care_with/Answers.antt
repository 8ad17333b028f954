-- The assumption in one cycle more.
use Rattle.std.proofs.Common.{◌≡◌, ℕ, List, sym, subst, arith}
use Rattle.flat_net.specs.View.{NetView}
use Rattle.cbf_unfold.specs.shift_variables.cycle_variables.Cycles.{AreInCycles, IsCycleMerge}
use Rattle.assume_laws.specs.assume_shape.Shape.{assumption_of}
use Rattle.assume_queries.proofs.Mapped.{weight_is}
use Rattle.cycle_under.proofs.Cares.{care_later, care_more, place_in_order}
use Rattle.cycle_under.proofs.care.care_with.Goals as goal

pub merge_cycles-requires-clause-left : goal.merge_cycles-requires-clause-left
merge_cycles-requires-clause-left c =
    let w = c.requires.premise in
    let later =
    care_later c.args.places.now c.assume_at.new.places c.assume_at.ensures.adds (assumption_of w.net w.inputs w.output) c.args.aig.now c.assume_at.new.aig c.args.cycle c.args.care.now c.keeps-2.ensures.graph c.assume_at.ensures.grows
    (c.requires.care w.net w.inputs w.output w.size w.function w.assumption) in
    subst (AreInCycles c.assume_at.new.places) (sym c.as_slice.ensures) later.in_order

pub merge_cycles-requires-clause-right : goal.merge_cycles-requires-clause-right
merge_cycles-requires-clause-right c =
    let w = c.requires.premise in
    subst (AreInCycles c.assume_at.new.places) (sym c.as_slice-2.ensures)
    (place_in_order w.net w.inputs w.output c.args.cycle c.assume_at.new.aig c.assume_at.new.places c.in_ok-here.here (c.in_ok-here.ensures.assumed w.net w.inputs w.output w.function w.assumption.gates))

pub and-requires-clause-left : goal.and-requires-clause-left
and-requires-clause-left c =
    let w = c.requires.premise in
    let later =
    care_later c.args.places.now c.assume_at.new.places c.assume_at.ensures.adds (assumption_of w.net w.inputs w.output) c.args.aig.now c.assume_at.new.aig c.args.cycle c.args.care.now c.keeps-2.ensures.graph c.assume_at.ensures.grows
    (c.requires.care w.net w.inputs w.output w.size w.function w.assumption) in
    later.within

pub and-requires-clause-right : goal.and-requires-clause-right
and-requires-clause-right c = let w = c.requires.premise in (c.in_ok-here.ensures.assumed w.net w.inputs w.output w.function w.assumption.gates).within

pub returns-clause-care : goal.returns-clause-care
returns-clause-care c =
    λ n inputs output size function assumption.
    let table = c.assume_at.new.places in
    let later =
    care_later c.args.places.now table c.assume_at.ensures.adds (assumption_of n inputs output) c.args.aig.now c.assume_at.new.aig c.args.cycle c.args.care.now c.keeps-2.ensures.graph c.assume_at.ensures.grows
    (c.requires.care n inputs output size function assumption) in
    let merge : IsCycleMerge table c.args.care.now.vars c.in_ok-here.here.vars c.in_ok-vars.vars =
    subst (λ (vs : List ℕ). IsCycleMerge table vs c.in_ok-here.here.vars c.in_ok-vars.vars) c.as_slice.ensures
    (subst (λ (vs : List ℕ). IsCycleMerge table c.as_slice.result.now vs c.in_ok-vars.vars) c.as_slice-2.ensures c.in_ok-vars.ensures) in
    care_more n inputs output size assumption c.assume_at.new.aig c.and.new.self c.keeps-4.ensures.graph c.and.ensures.grows table c.args.cycle c.args.care.now c.in_ok-here.here later
    (c.in_ok-here.ensures.assumed n inputs output function assumption.gates) (record { lit = c.in_ok-lit.lit; vars = c.in_ok-vars.vars }) c.in_ok-lit.ensures.within c.in_ok-lit.ensures.here c.in_ok-lit.ensures.value merge

pub returns-clause-nodes : goal.returns-clause-nodes
returns-clause-nodes c =
    let w = c.requires.premise in
    omega (arith, c.assume_at.ensures.nodes, c.and.ensures.few, w.function.weighed.nodes, weight_is c.args.premise.now.own c.args.premise.now.weight w)

pub returns-clause-entries : goal.returns-clause-entries
returns-clause-entries c =
    let w = c.requires.premise in
    omega (arith, c.assume_at.ensures.entries, w.function.weighed.entries, weight_is c.args.premise.now.own c.args.premise.now.weight w)
