-- The value in the cone is the value in the graph.
use Rattle.std.proofs.Common.{◌∙◌, ◌*◌, ◌/◌, ◌<◌, Bool, List, length, sym, ap, subst, arith}
use Rattle.std.proofs.lemmas.Option.{slice_get_within}
use Rattle.aig.specs.declared.node.Node.{Node}
use Rattle.aig.specs.Graph.{IsOrdered, vars_of}
use Rattle.aig.specs.Values.{lit_bit, node_bits, assigned}
use Rattle.class_search.proofs.class_separations.cone_values.Assigned.{part_vars, value_is}
use Rattle.class_search.proofs.class_separations.cone_values.value.value_in_cone.Goals as goal

pub bit_in-requires-clause-ordered : goal.bit_in-requires-clause-ordered
bit_in-requires-clause-ordered c = subst IsOrdered (sym c.as_slice.ensures) c.in_ok-cones.ensures.ordered

pub bit_in-requires-clause-covers : goal.bit_in-requires-clause-covers
bit_in-requires-clause-covers c =
    let vars = part_vars c.args.aig.now c.args.l.0 c.in_ok-cones.cones c.in_ok-cones.ensures in
    let part = ap vars_of c.as_slice.ensures in
    let long = ap length c.as_slice-2.ensures.value in
    omega (arith, vars, part, long, c.in_ok-assignment.ensures.size, c.vars.ensures)

pub bit_in-requires-clause-literal : goal.bit_in-requires-clause-literal
bit_in-requires-clause-literal c =
    let inside = slice_get_within c.in_ok-cones.cones.nodes (c.in_ok-cones.cones.left.0 / 2) (c.args.l.0 / 2) c.in_ok-cones.ensures.left_is.1 in
    let long = ap length c.as_slice.ensures in
    let below : c.in_ok-cones.cones.left.0 < 2 * length c.in_ok-cones.cones.nodes = omega (arith, inside) in
    omega (arith, below, long, c.in_ok-cones.ensures.part_is.each)

pub returns : goal.returns
returns c =
    c.bit_in.ensures
    ∙ (ap (λ (nodes : List Node). lit_bit (node_bits nodes (assigned c.as_slice-2.result.now)) c.in_ok-cones.cones.left.0) c.as_slice.ensures
    ∙ (ap (λ (bits : List Bool). lit_bit (node_bits c.in_ok-cones.cones.part (assigned bits)) c.in_ok-cones.cones.left.0) c.as_slice-2.ensures.value
    ∙ value_is c.args.aig.now c.keeps.ensures.graph c.args.l.0 c.requires.literal c.in_ok-cones.cones c.in_ok-cones.ensures c.args.vars.now c.args.bits.now c.in_ok-assignment.assignment.items c.requires.distinct c.requires.each c.requires.covers (c.in_ok-assignment.ensures.size ∙ c.vars.ensures) c.in_ok-assignment.ensures.bits))

pub bit_in-requires-clause-places : goal.bit_in-requires-clause-places
bit_in-requires-clause-places c = omega (arith, ap length c.as_mut_slice.ensures.value, ap length c.as_slice.ensures, c.in_ok-scratch.ensures.len, c.in_ok-scratch.scratch.ok, c.len.ensures)
