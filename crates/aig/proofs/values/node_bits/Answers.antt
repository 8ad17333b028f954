use Rattle.std.proofs.Common.{ℕ, arith, refl, sym, subst, get_or, ◌∙◌}
use Rattle.std.proofs.lemmas.Option.{slice_get-get_or}
use Rattle.std.proofs.lemmas.List.{length-take-le, length-set}
use Rattle.aig.specs.declared.node.Node.TheVariants.{Constant}
use Rattle.aig.specs.Graph.{IsAbove}
use Rattle.aig.specs.Values.{node_bits, bits_from, assigned}
use Rattle.aig.proofs.Insert.{vars_of-member}
use Rattle.aig.proofs.Bits.{bits-step}
use Rattle.aig.proofs.values.node_bits.Goals as goal

pub loop-n-init : goal.loop-n-init
unfolding node_bits bits_from
loop-n-init c = record { places = c.requires.places; done = refl }

pub node_bit-requires-clause-covers : goal.node_bit-requires-clause-covers
node_bit-requires-clause-covers c =
    omega (arith, c.requires.covers, vars_of-member c.args.nodes.now c.loop-n.n (get_or c.args.nodes.now c.loop-n.n Constant) (slice_get-get_or c.args.nodes.now c.loop-n.n Constant c.loop-n-test.true))

pub node_bit-requires-clause-above : goal.node_bit-requires-clause-above
node_bit-requires-clause-above c =
    let at = slice_get-get_or c.args.nodes.now c.loop-n.n Constant c.loop-n-test.true in
    let len = length-take-le c.loop-n.n c.loop-n.scratch (omega (arith, c.loop-n.invariant.places, c.loop-n-test.true)) in
    subst (λ (k : ℕ). IsAbove k (get_or c.args.nodes.now c.loop-n.n Constant)) (sym len) (c.requires.ordered c.loop-n.n (get_or c.args.nodes.now c.loop-n.n Constant) at)

pub loop-n-preserved : goal.loop-n-preserved
loop-n-preserved c =
    let at = slice_get-get_or c.args.nodes.now c.loop-n.n Constant c.loop-n-test.true in
    record {
      places = length-set c.loop-n.scratch c.loop-n.n c.node_bit.result ∙ c.loop-n.invariant.places;
      done = bits-step (assigned c.args.assignment.now) c.loop-n.scratch c.args.nodes.now c.loop-n.n (get_or c.args.nodes.now c.loop-n.n Constant) c.node_bit.result
          (omega (arith, c.loop-n.invariant.places, c.loop-n-test.true)) at c.loop-n.invariant.done c.node_bit.ensures;
    }
