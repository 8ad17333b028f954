-- Each input was looked at.
use Rattle.std.proofs.Common.{length, ap, arith}
use Rattle.std.specs.List.{Contains}
use Rattle.std.proofs.lemmas.Option.{slice_get_within}
use Rattle.circuit_theory.proofs.Lists.{All-from_each, at_of}
use Rattle.sec_setup.specs.ports.flat_net.Port.{Port}
use Rattle.assume_laws.proofs.assume_shape.shape.first_foreign.Goals as goal

pub returns-clause-none : goal.returns-clause-none
returns-clause-none c =
    let inputs = c.args.c.now.inputs in
    All-from_each (λ (p : Port). Contains c.args.shared.now p.name) inputs (λ p h.
    let at = at_of inputs p h in
    c.loop-i.invariant at.0 p (omega (arith, slice_get_within inputs at.0 p at.1, ap length c.inputs-inputs.ensures, c.loop-i-test.false)) at.1)
