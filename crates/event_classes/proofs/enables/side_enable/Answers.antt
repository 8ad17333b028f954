-- The latch's circuit is the one that is told.
use Rattle.std.proofs.Common.{sym, subst}
use Rattle.circuit_theory.specs.declared.Side.{Side}
use Rattle.event_classes.specs.Steps.{IsWeightOver}
use Rattle.event_classes.proofs.enables.side_enable.Goals as goal

pub returns-in-A-clause-large : goal.returns-in-A-clause-large
returns-in-A-clause-large c = λ side is. subst (λ (own : Side). IsWeightOver c.args.map.now (record { side = own; latch = c.args.tag.latch }) side) (sym c.in-A.is) (c.left_enable.ensures.large side is)

pub returns-in-B-clause-large : goal.returns-in-B-clause-large
returns-in-B-clause-large c = λ side is. subst (λ (own : Side). IsWeightOver c.args.map.now (record { side = own; latch = c.args.tag.latch }) side) (sym c.in-B.is) (c.right_enable.ensures.large side is)
