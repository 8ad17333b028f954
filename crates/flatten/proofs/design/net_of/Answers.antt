use Rattle.std.proofs.Common.{length}
use Rattle.flatten.proofs.FlatNets.{clock_within, is_laid, is_spotted, is_flat}
use Rattle.flatten.proofs.NumberClocks.{clock_number}
use Rattle.flatten.proofs.design.net_of.Goals as goal

pub make-requires-clause-laid : goal.make-requires-clause-laid
make-requires-clause-laid c = is_laid c.args.design.now.models c.args.checked.now.flat c.args.checked.now.ordered.wired c.args.checked.now.ordered.order c.as_slice-order.result.now c.as_slice-order.ensures c.requires.walked c.requires.wired c.requires.order c.args.design.now.ports

pub make-requires-clause-spotted : goal.make-requires-clause-spotted
make-requires-clause-spotted c = is_spotted c.args.design.now.models c.args.checked.now.flat c.args.checked.now.ordered.wired c.args.checked.now.ordered.order c.as_slice-order.result.now c.as_slice-order.ensures c.requires.walked c.requires.wired c.requires.order

pub make-requires-clause-clock : goal.make-requires-clause-clock
make-requires-clause-clock c =
    clock_within (length c.args.checked.now.flat.names) c.args.checked.now.ordered.wired.clock (clock_number c.args.design.now.models c.args.checked.now.flat c.args.checked.now.ordered.wired c.requires.wired)

pub returns : goal.returns
returns c = is_flat c.args.design.now.models c.args.checked.now.flat c.args.checked.now.ordered.wired c.args.checked.now.ordered.order c.as_slice-order.result.now c.as_slice-order.ensures c.requires.walked c.requires.wired c.requires.order c.args.design.now.ports c.args.design.now.plain c.args.design.now.fit c.args.design.now.few c.in_ok-made.made c.as_slice-models.result.now c.as_slice-models.ensures c.in_ok-made.ensures c.keeps.ensures.sound
