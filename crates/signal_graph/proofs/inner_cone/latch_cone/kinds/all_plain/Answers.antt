use Rattle.std.proofs.Common.{◌∙◌, List, ap, replicate, length}
use Rattle.flat_net.specs.declared.parts.LatchAt.{LatchAt}
use Rattle.signal_graph.specs.declared.inner_cone.latch_cone.kinds.LatchKind.TheVariants as kind
use Rattle.signal_graph.proofs.inner_cone.latch_cone.EnabledKinds.{plain_kinds}
use Rattle.signal_graph.proofs.inner_cone.latch_cone.kinds.all_plain.Goals as goal

pub returns : goal.returns
returns c =
    plain_kinds c.args.net.now c.in_ok-vec.field-0.items
    (c.in_ok-vec.ensures.items_if_clones_equal (λ y e. e) ∙ ap (λ (latches : List LatchAt). replicate (length latches) kind.Plain) c.latches.ensures)
