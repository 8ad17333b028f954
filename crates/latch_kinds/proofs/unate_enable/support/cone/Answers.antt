-- What the latch takes over is a signal of the net.
use Rattle.std.proofs.Common.{List, ℕ, length, sym, subst}
use Rattle.flat_net.specs.declared.parts.LatchAt.{LatchAt}
use Rattle.flat_net.specs.View.{circuit_of}
use Rattle.latch_kinds.specs.unate_enable.Cones.{data_of_latch}
use Rattle.latch_kinds.specs.unate_enable.Walks.{AreReached}
use Rattle.latch_kinds.proofs.unate_enable.support.cone.Goals as goal

pub reached-requires : goal.reached-requires
reached-requires c = (c.keeps.ensures.sound.latches c.args.latch c.latch_of.result.now c.latch_of.ensures.there).within

pub cone_among-requires : goal.cone_among-requires
cone_among-requires c =
    subst (λ (l : List ℕ). AreReached (circuit_of c.args.net.now) (length c.args.net.now.drivers) (data_of_latch c.args.net.now c.args.latch) l) (sym c.as_slice.ensures.value)
    (subst (λ (l : LatchAt). AreReached (circuit_of c.args.net.now) (length c.args.net.now.drivers) l.next.0 c.in_ok-signals.signals.items) c.latch_of.ensures.is c.in_ok-signals.ensures)
