-- The signals of the cone.
use Rattle.std.proofs.Common.{ℕ, List, length, sym, subst}
use Rattle.flat_net.specs.declared.parts.LatchAt.{LatchAt}
use Rattle.flat_net.specs.View.{circuit_of}
use Rattle.latch_kinds.specs.unate_enable.Cones.{data_of_latch}
use Rattle.latch_kinds.specs.unate_enable.Walks.{AreReached}
use Rattle.latch_kinds.proofs.unate_enable.recovery.recover_whole.Goals as goal

pub reached-requires : goal.reached-requires
reached-requires c = (c.keeps.ensures.sound.latches c.args.latch c.latch_of-at.result.now c.latch_of-at.ensures.there).within

pub recover_over-requires : goal.recover_over-requires
recover_over-requires c = record {
  latch = c.requires.latch;
  conflicts = c.requires.conflicts;
  reached = subst (λ (l : List ℕ). AreReached (circuit_of c.args.net.now) (length c.args.net.now.drivers) (data_of_latch c.args.net.now c.args.latch) l) (sym c.as_slice.ensures.value)
      (subst (λ (l : LatchAt). AreReached (circuit_of c.args.net.now) (length c.args.net.now.drivers) l.next.0 c.in_ok-signals.signals.items) c.latch_of-at.ensures.is c.in_ok-signals.ensures);
}

pub returns : goal.returns
returns c = record { recovery = c.recover_over.ensures.recovery; large = c.recover_over.ensures.large }
