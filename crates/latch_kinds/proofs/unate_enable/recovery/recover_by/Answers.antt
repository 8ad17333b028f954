-- What leads back to the latch.
use Rattle.std.proofs.Common.{sym, subst}
use Rattle.flat_net.specs.declared.parts.LatchAt.{LatchAt}
use Rattle.signal_graph.specs.inner_cone.Inner.{AreRanked, AreInside}
use Rattle.latch_kinds.specs.unate_enable.Cones.{data_of_latch, out_of_latch}
use Rattle.latch_kinds.proofs.unate_enable.recovery.recover_by.Goals as goal

pub inside-requires : goal.inside-requires
inside-requires c = record {
  within = (c.keeps.ensures.sound.latches c.args.latch c.latch_of-at.result.now c.latch_of-at.ensures.there).within;
  ranked = subst (AreRanked c.args.net.now) (sym c.as_slice.ensures) c.requires.facts.ranked;
}

pub recover_inside-requires : goal.recover_inside-requires
recover_inside-requires c = record {
  facts = c.requires.facts;
  latch = c.requires.latch;
  conflicts = c.requires.conflicts;
  inside = subst (AreInside c.args.net.now (data_of_latch c.args.net.now c.args.latch) (out_of_latch c.args.net.now c.args.latch)) (sym c.as_slice-2.ensures.value)
      (subst (λ (l : LatchAt). AreInside c.args.net.now l.next.0 l.out.0 c.in_ok-signals.signals.items) c.latch_of-at.ensures.is c.in_ok-signals.ensures);
}

pub returns : goal.returns
returns c = record { recovery = c.recover_inside.ensures.recovery; large = c.recover_inside.ensures.large }
