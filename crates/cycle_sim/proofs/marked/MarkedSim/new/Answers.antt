-- Before the first cycle nothing is marked.
use Rattle.std.proofs.Common.{◌∙◌, List, Bool, length, sym, ap, subst}
use Rattle.std.proofs.lemmas.List.{length-replicate}
use Rattle.flat_net.specs.View.{NetView}
use Rattle.flat_net.specs.Sound.{IsSound}
use Rattle.cycle_sim.specs.Steps.{AreConesKept}
use Rattle.cycle_sim.proofs.MarkedRuns.{begins_marked}
use Rattle.cycle_sim.proofs.marked.MarkedSim.new.Goals as goal

pub invariant_of-result : goal.invariant_of-result
invariant_of-result c = (
  c.in_ok-sim.ensures.net,
  ap length c.in_ok-bits.ensures ∙ c.requires.enabled,
  subst (λ (bits : List Bool). AreConesKept c.args.net.now bits c.in_ok-cones.cones.items) (c.as_slice.ensures ∙ sym c.in_ok-bits.ensures) c.in_ok-cones.ensures,
  c.in_ok-tried.ensures.tried,
  c.in_ok-tried.ensures.marks,
  ap length c.in_ok-tried.ensures.ahead ∙ length-replicate _ _,
)

pub returns-clause-run : goal.returns-clause-run
returns-clause-run c =
    begins_marked _ _ _ (subst IsSound (sym c.in_ok-sim.ensures.net) c.keeps.ensures.sound) c.in_ok-sim.ensures.run (ap (λ (n : NetView). length n.latches) (sym c.in_ok-sim.ensures.net)) c.in_ok-tried.ensures.ahead

pub returns-clause-cycles : goal.returns-clause-cycles
returns-clause-cycles c = c.in_ok-sim.ensures.cycles

pub returns-clause-net : goal.returns-clause-net
returns-clause-net c = c.in_ok-sim.ensures.net

pub cones_of-requires : goal.cones_of-requires
cones_of-requires c = ap length c.as_slice.ensures ∙ c.requires.enabled

pub returns-clause-enabled : goal.returns-clause-enabled
returns-clause-enabled c = c.in_ok-bits.ensures
