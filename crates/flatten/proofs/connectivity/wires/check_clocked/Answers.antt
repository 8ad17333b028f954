use Rattle.std.proofs.Common.{ℕ, Option, subst}
use Rattle.flatten.specs.connectivity.Wiring.{wires_of}
use Rattle.flatten.specs.connectivity.Wired.{IsClockOf}
use Rattle.flatten.proofs.connectivity.ClockNets.{none_gated, none_read}
use Rattle.flatten.proofs.connectivity.wires.check_clocked.Goals as goal

pub check_clock-requires-clause-clock : goal.check_clock-requires-clause-clock
check_clock-requires-clause-clock c = subst (λ (o : Option ℕ). IsClockOf (wires_of c.args.flat.now) o) c.in-Some.is c.requires.clock

pub returns-in-None-clause-ok : goal.returns-in-None-clause-ok
returns-in-None-clause-ok c =
    let none = subst (λ (o : Option ℕ). IsClockOf (wires_of c.args.flat.now) o) c.in-None.is c.requires.clock in
    record {
      single = c.requires.single;
      driven = c.requires.driven;
      one_clock = c.requires.one_clock;
      one_edge = c.requires.one_edge;
      not_gated = none_gated c.args.flat.now c.keeps.ensures none;
      not_read = none_read c.args.flat.now c.keeps.ensures none;
    }
