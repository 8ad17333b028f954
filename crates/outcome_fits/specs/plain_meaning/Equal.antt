-- What equal says of two circuits over all power-ups.
use Rattle.circuit_theory.specs.declared.Mode.TheVariants.{Plain}
use Rattle.circuit_theory.specs.Agree.{Agree, AgreeOnward}
use Rattle.circuit_theory.specs.Circuit.{Circuit}
use Rattle.sec_setup.specs.witness_report.Shown.{AgreeFrom}
use Rattle.obligations.specs.declared.outcome.verdict.Outcome.{Outcome}

-- The circuits agree, and agree onward over the exposed latches; so where these are equal from the start up to the printed cycle, they
-- are equal for ever, and the outputs from that cycle on.
pub record AreEqual {P Q : Type 0} (a : Circuit P) (b : Circuit Q) (o : Outcome) : Type 0 where
  pub agree : Agree Plain a b
  pub onward : AgreeOnward Plain o.exposed a b
  pub from : AgreeFrom o.through o.exposed a b
