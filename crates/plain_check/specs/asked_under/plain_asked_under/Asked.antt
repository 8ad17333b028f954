-- What is asked of pairs under an assumption.
use Rattle.std.specs.Prelude.{Bool, List, length}
use Rattle.obligations.specs.declared.obligation.Obligation.{Obligation}
use Rattle.sec_setup.specs.declared.setup.Setup.{Setup}
use Rattle.assume_laws.specs.Assume.{Assumption}
use Rattle.assume_queries.specs.declared.assume_answers.order.VariableOrder.TheVariants as order
use Rattle.plain_asked.specs.declared.functions.Functions.{Functions}
use Rattle.plain_asked.specs.Asked.{AreAsked}
use Rattle.plain_check.specs.asked_under.Asked.{AreAskedBoth}

-- Of each pair of the setup what the plain form asks, and the same under the assumption, which reads columns alone and is met by the row.
abbrev pub AreAskedUnder : Setup → Functions → List Obligation → List Obligation → List Bool → Assumption → Type 0
AreAskedUnder s f asked under meeting c = AreAskedBoth order.Shifts f.aig f.places (length s.columns) (AreAsked s f s.pairs) asked under meeting c

-- there is such an assumption
abbrev pub CanBeDecided : Setup → Functions → List Obligation → List Obligation → List Bool → Type 0
CanBeDecided s f asked under meeting = (c : Assumption) × AreAskedUnder s f asked under meeting c
