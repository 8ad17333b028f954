-- What is asked of pairs in cycles under an assumption.
use Rattle.std.specs.Prelude.{Bool, List, length}
use Rattle.obligations.specs.declared.obligation.Obligation.{Obligation}
use Rattle.sec_setup.specs.declared.setup.Setup.{Setup}
use Rattle.assume_laws.specs.Assume.{Assumption}
use Rattle.assume_queries.specs.declared.assume_answers.order.VariableOrder.TheVariants as order
use Rattle.reset_form.specs.declared.reset_functions.bases.Bases.{Bases}
use Rattle.reset_form.specs.declared.reset_functions.functions.Functions.{Functions}
use Rattle.reset_form.specs.reset_asked.Asked.{AreAsked}
use Rattle.plain_check.specs.asked_under.Asked.{AreAskedBoth}

-- Of each pair of the setup what is asked without the assumption, and the same under it, which reads columns alone and is met by the row.
abbrev pub AreAskedUnder : Setup → Bases → Functions → List Obligation → List Obligation → List Bool → Assumption → Type 0
AreAskedUnder s b f asked under meeting c = AreAskedBoth order.Cycles f.aig f.places (length s.columns) (AreAsked s b f s.pairs) asked under meeting c

-- there is such an assumption
abbrev pub CanBeDecided : Setup → Bases → Functions → List Obligation → List Obligation → List Bool → Type 0
CanBeDecided s b f asked under meeting = (c : Assumption) × AreAskedUnder s b f asked under meeting c
