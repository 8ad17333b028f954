-- What a comparison under an assumption answers.
use Rattle.std.specs.Prelude.{◌≡◌, ◌⊎◌, [], Some, Result, Ok, Err}
use Rattle.circuit_theory.specs.Agree.{cut}
use Rattle.circuit_theory.specs.Interface.{first_mismatch}
use Rattle.flat_net.specs.Sound.{IsSound}
use Rattle.flat_net.specs.View.{NetView, circuit_of, ports_of}
use Rattle.witness_report.specs.declared.witness.Witness.{Witness}
use Rattle.witness_report.specs.Shown.{MakesDiffer, MakesCutsDiffer}
use Rattle.sec_base.specs.declared.settings.Settings.{Settings}
use Rattle.obligations.specs.declared.outcome.verdict.Verdict.TheVariants as verdict
use Rattle.obligations.specs.declared.outcome.verdict.Why.TheVariants as why
use Rattle.obligations.specs.declared.outcome.verdict.Outcome.{Outcome}
use Rattle.obligations.specs.declared.outcome.verdict.ResetWitness.{ResetWitness}
use Rattle.sec_setup.specs.Cycles.{IsAcyclic}
use Rattle.sec_setup.specs.Matching.{InterfacesMatch}
use Rattle.outcome_fits.specs.Pairs.{named_pairs}
use Rattle.outcome_fits.specs.Fitting.{IsLight}
use Rattle.plain_check.specs.under_base.under_fits.Places.{IsLightAtPairs}
use Rattle.plain_check.specs.under_base.under_fits.ResetPlaces.{IsLightInCycles}
use Rattle.assume_laws.specs.Assume.{AgreeFromResetUnder}
use Rattle.assume_laws.specs.Sequences.{RowsMeet}
use Rattle.assume_queries.specs.assume_sequences.assume_taken.Taken.{assumed_by, IsFirstFault, IsVacuousBy}
use Rattle.plain_check.specs.under_base.under_fits.Outcome.{OutcomeFitsUnder, AreEqualUnder}
use Rattle.plain_check.specs.under_base.under_fits.ResetOutcome.{numbers_of, ResetOutcomeFitsUnder, MakesResetsDifferUnder}
use Rattle.plain_check.specs.declared.under_base.compare_base.error.CompareError.{CompareError}
use Rattle.plain_check.specs.declared.under_base.compare_base.error.CompareError.TheVariants as refused
use Rattle.plain_check.specs.under_base.compare_base.Compared.{ByReset, Compared}
use Rattle.plain_check.specs.under_base.compare_base.FromReset.{IsLeftLight, IsRightLight}
use Rattle.plain_check.specs.under_base.Met.{shared_by, IsMet, IsAssumptionLimit}
use Rattle.plain_check.specs.under_base.Sizes.{IsTooLargeUnder}

-- C is taken as an assumption, the outcome has the name of its output and fits the circuits under it, and both unfoldings and the
-- assumption are light. Equal says that the circuits agree in the runs that meet C; different, and what isn't shown, that the sequence
-- meets C in each of its cycles and makes the named pair differ in all runs.
pub record IsComparedUnder (a b c : NetView) (settings : Settings) (o : Outcome) : Type 0 where
  pub left_sound : IsSound a
  pub right_sound : IsSound b
  pub met : IsMet a b c
  pub assumed : o.assumed ≡ Some met.assumed.shape.output.name
  pub fits : OutcomeFitsUnder (assumed_by met.assumed) met.row a b settings.expose settings.conflicts o
  pub left_light : IsLight fits.left_cut
  pub right_light : IsLight fits.right_cut
  pub light : IsLightAtPairs met.assumed.weight (cut o.exposed (circuit_of a)) (cut o.exposed (circuit_of b)) fits.left fits.right (named_pairs o.exposed (circuit_of a) (circuit_of b))
  pub equal : o.verdict ≡ verdict.Equal → AreEqualUnder (assumed_by met.assumed) (circuit_of a) (circuit_of b) o
  pub different : (w : Witness) → o.verdict ≡ verdict.Different w → MakesDiffer (circuit_of a) (circuit_of b) w × RowsMeet (assumed_by met.assumed) w.stimulus.rows w.cycle
  pub not_shown : (w : Witness) → o.verdict ≡ verdict.NotShown (why.Cut w) → MakesCutsDiffer o.exposed (circuit_of a) (circuit_of b) w × RowsMeet (assumed_by met.assumed) w.stimulus.rows w.cycle

-- The same where runs begin with the latches' initial values. No latch of either circuit lies on a cycle, also where no output reads it.
pub record IsComparedFromResetUnder (a b c : NetView) (settings : Settings) (o : Outcome) : Type 0 where
  pub left_sound : IsSound a
  pub right_sound : IsSound b
  pub met : IsMet a b c
  pub assumed : o.assumed ≡ Some met.assumed.shape.output.name
  pub left_acyclic : IsAcyclic a
  pub right_acyclic : IsAcyclic b
  pub fits : ResetOutcomeFitsUnder (assumed_by met.assumed) met.row a b settings.conflicts o
  pub left_light : IsLeftLight a b
  pub right_light : IsRightLight a b
  pub light : IsLightInCycles met.assumed.weight (numbers_of a b fits.left fits.right fits.left_base fits.right_base) (named_pairs [] (circuit_of a) (circuit_of b))
  pub equal : o.verdict ≡ verdict.Equal → AgreeFromResetUnder (assumed_by met.assumed) (circuit_of a) (circuit_of b)
  pub different : (w : ResetWitness) → o.verdict ≡ verdict.DifferentFrom w →
      MakesResetsDifferUnder (assumed_by met.assumed) (circuit_of a) (circuit_of b) w × RowsMeet (assumed_by met.assumed) w.witness.stimulus.rows w.witness.cycle

-- The outcome, or the limit of the assumption's query; or the first refusal: the interface; C's first fault; that no row meets C; then what a
-- comparison without C refuses in its order; and last that C is too large for the pairs.
abbrev pub ComparedUnder : NetView → NetView → NetView → Settings → Result Outcome CompareError → Type 0
ComparedUnder a b c settings (Ok o) = IsAssumptionLimit a b c settings.conflicts o ⊎ ByReset settings.reset (IsComparedUnder a b c settings o) (IsComparedFromResetUnder a b c settings o)
ComparedUnder a b c settings (Err (refused.Interface name)) = first_mismatch (ports_of a) (ports_of b) ≡ Some name
ComparedUnder a b c settings (Err (refused.Assume fault)) = InterfacesMatch a b × (IsFirstFault (shared_by a b) c fault ⊎ IsTooLargeUnder a b c settings fault)
ComparedUnder a b c settings (Err (refused.Vacuous by)) = InterfacesMatch a b × IsVacuousBy (shared_by a b) c settings.conflicts by
ComparedUnder a b c settings (Err (refused.Cyclic side names)) = IsMet a b c × Compared a b settings (Err (refused.Cyclic side names))
ComparedUnder a b c settings (Err (refused.Unpaired side names)) = IsMet a b c × Compared a b settings (Err (refused.Unpaired side names))
ComparedUnder a b c settings (Err (refused.TooLarge side)) = IsMet a b c × Compared a b settings (Err (refused.TooLarge side))
ComparedUnder a b c settings (Err refused.TooManyEvents) = ⊥
ComparedUnder a b c settings (Err refused.NoMemory) = Unit {0}
