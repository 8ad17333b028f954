-- A stimulus and power words that fit a circuit, in the plain mode.
use Rattle.std.specs.Prelude.{Some, None, codes}
use Rattle.circuit_theory.specs.declared.Mode.TheVariants.{Plain}
use Rattle.job_circuit.specs.Reports.{CanBeRun}
use Rattle.job_circuit.specs.SimBehind.{CanBeRunBehind}
use Rattle.pair_texts.specs.design_rows.Texts.{two, three_cycles}

-- two latches in a row, without a power word and with one, and behind the rows of another stimulus
abbrev pub TwoCanBeRun : Type 0
TwoCanBeRun = CanBeRun Plain two three_cycles None × CanBeRun Plain two three_cycles (Some (codes "10")) × CanBeRunBehind two three_cycles three_cycles (Some (codes "10"))
