-- How the work of a job ends.
use Rattle.std.specs.Prelude.{Result, Ok, Err}
use Rattle.job_base.specs.declared.finding.Finding.{Finding}
use Rattle.job_base.specs.declared.finding.Stop.{Stop}
use Rattle.job_base.specs.declared.finding.Stop.TheVariants as stop

-- the work ends with a finding of this kind, or by a read that failed, or at want of memory
abbrev pub EndsBy : (Finding → Type 0) → Type 0 → Result Finding Stop → Type 0
EndsBy P failed (Ok f) = P f
EndsBy P failed (Err stop.ReadFault) = failed
EndsBy P failed (Err stop.NoMemory) = Unit {0}
