-- What is true of two files where their comparison by ties of signals finds what it does. A text is given where it is told.
use Rattle.std.specs.Prelude.{◌≡◌, ℕ, List, [], Option}
use Rattle.job_base.specs.declared.finding.Finding.{Finding}
use Rattle.job_base.specs.declared.finding.Finding.TheVariants as finding
use Rattle.job_base.specs.sec_files.job_files.Texts.{OfNets}
use Rattle.sec_jobs.specs.job_induct.induct_meaning.Found.{IsInductRefusal}
use Rattle.job_signals.specs.Judged.{IsJudged}

-- what is found of two files; they are refused where the comparison by blocks refuses them
abbrev pub IsSignalsFound : Option (List ℕ) → Option (List ℕ) → Finding → Type 0
IsSignalsFound left right (finding.Refused r) = IsInductRefusal left right r
IsSignalsFound left right (finding.Judged j proofs text) = (proofs ≡ []) × OfNets left right (λ a b. IsJudged a b j text)
IsSignalsFound left right other = ⊥
