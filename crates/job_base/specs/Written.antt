-- What is written of a finding, and with which status and proofs.
use Rattle.std.specs.Prelude.{◌≡◌, ℕ, List, [], ◌∷◌, ◌++◌, Option}
use Rattle.std.specs.List.{filter_map}
use Rattle.base_shelves.specs.Outside.{Takes, TakesFront}
use Rattle.obligations.specs.outcome.pair_decide.Proof.{Proof}
use Rattle.cycle_sim.specs.declared.pair_runs.differences.Difference.{Difference}
use Rattle.obligations.specs.outcome.Proofs.{verdict_proofs}
use Rattle.obligations.specs.declared.outcome.verdict.Outcome.{Outcome}
use Rattle.obligations.specs.declared.outcome.verdict.PairResult.{PairResult}
use Rattle.obligations.specs.declared.outcome.verdict.Verdict.{Verdict}
use Rattle.obligations.specs.declared.outcome.verdict.Verdict.TheVariants as verdict
use Rattle.job_base.specs.declared.finding.Finding.{Finding}
use Rattle.job_base.specs.declared.finding.Finding.TheVariants as finding
use Rattle.job_base.specs.declared.finding.Judgement.{Judgement}
use Rattle.job_base.specs.declared.finding.Judgement.TheVariants as judgement
use Rattle.job_base.specs.declared.finding.Unrefuted.{Unrefuted}
use Rattle.job_base.specs.declared.finding.Unrefuted.TheVariants as unrefuted
use Rattle.job_base.specs.declared.status.Status.{Status}
use Rattle.job_base.specs.declared.status.StatusName.{StatusName}
use Rattle.job_base.specs.declared.status.StatusName.TheVariants as status
use Rattle.job_base.specs.Lines.{finding_text}

-- the status of a verdict
abbrev pub verdict_status : Verdict → StatusName
verdict_status verdict.Equal = status.Equal
verdict_status (verdict.Different w) = status.Different
verdict_status (verdict.DifferentFrom w) = status.Different
verdict_status (verdict.NotShown reason) = status.NotShown
verdict_status (verdict.Limit at) = status.Limit

-- the status of a replay with these differences
abbrev pub replay_status : List Difference → StatusName
replay_status [] = status.Equal
replay_status (d ∷ more) = status.Different

-- the status of a verdict on a generated pair: an equal one is done
abbrev pub generated_status : Verdict → StatusName
generated_status verdict.Equal = status.Done
generated_status (verdict.Different w) = status.Different
generated_status (verdict.DifferentFrom w) = status.Different
generated_status (verdict.NotShown reason) = status.NotShown
generated_status (verdict.Limit at) = status.Limit

-- the proofs of an outcome: that of its verdict, and those of its pairs in their order
abbrev pub outcome_proofs : Outcome → List Proof
outcome_proofs o = verdict_proofs o.verdict ++ filter_map (λ (r : PairResult). r.proof) o.pairs

-- the status of clauses that aren't refuted
abbrev pub unrefuted_status : Unrefuted → StatusName
unrefuted_status unrefuted.Satisfiable = status.Different
unrefuted_status (unrefuted.Limit conflicts proof) = status.Limit

-- and the proof where the limit was met
abbrev pub unrefuted_proofs : Unrefuted → List Proof
unrefuted_proofs unrefuted.Satisfiable = []
unrefuted_proofs (unrefuted.Limit conflicts proof) = proof ∷ []

-- the status of what is said of two circuits: by blocks of their latches, by pairs with care, or on a stimulus
abbrev pub judgement_status : Judgement → StatusName
judgement_status judgement.Equal = status.Equal
judgement_status judgement.Different = status.Different
judgement_status judgement.NotShown = status.NotShown
judgement_status judgement.Limit = status.Limit

-- the status of a finding
abbrev pub status_of : Finding → StatusName
status_of finding.Words = status.Words
status_of (finding.Refused r) = status.Refused
status_of (finding.Cyclic side names) = status.Cyclic
status_of (finding.Unpaired side names) = status.Cyclic
status_of (finding.Checked o settings) = verdict_status o.verdict
status_of (finding.Done report) = status.Done
status_of (finding.Generated o report) = generated_status o.verdict
status_of (finding.Replayed differences) = replay_status differences
status_of (finding.Undecided side name proof) = status.Limit
status_of (finding.Unrefuted u) = unrefuted_status u
status_of (finding.Judged j proofs report) = judgement_status j

-- the proofs of the queries that met the limit, in the order in which they were decided
abbrev pub proofs_of : Finding → List Proof
proofs_of finding.Words = []
proofs_of (finding.Refused r) = []
proofs_of (finding.Cyclic side names) = []
proofs_of (finding.Unpaired side names) = []
proofs_of (finding.Checked o settings) = outcome_proofs o
proofs_of (finding.Done report) = []
proofs_of (finding.Generated o report) = outcome_proofs o
proofs_of (finding.Replayed differences) = []
proofs_of (finding.Undecided side name proof) = proof ∷ []
proofs_of (finding.Unrefuted u) = unrefuted_proofs u
proofs_of (finding.Judged j proofs report) = proofs

-- The report of a finding is taken whole, with the finding's status; or a front of it at a write fault; or nothing at want of memory.
abbrev pub IsWrittenAs : Option (List ℕ) → Option (List ℕ) → Finding → List Proof → StatusName → Type 0
IsWrittenAs before now f proofs status.ReadFault = ⊥
IsWrittenAs before now f proofs status.NoMemory = (now ≡ before) × (proofs ≡ [])
IsWrittenAs before now f proofs status.WriteFault = (proofs ≡ proofs_of f) × TakesFront before now (finding_text f)
IsWrittenAs before now f proofs name = (proofs ≡ proofs_of f) × (status_of f ≡ name) × Takes before now (finding_text f)

abbrev pub IsWritten : Option (List ℕ) → Option (List ℕ) → Finding → Status → Type 0
IsWritten before now f s = IsWrittenAs before now f s.proofs s.name
