-- Answers that the contract of `run` rules out.
use Rattle.std.specs.Prelude.{◌≡◌, ℕ, List, Option, Some}
use Rattle.pair_decide.specs.declared.query.Proof.{Proof}
use Rattle.sec_base.specs.declared.settings.Settings.{Settings}
use Rattle.obligations.specs.declared.outcome.verdict.Outcome.{Outcome}
use Rattle.job_base.specs.declared.finding.Finding.TheVariants.{Checked}
use Rattle.job_base.specs.sec_files.Loading.{IsAccepted}
use Rattle.job_base.specs.sec_files.job_files.Reading.{Held}
use Rattle.job_check.specs.check_meaning.check_found.Check.{Check}
use Rattle.job_check.specs.check_meaning.check_found.Found.{IsFoundOf}
use Rattle.pair_texts.specs.check_texts.Texts.{TextsUndecided}
use Rattle.pair_texts.specs.design_rows.Texts.{on_and, off_and}

-- No limit is told of two ands, whose functions have two variables, however few conflicts are allowed.
abbrev pub AndsMeetNoLimit : Type 0
AndsMeetNoLimit = (settings : Settings) (proofs : List Proof) (before now : Option (List ℕ)) → TextsUndecided on_and off_and settings proofs before now → ⊥

-- No verdict is found where A's text is told and isn't accepted, whether B's is told or not.
abbrev pub FaultyHasNoVerdict : Type 0
FaultyHasNoVerdict = (held : Held) (check : Check) (x : List ℕ) → held check.left ≡ Some x → (IsAccepted x → ⊥) → (o : Outcome) (settings : Settings) → IsFoundOf held check (Checked o settings) → ⊥
