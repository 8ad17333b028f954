-- A text that is told and isn't accepted has no verdict.
use Rattle.std.proofs.Common.{◌≡◌, ℕ, List, Option, Some, None, Ok}
use Rattle.obligations.specs.declared.outcome.verdict.Outcome.{Outcome}
use Rattle.job_base.specs.sec_files.Loading.{Loads, IsAccepted}
use Rattle.job_base.specs.sec_files.job_files.Reading.{Held}
use Rattle.job_base.proofs.sec_files.job_files.Reading.{if_told}
use Rattle.job_check.specs.check_meaning.check_found.Check.{Check}
use Rattle.job_check.specs.check_meaning.check_found.Found.{IsAnsweredGiven}
use Rattle.premise_rows.specs.RuledOut.{FaultyHasNoVerdict}

module _ (held : Held) (check : Check) (x : List ℕ) (is : held check.left ≡ Some x) (faulty : IsAccepted x → ⊥) (o : Outcome) where
  unanswered : (assumed : Option (List ℕ)) → IsAnsweredGiven held check assumed (Ok o) → ⊥
  unanswered None n = faulty (if_told (held check.left) (λ t. Loads t n.a) x is n.left_loads).accepted
  unanswered (Some path) n = faulty (if_told (held check.left) (λ t. Loads t n.a) x is n.left_loads).accepted

pub faulty_has_no_verdict : FaultyHasNoVerdict
faulty_has_no_verdict held check x is faulty o settings found = unanswered held check x is faulty o check.assumed found.1
