-- What both circuits that are read are found to be.
use Rattle.std.specs.Prelude.{IfSome, IsErrOf}
use Rattle.std.proofs.Common.{ℕ, Bool, List, Option, Result, Ok, Err}
use Rattle.flat_net.specs.View.{NetView}
use Rattle.job_base.specs.sec_files.Loading.{Loads}
use Rattle.job_base.specs.sec_files.Stimuli.{IsStimulus}
use Rattle.job_base.specs.declared.finding.Stop.TheVariants as stop
use Rattle.job_base.specs.Ends.{EndsBy}
use Rattle.job_after.specs.declared.fault.AfterFault.{AfterFault}
use Rattle.job_after.specs.declared.fault.AfterFault.TheVariants as fault
use Rattle.job_after.specs.declared.judging.Judged.{Judged}
use Rattle.job_after.specs.Answer.{IsAfterFound}
use Rattle.job_after.specs.Ends.{IsJudgedBy, after_end}

-- both circuits are judged
pub nets_end : (cycles : Option ℕ) (conflicts : ℕ) (left right stimulus : Option (List ℕ)) (failed : Type 0) (a b : NetView) (names : List (List ℕ)) (rows : List (List Bool)) (judged : Result Judged AfterFault) → IfSome left (λ x. Loads x a) →
    IfSome right (λ y. Loads y b) → IfSome stimulus (λ z. IsStimulus z names rows) → IsJudgedBy a b names rows cycles conflicts judged → EndsBy (IsAfterFound cycles conflicts left right stimulus) failed (after_end judged)
nets_end cycles conflicts left right stimulus failed a b names rows (Ok j) l r s c = record { a = a; b = b; names = names; rows = rows; left_loads = l; right_loads = r; spells = s; said = c }
nets_end cycles conflicts left right stimulus failed a b names rows (Err (fault.Unknown name)) l r s c = record { a = a; b = b; names = names; rows = rows; left_loads = l; right_loads = r; spells = s; said = c }
nets_end cycles conflicts left right stimulus failed a b names rows (Err (fault.Missing name)) l r s c = record { a = a; b = b; names = names; rows = rows; left_loads = l; right_loads = r; spells = s; said = c }
nets_end cycles conflicts left right stimulus failed a b names rows (Err (fault.Interface name)) l r s c = record { a = a; b = b; names = names; rows = rows; left_loads = l; right_loads = r; spells = s; said = c }
nets_end cycles conflicts left right stimulus failed a b names rows (Err (fault.Cyclic side latches)) l r s c = (c.0, record { a = a; b = b; names = names; rows = rows; left_loads = l; right_loads = r; spells = s; said = c.1 })
nets_end cycles conflicts left right stimulus failed a b names rows (Err (fault.TooLarge side)) l r s c = record { a = a; b = b; names = names; rows = rows; left_loads = l; right_loads = r; spells = s; said = c }
nets_end cycles conflicts left right stimulus failed a b names rows (Err fault.NoMemory) l r s c = tt

-- a judgement ends with no read fault
pub no_fault_judged : (r : Result Judged AfterFault) → IsErrOf (after_end r) stop.ReadFault → ⊥
no_fault_judged (Ok j) h = absurd (cc)
no_fault_judged (Err (fault.Unknown name)) h = absurd (cc)
no_fault_judged (Err (fault.Missing name)) h = absurd (cc)
no_fault_judged (Err (fault.Interface name)) h = absurd (cc)
no_fault_judged (Err (fault.Cyclic side latches)) h = absurd (cc)
no_fault_judged (Err (fault.TooLarge side)) h = absurd (cc)
no_fault_judged (Err fault.NoMemory) h = absurd (cc)
