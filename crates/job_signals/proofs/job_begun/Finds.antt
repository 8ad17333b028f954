-- What both circuits that are read are found to be.
use Rattle.std.specs.Prelude.{IfSome}
use Rattle.std.proofs.Common.{ℕ, Bool, List, Option, Result, Ok, Err}
use Rattle.flat_net.specs.View.{NetView}
use Rattle.job_base.specs.sec_files.Loading.{Loads}
use Rattle.job_base.specs.sec_files.Stimuli.{IsStimulus}
use Rattle.job_base.specs.Ends.{EndsBy}
use Rattle.job_after.specs.declared.fault.AfterFault.{AfterFault}
use Rattle.job_after.specs.declared.fault.AfterFault.TheVariants as fault
use Rattle.job_after.specs.declared.judging.Judged.{Judged}
use Rattle.job_after.specs.Ends.{after_end}
use Rattle.job_signals.specs.job_begun.Found.{IsBegunFound}
use Rattle.job_signals.specs.job_begun.Ends.{IsJudgedBy}

-- both circuits are judged
pub nets_end : (signals : Bool) (conflicts : ℕ) (left right stimulus : Option (List ℕ)) (failed : Type 0) (a b : NetView) (names : List (List ℕ)) (rows : List (List Bool)) (judged : Result Judged AfterFault) → IfSome left (λ x. Loads x a) →
    IfSome right (λ y. Loads y b) → IfSome stimulus (λ z. IsStimulus z names rows) → IsJudgedBy signals conflicts a b names rows judged → EndsBy (IsBegunFound signals conflicts left right stimulus) failed (after_end judged)
nets_end signals conflicts left right stimulus failed a b names rows (Ok j) l r s c = record { a = a; b = b; names = names; rows = rows; left_loads = l; right_loads = r; spells = s; said = c }
nets_end signals conflicts left right stimulus failed a b names rows (Err (fault.Unknown name)) l r s c = record { a = a; b = b; names = names; rows = rows; left_loads = l; right_loads = r; spells = s; said = c }
nets_end signals conflicts left right stimulus failed a b names rows (Err (fault.Missing name)) l r s c = record { a = a; b = b; names = names; rows = rows; left_loads = l; right_loads = r; spells = s; said = c }
nets_end signals conflicts left right stimulus failed a b names rows (Err (fault.Interface name)) l r s c = record { a = a; b = b; names = names; rows = rows; left_loads = l; right_loads = r; spells = s; said = c }
nets_end signals conflicts left right stimulus failed a b names rows (Err (fault.Cyclic side latches)) l r s c = absurd c
nets_end signals conflicts left right stimulus failed a b names rows (Err (fault.TooLarge side)) l r s c = record { a = a; b = b; names = names; rows = rows; left_loads = l; right_loads = r; spells = s; said = c }
nets_end signals conflicts left right stimulus failed a b names rows (Err fault.NoMemory) l r s c = tt
