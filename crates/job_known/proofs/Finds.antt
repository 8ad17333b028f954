-- What is judged of circuits that are read is found of their files.
use Rattle.std.specs.Prelude.{IfSome}
use Rattle.std.proofs.Common.{ℕ, Bool, List, Option, Result, Ok, Err}
use Rattle.flat_net.specs.View.{NetView}
use Rattle.job_base.specs.sec_files.Loading.{Loads}
use Rattle.job_base.specs.sec_files.Stimuli.{IsStimulus}
use Rattle.job_base.specs.Ends.{EndsBy}
use Rattle.job_after.specs.declared.fault.AfterFault.{AfterFault}
use Rattle.job_after.specs.declared.fault.AfterFault.TheVariants as fault
use Rattle.job_after.specs.declared.judging.Judged.{Judged}
use Rattle.job_after.specs.Ends.{after_end}
use Rattle.job_known.specs.Judged.{ReplaysFrom, ReplaysBehind}
use Rattle.job_known.specs.Found.{IsResetFound, IsBehindFound}

pub reset_end : (settles : Bool) (left right stimulus : Option (List ℕ)) (failed : Type 0) (a b : NetView) (names : List (List ℕ)) (rows : List (List Bool)) (judged : Result Judged AfterFault) → IfSome left (λ x. Loads x a) → IfSome right (λ y. Loads y b) →
    IfSome stimulus (λ z. IsStimulus z names rows) → ReplaysFrom settles a b names rows judged → EndsBy (IsResetFound settles left right stimulus) failed (after_end judged)
reset_end settles left right stimulus failed a b names rows (Ok j) l r s c = record { a = a; b = b; names = names; rows = rows; left_loads = l; right_loads = r; spells = s; said = c }
reset_end settles left right stimulus failed a b names rows (Err (fault.Unknown name)) l r s c = record { a = a; b = b; names = names; rows = rows; left_loads = l; right_loads = r; spells = s; said = c }
reset_end settles left right stimulus failed a b names rows (Err (fault.Missing name)) l r s c = record { a = a; b = b; names = names; rows = rows; left_loads = l; right_loads = r; spells = s; said = c }
reset_end settles left right stimulus failed a b names rows (Err (fault.Interface name)) l r s c = record { a = a; b = b; names = names; rows = rows; left_loads = l; right_loads = r; spells = s; said = c }
reset_end settles left right stimulus failed a b names rows (Err (fault.Cyclic side latches)) l r s c = absurd c
reset_end settles left right stimulus failed a b names rows (Err (fault.TooLarge side)) l r s c = absurd c
reset_end settles left right stimulus failed a b names rows (Err fault.NoMemory) l r s c = tt

pub behind_end : (settles : Bool) (left right before stimulus : Option (List ℕ)) (failed : Type 0) (a b : NetView) (first : List (List ℕ)) (first_rows : List (List Bool)) (names : List (List ℕ)) (rows : List (List Bool)) (judged : Result Judged AfterFault) →
    IfSome left (λ x. Loads x a) → IfSome right (λ y. Loads y b) → IfSome before (λ u. IsStimulus u first first_rows) → IfSome stimulus (λ z. IsStimulus z names rows) → ReplaysBehind settles a b first first_rows names rows judged →
    EndsBy (IsBehindFound settles left right before stimulus) failed (after_end judged)
behind_end settles left right before stimulus failed a b first first_rows names rows (Ok j) l r u s c =
    record { a = a; b = b; first = first; first_rows = first_rows; names = names; rows = rows; left_loads = l; right_loads = r; begins = u; spells = s; said = c }
behind_end settles left right before stimulus failed a b first first_rows names rows (Err (fault.Unknown name)) l r u s c =
    record { a = a; b = b; first = first; first_rows = first_rows; names = names; rows = rows; left_loads = l; right_loads = r; begins = u; spells = s; said = c }
behind_end settles left right before stimulus failed a b first first_rows names rows (Err (fault.Missing name)) l r u s c =
    record { a = a; b = b; first = first; first_rows = first_rows; names = names; rows = rows; left_loads = l; right_loads = r; begins = u; spells = s; said = c }
behind_end settles left right before stimulus failed a b first first_rows names rows (Err (fault.Interface name)) l r u s c =
    record { a = a; b = b; first = first; first_rows = first_rows; names = names; rows = rows; left_loads = l; right_loads = r; begins = u; spells = s; said = c }
behind_end settles left right before stimulus failed a b first first_rows names rows (Err (fault.Cyclic side latches)) l r u s c = absurd c
behind_end settles left right before stimulus failed a b first first_rows names rows (Err (fault.TooLarge side)) l r u s c = absurd c
behind_end settles left right before stimulus failed a b first first_rows names rows (Err fault.NoMemory) l r u s c = tt
