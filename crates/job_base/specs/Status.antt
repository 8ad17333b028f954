-- The exit status of each way to end.
use Rattle.std.specs.Prelude.{ℕ}
use Rattle.job_base.specs.declared.status.StatusName.{StatusName}
use Rattle.job_base.specs.declared.status.StatusName.TheVariants as status

abbrev pub code_of : StatusName → ℕ
code_of status.Equal = 0
code_of status.Different = 1
code_of status.NotShown = 2
code_of status.Limit = 3
code_of status.Refused = 4
code_of status.Words = 5
code_of status.ReadFault = 6
code_of status.WriteFault = 7
code_of status.NoMemory = 8
code_of status.Cyclic = 9
code_of status.Done = 0
