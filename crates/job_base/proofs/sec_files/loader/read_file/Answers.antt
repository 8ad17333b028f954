use Rattle.job_base.proofs.sec_files.Loaded.{file_loads, file_fails}
use Rattle.job_base.proofs.sec_files.loader.read_file.Goals as goal

pub returns-in-Ok-clause-ok : goal.returns-in-Ok-clause-ok
returns-in-Ok-clause-ok c = file_loads c.args.text.now c.in-Ok.net c.requires.short c.requires.aiger (rw c.in-Ok.is at c.read_aiger.ensures)

pub returns-in-Ok-clause-comparable : goal.returns-in-Ok-clause-comparable
returns-in-Ok-clause-comparable c = let read = rw c.in-Ok.is at c.read_aiger.ensures in read.2.comparable

pub returns-in-Err-clause-err : goal.returns-in-Err-clause-err
returns-in-Err-clause-err c = file_fails c.args.text.now c.in-Err.error c.requires.short c.requires.aiger (rw c.in-Err.is at c.read_aiger.ensures)
