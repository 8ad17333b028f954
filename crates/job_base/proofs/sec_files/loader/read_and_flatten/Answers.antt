use Rattle.job_base.proofs.sec_files.Loaded.{design_loads, flat_is_comparable, text_fails, lines_fail}
use Rattle.job_base.proofs.sec_files.loader.read_and_flatten.Goals as goal

pub returns-in-Ok-flatten-clause-ok : goal.returns-in-Ok-flatten-clause-ok
returns-in-Ok-flatten-clause-ok c =
    let read = rw c.in-Ok.is at c.read_design.ensures in
    design_loads c.args.text.now c.in-Ok.design.models c.in-Ok-flatten.net c.requires.short c.requires.blif read.0 read.1 c.in-Ok-flatten.ensures.sound c.in-Ok-flatten.ensures.ok

pub returns-in-Ok-flatten-clause-comparable : goal.returns-in-Ok-flatten-clause-comparable
returns-in-Ok-flatten-clause-comparable c = flat_is_comparable c.in-Ok.design.models c.in-Ok-flatten.net c.in-Ok-flatten.ensures.ok

pub returns-in-Err-clause-err : goal.returns-in-Err-clause-err
returns-in-Err-clause-err c = lines_fail c.args.text.now c.in-Err.error c.requires.short c.requires.blif (rw c.in-Err.is at c.read_design.ensures)

pub returns-clause-err : goal.returns-clause-err
returns-clause-err c =
    let read = rw c.in-Ok.is at c.read_design.ensures in
    text_fails c.args.text.now c.in-Ok.design.models c.in-Err-flatten.error c.requires.short c.requires.blif read.0 read.1 c.in-Err-flatten.ensures.err
