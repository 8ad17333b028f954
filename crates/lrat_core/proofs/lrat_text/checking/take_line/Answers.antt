use Rattle.lrat_core.proofs.lrat_text.Reading.{addition_step}
use Rattle.lrat_core.proofs.lrat_text.checking.take_line.Goals as goal

pub returns-in-Ok : goal.returns-in-Ok
returns-in-Ok c =
    addition_step _ _ _ c.in_ok-read_line.field-0 c.read_line.new.self c.in-Addition.id c.as_slice-literals.result.now c.as_slice.result.now c.in_ok-read_line.ensures c.in-Addition.is c.as_slice-literals.ensures.value c.as_slice.ensures.value c.in-Ok.ensures
