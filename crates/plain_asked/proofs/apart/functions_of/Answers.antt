-- What the unfolder says, at each answer.
use Rattle.std.proofs.Common.{Err, refl, ap}
use Rattle.plain_asked.proofs.apart.functions_of.Goals as goal

pub returns-in-Ok-clause-unfolded : goal.returns-in-Ok-clause-unfolded
returns-in-Ok-clause-unfolded c = c.in-Ok.ensures.unfolded

pub returns-in-Ok-clause-refused : goal.returns-in-Ok-clause-refused
returns-in-Ok-clause-refused c = tt

pub returns-in-Ok-clause-later : goal.returns-in-Ok-clause-later
returns-in-Ok-clause-later c = c.unfold_all.ensures.later

pub returns-in-Err-TooLarge-clause-unfolded : goal.returns-in-Err-TooLarge-clause-unfolded
returns-in-Err-TooLarge-clause-unfolded c = tt

pub returns-in-Err-TooLarge-clause-refused : goal.returns-in-Err-TooLarge-clause-refused
returns-in-Err-TooLarge-clause-refused c = (refl, c.in-Err-TooLarge.ensures.over (ap Err c.in-Err-TooLarge.field-0-is))

pub returns-in-Err-TooLarge-clause-later : goal.returns-in-Err-TooLarge-clause-later
returns-in-Err-TooLarge-clause-later c = c.unfold_all.ensures.later

pub returns-in-Err-NoMemory-clause-unfolded : goal.returns-in-Err-NoMemory-clause-unfolded
returns-in-Err-NoMemory-clause-unfolded c = tt

pub returns-in-Err-NoMemory-clause-refused : goal.returns-in-Err-NoMemory-clause-refused
returns-in-Err-NoMemory-clause-refused c = tt

pub returns-in-Err-NoMemory-clause-later : goal.returns-in-Err-NoMemory-clause-later
returns-in-Err-NoMemory-clause-later c = c.unfold_all.ensures.later

pub unfold_all-requires-clause-signals : goal.unfold_all-requires-clause-signals
unfold_all-requires-clause-signals c = c.requires.signals

pub returns-in-Ok-clause-fits : goal.returns-in-Ok-clause-fits
returns-in-Ok-clause-fits c = c.in-Ok.ensures.fits

pub returns-in-Ok-clause-done : goal.returns-in-Ok-clause-done
returns-in-Ok-clause-done c = c.in-Ok.ensures.done

pub returns-in-Err-TooLarge-clause-fits : goal.returns-in-Err-TooLarge-clause-fits
returns-in-Err-TooLarge-clause-fits c = tt

pub returns-in-Err-TooLarge-clause-done : goal.returns-in-Err-TooLarge-clause-done
returns-in-Err-TooLarge-clause-done c = tt

pub returns-in-Err-NoMemory-clause-fits : goal.returns-in-Err-NoMemory-clause-fits
returns-in-Err-NoMemory-clause-fits c = tt

pub returns-in-Err-NoMemory-clause-done : goal.returns-in-Err-NoMemory-clause-done
returns-in-Err-NoMemory-clause-done c = tt
