use Rattle.std.proofs.Common.{sym}
use Rattle.signal_refine.proofs.facts.Facts.note.Goals as goal

pub keep-requires-clause-agree : goal.keep-requires-clause-agree
keep-requires-clause-agree c = λ a. sym (c.requires.agree a)
