use Rattle.std.proofs.Common.{take}
use Rattle.reset_form.specs.reset_asked.Asked.{AreAsked}
use Rattle.reset_form.proofs.reset_asked.questions.ask.Given as goal

abbrev pub invariant-loop-i : goal.invariant-loop-i
invariant-loop-i l = AreAsked l.setup l.fn.bases l.functions (take l.i l.setup.pairs) l.asked.items
