use Rattle.std.proofs.Common.{take}
use Rattle.plain_asked.specs.Asked.{AreAsked}
use Rattle.plain_asked.proofs.questions.ask.Given as goal

abbrev pub invariant-loop-i : goal.invariant-loop-i
invariant-loop-i l = AreAsked l.setup l.functions (take l.i l.setup.pairs) l.asked.items
