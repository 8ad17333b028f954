use Rattle.std.proofs.Common.{take}
use Rattle.plain_asked.specs.Asked.{AreAskedApart}
use Rattle.plain_asked.proofs.questions.ask_apart.Given as goal

abbrev pub invariant-loop-i : goal.invariant-loop-i
invariant-loop-i l = AreAskedApart l.setup l.functions.functions (take l.i l.setup.pairs) l.asked.items
