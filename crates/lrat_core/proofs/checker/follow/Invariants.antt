use Rattle.std.proofs.Common.{drop, Option}
use Rattle.lrat_core.specs.Hints.{HintsGive}
use Rattle.lrat_core.specs.States.{live_of}
use Rattle.text_numbers.specs.declared.kinds.TextKind.{TextKind}
use Rattle.lrat_core.proofs.checker.follow.Given as goal

-- what the hints that are left give, all give
abbrev pub invariant-loop-hint : goal.invariant-loop-hint
invariant-loop-hint l =
    (given : Option TextKind) → HintsGive (live_of l.live) l.falsified (drop l.hint-index l.hints) given → HintsGive (live_of l.live) l.fn.falsified l.hints given
