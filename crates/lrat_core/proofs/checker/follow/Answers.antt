use Rattle.std.proofs.Common.{suc, drop, Some, None}
use Rattle.lrat_core.specs.States.{live_of}
use Rattle.lrat_core.specs.declared.hints.Hint.TheVariants.{Clause}
use Rattle.text_numbers.specs.declared.kinds.TextKind.TheVariants.{NoConflict}
use Rattle.lrat_core.proofs.Checking.{hints_from, no_hints}
use Rattle.lrat_core.proofs.checker.follow.Goals as goal

pub returns-in-Fails : goal.returns-in-Fails
returns-in-Fails c =
    let k = c.loop-hint.hint-index in
    c.loop-hint.invariant (Some c.in-Fails.kind) (hints_from (live_of c.args.live.now) c.loop-hint.falsified c.args.hints.now k (Clause 0) (Some c.in-Fails.kind) c.loop-hint-test.true (c.in-Fails.ensures (drop (suc k) c.args.hints.now)))

pub returns-in-Conflicts : goal.returns-in-Conflicts
returns-in-Conflicts c =
    let k = c.loop-hint.hint-index in
    c.loop-hint.invariant None (hints_from (live_of c.args.live.now) c.loop-hint.falsified c.args.hints.now k (Clause 0) None c.loop-hint-test.true (c.in-Conflicts.ensures (drop (suc k) c.args.hints.now)))

pub returns : goal.returns
returns c = c.loop-hint.invariant (Some NoConflict) (no_hints (live_of c.args.live.now) c.loop-hint.falsified c.args.hints.now c.loop-hint.hint-index c.loop-hint-test.false)
