use Rattle.std.proofs.Common.{arith, []}
use Rattle.clause_watch.proofs.Writing.{all_empty}
use Rattle.std.proofs.lemmas.List.{replicate_more}
use Rattle.clause_watch.proofs.watchers.Watchers.new.Goals as goal

pub returns : goal.returns
returns c = all_empty c.args.variables c.loop-at._at c.loop-at.rows.items c.loop-at.invariant (omega arith)

pub loop-at-preserved : goal.loop-at-preserved
loop-at-preserved c = rw (c.in_ok-push.ensures.items, c.new.ensures, c.loop-at.invariant) (replicate_more c.loop-at._at [])
