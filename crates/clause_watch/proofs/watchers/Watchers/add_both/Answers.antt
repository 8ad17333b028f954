use Rattle.std.proofs.Common.{List, length, ap, arith}
use Rattle.clause_watch.specs.declared.watchers.Watcher.{Watcher}
use Rattle.clause_watch.proofs.Keeping.{undone, popped_more}
use Rattle.clause_watch.proofs.watchers.Watchers.add_both.Goals as goal

pub add-requires-2 : goal.add-requires-2
add-requires-2 c = omega (arith, c.in_ok-add.ensures.ok.sized, c.requires.second)

pub returns-in-Ok-clause-ok : goal.returns-in-Ok-clause-ok
returns-in-Ok-clause-ok c = record { between = c.add.new.self; left = c.in_ok-add.ensures.ok; right = c.in-Ok.ensures.ok }

pub pop-requires : goal.pop-requires
pop-requires c =
    let first = c.args.pair.now.first in
    let more = popped_more c.args.self.now c.add.new.self first (record { clause = c.args.number; blocker = c.args.pair.now.second }) c.in_ok-add.ensures.ok in
    omega (arith, more, ap (λ (r : List Watcher). length r) (c.in-Err.ensures.err.same first))

pub returns-in-Err-clause-err : goal.returns-in-Err-clause-err
returns-in-Err-clause-err c =
    undone c.args.self.now c.add.new.self c.add-2.new.self c.pop.new.self c.args.pair.now.first (record { clause = c.args.number; blocker = c.args.pair.now.second }) c.in_ok-add.ensures.ok c.in-Err.ensures.err c.pop.ensures
