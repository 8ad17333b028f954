use Rattle.std.proofs.Common.{◌+◌, refl, arith}
use Rattle.clause_watch.specs.Range.{AllInRange}
use Rattle.clause_watch.proofs.Lists.{at_number}
use Rattle.clause_watch.proofs.Literals.{range_of}
use Rattle.clause_watch.proofs.Following.{number_within, followed, not_watched, own_next, same_clauses, visited_true, visited_put, visited_force, next_differs, row_inside, visited_moved}
use Rattle.clause_watch.proofs.propagation.Watches.follow.Goals as goal

pub truth-requires-clause-within : goal.truth-requires-clause-within
truth-requires-clause-within c =
    let w = c.requires.visiting.watched in
    let named = w.watching.named c.args.literal c.args.place c.watcher-watcher.result c.watcher-watcher.ensures.there in
    (range_of c.args.trail.now.variables c.args.self.now.clauses.known c.watcher-watcher.result.clause named.clause c.watcher-watcher.result.blocker w.range named.is_there named.holds).1

pub returns-in-True-clause-visited : goal.returns-in-True-clause-visited
returns-in-True-clause-visited c =
    let s = c.args.self.now.clauses in
    let w = c.requires.visiting.watched in
    let named = w.watching.named c.args.literal c.args.place c.watcher-watcher.result c.watcher-watcher.ensures.there in
    visited_true s.known c.args.trail.now s.pairs s.rows c.args.self.now.head c.args.literal c.args.place c.watcher-watcher.result named.clause c.watcher-watcher.result.blocker
    c.requires.visiting c.watcher-watcher.ensures.there named.is_there named.holds c.in-True.ensures

pub pair-requires : goal.pair-requires
pair-requires c =
    let w = c.requires.visiting.watched in
    number_within c.args.self.now.clauses.known c.watcher-watcher.result (w.watching.named c.args.literal c.args.place c.watcher-watcher.result c.watcher-watcher.ensures.there)

pub unreachable-unreachable : goal.unreachable-unreachable
unreachable-unreachable c =
    not_watched c.args.self.now.clauses.pairs c.watcher-watcher.result.clause c.pair.result c.args.literal c.pair.ensures c.in_default-other_of.ensures c.watcher-watcher.ensures.watches

pub truth-requires-2 : goal.truth-requires-2
truth-requires-2 c =
    let s = c.args.self.now.clauses in
    let w = c.requires.visiting.watched in
    let f = followed s.known c.args.trail.now s.pairs s.rows c.args.self.now.head c.args.literal c.args.place c.watcher-watcher.result c.pair.result c.in-Some.other w c.watcher-watcher.ensures.there c.pair.ensures c.in-Some.ensures in
    let r = range_of c.args.trail.now.variables s.known c.watcher-watcher.result.clause f.clause c.in-Some.other w.range f.is_there f.holds in
    record { above = r.0; within = r.1 }

pub block-requires : goal.block-requires
block-requires c =
    let s = c.args.self.now.clauses in
    let w = c.requires.visiting.watched in
    let f = followed s.known c.args.trail.now s.pairs s.rows c.args.self.now.head c.args.literal c.args.place c.watcher-watcher.result c.pair.result c.in-Some.other w c.watcher-watcher.ensures.there c.pair.ensures c.in-Some.ensures in
    record {
      there = (c.watcher-watcher.result, c.watcher-watcher.ensures.there, refl);
      named = record { clause = f.clause; is_there = f.is_there; long = f.long; holds = f.holds };
    }

pub returns-in-True-truth : goal.returns-in-True-truth
returns-in-True-truth c =
    let s = c.args.self.now.clauses in
    let w = c.requires.visiting.watched in
    let f = followed s.known c.args.trail.now s.pairs s.rows c.args.self.now.head c.args.literal c.args.place c.watcher-watcher.result c.pair.result c.in-Some.other w c.watcher-watcher.ensures.there c.pair.ensures c.in-Some.ensures in
    let put = visited_put s.known c.args.trail.now s.pairs s.rows c.block.new.self.rows c.args.self.now.head c.args.literal c.args.place c.watcher-watcher.result c.in-Some.other c.requires.visiting f c.in-True-truth.ensures c.block.ensures.put in
    record {
      known = c.block.ensures.known;
      variables = refl;
      longer = omega arith;
      head = refl;
      visited = (same_clauses c.args.trail.now c.args.self.now.head c.args.literal (c.args.place + 1) s.known c.block.new.self.known s.pairs c.block.new.self.pairs c.block.new.self.rows c.block.ensures.known c.block.ensures.pairs put.0, put.1);
    }

pub clause-requires : goal.clause-requires
clause-requires c =
    let w = c.requires.visiting.watched in
    number_within c.args.self.now.clauses.known c.watcher-watcher.result (w.watching.named c.args.literal c.args.place c.watcher-watcher.result c.watcher-watcher.ensures.there)

pub next_watch-requires : goal.next_watch-requires
next_watch-requires c =
    at_number (AllInRange c.args.trail.now.variables) c.args.self.now.clauses.known c.watcher-watcher.result.clause c.clause.result.now c.requires.visiting.watched.range c.clause.ensures.there

pub force-requires : goal.force-requires
force-requires c =
    let s = c.args.self.now.clauses in
    let w = c.requires.visiting.watched in
    let f = followed s.known c.args.trail.now s.pairs s.rows c.args.self.now.head c.args.literal c.args.place c.watcher-watcher.result c.pair.result c.in-Some.other w c.watcher-watcher.ensures.there c.pair.ensures c.in-Some.ensures in
    let r = range_of c.args.trail.now.variables s.known c.watcher-watcher.result.clause f.clause c.in-Some.other w.range f.is_there f.holds in
    record { above = r.0; within = r.1 }

pub rewatch-requires : goal.rewatch-requires
rewatch-requires c =
    let s = c.args.self.now.clauses in
    let w = c.requires.visiting.watched in
    let f = followed s.known c.args.trail.now s.pairs s.rows c.args.self.now.head c.args.literal c.args.place c.watcher-watcher.result c.pair.result c.in-Some.other w c.watcher-watcher.ensures.there c.pair.ensures c.in-Some.ensures in
    let next = c.in-Some-next_watch.ensures in
    record {
      there = (c.watcher-watcher.result, c.watcher-watcher.ensures.there, refl);
      watched = f.watches;
      apart = f.differ;
      own = (c.clause.result.now, c.clause.ensures.there, own_next s.known s.pairs s.rows c.args.literal c.args.place c.watcher-watcher.result c.in-Some.other c.in-Some-next_watch.next c.clause.result.now f c.clause.ensures.there next.0 next.1);
      range = row_inside s.known c.args.trail.now s.pairs s.rows c.args.self.now.head c.watcher-watcher.result.clause c.clause.result.now c.in-Some-next_watch.next w c.clause.ensures.there next.0;
      differ = next_differs s.known c.args.trail.now s.pairs s.rows c.args.self.now.head c.args.literal c.args.place c.in-Some-next_watch.next c.requires.visiting next.2;
    }

pub returns-in-None : goal.returns-in-None
returns-in-None c =
    let s = c.args.self.now.clauses in
    let w = c.requires.visiting.watched in
    let f = followed s.known c.args.trail.now s.pairs s.rows c.args.self.now.head c.args.literal c.args.place c.watcher-watcher.result c.pair.result c.in-Some.other w c.watcher-watcher.ensures.there c.pair.ensures c.in-Some.ensures in
    record {
      known = refl;
      variables = c.force.ensures.variables;
      longer = c.force.ensures.longer;
      head = refl;
      visited = visited_force s.known c.args.trail.now c.force.new.trail s.pairs s.rows c.args.self.now.head c.args.literal c.args.place c.watcher-watcher.result c.in-Some.other c.clause.result.now c.force.result
          c.requires.visiting f c.clause.ensures.there c.clause.ensures.clause c.in-None.ensures c.force.ensures.variables c.force.ensures.forced;
    }

pub returns-in_ok-rewatch-in-Some-next_watch : goal.returns-in_ok-rewatch-in-Some-next_watch
returns-in_ok-rewatch-in-Some-next_watch c =
    let s = c.args.self.now.clauses in
    let n = c.rewatch.new.self in
    let w = c.requires.visiting.watched in
    let f = followed s.known c.args.trail.now s.pairs s.rows c.args.self.now.head c.args.literal c.args.place c.watcher-watcher.result c.pair.result c.in-Some.other w c.watcher-watcher.ensures.there c.pair.ensures c.in-Some.ensures in
    let next = c.in-Some-next_watch.ensures in
    let moved = visited_moved s.known c.args.trail.now s.pairs n.pairs s.rows n.rows c.args.self.now.head c.args.literal c.args.place c.watcher-watcher.result c.in-Some.other c.in-Some-next_watch.next c.clause.result.now
    c.requires.visiting f c.clause.ensures.there next.0 next.1 next.2 c.in_ok-rewatch-in-Some-next_watch.ensures.moved in
    record {
      known = c.rewatch.ensures.known;
      variables = refl;
      longer = omega arith;
      head = refl;
      visited = (same_clauses c.args.trail.now c.args.self.now.head c.args.literal c.args.place s.known n.known n.pairs n.pairs n.rows c.rewatch.ensures.known refl moved.0, moved.1);
    }
