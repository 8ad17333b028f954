use Rattle.std.proofs.Common.{subst}
use Rattle.sat_search.specs.Turning.{IsTurned}
use Rattle.sat_search.proofs.search_state.SearchState.go_on.Goals as goal

pub turn-requires : goal.turn-requires
turn-requires c = (c.args.self.now.watches.clauses.known, c.args.self.now.trail.variables, c.turns.invariant)

pub turns-preserved : goal.turns-preserved
turns-preserved c =
    let s = c.args.self.now in
    (subst (IsTurned s.watches.clauses.known s.trail.variables c.args.conflicts c.turns.self c.turn.new.self) c.in-Goes.is (c.in_ok-turn.ensures s.watches.clauses.known s.trail.variables c.turns.invariant)).0

pub turns-smaller : goal.turns-smaller
turns-smaller c =
    let s = c.args.self.now in
    (subst (IsTurned s.watches.clauses.known s.trail.variables c.args.conflicts c.turns.self c.turn.new.self) c.in-Goes.is (c.in_ok-turn.ensures s.watches.clauses.known s.trail.variables c.turns.invariant)).1

pub returns-in-Model : goal.returns-in-Model
returns-in-Model c =
    let s = c.args.self.now in
    subst (IsTurned s.watches.clauses.known s.trail.variables c.args.conflicts c.turns.self c.turn.new.self) c.in-Model.is (c.in_ok-turn.ensures s.watches.clauses.known s.trail.variables c.turns.invariant)

pub returns-in-Refuted : goal.returns-in-Refuted
returns-in-Refuted c =
    let s = c.args.self.now in
    rw c.take_log.ensures (subst (IsTurned s.watches.clauses.known s.trail.variables c.args.conflicts c.turns.self c.turn.new.self) c.in-Refuted.is (c.in_ok-turn.ensures s.watches.clauses.known s.trail.variables c.turns.invariant))

pub returns-in-Limit : goal.returns-in-Limit
returns-in-Limit c =
    let s = c.args.self.now in
    rw c.take_log-in-Limit.ensures (subst (IsTurned s.watches.clauses.known s.trail.variables c.args.conflicts c.turns.self c.turn.new.self) c.in-Limit.is (c.in_ok-turn.ensures s.watches.clauses.known s.trail.variables c.turns.invariant))
