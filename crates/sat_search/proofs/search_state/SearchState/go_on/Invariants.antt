use Rattle.sat_search.specs.Turning.{IsRunning, work_left}
use Rattle.sat_search.proofs.search_state.SearchState.go_on.Given as goal

abbrev pub invariant-turns : goal.invariant-turns
invariant-turns l = IsRunning l.initial.self.watches.clauses.known l.initial.self.trail.variables l.conflicts l.self

abbrev pub decreases-turns : goal.decreases-turns
decreases-turns l = work_left l.initial.self.trail.variables l.conflicts l.self
