use Rattle.std.proofs.Common.{ℕ, List, subst}
use Rattle.std.specs.Prelude.{IfOk}
use Rattle.proof_check.specs.Literals.{Literal}
use Rattle.sat_search.specs.Found.{IsFound}
use Rattle.sat_search.proofs.solver.search.Goals as goal

pub returns : goal.returns
returns c =
    let s = c.in_ok-state.state in
    subst (λ (v : ℕ). IfOk c.run.result (IsFound c.args.clauses.now v c.args.conflicts)) c.in_ok-state.ensures.variables
    (subst (λ (k : List (List Literal)). IfOk c.run.result (IsFound k s.trail.variables c.args.conflicts)) c.in_ok-state.ensures.known c.run.ensures)
