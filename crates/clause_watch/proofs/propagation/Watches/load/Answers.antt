use Rattle.std.proofs.Common.{◌∙◌, arith}
use Rattle.clause_watch.proofs.Loading.{loaded_conflict, loaded_more, never_gone, loaded_whole}
use Rattle.clause_watch.proofs.propagation.Watches.load.Goals as goal
use Rattle.clause_watch.proofs.propagation.Watches.load.Goals.{in-Stays, in-Gone}

pub returns-in-Conflict-clause-loaded : goal.returns-in-Conflict-clause-loaded
returns-in-Conflict-clause-loaded c =
    let w = c.args.self.now.clauses in
    loaded_conflict w.known c.enter.new.trail w.pairs w.rows c.loop-number.number c.in-Conflict.at c.in_ok-enter.field-0 c.in-Conflict.is c.in_ok-enter.ensures.entered

pub loop-number-preserved : goal.loop-number-preserved
loop-number-preserved c =
    let w = c.args.self.now.clauses in
    elim c.match-branch-2.branch [
      | in-Stays s ↦ (loaded_more w.known c.enter.new.trail w.pairs w.rows c.loop-number.number c.in_ok-enter.field-0 s.in-Stays.is c.in_ok-enter.ensures.entered, c.enter.ensures.variables ∙ c.loop-number.invariant.1)
      | in-Gone s ↦ absurd (never_gone w.known c.enter.new.trail w.pairs w.rows c.loop-number.number c.in_ok-enter.field-0 s.in-Gone.is c.in_ok-enter.ensures.entered)
    ]

pub returns-clause-loaded : goal.returns-clause-loaded
returns-clause-loaded c =
    let w = c.args.self.now.clauses in
    loaded_whole w.known c.loop-number.trail w.pairs w.rows c.loop-number.number (omega (arith, c.loop-number-test.false, c.len-number-end.ensures, c.requires.numbers)) c.loop-number.invariant.0
