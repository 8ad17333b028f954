use Rattle.lrat_core.specs.dimacs_text.Dimacs.{formula_of}
use Rattle.lrat_core.proofs.dimacs_text.Putting.{line_fails}
use Rattle.lrat_core.proofs.dimacs_text.reader.read_dimacs.Goals as goal

pub returns-in-Err-take_line-clause-formula : goal.returns-in-Err-take_line-clause-formula
returns-in-Err-take_line-clause-formula c =
    let old = c.loop-line in
    line_fails old.body.header old.lines.number c.next_line.new.self.number old.body.entries.items old.lines.left c.next_line.new.self.left c.in-Some.line.now (formula_of c.args.text.now) c.in-Err-take_line.error
    old.invariant.same c.in-Some.ensures.0 c.in-Some.ensures.1 c.in-Err-take_line.ensures.err
