use Rattle.std.proofs.Common.{◌≡◌, ◌≤◌, ◌++◌, length}
use Rattle.lrat_core.specs.Logs.{clauses_back}
use Rattle.lrat_core.specs.certificate_writer.Hinting.{IsConsistent, all_known, falsified_by, hints_text}
use Rattle.lrat_core.proofs.certificate_writer.Hinted.{clauses_left}
use Rattle.lrat_core.proofs.certificate_writer.hints.put_hints.Given as goal

-- the text so far and the hints of the clauses that are left make the whole
abbrev pub invariant-loop-left : goal.invariant-loop-left
invariant-loop-left l =
    (l.left ≤ length l.chain.steps) × (l.trail.variables ≡ l.fn.trail.variables) × IsConsistent (falsified_by l.trail.entries)
    × (l.text.items ++ hints_text (falsified_by l.trail.entries) (clauses_left (all_known l.known) l.chain l.left) ≡ l.fn.text.items ++ hints_text (falsified_by l.fn.trail.entries) (clauses_back (all_known l.known) l.chain))

abbrev pub decreases-loop-left : goal.decreases-loop-left
decreases-loop-left l = l.left
