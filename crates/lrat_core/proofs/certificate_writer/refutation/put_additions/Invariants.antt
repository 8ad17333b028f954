use Rattle.std.proofs.Common.{◌≡◌, ◌++◌}
use Rattle.std.specs.List.{flat_map}
use Rattle.lrat_core.specs.Logs.{lines_of}
use Rattle.lrat_core.specs.certificate_writer.Texts.{line_text}
use Rattle.lrat_core.proofs.certificate_writer.Additions.{lines_from}
use Rattle.lrat_core.proofs.certificate_writer.refutation.put_additions.Given as goal

-- the text so far and the lines of the chains that are left make the whole
abbrev pub invariant-loop-at : goal.invariant-loop-at
invariant-loop-at l =
    (l.trail.variables ≡ l.fn.trail.variables)
    × (l.text.items ++ flat_map line_text (lines_from l.clauses l.log l.derived l.at) ≡ l.fn.text.items ++ flat_map line_text (lines_of l.clauses l.log l.derived))
