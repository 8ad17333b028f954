use Rattle.std.proofs.Common.{suc, length}
use Rattle.lrat_core.specs.Sequences.{Verdict}
use Rattle.lrat_core.specs.States.{state_of}
use Rattle.lrat_core.specs.lrat_text.Verdicts.{TextGives, IsTextVerdict}
use Rattle.lrat_core.proofs.lrat_text.checking.check_lrat.Given as goal

-- what becomes of the lines that are left, becomes of the text
abbrev pub invariant-loop-line : goal.invariant-loop-line
invariant-loop-line l = (verdict : Verdict) → TextGives l.formula.variables (state_of l.checker) (suc l.lines.number) l.lines.left verdict → IsTextVerdict l.formula l.text verdict

abbrev pub decreases-loop-line : goal.decreases-loop-line
decreases-loop-line l = length l.lines.left
