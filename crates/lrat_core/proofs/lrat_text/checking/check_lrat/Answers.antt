use Rattle.std.proofs.Common.{◌∙◌, ap, subst}
use Rattle.lrat_core.specs.States.{start, state_of}
use Rattle.lrat_core.specs.lrat_text.Spellings.{spelling_of}
use Rattle.lrat_core.specs.lrat_text.Parts.{IsStep, IsFault}
use Rattle.lrat_core.proofs.lrat_text.Texts.{accepted_sound, text_begins, text_ends, text_goes, text_fails, text_over}
use Rattle.lrat_core.proofs.lrat_text.checking.check_lrat.Goals as goal

pub loop-line-init : goal.loop-line-init
loop-line-init c = λ v h.
    text_begins c.args.formula.now c.args.text.now (state_of c.in_ok-checker.checker) c.new-lines.result.number c.new-lines.result.left v (c.in_ok-checker.ensures ∙ ap start c.clauses.ensures) c.new-lines.ensures.number
    c.new-lines.ensures.left h

pub returns-then-ends-clause-verdict : goal.returns-then-ends-clause-verdict
returns-then-ends-clause-verdict c =
    text_ends c.args.formula.now c.args.text.now (state_of c.loop-line.checker) c.loop-line.lines.number c.loop-line.lines.left c.loop-line.invariant (state_of c.take_line.new.checker) c.next_line.new.self.number
    c.next_line.new.self.left c.in-Some.line.now c.in-Ok.ends c.in-Some.ensures.0 c.in-Some.ensures.1
    (subst (λ n. IsStep (spelling_of n c.in-Some.line.now) (state_of c.loop-line.checker) (state_of c.take_line.new.checker) c.in-Ok.ends) c.variables.ensures.value c.in-Ok.ensures) c.if-ends.true

pub returns-then-ends-clause-unsatisfiable : goal.returns-then-ends-clause-unsatisfiable
returns-then-ends-clause-unsatisfiable c =
    accepted_sound c.args.formula.now c.args.text.now c.next_line.new.self.number
    (text_ends c.args.formula.now c.args.text.now (state_of c.loop-line.checker) c.loop-line.lines.number c.loop-line.lines.left c.loop-line.invariant (state_of c.take_line.new.checker) c.next_line.new.self.number
    c.next_line.new.self.left c.in-Some.line.now c.in-Ok.ends c.in-Some.ensures.0 c.in-Some.ensures.1
    (subst (λ n. IsStep (spelling_of n c.in-Some.line.now) (state_of c.loop-line.checker) (state_of c.take_line.new.checker) c.in-Ok.ends) c.variables.ensures.value c.in-Ok.ensures) c.if-ends.true)

pub loop-line-preserved : goal.loop-line-preserved
loop-line-preserved c = λ v h.
    text_goes c.args.formula.now c.args.text.now (state_of c.loop-line.checker) c.loop-line.lines.number c.loop-line.lines.left c.loop-line.invariant (state_of c.take_line.new.checker) c.next_line.new.self.number
    c.next_line.new.self.left c.in-Some.line.now c.in-Ok.ends v c.in-Some.ensures.0 c.in-Some.ensures.1
    (subst (λ n. IsStep (spelling_of n c.in-Some.line.now) (state_of c.loop-line.checker) (state_of c.take_line.new.checker) c.in-Ok.ends) c.variables.ensures.value c.in-Ok.ensures) c.if-ends.false h

pub returns-in-Err-clause-verdict : goal.returns-in-Err-clause-verdict
returns-in-Err-clause-verdict c =
    text_fails c.args.formula.now c.args.text.now (state_of c.loop-line.checker) c.loop-line.lines.number c.loop-line.lines.left c.loop-line.invariant c.next_line.new.self.number c.next_line.new.self.left c.in-Some.line.now
    c.in-Err.error c.at_line.result c.in-Some.ensures.0 c.in-Some.ensures.1 (subst (λ n. IsFault (spelling_of n c.in-Some.line.now) (state_of c.loop-line.checker) c.in-Err.error) c.variables.ensures.value c.in-Err.ensures)
    c.at_line.ensures

pub returns-clause-verdict : goal.returns-clause-verdict
returns-clause-verdict c = text_over c.args.formula.now c.args.text.now (state_of c.loop-line.checker) c.loop-line.lines.number c.loop-line.lines.left c.loop-line.invariant c.in_default.ensures
