use Rattle.std.proofs.Common.{List, Some, None, length, ap, sym, ◌∙◌, subst, arith, ◌≡◌}
use Rattle.clause_watch.specs.Trails.{TrailView, TrueBefore, FreeBefore}
use Rattle.clause_watch.specs.declared.entry.Entry.{Entry}
use Rattle.clause_base.specs.Literals.{negation}
use Rattle.clause_watch.proofs.Index.{marked_true, marked_false, unmarked_free, mark_there, same_by_test, differ_by_test}
use Rattle.clause_watch.proofs.trail.Trail.truth.Goals as goal

pub returns-then-mark-is_positive : goal.returns-then-mark-is_positive
returns-then-mark-is_positive c =
    let marks = c.self.inside.marks.items in
    let l = c.args.literal in
    let size : length marks ≡ c.args.self.now.variables = ap (λ (t : TrailView). t.variables) c.self.view_is in
    let entries : c.self.inside.entries.items ≡ c.args.self.now.entries = ap (λ (t : TrailView). t.entries) c.self.view_is in
    let there = mark_there marks l.variable c.variable.result c.index.result.now (Some c.in-Some.mark) c.variable.ensures.value (omega (arith, size, c.requires.within, c.requires.above)) c.index.ensures c.in-Some.is in
    subst (λ (es : List Entry). TrueBefore es (length es) l) entries (marked_true c.self.inside.entries.items marks l c.in-Some.mark c.self.invariant c.requires.above there (same_by_test _ _ c.if-mark-is_positive.true ∙ c.is_positive.ensures))

pub returns-else-mark-is_positive : goal.returns-else-mark-is_positive
returns-else-mark-is_positive c =
    let marks = c.self.inside.marks.items in
    let l = c.args.literal in
    let size : length marks ≡ c.args.self.now.variables = ap (λ (t : TrailView). t.variables) c.self.view_is in
    let entries : c.self.inside.entries.items ≡ c.args.self.now.entries = ap (λ (t : TrailView). t.entries) c.self.view_is in
    let there = mark_there marks l.variable c.variable.result c.index.result.now (Some c.in-Some.mark) c.variable.ensures.value (omega (arith, size, c.requires.within, c.requires.above)) c.index.ensures c.in-Some.is in
    subst (λ (es : List Entry). TrueBefore es (length es) (negation l)) entries (marked_false c.self.inside.entries.items marks l c.in-Some.mark c.self.invariant c.requires.above there (λ e. differ_by_test _ _ c.if-mark-is_positive.false (e ∙ sym c.is_positive.ensures)))

pub returns-in-None : goal.returns-in-None
returns-in-None c =
    let marks = c.self.inside.marks.items in
    let l = c.args.literal in
    let size : length marks ≡ c.args.self.now.variables = ap (λ (t : TrailView). t.variables) c.self.view_is in
    let entries : c.self.inside.entries.items ≡ c.args.self.now.entries = ap (λ (t : TrailView). t.entries) c.self.view_is in
    let there = mark_there marks l.variable c.variable.result c.index.result.now None c.variable.ensures.value (omega (arith, size, c.requires.within, c.requires.above)) c.index.ensures c.in-None.is in
    subst (λ (es : List Entry). FreeBefore es (length es) l) entries (unmarked_free c.self.inside.entries.items marks l c.self.invariant there)
