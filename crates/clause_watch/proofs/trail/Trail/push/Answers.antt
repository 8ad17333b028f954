use Rattle.std.proofs.Common.{List, [], ◌∷◌, length, length-append, length-set, ap, sym, ◌∙◌, subst, arith, ◌≡◌, ◌-◌, ◌+◌, Some}
use Rattle.clause_watch.specs.Index.{mark_of, IsIndex}
use Rattle.clause_watch.specs.Trails.{TrailView, FreeBefore}
use Rattle.clause_watch.specs.declared.entry.Entry.{Entry}
use Rattle.clause_watch.proofs.Index.{index_push_at}
use Rattle.clause_watch.proofs.Trails.{entry_of}
use Rattle.clause_watch.proofs.trail.Trail.push.Goals as goal

pub invariant_of-self-2 : goal.invariant_of-self-2
invariant_of-self-2 c =
    let marks = c.self.inside.marks.items in
    let l = c.args.literal in
    let size : length marks ≡ c.args.self.now.variables = ap (λ (t : TrailView). t.variables) c.self.view_is in
    let entries : c.self.inside.entries.items ≡ c.args.self.now.entries = ap (λ (t : TrailView). t.entries) c.self.view_is in
    index_push_at c.self.inside.entries.items c.push.new.self.items marks l c.args.reason c.variable.result c.len-place.result c.is_positive.result c.self.invariant c.requires.above (omega (arith, size, c.requires.within))
    (subst (λ (es : List Entry). FreeBefore es (length es) l) (sym entries) c.requires.free) c.in_ok-push.ensures.items c.variable.ensures.value (omega (arith, c.self.inside.entries.ok.0)) c.is_positive.ensures

pub returns-clause-room : goal.returns-clause-room
returns-clause-room c =
    let marks = c.self.inside.marks.items in
    let l = c.args.literal in
    let size : length marks ≡ c.args.self.now.variables = ap (λ (t : TrailView). t.variables) c.self.view_is in
    let entries : c.self.inside.entries.items ≡ c.args.self.now.entries = ap (λ (t : TrailView). t.entries) c.self.view_is in
    let same : length c.self.inside.entries.items ≡ length c.args.self.now.entries = ap (λ (es : List Entry). length es) entries in
    let made =
    index_push_at c.self.inside.entries.items c.push.new.self.items marks l c.args.reason c.variable.result c.len-place.result c.is_positive.result c.self.invariant c.requires.above (omega (arith, size, c.requires.within))
    (subst (λ (es : List Entry). FreeBefore es (length es) l) (sym entries) c.requires.free) c.in_ok-push.ensures.items c.variable.ensures.value (omega (arith, c.self.inside.entries.ok.0)) c.is_positive.ensures in
    let grown : length c.push.new.self.items ≡ length c.self.inside.entries.items + 1 = ap (λ (es : List Entry). length es) c.in_ok-push.ensures.items ∙ length-append c.self.inside.entries.items (entry_of l c.args.reason ∷ []) in
    omega (arith, made.counted, length-set marks (c.variable.result - 1) (Some (mark_of c.len-place.result c.is_positive.result)), grown, same, size)

pub invariant_of-self : goal.invariant_of-self
invariant_of-self c = subst (λ (es : List Entry). IsIndex es c.self.inside.marks.items) (sym c.in_err-push.ensures.items) c.self.invariant

pub returns-clause-variables : goal.returns-clause-variables
returns-clause-variables c = length-set c.self.inside.marks.items (c.variable.result - 1) (Some (mark_of c.len-place.result c.is_positive.result)) ∙ ap (λ (t : TrailView). t.variables) c.self.view_is
