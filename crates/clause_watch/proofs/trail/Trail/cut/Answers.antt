use Rattle.std.proofs.Common.{arith, subst, List, ap, take}
use Rattle.clause_watch.specs.Index.{IsIndex}
use Rattle.clause_watch.specs.declared.entry.Entry.{Entry}
use Rattle.clause_watch.proofs.Index.{index_pop_at, popped_inside}
use Rattle.clause_watch.specs.Trails.{TrailView}
use Rattle.clause_watch.proofs.trail.Trail.cut.Goals as goal

pub index_mut-requires : goal.index_mut-requires
index_mut-requires c =
    let marks = c.loop-self.self-inside.marks in
    let inside = popped_inside c.pop.new.self.items c.in-Some.entry marks.items (subst (λ (es : List Entry). IsIndex es marks.items) c.in-Some.ensures.items c.loop-self.invariant.0) in
    omega (arith, inside, marks.ok.0, c.variable.ensures.value)

pub loop-self-preserved-in-Some : goal.loop-self-preserved-in-Some
loop-self-preserved-in-Some c =
    index_pop_at c.loop-self.self-inside.entries.items c.pop.new.self.items c.in-Some.entry c.loop-self.self-inside.marks.items c.variable.result c.args.self.now.variables c.args.keep c.args.self.now.entries
    c.in-Some.ensures.items c.variable.ensures.value (omega (arith, c.loop-self.self-inside.entries.ok.0)) c.loop-self.invariant

pub loop-self-init : goal.loop-self-init
loop-self-init c = (c.self.invariant, ap (λ (t : TrailView). t.variables) c.self.view_is, ap (λ (t : TrailView). take c.args.keep t.entries) c.self.view_is)
