use Rattle.std.proofs.Common.{◌≡◌, ◌<◌, List, length, ap, sym, subst, arith}
use Rattle.clause_watch.specs.Trails.{TrailView}
use Rattle.clause_watch.specs.declared.entry.Entry.{Entry}
use Rattle.clause_watch.proofs.Index.{entry_range}
use Rattle.clause_watch.proofs.trail.Trail.entry.Goals as goal

pub returns-clause-above : goal.returns-clause-above
returns-clause-above c =
    let entries : c.self.inside.entries.items ≡ c.args.self.now.entries = ap (λ (t : TrailView). t.entries) c.self.view_is in
    (entry_range c.self.inside.entries.items c.self.inside.marks.items c.args.place c.index.result.now c.self.invariant (subst (λ (es : List Entry). c.args.place < length es) (sym entries) c.requires) c.index.ensures).0

pub returns-clause-within : goal.returns-clause-within
returns-clause-within c =
    let size : length c.self.inside.marks.items ≡ c.args.self.now.variables = ap (λ (t : TrailView). t.variables) c.self.view_is in
    let entries : c.self.inside.entries.items ≡ c.args.self.now.entries = ap (λ (t : TrailView). t.entries) c.self.view_is in
    omega (arith, size, (entry_range c.self.inside.entries.items c.self.inside.marks.items c.args.place c.index.result.now c.self.invariant (subst (λ (es : List Entry). c.args.place < length es) (sym entries) c.requires) c.index.ensures).1)
