-- What the table finds has an entry, and it finds each key.
use Rattle.std.proofs.Common.{ℕ, List, map, subst, Contains}
use Rattle.aig.proofs.graph_copy.Entries.{no_entry, entry_of}
use Rattle.class_search.proofs.class_fits.class_joining.table.EnableTable.class_of.Goals as goal

pub returns-in-Some-clause-here : goal.returns-in-Some-clause-here
returns-in-Some-clause-here c =
    subst (λ (es : List ((ℕ × ℕ) × ℕ)). Contains es ((c.args.enable.0, c.args.care.0), c.index.result.now)) c.self.view_is (entry_of c.self.inside.enables c.self.inside.classes.items c.self.invariant c.in-Some.number (c.args.enable.0, c.args.care.0) c.index.result.now (c.in-Some.ensures.here) c.index.ensures)

pub returns-in-None-clause-absent : goal.returns-in-None-clause-absent
returns-in-None-clause-absent c =
    subst (λ (es : List ((ℕ × ℕ) × ℕ)). Contains (map (λ e. e.0) es) (c.args.enable.0, c.args.care.0) → ⊥) c.self.view_is (no_entry c.self.inside.enables c.self.inside.classes.items c.self.invariant (c.args.enable.0, c.args.care.0) c.in-None.ensures.absent)
