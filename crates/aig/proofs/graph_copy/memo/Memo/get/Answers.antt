-- What the table finds has an entry, and it finds each place.
use Rattle.std.proofs.Common.{ℕ, List, map, subst, Contains}
use Rattle.aig.specs.declared.node.Lit.{Lit}
use Rattle.aig.proofs.graph_copy.Entries.{no_entry, entry_of}
use Rattle.aig.proofs.graph_copy.memo.Memo.get.Goals as goal

pub returns-in-Some-clause-here : goal.returns-in-Some-clause-here
returns-in-Some-clause-here c =
    subst (λ (es : List ((ℕ × ℕ) × Lit)). Contains es (c.args.place, c.index.result.now)) c.self.view_is (entry_of c.self.inside.places c.self.inside.lits.items c.self.invariant c.in-Some.number c.args.place c.index.result.now (c.in-Some.ensures.here) c.index.ensures)

pub returns-in-None-clause-absent : goal.returns-in-None-clause-absent
returns-in-None-clause-absent c =
    subst (λ (es : List ((ℕ × ℕ) × Lit)). Contains (map (λ e. e.0) es) c.args.place → ⊥) c.self.view_is (no_entry c.self.inside.places c.self.inside.lits.items c.self.invariant c.args.place c.in-None.ensures.absent)
