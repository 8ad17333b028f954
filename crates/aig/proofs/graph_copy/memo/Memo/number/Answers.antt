-- The place that was met has the number that is found for it.
use Rattle.std.proofs.Common.{◌≡◌, ℕ, List, slice_get, Some, sym, subst, Contains}
use Rattle.aig.specs.declared.node.Lit.{Lit}
use Rattle.aig.proofs.graph_copy.Entries.{entry_at, entry_place}
use Rattle.aig.proofs.graph_copy.memo.Memo.number.Goals as goal

pub returns : goal.returns
returns c =
    subst (λ (es : List ((ℕ × ℕ) × Lit)). (x : Lit) × (slice_get es c.in-Some.number ≡ Some (c.args.place, x))) c.self.view_is (entry_at c.self.inside.places c.self.inside.lits.items c.self.invariant c.in-Some.number c.args.place (record { 0 = 0 }) c.in-Some.ensures.here)

pub unreachable-requires : goal.unreachable-requires
unreachable-requires c =
    c.in-None.ensures.absent (entry_place c.self.inside.places c.self.inside.lits.items c.self.invariant c.args.place c.requires.0 (subst (λ (es : List ((ℕ × ℕ) × Lit)). Contains es (c.args.place, c.requires.0)) (sym c.self.view_is) c.requires.1))
