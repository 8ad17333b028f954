-- The entry with the number has its place and a literal.
use Rattle.std.proofs.Common.{◌≡◌, ℕ, List, length, slice_get, Some, ap, subst, arith}
use Rattle.aig.specs.declared.node.Lit.{Lit}
use Rattle.aig.proofs.graph_copy.Entries.{entry_at, entries_length}
use Rattle.aig.proofs.graph_copy.memo.Memo.place.Goals as goal

pub overflow_cast-number : goal.overflow_cast-number
overflow_cast-number c = omega (arith, c.requires, c.keeps.ensures.few, entries_length c.self.inside.places c.self.inside.lits.items c.self.invariant, ap length c.self.view_is)

pub key-requires : goal.key-requires
key-requires c = omega (arith, c.requires, entries_length c.self.inside.places c.self.inside.lits.items c.self.invariant, ap length c.self.view_is)

pub returns : goal.returns
returns c =
    subst (λ (es : List ((ℕ × ℕ) × Lit)). (x : Lit) × (slice_get es c.args.number ≡ Some (c.key.result, x))) c.self.view_is (entry_at c.self.inside.places c.self.inside.lits.items c.self.invariant c.args.number c.key.result (record { 0 = 0 }) c.key.ensures)
