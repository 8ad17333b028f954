-- The new places hold the numbers of the same keys.
use Rattle.std.proofs.Common.{List, sym, subst, arith}
use Rattle.base_tables.specs.unique_table.Places.{IsTable, StandOnce}
use Rattle.base_tables.proofs.unique_table.table.UniqueTable.make_room.Goals as goal

pub filled-requires-clause-few : goal.filled-requires-clause-few
filled-requires-clause-few g c = omega (arith, c.as_slice.ensures.len, c.self.inside.keys.ok.0, c.self.invariant.few)

pub filled-requires-clause-once : goal.filled-requires-clause-once
filled-requires-clause-once g c = subst (λ (ks : List g.row.K.Denot). StandOnce ks) (sym c.as_slice.ensures.value) c.self.invariant.once

pub invariant_of-self : goal.invariant_of-self
invariant_of-self g c = subst (λ (ks : List g.row.K.Denot). IsTable g.K.Key.place_at c.self.inside.tries ks c.in_ok-slots.slots.items) c.as_slice.ensures.value c.in_ok-slots.ensures
