-- The search goes over the table's own keys and places.
use Rattle.std.proofs.Common.{ℕ, List, sym, subst}
use Rattle.base_tables.specs.unique_table.Places.{IsTable}
use Rattle.base_tables.proofs.unique_table.table.UniqueTable.find.Goals as goal

pub number_of-requires : goal.number_of-requires
number_of-requires g c =
    subst (λ (ss : List ℕ). IsTable g.K.Key.place_at c.self.inside.tries c.as_slice.result.now ss) (sym c.as_slice-2.ensures.value)
    (subst (λ (ks : List g.row.K.Denot). IsTable g.K.Key.place_at c.self.inside.tries ks c.self.inside.slots.items) (sym c.as_slice.ensures.value) c.self.invariant)
