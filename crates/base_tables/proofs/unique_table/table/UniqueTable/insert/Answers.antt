-- A key that is found is among the keys.
use Rattle.std.proofs.Common.{refl}
use Rattle.base_tables.proofs.unique_table.Keys.{with-found}
use Rattle.base_tables.proofs.unique_table.table.UniqueTable.insert.Goals as goal

pub returns-in-Some-clause-ok : goal.returns-in-Some-clause-ok
returns-in-Some-clause-ok g c = with-found c.args.self.now c.args.key c.in-Some.number c.in-Some.ensures.here c.args.self.now refl
