-- There are as many entries as places.
use Rattle.std.proofs.Common.{length, ap, arith}
use Rattle.aig.proofs.graph_copy.Entries.{entries_length}
use Rattle.aig.proofs.graph_copy.memo.Memo.len.Goals as goal

pub returns : goal.returns
returns c = omega (arith, c.len.ensures, entries_length c.self.inside.places c.self.inside.lits.items c.self.invariant, ap length c.self.view_is)
