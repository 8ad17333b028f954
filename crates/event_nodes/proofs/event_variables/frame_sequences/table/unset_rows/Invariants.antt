use Rattle.std.proofs.Common.{◌≡◌, length, false, Vec, Bool}
use Rattle.std.specs.Prelude.{replicate}
use Rattle.std.specs.List.{All}
use Rattle.std.specs.declared.alloc.Global.{Global}
use Rattle.event_nodes.proofs.event_variables.frame_sequences.table.unset_rows.Given as goal

abbrev pub invariant-loop : goal.invariant-loop
invariant-loop l = record {
  long : length l.rows.items ≡ l.counter;
  unset : All (λ (row : Vec Bool Global). row.items ≡ replicate l.count false) l.rows.items;
}
