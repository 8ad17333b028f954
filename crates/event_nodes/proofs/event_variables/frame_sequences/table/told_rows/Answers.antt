-- One row more is told.
use Rattle.std.proofs.Common.{◌∷◌, [], Vec, Bool}
use Rattle.std.proofs.lemmas.List.{map-append}
use Rattle.std.specs.declared.alloc.Global.{Global}
use Rattle.event_nodes.proofs.event_variables.frame_sequences.table.told_rows.Goals as goal

pub loop-row-preserved : goal.loop-row-preserved
loop-row-preserved c =
    let row = c.in-Some.row in
    cc (c.in_ok-push.ensures.ok, c.from_vec.ensures, c.loop-row.invariant, map-append (λ (r : Vec Bool Global). r.items) c.loop-row.yielded (row ∷ []))
