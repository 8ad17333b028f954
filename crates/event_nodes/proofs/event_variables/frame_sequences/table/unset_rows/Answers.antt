-- One row more, and all of them.
use Rattle.std.proofs.Common.{arith, ◌≡◌, length, false, Vec, Bool, sym, ap, subst}
use Rattle.event_nodes.proofs.event_variables.frame_sequences.Filling.{unset_are}
use Rattle.std.specs.Prelude.{replicate}
use Rattle.std.specs.List.{All}
use Rattle.std.specs.declared.alloc.Global.{Global}
use Rattle.std.proofs.lemmas.List.Elements.{All-push}
use Rattle.event_nodes.proofs.event_variables.flat_net.Growth.{length-push}
use Rattle.event_nodes.proofs.event_variables.frame_sequences.table.unset_rows.Goals as goal

pub returns : goal.returns
returns c = unset_are c.args.last c.args.count c.loop.rows.items (omega (arith, c.loop.invariant.long, c.loop-test.false)) c.loop.invariant.unset

pub loop-preserved : goal.loop-preserved
loop-preserved c =
    let row = c.in_ok-row.row in
    let unset : Vec Bool Global → Type 0 = λ r. r.items ≡ replicate c.args.count false in
    record {
      long = omega (arith, ap length c.in_ok-push.ensures.items, length-push c.loop.rows.items row, c.loop.invariant.long);
      unset = subst (All unset) (sym c.in_ok-push.ensures.items) (All-push unset c.loop.rows.items row c.loop.invariant.unset (c.in_ok-row.ensures.items_if_clones_equal (λ y e. e)));
    }
