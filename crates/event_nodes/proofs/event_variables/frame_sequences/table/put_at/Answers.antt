-- The bit in its row, or in none.
use Rattle.std.proofs.Common.{◌≡◌, ◌∙◌, ◌-◌, ◌<◌, ◌≤◌, slice_get, Some, refl, sym, ap, arith, inl, inr}
use Rattle.std.proofs.lemmas.Option.{slice_get-get_or}
use Rattle.circuit_theory.specs.Frame.{always_node}
use Rattle.event_nodes.proofs.event_variables.frame_sequences.Filling.{put_past, put_one}
use Rattle.event_nodes.proofs.event_variables.frame_sequences.table.put_at.Goals as goal
use Rattle.event_nodes.proofs.event_variables.frame_sequences.table.put_at.Goals.{then-steps-last-via-then-steps-last, then-steps-last-via-else-steps-last+then-input-count}

pub returns-then-steps-last : goal.returns-then-steps-last
returns-then-steps-last c =
    elim c.then-steps-last.branch [
      | then-steps-last-via-then-steps-last w ↦ put_past c.args.last c.args.count c.args.steps (record { input = c.args.input; at = always_node c.args.steps }) c.args.bit c.args.rows.now.items refl (let l : c.args.last < c.args.steps = omega (arith, w.if-steps-last.true) in inl l)
      | then-steps-last-via-else-steps-last+then-input-count w ↦ put_past c.args.last c.args.count c.args.steps (record { input = c.args.input; at = always_node c.args.steps }) c.args.bit c.args.rows.now.items refl (let l : c.args.count ≤ c.args.input = omega (arith, w.if-input-count.true) in inr l)
    ]

pub put_bit-requires : goal.put_bit-requires
put_bit-requires c =
    let at : slice_get c.args.rows.now.items (c.args.last - c.args.steps) ≡ Some c.index_mut.result.now =
    slice_get-get_or c.args.rows.now.items (c.args.last - c.args.steps) c.index_mut.result.now (omega (arith, c.requires.long)) ∙ ap Some (sym c.index_mut.ensures.value) in
    let long = c.requires.each (c.args.last - c.args.steps) c.index_mut.result.now at in
    omega (arith, long, c.if-input-count.false)

pub returns : goal.returns
returns c =
    let at : slice_get c.args.rows.now.items (c.args.last - c.args.steps) ≡ Some c.index_mut.result.now =
    slice_get-get_or c.args.rows.now.items (c.args.last - c.args.steps) c.index_mut.result.now (omega (arith, c.requires.long)) ∙ ap Some (sym c.index_mut.ensures.value) in
    put_one c.args.last c.args.count c.args.steps (record { input = c.args.input; at = always_node c.args.steps }) c.args.bit c.args.rows.now.items c.index_mut.result.now c.put_bit.new.row (omega (arith, c.if-steps-last.false)) (omega (arith, c.if-input-count.false)) refl at c.put_bit.ensures
