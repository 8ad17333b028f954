use Rattle.std.proofs.Common.{◌≡◌, ◌∙◌, ◌<◌, ℕ, List, take, length, slice_get, Some, refl, ap, subst, arith}
use Rattle.std.proofs.lemmas.Option.{slice_get_within}
use Rattle.base_tables.specs.Table.{is_among}
use Rattle.flat_net.specs.Makes.{MakerView, with_input}
use Rattle.flat_net.specs.View.{NetView}
use Rattle.net_names.specs.Fronts.{front}
use Rattle.net_names.proofs.Copies.{drivers_taken, fresh, input_step, item_at}
use Rattle.net_names.proofs.copying.add_inputs.Goals as goal

pub input-requires-clause-room : goal.input-requires-clause-room
input-requires-clause-room c =
    let n = c.args.original.now in
    let i = c.loop-port.port-index in
    let at = item_at n.inputs _ i c.port-item.result c.inputs-port-items.ensures c.loop-port-test.true c.port-item.is in
    let within = slice_get_within n.inputs i c.port-item.result at in
    let low : i < length n.drivers = omega (arith, within, c.keeps.ensures.laid.whole) in
    let long = ap (λ (m : NetView). length m.drivers) c.loop-port.invariant.made ∙ drivers_taken n c.keeps.ensures.sound i low in
    omega (arith, low, long, c.keeps.ensures.sound.few)

pub input-requires-clause-new : goal.input-requires-clause-new
input-requires-clause-new c =
    let n = c.args.original.now in
    let i = c.loop-port.port-index in
    let at = item_at n.inputs _ i c.port-item.result c.inputs-port-items.ensures c.loop-port-test.true c.port-item.is in
    let named = subst (λ (k : ℕ). slice_get n.names k ≡ Some c.port-item.result.name) (c.keeps.ensures.laid.inputs i c.port-item.result at) (c.keeps.ensures.sound.inputs i c.port-item.result at).named in
    ap (λ (m : NetView). is_among m.names c.as_slice.result.now) c.loop-port.invariant.made ∙ ap (λ (w : List ℕ). is_among (take i n.names) w) c.as_slice.ensures
    ∙ fresh n c.keeps.ensures.sound i c.port-item.result.name named

pub loop-port-preserved : goal.loop-port-preserved
loop-port-preserved c =
    let n = c.args.original.now in
    let i = c.loop-port.port-index in
    let at = item_at n.inputs _ i c.port-item.result c.inputs-port-items.ensures c.loop-port-test.true c.port-item.is in
    let within = slice_get_within n.inputs i c.port-item.result at in
    record {
      made = ap (λ (m : MakerView). m.net) c.in_ok-input.ensures.ok ∙ ap (λ (m : NetView). with_input m c.as_slice.result.now) c.loop-port.invariant.made
          ∙ ap (λ (w : List ℕ). with_input (front n i 0 0 i) w) c.as_slice.ensures
          ∙ input_step n c.keeps.ensures.sound i i c.port-item.result at (c.keeps.ensures.laid.inputs i c.port-item.result at) refl;
      few = omega (arith, within);
    }
