use Rattle.std.proofs.Common.{◌≡◌, ◌<◌, ◌≤◌, ℕ, List, false, length, take, get_or, arith, sym, ◌∙◌, ap, subst}
use Rattle.std.proofs.lemmas.List.{take_all}
use Rattle.base_tables.specs.Table.{is_among}
use Rattle.flat_net.specs.Makes.{with_input}
use Rattle.net_assembly.specs.Built.{IsBuilt, unclocked, with_inputs}
use Rattle.net_assembly.proofs.Building.{input_at, input_within, name_in, input_fresh, inputs_take, room_for, new_name}
use Rattle.net_assembly.proofs.Begun.{inputs_pass}
use Rattle.flatten.proofs.assemble.Assembly.add_inputs.Goals as goal

pub add_input-requires-clause-room : goal.add_input-requires-clause-room
add_input-requires-clause-room c =
    let at = input_at c.args.flat.now.inputs c.as_slice-input-items.result.now c.loop-input.input-index c.as_slice-input-items.ensures c.loop-input-test.true in
    let l = input_within c.args.flat.now.names c.args.flat.now.inputs c.loop-input.input-index (get_or c.as_slice-input-items.result.now c.loop-input.input-index 0) at c.args.flat.now.inputs_within in
    let has = c.loop-input.invariant.0 in
    let free = sym c.is_clock.ensures ∙ c.if-is_clock.false in
    room_for c.args.flat.now.names (unclocked c.args.clock (take c.loop-input.input-index c.args.flat.now.inputs)) c.loop-input.self.maker.net c.loop-input.self.signals.items has.built (get_or c.as_slice-input-items.result.now c.loop-input.input-index 0) l (input_fresh c.args.flat.now.names c.args.clock c.args.flat.now.inputs c.args.self.now.maker c.loop-input.self.maker c.loop-input.self.signals.items c.loop-input.input-index (get_or c.as_slice-input-items.result.now c.loop-input.input-index 0) at has free c.requires.distinct) (omega arith)

pub add_input-requires-clause-new : goal.add_input-requires-clause-new
add_input-requires-clause-new c =
    let at = input_at c.args.flat.now.inputs c.as_slice-input-items.result.now c.loop-input.input-index c.as_slice-input-items.ensures c.loop-input-test.true in
    let l = input_within c.args.flat.now.names c.args.flat.now.inputs c.loop-input.input-index (get_or c.as_slice-input-items.result.now c.loop-input.input-index 0) at c.args.flat.now.inputs_within in
    let has = c.loop-input.invariant.0 in
    let free = sym c.is_clock.ensures ∙ c.if-is_clock.false in
    subst (λ word. is_among c.loop-input.self.maker.net.names word ≡ false) (name_in c.args.flat.now.names (get_or c.as_slice-input-items.result.now c.loop-input.input-index 0) c.name.result.now c.name.ensures)
    (new_name c.args.flat.now.names (unclocked c.args.clock (take c.loop-input.input-index c.args.flat.now.inputs)) c.loop-input.self.maker.net c.loop-input.self.signals.items has.built (get_or c.as_slice-input-items.result.now c.loop-input.input-index 0) l (input_fresh c.args.flat.now.names c.args.clock c.args.flat.now.inputs c.args.self.now.maker c.loop-input.self.maker c.loop-input.self.signals.items c.loop-input.input-index (get_or c.as_slice-input-items.result.now c.loop-input.input-index 0) at has free c.requires.distinct) c.args.flat.now.distinct)

pub loop-input-preserved : goal.loop-input-preserved
loop-input-preserved c =
    let at = input_at c.args.flat.now.inputs c.as_slice-input-items.result.now c.loop-input.input-index c.as_slice-input-items.ensures c.loop-input-test.true in
    let l = input_within c.args.flat.now.names c.args.flat.now.inputs c.loop-input.input-index (get_or c.as_slice-input-items.result.now c.loop-input.input-index 0) at c.args.flat.now.inputs_within in
    let has = c.loop-input.invariant.0 in
    let free = sym c.is_clock.ensures ∙ c.if-is_clock.false in (
      inputs_take c.args.flat.now.names c.args.clock c.args.flat.now.inputs c.args.self.now.maker c.loop-input.self.maker c.loop-input.self.signals.items c.loop-input.input-index (get_or c.as_slice-input-items.result.now c.loop-input.input-index 0) at has free c.requires.distinct l c.add_input.new.self.maker c.add_input.new.self.signals.items
          (c.in_ok-add_input.ensures.net ∙ ap (λ word. record c.loop-input.self.maker { net = with_input c.loop-input.self.maker.net word }) (sym (name_in c.args.flat.now.names (get_or c.as_slice-input-items.result.now c.loop-input.input-index 0) c.name.result.now c.name.ensures)))
          c.in_ok-add_input.ensures.signals,
      c.in_ok-add_input.ensures.covers ∙ c.loop-input.invariant.1,
    )

pub loop-input-preserved-then-is_clock : goal.loop-input-preserved-then-is_clock
loop-input-preserved-then-is_clock c =
    let at = input_at c.args.flat.now.inputs c.as_slice-input-items.result.now c.loop-input.input-index c.as_slice-input-items.ensures c.loop-input-test.true in (
      inputs_pass c.args.flat.now.names c.args.clock c.args.flat.now.inputs c.args.self.now.maker c.loop-input.self.maker c.loop-input.self.signals.items c.loop-input.input-index (get_or c.as_slice-input-items.result.now c.loop-input.input-index 0) at (sym c.is_clock.ensures ∙ c.if-is_clock.true) c.loop-input.invariant.0,
      c.loop-input.invariant.1,
    )

pub returns-clause-built : goal.returns-clause-built
returns-clause-built c =
    let past = subst (λ (ns : List ℕ). length ns ≤ c.loop-input.input-index) c.as_slice-input-items.ensures c.loop-input-test.false in
    subst (λ (ns : List ℕ). IsBuilt c.args.flat.now.names (unclocked c.args.clock ns) c.loop-input.self.maker.net c.loop-input.self.signals.items) (take_all c.loop-input.input-index c.args.flat.now.inputs past) c.loop-input.invariant.0.built

pub name-requires : goal.name-requires
name-requires c =
    let at = input_at c.args.flat.now.inputs c.as_slice-input-items.result.now c.loop-input.input-index c.as_slice-input-items.ensures c.loop-input-test.true in
    let l = input_within c.args.flat.now.names c.args.flat.now.inputs c.loop-input.input-index (get_or c.as_slice-input-items.result.now c.loop-input.input-index 0) at c.args.flat.now.inputs_within in
    l

pub add_input-requires-clause-number : goal.add_input-requires-clause-number
add_input-requires-clause-number c =
    let at = input_at c.args.flat.now.inputs c.as_slice-input-items.result.now c.loop-input.input-index c.as_slice-input-items.ensures c.loop-input-test.true in
    let l = input_within c.args.flat.now.names c.args.flat.now.inputs c.loop-input.input-index (get_or c.as_slice-input-items.result.now c.loop-input.input-index 0) at c.args.flat.now.inputs_within in
    subst (λ (k : ℕ). get_or c.as_slice-input-items.result.now c.loop-input.input-index 0 < k) (sym c.loop-input.invariant.0.built.size) l

pub returns-clause-net : goal.returns-clause-net
returns-clause-net c =
    let before = c.args.self.now.maker in
    let past = subst (λ (ns : List ℕ). length ns ≤ c.loop-input.input-index) c.as_slice-input-items.ensures c.loop-input-test.false in
    c.loop-input.invariant.0.net ∙ ap (λ (ns : List ℕ). record before { net = with_inputs c.args.flat.now.names (unclocked c.args.clock ns) before.net }) (take_all c.loop-input.input-index c.args.flat.now.inputs past)
