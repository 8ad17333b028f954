use Rattle.std.proofs.Common.{◌∙◌, ◌≤◌, ◌∷◌, [], ℕ, List, take, length, get_or, Some, refl, sym, ap, subst, arith}
use Rattle.flat_net.specs.Makes.{MakerView}
use Rattle.aiger_read.specs.declared.aiger_records.record.Record.{Record}
use Rattle.aiger_read.specs.declared.aiger_records.record.Record.TheVariants.{Input}
use Rattle.aiger_read.specs.aiger_file.aiger_graph.Circuit.{input_of, input_literals}
use Rattle.std.proofs.lemmas.List.{length-append, take_all}
use Rattle.aiger_read.specs.aiger_file.Names.{name_of}
use Rattle.aiger_read.specs.Made.{IsMade}
use Rattle.aiger_read.proofs.LiteralLists.{kept_more, kept_same}
use Rattle.aiger_read.proofs.Making.{record_there, no_input, room, next_low, fresh, input_next, input_named, made_input}
use Rattle.aiger_read.proofs.assembly.Assembly.add_inputs.Goals as goal

pub add_input-requires-clause-room : goal.add_input-requires-clause-room
add_input-requires-clause-room c =
    let k = c.loop-found.found-index in
    let at = record_there c.args.plan.now.file.now.records c.as_slice-found-items.result.now c.loop-found.found-index c.as_slice-found-items.ensures c.loop-found-test.true ∙ ap Some c.in-Input.is in
    let next = input_next c.args.plan.now.file.now c.args.plan.now.graph.now c.args.plan.now.order.now c.requires.plan k c.in-Input.literal (Input c.in-Input.literal) c.loop-found.self.maker.net at refl c.loop-found.invariant.made.count in
    room c.args.plan.now.file.now c.args.plan.now.graph.now c.args.plan.now.order.now c.requires.plan (length c.loop-found.self.maker.net.drivers) c.in-Input.literal next

pub add_input-requires-clause-literal : goal.add_input-requires-clause-literal
add_input-requires-clause-literal c =
    let k = c.loop-found.found-index in
    let at = record_there c.args.plan.now.file.now.records c.as_slice-found-items.result.now c.loop-found.found-index c.as_slice-found-items.ensures c.loop-found-test.true ∙ ap Some c.in-Input.is in
    let next = input_next c.args.plan.now.file.now c.args.plan.now.graph.now c.args.plan.now.order.now c.requires.plan k c.in-Input.literal (Input c.in-Input.literal) c.loop-found.self.maker.net at refl c.loop-found.invariant.made.count in
    let low = next_low c.args.plan.now.file.now c.args.plan.now.graph.now c.args.plan.now.order.now c.requires.plan (length c.loop-found.self.maker.net.drivers) c.in-Input.literal next in
    omega (arith, low, c.loop-found.invariant.made.size)

pub add_input-requires-clause-new : goal.add_input-requires-clause-new
add_input-requires-clause-new c =
    let k = c.loop-found.found-index in
    let at = record_there c.args.plan.now.file.now.records c.as_slice-found-items.result.now c.loop-found.found-index c.as_slice-found-items.ensures c.loop-found-test.true ∙ ap Some c.in-Input.is in
    let next = input_next c.args.plan.now.file.now c.args.plan.now.graph.now c.args.plan.now.order.now c.requires.plan k c.in-Input.literal (Input c.in-Input.literal) c.loop-found.self.maker.net at refl c.loop-found.invariant.made.count in
    let name = c.as_slice.ensures.value ∙ c.in_ok-name.ensures ∙ ap (λ (n : ℕ). name_of c.args.plan.now.file.now.symbols 105 n) c.loop-found.invariant.count in
    let own = name ∙ sym (input_named c.args.plan.now.file.now c.args.plan.now.graph.now c.args.plan.now.order.now c.requires.plan k c.in-Input.literal (Input c.in-Input.literal) at refl) in
    fresh c.args.plan.now.file.now c.args.plan.now.graph.now c.args.plan.now.order.now c.requires.plan c.loop-found.self.maker.net c.in-Input.literal c.as_slice.result.now c.loop-found.invariant.made.names_are next own

pub loop-found-preserved : goal.loop-found-preserved
loop-found-preserved c =
    let k = c.loop-found.found-index in
    let at = record_there c.args.plan.now.file.now.records c.as_slice-found-items.result.now c.loop-found.found-index c.as_slice-found-items.ensures c.loop-found-test.true ∙ ap Some c.in-Input.is in
    let next = input_next c.args.plan.now.file.now c.args.plan.now.graph.now c.args.plan.now.order.now c.requires.plan k c.in-Input.literal (Input c.in-Input.literal) c.loop-found.self.maker.net at refl c.loop-found.invariant.made.count in
    let more = kept_more input_of c.args.plan.now.file.now.records k (Input c.in-Input.literal) c.in-Input.literal at refl in
    let name = c.as_slice.ensures.value ∙ c.in_ok-name.ensures ∙ ap (λ (n : ℕ). name_of c.args.plan.now.file.now.symbols 105 n) c.loop-found.invariant.count in
    let own = name ∙ sym (input_named c.args.plan.now.file.now c.args.plan.now.graph.now c.args.plan.now.order.now c.requires.plan k c.in-Input.literal (Input c.in-Input.literal) at refl) in
    let made = made_input c.args.plan.now.file.now c.args.plan.now.graph.now c.args.plan.now.order.now c.requires.plan (input_literals (take k c.args.plan.now.file.now.records)) c.in-Input.literal c.as_slice.result.now c.loop-found.self.maker.net c.add_input.new.self.maker.net c.loop-found.self.signals.items c.add_input.new.self.signals.items
    c.loop-found.invariant.made next name own (ap (λ (m : MakerView). m.net) c.in_ok-add_input.ensures.net) c.in_ok-add_input.ensures.signals in
    record {
      made = subst (λ (ls : List ℕ). IsMade c.args.plan.now.file.now c.args.plan.now.order.now ls [] [] [] c.add_input.new.self.maker.net c.add_input.new.self.signals.items) (sym more) made;
      count = omega (arith, c.loop-found.invariant.count, ap length more, length-append (input_literals (take k c.args.plan.now.file.now.records)) (c.in-Input.literal ∷ []));
    }

pub loop-found-preserved-in_default : goal.loop-found-preserved-in_default
loop-found-preserved-in_default c =
    let k = c.loop-found.found-index in
    let same = kept_same input_of c.args.plan.now.file.now.records k (get_or c.as_slice-found-items.result.now c.loop-found.found-index (Input 0)) (record_there c.args.plan.now.file.now.records c.as_slice-found-items.result.now c.loop-found.found-index c.as_slice-found-items.ensures c.loop-found-test.true) (no_input (get_or c.as_slice-found-items.result.now c.loop-found.found-index (Input 0)) (λ l e. c.in_default.not-Input l e)) in
    record {
      made = subst (λ (ls : List ℕ). IsMade c.args.plan.now.file.now c.args.plan.now.order.now ls [] [] [] c.loop-found.self.maker.net c.loop-found.self.signals.items) (sym same) c.loop-found.invariant.made;
      count = c.loop-found.invariant.count ∙ ap length (sym same);
    }

pub overflow_add-number : goal.overflow_add-number
overflow_add-number c =
    let k = c.loop-found.found-index in
    let at = record_there c.args.plan.now.file.now.records c.as_slice-found-items.result.now c.loop-found.found-index c.as_slice-found-items.ensures c.loop-found-test.true ∙ ap Some c.in-Input.is in
    let next = input_next c.args.plan.now.file.now c.args.plan.now.graph.now c.args.plan.now.order.now c.requires.plan k c.in-Input.literal (Input c.in-Input.literal) c.loop-found.self.maker.net at refl c.loop-found.invariant.made.count in
    let few = room c.args.plan.now.file.now c.args.plan.now.graph.now c.args.plan.now.order.now c.requires.plan (length c.loop-found.self.maker.net.drivers) c.in-Input.literal next in
    omega (arith, few, c.loop-found.invariant.made.count, c.loop-found.invariant.count)

pub returns : goal.returns
returns c =
    let rs = c.args.plan.now.file.now.records in
    let past = subst (λ (rs : List Record). length rs ≤ c.loop-found.found-index) c.as_slice-found-items.ensures c.loop-found-test.false in
    subst (λ (rs : List Record). IsMade c.args.plan.now.file.now c.args.plan.now.order.now (input_literals rs) [] [] [] c.loop-found.self.maker.net c.loop-found.self.signals.items) (take_all c.loop-found.found-index rs past) c.loop-found.invariant.made
