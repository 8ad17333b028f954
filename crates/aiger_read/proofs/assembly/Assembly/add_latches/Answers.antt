use Rattle.std.proofs.Common.{◌∙◌, ◌≤◌, ◌∷◌, [], ℕ, List, take, length, get_or, Some, refl, sym, ap, subst, arith}
use Rattle.std.proofs.lemmas.List.{length-append, take_all}
use Rattle.sec_base.specs.declared.basics.Init.{Init}
use Rattle.flat_net.specs.Makes.{MakerView, with_latch}
use Rattle.aiger_read.specs.declared.aiger_records.record.Record.{Record}
use Rattle.aiger_read.specs.declared.aiger_records.record.Record.TheVariants.{Input, Latch}
use Rattle.aiger_read.specs.aiger_file.Names.{name_of}
use Rattle.aiger_read.specs.aiger_file.aiger_graph.Circuit.{LatchLine, latch_of, input_literals, latches_in}
use Rattle.aiger_read.specs.Made.{IsMade}
use Rattle.aiger_read.proofs.LiteralLists.{kept_more, kept_same}
use Rattle.aiger_read.proofs.Making.{record_there, no_latch, room, next_low, fresh, latch_next, latch_named, made_latch}
use Rattle.aiger_read.proofs.assembly.Assembly.add_latches.Goals as goal

pub add_latch-requires-clause-room : goal.add_latch-requires-clause-room
add_latch-requires-clause-room c =
    let k = c.loop-found.found-index in
    let line : LatchLine = record { literal = c.in-Latch.literal; next = c.in-Latch.next; reset = c.in-Latch.reset } in
    let at = record_there c.args.plan.now.file.now.records c.as_slice-found-items.result.now c.loop-found.found-index c.as_slice-found-items.ensures c.loop-found-test.true ∙ ap Some c.in-Latch.is in
    let next = latch_next c.args.plan.now.file.now c.args.plan.now.graph.now c.args.plan.now.order.now c.requires.plan k line (Latch line.literal line.next line.reset) c.loop-found.self.maker.net at refl c.loop-found.invariant.made.count in
    room c.args.plan.now.file.now c.args.plan.now.graph.now c.args.plan.now.order.now c.requires.plan (length c.loop-found.self.maker.net.drivers) line.literal next

pub add_latch-requires-clause-literal : goal.add_latch-requires-clause-literal
add_latch-requires-clause-literal c =
    let k = c.loop-found.found-index in
    let line : LatchLine = record { literal = c.in-Latch.literal; next = c.in-Latch.next; reset = c.in-Latch.reset } in
    let at = record_there c.args.plan.now.file.now.records c.as_slice-found-items.result.now c.loop-found.found-index c.as_slice-found-items.ensures c.loop-found-test.true ∙ ap Some c.in-Latch.is in
    let next = latch_next c.args.plan.now.file.now c.args.plan.now.graph.now c.args.plan.now.order.now c.requires.plan k line (Latch line.literal line.next line.reset) c.loop-found.self.maker.net at refl c.loop-found.invariant.made.count in
    let low = next_low c.args.plan.now.file.now c.args.plan.now.graph.now c.args.plan.now.order.now c.requires.plan (length c.loop-found.self.maker.net.drivers) line.literal next in
    omega (arith, low, c.loop-found.invariant.made.size)

pub add_latch-requires-clause-new : goal.add_latch-requires-clause-new
add_latch-requires-clause-new c =
    let k = c.loop-found.found-index in
    let line : LatchLine = record { literal = c.in-Latch.literal; next = c.in-Latch.next; reset = c.in-Latch.reset } in
    let at = record_there c.args.plan.now.file.now.records c.as_slice-found-items.result.now c.loop-found.found-index c.as_slice-found-items.ensures c.loop-found-test.true ∙ ap Some c.in-Latch.is in
    let next = latch_next c.args.plan.now.file.now c.args.plan.now.graph.now c.args.plan.now.order.now c.requires.plan k line (Latch line.literal line.next line.reset) c.loop-found.self.maker.net at refl c.loop-found.invariant.made.count in
    let name = c.as_slice.ensures.value ∙ c.in_ok-name.ensures ∙ ap (λ (n : ℕ). name_of c.args.plan.now.file.now.symbols 108 n) c.loop-found.invariant.count in
    let own = name ∙ sym (latch_named c.args.plan.now.file.now c.args.plan.now.graph.now c.args.plan.now.order.now c.requires.plan k line (Latch line.literal line.next line.reset) at refl) in
    fresh c.args.plan.now.file.now c.args.plan.now.graph.now c.args.plan.now.order.now c.requires.plan c.loop-found.self.maker.net line.literal c.as_slice.result.now c.loop-found.invariant.made.names_are next own

pub loop-found-preserved : goal.loop-found-preserved
loop-found-preserved c =
    let k = c.loop-found.found-index in
    let line : LatchLine = record { literal = c.in-Latch.literal; next = c.in-Latch.next; reset = c.in-Latch.reset } in
    let at = record_there c.args.plan.now.file.now.records c.as_slice-found-items.result.now c.loop-found.found-index c.as_slice-found-items.ensures c.loop-found-test.true ∙ ap Some c.in-Latch.is in
    let next = latch_next c.args.plan.now.file.now c.args.plan.now.graph.now c.args.plan.now.order.now c.requires.plan k line (Latch line.literal line.next line.reset) c.loop-found.self.maker.net at refl c.loop-found.invariant.made.count in
    let more = kept_more latch_of c.args.plan.now.file.now.records k (Latch line.literal line.next line.reset) line at refl in
    let name = c.as_slice.ensures.value ∙ c.in_ok-name.ensures ∙ ap (λ (n : ℕ). name_of c.args.plan.now.file.now.symbols 108 n) c.loop-found.invariant.count in
    let own = name ∙ sym (latch_named c.args.plan.now.file.now c.args.plan.now.graph.now c.args.plan.now.order.now c.requires.plan k line (Latch line.literal line.next line.reset) at refl) in
    let made = made_latch c.args.plan.now.file.now c.args.plan.now.graph.now c.args.plan.now.order.now c.requires.plan (input_literals c.args.plan.now.file.now.records) (latches_in (take k c.args.plan.now.file.now.records)) line c.as_slice.result.now c.loop-found.self.maker.net c.add_latch.new.self.maker.net c.loop-found.self.signals.items c.add_latch.new.self.signals.items
    c.loop-found.invariant.made next name own
    (ap (λ (m : MakerView). m.net) c.in_ok-add_latch.ensures.net ∙ ap (λ (i : Init). with_latch c.loop-found.self.maker.net c.as_slice.result.now i) c.init_of.ensures) c.in_ok-add_latch.ensures.signals in
    record {
      made = subst (λ (ls : List LatchLine). IsMade c.args.plan.now.file.now c.args.plan.now.order.now (input_literals c.args.plan.now.file.now.records) ls [] [] c.add_latch.new.self.maker.net c.add_latch.new.self.signals.items) (sym more) made;
      count = omega (arith, c.loop-found.invariant.count, ap length more, length-append (latches_in (take k c.args.plan.now.file.now.records)) (line ∷ []));
    }

pub loop-found-preserved-in_default : goal.loop-found-preserved-in_default
loop-found-preserved-in_default c =
    let k = c.loop-found.found-index in
    let same = kept_same latch_of c.args.plan.now.file.now.records k (get_or c.as_slice-found-items.result.now c.loop-found.found-index (Input 0)) (record_there c.args.plan.now.file.now.records c.as_slice-found-items.result.now c.loop-found.found-index c.as_slice-found-items.ensures c.loop-found-test.true) (no_latch (get_or c.as_slice-found-items.result.now c.loop-found.found-index (Input 0)) (λ l n s e. c.in_default.not-Latch l n s e)) in
    record {
      made = subst (λ (ls : List LatchLine). IsMade c.args.plan.now.file.now c.args.plan.now.order.now (input_literals c.args.plan.now.file.now.records) ls [] [] c.loop-found.self.maker.net c.loop-found.self.signals.items) (sym same) c.loop-found.invariant.made;
      count = c.loop-found.invariant.count ∙ ap length (sym same);
    }

pub overflow_add-number : goal.overflow_add-number
overflow_add-number c =
    let k = c.loop-found.found-index in
    let line : LatchLine = record { literal = c.in-Latch.literal; next = c.in-Latch.next; reset = c.in-Latch.reset } in
    let at = record_there c.args.plan.now.file.now.records c.as_slice-found-items.result.now c.loop-found.found-index c.as_slice-found-items.ensures c.loop-found-test.true ∙ ap Some c.in-Latch.is in
    let next = latch_next c.args.plan.now.file.now c.args.plan.now.graph.now c.args.plan.now.order.now c.requires.plan k line (Latch line.literal line.next line.reset) c.loop-found.self.maker.net at refl c.loop-found.invariant.made.count in
    let few = room c.args.plan.now.file.now c.args.plan.now.graph.now c.args.plan.now.order.now c.requires.plan (length c.loop-found.self.maker.net.drivers) line.literal next in
    omega (arith, few, c.loop-found.invariant.made.count, c.loop-found.invariant.count)

pub returns : goal.returns
returns c =
    let rs = c.args.plan.now.file.now.records in
    let past = subst (λ (rs : List Record). length rs ≤ c.loop-found.found-index) c.as_slice-found-items.ensures c.loop-found-test.false in
    subst (λ (rs : List Record). IsMade c.args.plan.now.file.now c.args.plan.now.order.now (input_literals c.args.plan.now.file.now.records) (latches_in rs) [] [] c.loop-found.self.maker.net c.loop-found.self.signals.items) (take_all c.loop-found.found-index rs past) c.loop-found.invariant.made
