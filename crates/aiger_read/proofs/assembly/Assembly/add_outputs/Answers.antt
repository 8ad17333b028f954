use Rattle.std.proofs.Common.{◌≡◌, ◌∙◌, ◌∷◌, ◌<◌, ◌≤◌, [], ℕ, List, take, length, get_or, Some, refl, sym, ap, subst, arith}
use Rattle.std.proofs.lemmas.List.{length-append, take_all}
use Rattle.std.specs.List.{filter}
use Rattle.aiger_read.specs.Signals.{is_gate}
use Rattle.flat_net.specs.declared.signals.Signal.{Signal}
use Rattle.flat_net.specs.Makes.{MakerView, with_output}
use Rattle.aiger_read.proofs.aiger_file.aiger_graph.net_assembly.Nexts.{read_at}
use Rattle.aiger_read.specs.declared.aiger_records.record.Record.{Record}
use Rattle.aiger_read.specs.declared.aiger_records.record.Record.TheVariants.{Input, Output}
use Rattle.aiger_read.specs.aiger_file.Names.{name_of}
use Rattle.aiger_read.specs.aiger_file.aiger_graph.Circuit.{output_of, input_literals, latches_in, output_literals}
use Rattle.aiger_read.specs.Made.{HasOutputs}
use Rattle.aiger_read.proofs.LiteralLists.{kept_more, kept_same}
use Rattle.aiger_read.proofs.Making.{record_there, no_output, made_output}
use Rattle.aiger_read.proofs.Nexts.{output_spot, output_low, output_few}
use Rattle.aiger_read.proofs.assembly.Assembly.add_outputs.Goals as goal

pub index-signal-requires : goal.index-signal-requires
index-signal-requires c =
    let k = c.loop-found.found-index in
    let at = record_there c.args.plan.now.file.now.records c.as_slice-found-items.result.now k c.as_slice-found-items.ensures c.loop-found-test.true ∙ ap Some c.in-Output.is in
    let low = output_low c.args.plan.now.file.now c.args.plan.now.graph.now c.args.plan.now.order.now c.requires.plan (output_literals (take k c.args.plan.now.file.now.records)) c.loop-found.self.maker.net c.loop-found.self.signals.items c.loop-found.invariant.made k c.in-Output.literal at in
    omega (arith, low)

pub output-requires : goal.output-requires
output-requires c =
    let k = c.loop-found.found-index in
    let at = record_there c.args.plan.now.file.now.records c.as_slice-found-items.result.now k c.as_slice-found-items.ensures c.loop-found-test.true ∙ ap Some c.in-Output.is in
    let x = output_spot c.args.plan.now.file.now c.args.plan.now.graph.now c.args.plan.now.order.now c.requires.plan (output_literals (take k c.args.plan.now.file.now.records)) c.loop-found.self.maker.net c.loop-found.self.signals.items c.loop-found.invariant.made k c.in-Output.literal at in
    let low = output_low c.args.plan.now.file.now c.args.plan.now.graph.now c.args.plan.now.order.now c.requires.plan (output_literals (take k c.args.plan.now.file.now.records)) c.loop-found.self.maker.net c.loop-found.self.signals.items c.loop-found.invariant.made k c.in-Output.literal at in
    let is : c.index-signal.result.now ≡ record { 0 = x.0 } = sym (read_at c.loop-found.self.signals.items c.loop-found.self.signals.items c.in-Output.literal c.index-signal.result.now refl low c.index-signal.ensures) ∙ x.3 in
    subst (λ (s : Signal). s.0 < length c.loop-found.self.maker.net.drivers) (sym is) x.2

pub loop-found-preserved : goal.loop-found-preserved
loop-found-preserved c =
    let k = c.loop-found.found-index in
    let at = record_there c.args.plan.now.file.now.records c.as_slice-found-items.result.now k c.as_slice-found-items.ensures c.loop-found-test.true ∙ ap Some c.in-Output.is in
    let x = output_spot c.args.plan.now.file.now c.args.plan.now.graph.now c.args.plan.now.order.now c.requires.plan (output_literals (take k c.args.plan.now.file.now.records)) c.loop-found.self.maker.net c.loop-found.self.signals.items c.loop-found.invariant.made k c.in-Output.literal at in
    let low = output_low c.args.plan.now.file.now c.args.plan.now.graph.now c.args.plan.now.order.now c.requires.plan (output_literals (take k c.args.plan.now.file.now.records)) c.loop-found.self.maker.net c.loop-found.self.signals.items c.loop-found.invariant.made k c.in-Output.literal at in
    let is : c.index-signal.result.now ≡ record { 0 = x.0 } = sym (read_at c.loop-found.self.signals.items c.loop-found.self.signals.items c.in-Output.literal c.index-signal.result.now refl low c.index-signal.ensures) ∙ x.3 in
    let more = kept_more output_of c.args.plan.now.file.now.records k (Output c.in-Output.literal) c.in-Output.literal at refl in
    let name = c.as_slice.ensures.value ∙ c.in_ok-name.ensures ∙ ap (λ (n : ℕ). name_of c.args.plan.now.file.now.symbols 111 n) c.loop-found.invariant.count in
    let made = made_output c.args.plan.now.file.now c.args.plan.now.graph.now c.args.plan.now.order.now c.requires.plan (input_literals c.args.plan.now.file.now.records) (latches_in c.args.plan.now.file.now.records) (filter (is_gate c.args.plan.now.file.now.records) c.args.plan.now.order.now) (output_literals (take k c.args.plan.now.file.now.records)) c.in-Output.literal x.0 c.as_slice.result.now c.loop-found.self.maker.net c.output.new.self.net c.loop-found.self.signals.items
    c.loop-found.invariant.made x.1 name (ap (λ (m : MakerView). m.net) c.in_ok-output.ensures.ok ∙ ap (λ (s : Signal). with_output c.loop-found.self.maker.net c.as_slice.result.now s) is) in
    record {
      made = subst (λ (ls : List ℕ). HasOutputs c.args.plan.now.file.now c.args.plan.now.order.now ls c.output.new.self.net c.loop-found.self.signals.items) (sym more) made;
      count = omega (arith, c.loop-found.invariant.count, ap length more, length-append (output_literals (take k c.args.plan.now.file.now.records)) (c.in-Output.literal ∷ []));
    }

pub loop-found-preserved-in_default : goal.loop-found-preserved-in_default
loop-found-preserved-in_default c =
    let k = c.loop-found.found-index in
    let same = kept_same output_of c.args.plan.now.file.now.records k (get_or c.as_slice-found-items.result.now k (Input 0)) (record_there c.args.plan.now.file.now.records c.as_slice-found-items.result.now k c.as_slice-found-items.ensures c.loop-found-test.true) (no_output (get_or c.as_slice-found-items.result.now k (Input 0)) (λ l e. c.in_default.not-Output l e)) in
    record {
      made = subst (λ (ls : List ℕ). HasOutputs c.args.plan.now.file.now c.args.plan.now.order.now ls c.loop-found.self.maker.net c.loop-found.self.signals.items) (sym same) c.loop-found.invariant.made;
      count = c.loop-found.invariant.count ∙ ap length (sym same);
    }

pub overflow_add-number : goal.overflow_add-number
overflow_add-number c =
    let k = c.loop-found.found-index in
    let at = record_there c.args.plan.now.file.now.records c.as_slice-found-items.result.now k c.as_slice-found-items.ensures c.loop-found-test.true ∙ ap Some c.in-Output.is in
    let few = output_few c.args.plan.now.file.now c.args.plan.now.graph.now c.args.plan.now.order.now c.requires.plan k c.in-Output.literal at in
    omega (arith, few, c.loop-found.invariant.count)

pub returns : goal.returns
returns c =
    let rs = c.args.plan.now.file.now.records in
    let past = subst (λ (rs : List Record). length rs ≤ c.loop-found.found-index) c.as_slice-found-items.ensures c.loop-found-test.false in
    subst (λ (rs : List Record). HasOutputs c.args.plan.now.file.now c.args.plan.now.order.now (output_literals rs) c.loop-found.self.maker.net c.loop-found.self.signals.items) (take_all c.loop-found.found-index rs past) c.loop-found.invariant.made
