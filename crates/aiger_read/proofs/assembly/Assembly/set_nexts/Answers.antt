use Rattle.std.proofs.Common.{◌∙◌, List, take, length, get_or, slice_get, Some, refl, sym, ap, subst, arith}
use Rattle.flat_net.specs.declared.signals.Signal.{Signal}
use Rattle.flat_net.specs.View.{NetView}
use Rattle.aiger_read.specs.aiger_file.aiger_graph.net_assembly.Shown.{with_nexts}
use Rattle.aiger_read.proofs.aiger_file.aiger_graph.net_assembly.Nexts.{take_whole, read_at}
use Rattle.aiger_read.specs.declared.aiger_records.record.Record.{Record}
use Rattle.aiger_read.specs.declared.aiger_records.record.Record.TheVariants.{Input, Latch}
use Rattle.aiger_read.specs.aiger_file.aiger_graph.Circuit.{LatchLine, latch_of, latches_in, output_literals}
use Rattle.aiger_read.specs.Signals.{all_literals}
use Rattle.aiger_read.specs.Made.{nexts_of}
use Rattle.aiger_read.proofs.LiteralLists.{kept_more, kept_same}
use Rattle.aiger_read.proofs.Making.{record_there, no_latch}
use Rattle.aiger_read.proofs.Nexts.{HasNexts, nexts_start, nexts_more, nexts_done, next_spot, next_below, latch_below, latch_driver, latch_low}
use Rattle.aiger_read.proofs.assembly.Assembly.set_nexts.Goals as goal

pub loop-found-init : goal.loop-found-init
loop-found-init c = record { nexts = nexts_start c.args.self.now.signals.items c.args.self.now.maker; same = refl }

pub loop-found-preserved-in_default : goal.loop-found-preserved-in_default
loop-found-preserved-in_default c =
    let k = c.loop-found.found-index in
    let same = kept_same latch_of c.args.plan.now.file.now.records k (get_or c.as_slice-found-items.result.now k (Input 0)) (record_there c.args.plan.now.file.now.records c.as_slice-found-items.result.now k c.as_slice-found-items.ensures c.loop-found-test.true) (no_latch (get_or c.as_slice-found-items.result.now k (Input 0)) (λ l n s e. c.in_default.not-Latch l n s e)) in
    record {
      nexts = subst (λ (ls : List LatchLine). HasNexts c.args.self.now.signals.items ls c.args.self.now.maker c.loop-found.self.maker) (sym same) c.loop-found.invariant.nexts;
      same = c.loop-found.invariant.same;
    }

pub index-latch-requires : goal.index-latch-requires
index-latch-requires c =
    let k = c.loop-found.found-index in
    let line : LatchLine = record { literal = c.in-Latch.literal; next = c.in-Latch.next; reset = c.in-Latch.reset } in
    let at = record_there c.args.plan.now.file.now.records c.as_slice-found-items.result.now k c.as_slice-found-items.ensures c.loop-found-test.true ∙ ap Some c.in-Latch.is in
    let low = latch_below c.args.plan.now.file.now c.args.plan.now.graph.now c.args.plan.now.order.now c.requires.plan (output_literals c.args.plan.now.file.now.records) c.args.self.now.maker.net c.args.self.now.signals.items c.requires.made k line at in
    let e = ap length c.loop-found.invariant.same in
    omega (arith, low, e)

pub index-source-requires : goal.index-source-requires
index-source-requires c =
    let k = c.loop-found.found-index in
    let line : LatchLine = record { literal = c.in-Latch.literal; next = c.in-Latch.next; reset = c.in-Latch.reset } in
    let at = record_there c.args.plan.now.file.now.records c.as_slice-found-items.result.now k c.as_slice-found-items.ensures c.loop-found-test.true ∙ ap Some c.in-Latch.is in
    let low = next_below c.args.plan.now.file.now c.args.plan.now.graph.now c.args.plan.now.order.now c.requires.plan (output_literals c.args.plan.now.file.now.records) c.args.self.now.maker.net c.args.self.now.signals.items c.requires.made k line at in
    let e = ap length c.loop-found.invariant.same in
    omega (arith, low, e)

pub set_next-requires-clause-latch : goal.set_next-requires-clause-latch
set_next-requires-clause-latch c =
    let k = c.loop-found.found-index in
    let line : LatchLine = record { literal = c.in-Latch.literal; next = c.in-Latch.next; reset = c.in-Latch.reset } in
    let at = record_there c.args.plan.now.file.now.records c.as_slice-found-items.result.now k c.as_slice-found-items.ensures c.loop-found-test.true ∙ ap Some c.in-Latch.is in
    let latch = read_at c.loop-found.self.signals.items c.args.self.now.signals.items line.literal c.index-latch.result.now c.loop-found.invariant.same (latch_below c.args.plan.now.file.now c.args.plan.now.graph.now c.args.plan.now.order.now c.requires.plan (output_literals c.args.plan.now.file.now.records) c.args.self.now.maker.net c.args.self.now.signals.items c.requires.made k line at) c.index-latch.ensures in
    let count = length (latches_in (take k c.args.plan.now.file.now.records)) in
    let drives = ap (λ (n : NetView). slice_get n.drivers c.index-latch.result.now.0) c.loop-found.invariant.nexts.net ∙ ap (λ (x : Signal). slice_get c.args.self.now.maker.net.drivers x.0) (sym latch) ∙ latch_driver c.args.plan.now.file.now c.args.plan.now.graph.now c.args.plan.now.order.now c.requires.plan (output_literals c.args.plan.now.file.now.records) c.args.self.now.maker.net c.args.self.now.signals.items c.requires.made c.keeps.ensures.sound k line at in
    (count, drives)

pub set_next-requires-clause-within : goal.set_next-requires-clause-within
set_next-requires-clause-within c =
    let k = c.loop-found.found-index in
    let line : LatchLine = record { literal = c.in-Latch.literal; next = c.in-Latch.next; reset = c.in-Latch.reset } in
    let at = record_there c.args.plan.now.file.now.records c.as_slice-found-items.result.now k c.as_slice-found-items.ensures c.loop-found-test.true ∙ ap Some c.in-Latch.is in
    let source = read_at c.loop-found.self.signals.items c.args.self.now.signals.items line.next c.index-source.result.now c.loop-found.invariant.same (next_below c.args.plan.now.file.now c.args.plan.now.graph.now c.args.plan.now.order.now c.requires.plan (output_literals c.args.plan.now.file.now.records) c.args.self.now.maker.net c.args.self.now.signals.items c.requires.made k line at) c.index-source.ensures in
    let low = next_spot c.args.plan.now.file.now c.args.plan.now.graph.now c.args.plan.now.order.now c.requires.plan (output_literals c.args.plan.now.file.now.records) c.args.self.now.maker.net c.args.self.now.signals.items c.requires.made k line at in
    let d = ap (λ (n : NetView). length n.drivers) c.loop-found.invariant.nexts.net in
    let e = ap (λ (x : Signal). x.0) source in
    omega (arith, low, d, e)

pub loop-found-preserved : goal.loop-found-preserved
loop-found-preserved c =
    let k = c.loop-found.found-index in
    let line : LatchLine = record { literal = c.in-Latch.literal; next = c.in-Latch.next; reset = c.in-Latch.reset } in
    let at = record_there c.args.plan.now.file.now.records c.as_slice-found-items.result.now k c.as_slice-found-items.ensures c.loop-found-test.true ∙ ap Some c.in-Latch.is in
    let latch = read_at c.loop-found.self.signals.items c.args.self.now.signals.items line.literal c.index-latch.result.now c.loop-found.invariant.same (latch_below c.args.plan.now.file.now c.args.plan.now.graph.now c.args.plan.now.order.now c.requires.plan (output_literals c.args.plan.now.file.now.records) c.args.self.now.maker.net c.args.self.now.signals.items c.requires.made k line at) c.index-latch.ensures in
    let source = read_at c.loop-found.self.signals.items c.args.self.now.signals.items line.next c.index-source.result.now c.loop-found.invariant.same (next_below c.args.plan.now.file.now c.args.plan.now.graph.now c.args.plan.now.order.now c.requires.plan (output_literals c.args.plan.now.file.now.records) c.args.self.now.maker.net c.args.self.now.signals.items c.requires.made k line at) c.index-source.ensures in
    let count = length (latches_in (take k c.args.plan.now.file.now.records)) in
    let drives = ap (λ (n : NetView). slice_get n.drivers c.index-latch.result.now.0) c.loop-found.invariant.nexts.net ∙ ap (λ (x : Signal). slice_get c.args.self.now.maker.net.drivers x.0) (sym latch) ∙ latch_driver c.args.plan.now.file.now c.args.plan.now.graph.now c.args.plan.now.order.now c.requires.plan (output_literals c.args.plan.now.file.now.records) c.args.self.now.maker.net c.args.self.now.signals.items c.requires.made c.keeps.ensures.sound k line at in
    let more = kept_more latch_of c.args.plan.now.file.now.records k (Latch line.literal line.next line.reset) line at refl in
    record {
      nexts = subst (λ (ls : List LatchLine). HasNexts c.args.self.now.signals.items ls c.args.self.now.maker c.set_next.new.self) (sym more)
          (nexts_more c.args.self.now.signals.items (latches_in (take k c.args.plan.now.file.now.records)) line c.args.self.now.maker c.loop-found.self.maker c.set_next.new.self c.index-source.result.now c.loop-found.invariant.nexts
          (latch_low c.args.plan.now.file.now c.args.plan.now.graph.now c.args.plan.now.order.now c.requires.plan (output_literals c.args.plan.now.file.now.records) c.args.self.now.maker.net c.args.self.now.signals.items c.requires.made c.keeps.ensures.sound k line at) c.keeps.ensures.set (sym source) (c.set_next.ensures count drives));
      same = c.loop-found.invariant.same;
    }

pub returns-clause-net : goal.returns-clause-net
returns-clause-net c =
    let e = ap length c.as_slice-found-items.ensures in
    let whole = take_whole c.loop-found.found-index c.args.plan.now.file.now.records (λ l. omega (arith, l, e, c.loop-found-test.false)) in
    c.loop-found.invariant.nexts.net ∙ ap (λ (rs : List Record). record c.args.self.now.maker.net { latches = with_nexts c.args.self.now.maker.net.latches (nexts_of c.args.self.now.signals.items (latches_in rs)) }) whole

pub returns-clause-set : goal.returns-clause-set
returns-clause-set c =
    let e = ap length c.as_slice-found-items.ensures in
    let whole = take_whole c.loop-found.found-index c.args.plan.now.file.now.records (λ l. omega (arith, l, e, c.loop-found-test.false)) in
    nexts_done c.args.plan.now.file.now.symbols (all_literals c.args.plan.now.file.now.records c.args.plan.now.order.now) (latches_in c.args.plan.now.file.now.records) c.args.self.now.maker c.loop-found.self.maker c.args.self.now.signals.items
    (subst (λ (rs : List Record). HasNexts c.args.self.now.signals.items (latches_in rs) c.args.self.now.maker c.loop-found.self.maker) whole c.loop-found.invariant.nexts) c.keeps.ensures.set c.requires.made.latches
