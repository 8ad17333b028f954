use Rattle.std.proofs.Common.{◌≡◌, ℕ, ◌∙◌, ◌+◌, ◌*◌, ◌-◌, ◌<◌, ap, sym, subst, arith, length, drop, get_or}
use Rattle.std.proofs.lemmas.List.FromFn.{length-map-range_with_len}
use Rattle.std.proofs.lemmas.Option.{slice_get-get_or, get_or_from_slice_get}
use Rattle.aiger_read.specs.declared.aiger_records.record.Record.TheVariants.{Input}
use Rattle.aiger_read.specs.aiger_file.aiger_graph.Literals.{reads_among, graph_among, AreUsed}
use Rattle.aiger_read.proofs.aiger_file.aiger_graph.ReadLiterals.{all_well}
use Rattle.aiger_read.proofs.aiger_file.aiger_graph.GraphSteps.{reads_start, reads_step}
use Rattle.aiger_read.proofs.aiger_file.aiger_graph.graph.graph_of.Goals as goal

pub loop-back-init : goal.loop-back-init
loop-back-init c = reads_start c.args.records.now (2 * c.args.header.now.greatest + 2) c.in_ok-graph.graph.items c.in_ok-graph.ensures

pub put_reads-requires-clause-size : goal.put_reads-requires-clause-size
put_reads-requires-clause-size c =
    ap length c.loop-back.invariant ∙ length-map-range_with_len (reads_among c.args.records.now (drop (length c.args.records.now - c.loop-back.back) c.args.records.now)) 0 (2 * c.args.header.now.greatest + 2)

pub loop-back-preserved : goal.loop-back-preserved
loop-back-preserved c =
    let rs = c.args.records.now in
    let i = length rs - 1 - c.loop-back.back in
    let r = get_or rs i (Input 0) in
    let low : c.loop-back.back < length rs = omega (arith, c.loop-back-test.true) in
    let at = slice_get-get_or rs i (Input 0) (omega (arith, low)) in
    reads_step rs (2 * c.args.header.now.greatest + 2) c.loop-back.back c.deref.result.now r c.loop-back.graph.items c.put_reads.new.graph.items low (get_or_from_slice_get rs i r r at)
    (subst (AreUsed rs (2 * c.args.header.now.greatest + 2)) (sym c.deref.ensures.value) c.in_ok-used.ensures)
    (λ d is. (all_well c.args.header.now rs c.requires.good i r at).low d is) c.loop-back.invariant c.in_ok-put_reads.ensures

pub put_reads-requires-clause-marks : goal.put_reads-requires-clause-marks
put_reads-requires-clause-marks c = ap length c.deref.ensures.value ∙ c.in_ok-used.ensures.count

pub returns : goal.returns
returns c =
    let rs = c.args.records.now in
    let done : length rs - c.loop-back.back ≡ 0 = omega (arith, c.loop-back-test.false) in
    c.loop-back.invariant ∙ ap (λ (n : ℕ). graph_among rs (drop n rs) (2 * c.args.header.now.greatest + 2)) done
