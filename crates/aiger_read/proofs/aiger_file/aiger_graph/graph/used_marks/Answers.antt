use Rattle.std.proofs.Common.{◌+◌, ◌*◌, List, get_or, refl, subst}
use Rattle.std.proofs.lemmas.Option.{slice_get-get_or}
use Rattle.std.proofs.lemmas.List.{take_all}
use Rattle.aiger_read.specs.declared.aiger_records.record.Record.{Record}
use Rattle.aiger_read.specs.declared.aiger_records.record.Record.TheVariants.{Input}
use Rattle.aiger_read.specs.aiger_file.aiger_graph.Literals.{AreUsed}
use Rattle.aiger_read.proofs.aiger_file.aiger_graph.ReadLiterals.{all_well}
use Rattle.aiger_read.proofs.aiger_file.aiger_graph.Marking.{marks_start, marks_step}
use Rattle.aiger_read.proofs.aiger_file.aiger_graph.graph.used_marks.Goals as goal

pub loop-found-init : goal.loop-found-init
loop-found-init c = marks_start c.args.records.now (2 * c.args.header.now.greatest + 2) c.in_ok-marks.marks.items (c.in_ok-marks.ensures.items_if_clones_equal (λ y e. e))

pub loop-found-preserved : goal.loop-found-preserved
loop-found-preserved c =
    let rs = c.args.records.now in
    let k = c.loop-found.found-index in
    let r = get_or rs k (Input 0) in
    marks_step rs (2 * c.args.header.now.greatest + 2) k r (Input 0) c.loop-found.marks.items c.mark_used.new.marks.items c.loop-found-test.true refl
    ((all_well c.args.header.now rs c.requires.good k r (slice_get-get_or rs k (Input 0) c.loop-found-test.true)).used) c.loop-found.invariant c.mark_used.ensures

pub returns : goal.returns
returns c =
    subst (λ (rs : List Record). AreUsed rs (2 * c.args.header.now.greatest + 2) c.loop-found.marks.items) (take_all c.loop-found.found-index c.args.records.now c.loop-found-test.false) c.loop-found.invariant
