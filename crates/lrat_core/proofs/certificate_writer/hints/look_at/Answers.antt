use Rattle.std.proofs.Common.{◌≡◌, ◌∙◌, List, false, take, sym, subst}
use Rattle.proof_check.specs.Literals.{Literal}
use Rattle.lrat_core.specs.Logs.{is_met, first_open}
use Rattle.lrat_core.proofs.Outsides.{one_further}
use Rattle.lrat_core.specs.certificate_writer.Hinting.{falsified_by}
use Rattle.lrat_core.proofs.certificate_writer.Trails.{met_at, met_in, false_in, free_in, not_met_more, open_same, open_more}
use Rattle.lrat_core.proofs.certificate_writer.hints.look_at.Goals.{in-False, in-Free}
use Rattle.lrat_core.proofs.certificate_writer.hints.look_at.Goals as goal

pub returns-in-True : goal.returns-in-True
returns-in-True c =
    let x = c.literal-item.result in
    met_at (falsified_by c.args.trail.now.entries) c.args.clause.now x (c.loop-literal.literal-index, c.loop-literal-test.true, sym c.literal-item.is) (met_in c.args.trail.now.entries x c.in-True.ensures)

pub loop-literal-preserved : goal.loop-literal-preserved
loop-literal-preserved c =
    let t = c.args.trail.now.entries in
    let k = c.loop-literal.literal-index in
    let x = c.literal-item.result in
    let front = take k c.args.clause.now in
    subst (λ (ls : List Literal). (is_met (falsified_by t) ls ≡ false) × (first_open (falsified_by t) ls ≡ c.match-truth.first)) (sym (one_further c.args.clause.now k x c.loop-literal-test.true c.literal-item.is))
    (elim c.match-truth.branch [
      | in-False w ↦ (
          let both = false_in t x c.requires.consistent w.in-False.ensures in
          (not_met_more (falsified_by t) front x c.loop-literal.invariant.0 both.1, open_same (falsified_by t) front x c.loop-literal.first c.loop-literal.invariant.1 both.0 ∙ sym w.first-is))
      | in-Free w ↦ (
          let both = free_in t x w.in-Free.ensures in
          (not_met_more (falsified_by t) front x c.loop-literal.invariant.0 both.1, open_more (falsified_by t) front x c.loop-literal.first c.loop-literal.invariant.1 both.0 ∙ (sym w.first_of-first.ensures ∙ sym w.first-is)))
    ])
