use Rattle.std.proofs.Common.{ℕ, List, ◌++◌, sym, ap, ◌∙◌}
use Rattle.std.specs.List.{flat_map}
use Rattle.std.proofs.lemmas.List.{append-nil, take_all}
use Rattle.obligations.proofs.outcome.Pieces.{one_more}
use Rattle.event_settles.specs.declared.cares.PairCare.{PairCare}
use Rattle.job_settles.specs.Report.{care_line}
use Rattle.job_settles.proofs.report.put_cares.Goals as goal

pub loop-care-preserved : goal.loop-care-preserved
loop-care-preserved c =
    c.in_ok-put_care.ensures
    ∙ (ap (λ (l : List ℕ). l ++ care_line c.care-item.result) c.loop-care.invariant ∙ one_more care_line c.args.text.now.items c.args.cares.now c.loop-care.care-index c.care-item.result c.loop-care-test.true c.care-item.is)

pub loop-care-init : goal.loop-care-init
loop-care-init c = sym (append-nil c.args.text.now.items)

pub returns : goal.returns
returns c = c.loop-care.invariant ∙ ap (λ (cares : List PairCare). c.args.text.now.items ++ flat_map care_line cares) (take_all c.loop-care.care-index c.args.cares.now c.loop-care-test.false)
