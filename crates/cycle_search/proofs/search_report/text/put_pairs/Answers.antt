-- One line more.
use Rattle.std.proofs.Common.{ℕ, List, ◌++◌, sym, ap, ◌∙◌}
use Rattle.std.specs.List.{flat_map}
use Rattle.std.proofs.lemmas.List.{append-nil, take_all}
use Rattle.obligations.specs.declared.outcome.verdict.PairResult.{PairResult}
use Rattle.obligations.proofs.outcome.Pieces.{one_more}
use Rattle.cycle_search.specs.search_report.Report.{pair_line}
use Rattle.cycle_search.proofs.search_report.text.put_pairs.Goals as goal

pub loop-pair-preserved : goal.loop-pair-preserved
loop-pair-preserved c =
    c.in_ok-put_pair.ensures
    ∙ (ap (λ (l : List ℕ). l ++ pair_line c.pair-item.result) c.loop-pair.invariant ∙ one_more pair_line c.args.text.now.items c.args.pairs.now c.loop-pair.pair-index c.pair-item.result c.loop-pair-test.true c.pair-item.is)

pub loop-pair-init : goal.loop-pair-init
loop-pair-init c = sym (append-nil c.args.text.now.items)

pub returns : goal.returns
returns c =
    c.loop-pair.invariant ∙ ap (λ (pairs : List PairResult). c.args.text.now.items ++ flat_map pair_line pairs) (take_all c.loop-pair.pair-index c.args.pairs.now c.loop-pair-test.false)
