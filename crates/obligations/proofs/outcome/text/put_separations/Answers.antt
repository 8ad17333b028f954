use Rattle.std.proofs.Common.{◌≡◌, ℕ, List, ◌++◌, sym, ap, ◌∙◌}
use Rattle.std.specs.List.{flat_map}
use Rattle.std.proofs.lemmas.List.{append-nil, take_all}
use Rattle.obligations.specs.declared.outcome.verdict.Separation.{Separation}
use Rattle.obligations.specs.outcome.Report.{separation_text}
use Rattle.obligations.proofs.outcome.Pieces.{one_more}
use Rattle.obligations.proofs.outcome.text.put_separations.Goals as goal

pub loop-separation-preserved : goal.loop-separation-preserved
loop-separation-preserved c =
    c.in_ok-put_separation.ensures
    ∙ (ap (λ (l : List ℕ). l ++ separation_text c.separation-item.result) c.loop-separation.invariant ∙ one_more separation_text c.args.text.now.items c.args.apart.now c.loop-separation.separation-index c.separation-item.result c.loop-separation-test.true c.separation-item.is)

pub loop-separation-init : goal.loop-separation-init
loop-separation-init c = sym (append-nil c.args.text.now.items)

pub returns : goal.returns
returns c =
    c.loop-separation.invariant ∙ ap (λ (apart : List Separation). c.args.text.now.items ++ flat_map separation_text apart) (take_all c.loop-separation.separation-index c.args.apart.now c.loop-separation-test.false)
