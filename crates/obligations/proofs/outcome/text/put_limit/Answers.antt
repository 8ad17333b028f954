use Rattle.std.proofs.Common.{◌≡◌, ℕ, [], ◌∷◌, ◌++◌, codes, OnOk, subst}
use Rattle.std.specs.Fmt.{decimal}
use Rattle.obligations.specs.outcome.Report.{limit_text}
use Rattle.obligations.proofs.outcome.Pieces.{on_ok, line_of}
use Rattle.obligations.proofs.outcome.text.put_limit.Goals as goal

pub returns : goal.returns
returns c =
    let number = subst (λ (n : ℕ). OnOk c.put_count_line.result (c.put_count_line.new.text.items ≡ c.put_limit_at.new.text.items ++ (codes " conflicts " ++ decimal n ++ 10 ∷ []))) c.from.ensures c.put_count_line.ensures in
    on_ok c.put_count_line.result
    (λ s. line_of c.args.text.now.items (codes "verdict limit ") (limit_text c.args.at.now) (codes " conflicts ") (decimal c.args.conflicts) (10 ∷ []) _ _ c.in_ok-put_limit_at.ensures s) number
