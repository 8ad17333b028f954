use Rattle.std.proofs.Common.{◌≡◌, ◌∙◌, ℕ, ◌++◌, sym, subst}
use Rattle.std.specs.Fmt.{decimal}
use Rattle.obligations.proofs.outcome.Pieces.{on_ok}
use Rattle.job_settles.proofs.Fronts.{limit_line, nothing}
use Rattle.job_settles.proofs.report.put_equal.Goals as goal

pub returns-in-Some-first_limit : goal.returns-in-Some-first_limit
returns-in-Some-first_limit c =
    let number = subst (λ (n : ℕ). c.put_number.new.text.items ≡ c.put-in-Some-first_limit.new.text.items ++ decimal n) c.from.ensures c.in_ok-put_number.ensures.ok in
    on_ok c.put-in-Some-first_limit-2.result
    (λ last. limit_line c.args.conflicts c.args.cares.now c.in-Some-first_limit.name.now c.args.text.now.items _ _ _ _ _ (sym c.first_never.ensures ∙ nothing _ c.first_never.result c.in_default.is) (sym c.in-Some-first_limit.ensures)
    c.in_ok-put.ensures.ok c.in_ok-put_pair.ensures c.in_ok-put-2.ensures.ok number last) c.put-in-Some-first_limit-2.ensures.ok
