use Rattle.std.proofs.Common.{◌≡◌, ℕ, ◌++◌, subst}
use Rattle.std.specs.Fmt.{decimal}
use Rattle.induct.proofs.induct_report.Pieces.{five_pieces, on_ok}
use Rattle.induct.proofs.induct_report.text.put_limit.Goals as goal

pub returns : goal.returns
returns c =
    let number = subst (λ (n : ℕ). c.put_number.new.text.items ≡ c.put-3.new.text.items ++ decimal n) c.from.ensures c.in_ok-put_number.ensures.ok in
    on_ok c.put-4.result (λ s. five_pieces _ _ _ _ _ _ _ _ _ _ _ c.in_ok-put.ensures.ok c.in_ok-put-2.ensures.ok c.in_ok-put-3.ensures.ok number s) c.put-4.ensures.ok
