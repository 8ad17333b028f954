use Rattle.std.proofs.Common.{◌≡◌, ℕ, [], ◌∷◌, ◌++◌, subst}
use Rattle.induct.proofs.induct_report.Pieces.{five_pieces, on_ok}
use Rattle.induct.proofs.induct_report.text.put_values.Goals as goal

pub returns : goal.returns
returns c =
    let left = subst (λ (n : ℕ). c.push.new.self.items ≡ c.put.new.text.items ++ n ∷ []) c.digit_of.ensures c.in_ok-push.ensures.items in
    let right = subst (λ (n : ℕ). c.push-2.new.self.items ≡ c.put-2.new.text.items ++ n ∷ []) c.digit_of-2.ensures c.in_ok-push-2.ensures.items in
    on_ok c.put-3.result (λ s. five_pieces _ _ _ _ _ _ _ _ _ _ _ c.in_ok-put.ensures.ok left c.in_ok-put-2.ensures.ok right s) c.put-3.ensures.ok
