use Rattle.std.proofs.Common.{◌≡◌, ℕ, [], ◌∷◌, ◌++◌, codes, OnOk, subst}
use Rattle.witness_report.specs.sec_base.Texts.{digit_of}
use Rattle.obligations.specs.outcome.Report.{bits_text}
use Rattle.obligations.proofs.outcome.text.put_bits.Goals as goal

pub returns : goal.returns
unfolding bits_text
returns c =
    let text = c.put_behind.new.text.items in
    let before = c.args.text.now.items in
    subst (λ (digit : ℕ). OnOk c.put_behind.result (text ≡ before ++ (codes " values " ++ digit ∷ 32 ∷ digit_of c.args.right ∷ 10 ∷ []))) c.digit_of.ensures
    (subst (λ (digit : ℕ). OnOk c.put_behind.result (text ≡ before ++ (codes " values " ++ c.digit_of.result ∷ 32 ∷ digit ∷ 10 ∷ []))) c.digit_of-2.ensures c.put_behind.ensures)
