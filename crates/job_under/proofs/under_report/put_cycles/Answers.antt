use Rattle.std.proofs.Common.{◌≡◌, ℕ, List, ◌++◌, codes, OnOk, ap, subst, ◌∙◌}
use Rattle.std.proofs.lemmas.List.{append_assoc}
use Rattle.std.specs.Fmt.{decimal}
use Rattle.obligations.proofs.outcome.Pieces.{on_ok}
use Rattle.job_under.proofs.under_report.put_cycles.Goals as goal

pieces : (t a b d x y z : List ℕ) → x ≡ t ++ a → y ≡ x ++ b → z ≡ y ++ d → z ≡ t ++ (a ++ b ++ d)
pieces t a b d x y z one two three = three ∙ ap (λ (l : List ℕ). l ++ d) (two ∙ ap (λ (l : List ℕ). l ++ b) one) ∙ simp append_assoc

pub returns : goal.returns
returns c =
    let number = c.in_ok-put_number.ensures.ok ∙ ap (λ (n : ℕ). c.put.new.text.items ++ decimal n) c.from.ensures in
    on_ok c.put-2.result (λ last. pieces c.args.text.now.items (codes "cycles ") (decimal c.args.cycles) (codes "\nexposed 0\n") _ _ _ c.in_ok-put.ensures.ok number last) c.put-2.ensures.ok
