use Rattle.std.proofs.Common.{◌≡◌, ℕ, List, [], ◌∷◌, ◌++◌, codes, OnOk, ap, ◌∙◌}
use Rattle.std.proofs.lemmas.List.{append_assoc}
use Rattle.std.specs.Fmt.{decimal}
use Rattle.obligations.proofs.outcome.Pieces.{on_ok}
use Rattle.job_under.specs.Report.{head_text}
use Rattle.job_under.proofs.under_report.put_undecided.Goals as goal

pieces : (t a b x y : List ℕ) → x ≡ t ++ a → y ≡ x ++ b → y ≡ t ++ (a ++ b)
pieces t a b x y one two = two ∙ ap (λ (l : List ℕ). l ++ b) one ∙ simp append_assoc

pub returns : goal.returns
returns c =
    on_ok c.put_count_line.result
    (λ last.
    pieces c.args.text.now.items (head_text c.args.a.now c.args.b.now c.args.name.now) (codes "verdict limit assume conflicts " ++ decimal c.args.conflicts ++ 10 ∷ []) _ _ c.in_ok-put_head.ensures
    (last ∙ ap (λ (n : ℕ). c.put_head.new.text.items ++ (codes "verdict limit assume conflicts " ++ decimal n ++ 10 ∷ [])) c.from.ensures))
    c.put_count_line.ensures
