use Rattle.std.proofs.Common.{◌≡◌, ℕ, List, [], ◌∷◌, ◌++◌, codes, OnOk, ap, subst, ◌∙◌}
use Rattle.std.proofs.lemmas.List.{append_assoc}
use Rattle.std.specs.Fmt.{decimal}
use Rattle.obligations.proofs.outcome.Pieces.{on_ok}
use Rattle.cycle_search.specs.search_report.Report.{stop_line}
use Rattle.cycle_search.proofs.search_report.text.put_agreed.Goals as goal

pieces : (t a b x y : List ℕ) → x ≡ t ++ a → y ≡ x ++ b → y ≡ t ++ (a ++ b)
pieces t a b x y one two = two ∙ ap (λ (l : List ℕ). l ++ b) one ∙ simp append_assoc

pub returns : goal.returns
returns c =
    let number = subst (λ (n : ℕ). OnOk c.put_count_line.result (c.put_count_line.new.text.items ≡ c.put_stop.new.text.items ++ (codes "verdict not-shown cycles " ++ decimal n ++ 10 ∷ []))) c.from.ensures c.put_count_line.ensures in
    on_ok c.put_count_line.result
    (λ last. pieces c.args.text.now.items (stop_line c.args.last c.args.side) (codes "verdict not-shown cycles " ++ decimal c.args.last ++ 10 ∷ []) _ _ c.in_ok-put_stop.ensures last) number
