use Rattle.std.proofs.Common.{◌≡◌, ℕ, List, [], ◌∷◌, ◌++◌, codes, OnOk, ap, subst, ◌∙◌}
use Rattle.std.proofs.lemmas.List.{append_assoc}
use Rattle.std.specs.Fmt.{decimal}
use Rattle.obligations.specs.outcome.Report.{pair_text}
use Rattle.obligations.proofs.outcome.Pieces.{on_ok}
use Rattle.cycle_search.proofs.search_report.text.put_limit.Goals as goal

pieces : (t a b c x y : List ℕ) → x ≡ t ++ (a ++ b) → y ≡ x ++ c → y ≡ t ++ (a ++ b ++ c)
pieces t a b c x y one two = two ∙ ap (λ (l : List ℕ). l ++ c) one ∙ simp append_assoc

pub returns : goal.returns
returns c =
    let number = subst (λ (n : ℕ). OnOk c.put_count_line.result (c.put_count_line.new.text.items ≡ c.put_name.new.text.items ++ (codes " conflicts " ++ decimal n ++ 10 ∷ []))) c.from.ensures c.put_count_line.ensures in
    on_ok c.put_count_line.result
    (λ last. pieces c.args.text.now.items (codes "verdict limit ") (pair_text c.args.name.now) (codes " conflicts " ++ decimal c.args.conflicts ++ 10 ∷ []) _ _ c.in_ok-put_name.ensures last) number
