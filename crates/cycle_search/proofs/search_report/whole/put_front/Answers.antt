-- Piece after piece.
use Rattle.std.specs.List.{flat_map}
use Rattle.std.proofs.Common.{◌≡◌, ◌++◌, length, ℕ, List, ap, ◌∙◌}
use Rattle.std.proofs.lemmas.List.{append_assoc}
use Rattle.obligations.proofs.outcome.Pieces.{on_ok}
use Rattle.obligations.specs.declared.outcome.verdict.PairResult.{PairResult}
use Rattle.cycle_search.specs.search_report.Report.{counts_text, cycles_text, pair_line}
use Rattle.cycle_search.proofs.search_report.whole.put_front.Goals as goal

pieces : (t x y z a b c : List ℕ) → a ≡ t ++ x → b ≡ a ++ y → c ≡ b ++ z → c ≡ t ++ (x ++ y ++ z)
pieces t x y z a b c one two three = three ∙ ap (λ (l : List ℕ). l ++ z) (two ∙ ap (λ (l : List ℕ). l ++ y) one) ∙ simp append_assoc

pub returns : goal.returns
returns c =
    let a = c.args.a.now in
    let b = c.args.b.now in
    let t = c.args.text.now.items in
    let counted = c.in_ok-put_counts.ensures ∙ ap (λ (names : List (List ℕ)). t ++ counts_text (length names) (length a.latches) (length b.latches)) c.in_ok-inputs.ensures in
    on_ok c.put_pairs.result
    (λ last. pieces t _ (cycles_text c.args.cycles) (flat_map pair_line c.args.searched.now.pairs) _ _ _ counted c.in_ok-put_cycles.ensures
    (last ∙ ap (λ (pairs : List PairResult). c.put_cycles.new.text.items ++ flat_map pair_line pairs) c.as_slice.ensures))
    c.put_pairs.ensures
