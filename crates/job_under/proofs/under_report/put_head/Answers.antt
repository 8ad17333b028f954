use Rattle.std.proofs.Common.{◌≡◌, ℕ, List, [], ◌∷◌, ◌++◌, length, codes, ap, ◌∙◌}
use Rattle.std.proofs.lemmas.List.{append_assoc}
use Rattle.obligations.proofs.outcome.Pieces.{on_ok}
use Rattle.cycle_search.specs.search_report.Report.{counts_text}
use Rattle.job_under.proofs.under_report.put_head.Goals as goal

pieces : (t a b d e x y z w : List ℕ) → x ≡ t ++ a → y ≡ x ++ b → z ≡ y ++ d → w ≡ z ++ e → w ≡ t ++ (a ++ (b ++ d ++ e))
pieces t a b d e x y z w one two three four = four ∙ ap (λ (l : List ℕ). l ++ e) (three ∙ ap (λ (l : List ℕ). l ++ d) (two ∙ ap (λ (l : List ℕ). l ++ b) one)) ∙ simp append_assoc

pub returns : goal.returns
returns c =
    let a = c.args.a.now in
    let b = c.args.b.now in
    let t = c.args.text.now.items in
    let counted = c.in_ok-put_counts.ensures ∙ ap (λ (names : List (List ℕ)). t ++ counts_text (length names) (length a.latches) (length b.latches)) c.in_ok-inputs.ensures in
    let named = c.in_ok-put-2.ensures.ok ∙ ap (λ (name : List ℕ). c.put.new.text.items ++ name) c.as_slice.ensures in
    on_ok c.put-3.result (λ last. pieces t _ (codes "reset\nassume ") c.args.name.now (10 ∷ []) _ _ _ _ counted c.in_ok-put.ensures.ok named last) c.put-3.ensures.ok
