-- Piece after piece.
use Rattle.std.proofs.Common.{◌≡◌, ℕ, List, ◌++◌, codes, ap, ◌∙◌}
use Rattle.std.proofs.lemmas.List.{append_assoc}
use Rattle.witness_report.specs.Text.{stimulus_text}
use Rattle.obligations.specs.outcome.Report.{pair_text}
use Rattle.obligations.proofs.outcome.Pieces.{on_ok}
use Rattle.cycle_search.specs.search_report.Report.{values_text}
use Rattle.job_after.proofs.after_report.put_sequence.Goals as goal

pieces : (t a b v s x y z : List ℕ) → x ≡ t ++ (a ++ b) → y ≡ x ++ v → z ≡ y ++ s → z ≡ t ++ (a ++ (b ++ v ++ s))
pieces t a b v s x y z one two three = three ∙ ap (λ (l : List ℕ). l ++ s) (two ∙ ap (λ (l : List ℕ). l ++ v) one) ∙ simp append_assoc

pub returns : goal.returns
returns c =
    let w = c.args.witness.now in
    let stimulus = c.as_slice.ensures ∙ c.in_ok-stimulus.ensures in
    on_ok c.put.result
    (λ last. pieces c.args.text.now.items (codes "verdict different ") (pair_text w.pair) (values_text w) (stimulus_text w.stimulus.names w.stimulus.rows) _ _ _
    c.in_ok-put_name.ensures c.in_ok-put_values.ensures (last ∙ ap (λ (l : List ℕ). c.put_values.new.text.items ++ l) stimulus))
    c.put.ensures.ok
