-- Piece after piece.
use Rattle.std.proofs.Common.{◌≡◌, ℕ, List, ◌++◌, codes, ap, ◌∙◌}
use Rattle.std.proofs.lemmas.List.{append_assoc}
use Rattle.witness_report.specs.Text.{stimulus_text}
use Rattle.obligations.specs.outcome.Report.{pair_text}
use Rattle.obligations.proofs.outcome.Pieces.{on_ok}
use Rattle.cycle_search.specs.search_report.Report.{values_text, powers_text}
use Rattle.cycle_search.proofs.search_report.text.put_witness.Goals as goal

pieces : (t a b v s p x y z w : List ℕ) → x ≡ t ++ (a ++ b) → y ≡ x ++ v → z ≡ y ++ s → w ≡ z ++ p → w ≡ t ++ (a ++ (b ++ v ++ s ++ p))
pieces t a b v s p x y z w one two three four = four ∙ ap (λ (l : List ℕ). l ++ p) (three ∙ ap (λ (l : List ℕ). l ++ s) (two ∙ ap (λ (l : List ℕ). l ++ v) one)) ∙ simp append_assoc

pub returns : goal.returns
returns c =
    let w = c.args.shown.now in
    let stimulus = c.as_slice.ensures ∙ c.in_ok-stimulus.ensures in
    on_ok c.put_powers.result
    (λ last. pieces c.args.text.now.items (codes "verdict different ") (pair_text w.witness.pair) (values_text w.witness) (stimulus_text w.witness.stimulus.names w.witness.stimulus.rows) (powers_text w) _ _ _ _
    c.in_ok-put_name.ensures c.in_ok-put_values.ensures (c.in_ok-put.ensures.ok ∙ ap (λ (l : List ℕ). c.put_values.new.text.items ++ l) stimulus) last)
    c.put_powers.ensures
