use Rattle.std.specs.List.{flat_map}
use Rattle.std.proofs.Common.{◌≡◌, ℕ, List, ◌++◌, OnOk, ap, ◌∙◌}
use Rattle.std.proofs.lemmas.List.{append_assoc}
use Rattle.obligations.proofs.outcome.Pieces.{on_ok}
use Rattle.obligations.specs.declared.outcome.verdict.PairResult.{PairResult}
use Rattle.cycle_search.specs.search_report.Report.{pair_line}
use Rattle.job_under.specs.Report.{head_text, cycles_text, stop_text}
use Rattle.job_under.proofs.under_report.put_under_front.Goals as goal

pieces : (t a b d e x y z w : List ℕ) → x ≡ t ++ a → y ≡ x ++ b → z ≡ y ++ d → w ≡ z ++ e → w ≡ t ++ (a ++ b ++ d ++ e)
pieces t a b d e x y z w one two three four = four ∙ ap (λ (l : List ℕ). l ++ e) (three ∙ ap (λ (l : List ℕ). l ++ d) (two ∙ ap (λ (l : List ℕ). l ++ b) one)) ∙ simp append_assoc

pub returns : goal.returns
returns c =
    let s = c.args.searched.now in
    let listed = c.in_ok-put_pairs.ensures ∙ ap (λ (pairs : List PairResult). c.put_cycles.new.text.items ++ flat_map pair_line pairs) c.as_slice.ensures in
    on_ok c.put_stop.result
    (λ last.
    pieces c.args.text.now.items (head_text c.args.a.now c.args.b.now c.args.name.now) (cycles_text c.args.cycles) (flat_map pair_line s.pairs) (stop_text c.args.cycles s.last s.verdict) _ _ _ _ c.in_ok-put_head.ensures c.in_ok-put_cycles.ensures listed
    last) c.put_stop.ensures
