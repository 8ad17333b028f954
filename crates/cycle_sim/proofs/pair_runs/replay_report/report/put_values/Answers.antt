use Rattle.std.proofs.Common.{◌≡◌, ℕ, List, [], ◌∷◌, ◌++◌, OnOk, Result, Ok, Err, ap, ◌∙◌}
use Rattle.std.proofs.lemmas.List.{append_assoc}
use Rattle.sec_base.specs.Texts.{digit_of}
use Rattle.cycle_sim.specs.pair_runs.replay_report.Report.{values_text}
use Rattle.cycle_sim.proofs.pair_runs.replay_report.report.put_values.Goals as goal

-- five pieces that are put one behind the other
five_pieces : (t a b c d e u v x y z : List ℕ) → u ≡ t ++ a → v ≡ u ++ b → x ≡ v ++ c → y ≡ x ++ d → z ≡ y ++ e → z ≡ t ++ (a ++ b ++ c ++ d ++ e)
five_pieces t a b c d e u v x y z p q r s w =
    w ∙ ap (λ (l : List ℕ). l ++ e) (s ∙ ap (λ (l : List ℕ). l ++ d) (r ∙ ap (λ (l : List ℕ). l ++ c) (q ∙ ap (λ (l : List ℕ). l ++ b) p))) ∙ simp append_assoc

on_ok : {E : Type 0} {P Q : Type 0} (r : Result (Unit {0}) E) → (P → Q) → OnOk r P → OnOk r Q
on_ok (Ok u) f h = f h
on_ok (Err e) f h = tt

pub returns : goal.returns
unfolding values_text
returns c =
    let left = c.in_ok-push.ensures.items ∙ ap (λ (digit : ℕ). c.put.new.text.items ++ digit ∷ []) c.digit_of.ensures in
    let right = c.in_ok-push-2.ensures.items ∙ ap (λ (digit : ℕ). c.put-2.new.text.items ++ digit ∷ []) c.digit_of-2.ensures in
    on_ok c.put-3.result (λ s. five_pieces c.args.text.now.items _ (digit_of c.args.left ∷ []) _ (digit_of c.args.right ∷ []) _ _ _ _ _ _ c.in_ok-put.ensures.ok left c.in_ok-put-2.ensures.ok right s) c.put-3.ensures.ok
