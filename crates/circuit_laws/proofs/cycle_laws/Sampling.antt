-- A toggle differs from a latch that keeps 0.
use Rattle.std.proofs.Common.{◌≢◌, ℕ, true, false, [], ◌∷◌, refl, sym, ◌∙◌, ap, subst, arith}
use Rattle.std.specs.List.{Contains}
use Rattle.circuit_theory.specs.Cover.{cover_value}
use Rattle.circuit_theory.specs.Circuit.{Gate, Started, IsLatch}
use Rattle.circuit_theory.specs.Tree.{Fixed, Branch, Cons, Nil, tree_value}
use Rattle.circuit_theory.proofs.Lists.{only}
use Rattle.circuit_laws.specs.reset_laws.Reset.{ResetUnfolds, ResetUnfoldsAll, HasStarts}
use Rattle.circuit_laws.specs.cycle_laws.Samples.{turned, toggle, stuck, ToggleDiffers}
use Rattle.circuit_laws.proofs.cycle_laws.Cycles.{difference_in_cycle}

toggle_starts : HasStarts toggle
toggle_starts = record {
  of_latches = λ u bit h. let e = only _ _ h in ((117 ∷ []), 1, subst (λ (s : Started ℕ). IsLatch toggle (117 ∷ []) s.place 1) e (0, omega arith, refl));
  once = λ u x y h k. let e = ap (λ (s : Started ℕ). s.bit) (only _ _ h) in let f = ap (λ (s : Started ℕ). s.bit) (only _ _ k) in sym e ∙ f;
}

stuck_starts : HasStarts stuck
stuck_starts = record {
  of_latches = λ u bit h. let e = only _ _ h in ((117 ∷ []), 0, subst (λ (s : Started ℕ). IsLatch stuck (117 ∷ []) s.place 0) e (0, omega arith, refl));
  once = λ u x y h k. let e = ap (λ (s : Started ℕ). s.bit) (only _ _ h) in let f = ap (λ (s : Started ℕ). s.bit) (only _ _ k) in sym e ∙ f;
}

toggle_latch : IsLatch toggle (117 ∷ []) 0 1
toggle_latch = (0, omega arith, refl)

toggle_gate : Contains toggle.equations (Gate 1 (0 ∷ []) turned)
toggle_gate = (1, omega arith, refl)

toggle_start : Contains toggle.starts (record { place = 0; bit = false })
toggle_start = (0, omega arith, refl)

stuck_latch : IsLatch stuck (117 ∷ []) 0 0
stuck_latch = (0, omega arith, refl)

stuck_start : Contains stuck.starts (record { place = 0; bit = false })
stuck_start = (0, omega arith, refl)

toggle_tree : ResetUnfolds toggle [] 0 0 1 (Branch turned (Cons (Fixed false) Nil))
toggle_tree = ResetUnfolds.later toggle_latch (ResetUnfolds.gate toggle_gate (ResetUnfoldsAll.more (ResetUnfolds.started toggle_latch toggle_start) ResetUnfoldsAll.none))

stuck_tree : ResetUnfolds stuck [] 1 0 1 (Fixed false)
stuck_tree = ResetUnfolds.later stuck_latch (ResetUnfolds.started stuck_latch stuck_start)

pub toggle_differs : ToggleDiffers
unfolding tree_value cover_value
toggle_differs =
    difference_in_cycle toggle stuck [] [] 0 1 0 0 1 0 (Branch turned (Cons (Fixed false) Nil)) (Fixed false) (λ i k. false) toggle_starts stuck_starts (λ p i h. absurd h) (λ q i h. absurd h)
    toggle_tree stuck_tree wrong
  where
    wrong : true ≢ false
    wrong e = cc
