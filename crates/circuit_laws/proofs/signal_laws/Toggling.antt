-- The example.
use Rattle.std.proofs.Common.{◌≡◌, ℕ, zero, suc, ◌<◌, Bool, true, false, not, [], ◌∷◌, refl, sym, ◌∙◌, ap, subst, arith, slice_get, Some}
use Rattle.std.specs.List.{Contains}
use Rattle.std.proofs.lemmas.List.Elements.{All-contains}
use Rattle.circuit_theory.specs.Cover.{cover_value}
use Rattle.circuit_theory.specs.Circuit.{Circuit, Gate, Latch, Named, Holds, Carries}
use Rattle.circuit_theory.specs.Agree.{IsPair}
use Rattle.circuit_theory.specs.Joined.{Either, Left, Right, joined}
use Rattle.circuit_theory.proofs.Lists.{only}
use Rattle.circuit_laws.specs.declared.signal_laws.anchor.Anchor.{Anchor}
use Rattle.circuit_laws.specs.declared.signal_laws.anchor.Anchor.TheVariants as anchor
use Rattle.circuit_laws.specs.signal_laws.Ties.{AreTied, anchor_value, side_at}
use Rattle.circuit_laws.specs.signal_laws.Invariants.{IsCycle}
use Rattle.circuit_laws.specs.signal_laws.Laws.{AreInductive, GiveOutputs}
use Rattle.circuit_laws.specs.signal_laws.Toggles.{turned, toggle, turned_toggle, toggle_anchors, TogglesAgree}
use Rattle.circuit_laws.proofs.signal_laws.Holding.{tied_outputs_agree}

abbrev whole : Circuit (Either ℕ ℕ)
whole = joined toggle turned_toggle

turned_is : (b : Bool) → cover_value turned (b ∷ []) ≡ not b
unfolding cover_value
turned_is true = refl
turned_is false = refl

turned_twice : (b : Bool) → not (not b) ≡ b
turned_twice true = refl
turned_twice false = refl

left_latch_is : Contains whole.equations (Latch (117 ∷ []) (Left 0) (Left 1))
left_latch_is = (0, omega arith, refl)

left_gate_is : Contains whole.equations (Gate (Left 1) (Left 0 ∷ []) turned)
left_gate_is = (1, omega arith, refl)

right_latch_is : Contains whole.equations (Latch (118 ∷ []) (Right 0) (Right 1))
right_latch_is = (2, omega arith, refl)

right_gate_is : Contains whole.equations (Gate (Right 1) (Right 0 ∷ []) turned)
right_gate_is = (3, omega arith, refl)

left_start_is : Contains whole.starts (record { place = Left 0; bit = false })
left_start_is = (0, omega arith, refl)

right_start_is : Contains whole.starts (record { place = Right 0; bit = true })
right_start_is = (1, omega arith, refl)

module _ (x : Either ℕ ℕ → Bool) (cycle : IsCycle whole [] x) where
  left_gate : x (Left 1) ≡ not (x (Left 0))
  left_gate = All-contains (Holds x) whole.equations _ cycle.meets left_gate_is ∙ turned_is (x (Left 0))

  right_gate : x (Right 1) ≡ not (x (Right 0))
  right_gate = All-contains (Holds x) whole.equations _ cycle.meets right_gate_is ∙ turned_is (x (Right 0))

  tied_by : x (Right 0) ≡ not (x (Left 0)) → AreTied 2 toggle_anchors x
  tied_by e zero k at = subst (λ (a : Anchor). x (Left 0) ≡ anchor_value (λ q. x (side_at 2 q)) a) (unwrap at) refl
    where
      unwrap : Some (anchor.Place 0 false) ≡ Some k → anchor.Place 0 false ≡ k
      unwrap q = cc
  tied_by e (suc zero) k at = subst (λ (a : Anchor). x (Left 1) ≡ anchor_value (λ q. x (side_at 2 q)) a) (unwrap at) left_gate
    where
      unwrap : Some (anchor.Place 0 true) ≡ Some k → anchor.Place 0 true ≡ k
      unwrap q = cc
  tied_by e (suc (suc zero)) k at = subst (λ (a : Anchor). x (Right 0) ≡ anchor_value (λ q. x (side_at 2 q)) a) (unwrap at) e
    where
      unwrap : Some (anchor.Place 0 true) ≡ Some k → anchor.Place 0 true ≡ k
      unwrap q = cc
  tied_by e (suc (suc (suc zero))) k at =
      subst (λ (a : Anchor). x (Right 1) ≡ anchor_value (λ q. x (side_at 2 q)) a) (unwrap at) (right_gate ∙ (ap not e ∙ turned_twice (x (Left 0))))
    where
      unwrap : Some (anchor.Place 0 false) ≡ Some k → anchor.Place 0 false ≡ k
      unwrap q = cc
  tied_by e (suc (suc (suc (suc p)))) k at = absurd (let bad : ⊥ = cc in bad)

inductive : AreInductive toggle turned_toggle [] 2 toggle_anchors
inductive = record {
  begins = λ x first. tied_by x first.cycle (first.starts (Right 0) true right_start_is ∙ sym (ap not (first.starts (Left 0) false left_start_is)));
  steps = λ x y both tied.
      tied_by y both.next
      (All-contains (Carries x y) whole.equations _ both.carries right_latch_is
      ∙ (tied 3 (anchor.Place 0 false) refl
      ∙ sym (ap not (All-contains (Carries x y) whole.equations _ both.carries left_latch_is) ∙ (ap not (left_gate x both.now) ∙ turned_twice (x (Left 0))))));
}

gives : GiveOutputs toggle turned_toggle 2 toggle_anchors
gives x tied p q (IsPair.outputs h k) =
    let left = ap (λ (m : Named ℕ). m.place) (only _ _ h) in
    let right = ap (λ (m : Named ℕ). m.place) (only _ _ k) in
    ap (λ r. x (Left r)) (sym left) ∙ (sym (tied 3 (anchor.Place 0 false) refl) ∙ ap (λ r. x (Right r)) right)
gives x tied p q (IsPair.nexts h l r) = absurd (omega (arith, h.1))

pub toggles_agree : TogglesAgree
toggles_agree = (
  inductive,
  gives,
  tied_outputs_agree toggle turned_toggle [] [] 2 toggle_anchors (record { left_once = λ p q i h k. absurd h; right_once = λ p q i h k. absurd h; shared = λ p q i h k. absurd h }) refl inductive gives,
)
