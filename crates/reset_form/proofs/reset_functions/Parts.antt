-- The numbers of both circuits' variables, and what is unfolded of each.
use Rattle.std.proofs.Common.{◌≡◌, ◌∙◌, ◌+◌, ◌^◌, ◌<◌, ℕ, List, length, Err, arith}
use Rattle.std.specs.List.{All}
use Rattle.std.proofs.lemmas.List.Elements.{All-weaker}
use Rattle.circuit_theory.specs.declared.Side.{Side}
use Rattle.circuit_theory.specs.declared.Side.TheVariants.{A, B}
use Rattle.circuit_theory.proofs.Lists.{length-map}
use Rattle.flat_net.specs.declared.parts.Port.{Port}
use Rattle.flat_net.specs.View.{NetView}
use Rattle.cbf_unfold.specs.unfold_places.InputOrder.{IsOrderOf}
use Rattle.sec_setup.specs.declared.setup.Setup.{Setup}
use Rattle.sec_setup.specs.Setup.{AreColumns}
use Rattle.cbf_unfold.proofs.shift_variables.Assignments.{once_each}
use Rattle.reset_form.specs.declared.reset_functions.bases.Bases.{Bases}
use Rattle.reset_form.specs.declared.reset_functions.error.ResetError.{ResetError}
use Rattle.reset_form.specs.declared.reset_functions.error.ResetError.TheVariants as refused
use Rattle.reset_form.specs.reset_functions.Bases.{AreBases}
use Rattle.reset_form.specs.reset_functions.Pairs.{IsLeftSide, IsRightSide, IsLight, IsRefusalOf, Unfolds}

-- the numbers of a net's inputs
pub is_order : (n : NetView) (columns : List (List ℕ)) (own others : List ℕ) → AreColumns n columns own others → IsOrderOf n own
is_order n columns own others are = record { each = are.numbers.each ∙ length-map (λ (p : Port). p.name) n.inputs; distinct = once_each own are.numbers.distinct }

module _ (s : Setup) (b : Bases) (are : AreBases s b) where
  pub left_room : b.left + length s.left.now.latches < 2 ^ 31
  left_room = let e = are.right_is in let r = are.room in omega (arith, e, r)

  pub right_inputs_below : All (λ i. i < b.right) s.orders.right
  right_inputs_below = All-weaker (λ i. i < b.left) (λ i. i < b.right) (λ i h. let e = are.right_is in omega (arith, h, e)) s.orders.right are.right_inputs

  no_B_A : B ≡ A → ⊥
  no_B_A e = cc

  no_A_B : A ≡ B → ⊥
  no_A_B e = cc

  -- a refusal of A, or of B once A is unfolded
  pub refused_left : (e : ResetError) → IsRefusalOf A s.left.now (IsLeftSide s) e → Unfolds s b (Err e)
  refused_left (refused.TooLarge A) h = h.1
  refused_left (refused.TooLarge B) h = absurd (no_B_A h.0)
  refused_left refused.NoMemory h = tt

  pub refused_right : (e : ResetError) → IsLight s.left.now (IsLeftSide s) → IsRefusalOf B s.right.now (IsRightSide s) e → Unfolds s b (Err e)
  refused_right (refused.TooLarge A) light h = absurd (no_A_B h.0)
  refused_right (refused.TooLarge B) light h = (light, h.1)
  refused_right refused.NoMemory light h = tt

-- a refusal because of some sides is one because of these
pub refusal_as : (side : Side) (n : NetView) (P Q : ℕ × ℕ → Type 0) → ((p : ℕ × ℕ) → P p → Q p) → (e : ResetError) → IsRefusalOf side n P e → IsRefusalOf side n Q e
refusal_as side n P Q same (refused.TooLarge other) h = (h.0, (h.1.0, λ p k. same p (h.1.1 p k), h.1.2))
refusal_as side n P Q same refused.NoMemory h = tt
