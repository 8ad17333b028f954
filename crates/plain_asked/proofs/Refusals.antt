-- The signals of the pairs are those of the outputs, so each refusal is one of all outputs.
use Rattle.std.proofs.Common.{ℕ, ◌<◌, List, length, Err, ◌∙◌, subst}
use Rattle.std.specs.List.{All, Contains}
use Rattle.circuit_theory.specs.declared.Side.TheVariants.{A, B}
use Rattle.circuit_theory.proofs.Lists.{All-from_each, length-map}
use Rattle.flat_net.specs.declared.parts.Port.{Port}
use Rattle.flat_net.specs.View.{NetView, circuit_of}
use Rattle.flat_net.specs.Sound.{IsSound}
use Rattle.cbf_unfold.specs.View.{IsOrderOf}
use Rattle.sec_setup.specs.declared.setup.Setup.{Setup}
use Rattle.plain_asked.specs.declared.error.PlainError.{PlainError}
use Rattle.plain_asked.specs.declared.error.PlainError.TheVariants as refused
use Rattle.sec_setup.specs.declared.ports.pairs.SignalPair.{SignalPair}
use Rattle.outcome_fits.specs.Fitting.{IsLight}
use Rattle.plain_asked.specs.Formed.{Formed}
use Rattle.sec_setup.specs.ports.Pairs.{outputs_of, ArePairsOf}
use Rattle.sec_setup.specs.Setup.{AreColumns}
use Rattle.plain_asked.specs.Pairs.{AreLight, AreTooLarge, Unfolds, left_signals, right_signals}
use Rattle.cbf_unfold.proofs.shift_variables.Assignments.{once_each}
use Rattle.plain_asked.proofs.Growing.{over_weaker, weight_same}
use Rattle.plain_asked.proofs.PairAt.{output_within}

-- the numbers of a net's inputs
pub is_order : (n : NetView) (columns : List (List ℕ)) (own others : List ℕ) → AreColumns n columns own others → IsOrderOf n own
is_order n columns own others are = record { each = are.numbers.each ∙ length-map (λ (p : Port). p.name) n.inputs; distinct = once_each own are.numbers.distinct }

module _ (a b : NetView) (pairs : List SignalPair) (paired : ArePairsOf a b pairs) where
  pub lefts_within : IsSound a → All (λ s. s < length a.drivers) (left_signals pairs)
  lefts_within sound = All-from_each (λ s. s < length a.drivers) (left_signals pairs) (λ s h. output_within a sound s (subst (λ (l : List ℕ). Contains l s) paired.left h))

  pub rights_within : IsSound b → All (λ s. s < length b.drivers) (right_signals pairs)
  rights_within sound = All-from_each (λ s. s < length b.drivers) (right_signals pairs) (λ s h. output_within b sound s ((paired.right s).0 h))

  pub left_light : AreLight a (left_signals pairs) → IsLight a
  left_light h = subst (AreLight a) paired.left h

  pub right_light : AreLight b (right_signals pairs) → IsLight b
  right_light (w, weight, few) = (w, weight_same (circuit_of b) (right_signals pairs) (outputs_of b) w (λ s. (paired.right s).0) (λ s. (paired.right s).1) weight, few)

-- a refusal is one of all outputs
pub refusal_formed : (s : Setup) (conflicts : ℕ) (paired : ArePairsOf s.left.now s.right.now s.pairs) (e : PlainError) → Unfolds s.left.now s.right.now s.orders.left s.orders.right s.pairs (Err e) → Formed s conflicts (Err e)
refusal_formed s conflicts paired (refused.TooLarge A) h = subst (AreTooLarge s.left.now) paired.left h
refusal_formed s conflicts paired (refused.TooLarge B) h =
    (left_light s.left.now s.right.now s.pairs paired h.0, over_weaker (circuit_of s.right.now) (right_signals s.pairs) (outputs_of s.right.now) 2000000 (λ n. (paired.right n).0) h.1)
refusal_formed s conflicts paired refused.NoMemory h = tt
