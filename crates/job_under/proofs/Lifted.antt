-- What is said of flat nets in the first cycles of runs that meet an assumption is said of the circuits that they come from.
use Rattle.std.proofs.Common.{◌≡◌, ℕ, ◌<◌, ◌≤◌, Bool, List, [], arith}
use Rattle.circuit_theory.specs.Agree.{IsPair}
use Rattle.circuit_theory.specs.Circuit.{Circuit}
use Rattle.flat_net.specs.View.{NetView, circuit_of}
use Rattle.assume_queries.specs.assume_sequences.assume_taken.Taken.{IsAssumed, assumed_by}
use Rattle.job_base.proofs.design_laws.FlatParts.{FlatDesign, output_down}
use Rattle.job_base.proofs.design_laws.text_circuits.Resets.{nets_alike, outputs_equal}
use Rattle.pair_texts.proofs.assume_texts.Designs.{meets_down}
use Rattle.pair_texts.proofs.assume_texts.Sequences.{run_meets}
use Rattle.cycle_under.specs.First.{AgreeUpToUnder}
use Rattle.job_under.specs.Answer.{AgreeUpToWhereMet}

-- nets that agree under an assumption agree where its net is met
pub up_to_where_met : (names : List (List ℕ)) (c : NetView) (is : IsAssumed names c) (a b : NetView) (last : ℕ) → AgreeUpToUnder (assumed_by is) last (circuit_of a) (circuit_of b) → AgreeUpToWhereMet last (circuit_of c) (circuit_of a) (circuit_of b)
up_to_where_met names c is a b last agree n left right alike meets = agree n left right alike (run_meets names c is (circuit_of a) n left meets)

module _ {P Q R : Type 0} {a : Circuit P} {b : Circuit Q} {c : Circuit R} {na nb nc : Circuit ℕ} {clocked_a : P → Type 0} {clocked_b : Q → Type 0} {clocked_c : R → Type 0} (f : FlatDesign a na clocked_a)
    (g : FlatDesign b nb clocked_b) (h : FlatDesign c nc clocked_c) where
  -- designs agree up to a cycle where their nets do
  pub agree_up_to_up : (last : ℕ) → AgreeUpToWhereMet last nc na nb → AgreeUpToWhereMet last c a b
  agree_up_to_up last agree n left right alike meets t p q low le pair = go p q pair
    where
      go : (p : P) (q : Q) → IsPair [] a b p q → left t p ≡ right t q
      go p q (IsPair.nexts k l r) = absurd (omega (arith, k.1))
      go p q (IsPair.outputs {name = name} l r) =
          outputs_equal f g n left right alike name p q l r t low
          (agree n (λ k s. left k (f.origin s)) (λ k s. right k (g.origin s)) (nets_alike f g n left right alike) (meets_down f h n left meets) t (f.signal p) (g.signal q) low le (IsPair.outputs {name = name} (output_down f name p l) (output_down g name q r)))
