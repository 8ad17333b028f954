-- What is said of flat nets behind the rows of a stimulus under an assumption is said of the circuits that they come from.
use Rattle.std.proofs.Common.{◌≡◌, ◌∙◌, ℕ, ◌<◌, ◌≤◌, Bool, List, [], length, sym, ap, arith}
use Rattle.circuit_theory.specs.Agree.{IsPair}
use Rattle.circuit_theory.specs.Circuit.{Circuit, Meets}
use Rattle.circuit_theory.specs.Run.{IsRun}
use Rattle.witness_report.specs.declared.stimulus.Stimulus.{Stimulus}
use Rattle.job_base.proofs.design_laws.FlatParts.{FlatDesign, along, input_up, output_down, run_down}
use Rattle.job_base.proofs.design_laws.text_circuits.Designs.{alike_down}
use Rattle.job_base.proofs.design_laws.text_circuits.Resets.{output_value}
use Rattle.pair_texts.proofs.assume_texts.Designs.{meets_down}
use Rattle.job_after.proofs.Lifted.{begins_down}
use Rattle.job_after_under.specs.Runs.{RunMeetsFrom, AgreeBehindWhereMet, SequenceMeetsFrom}

module _ {P : Type 0} {d : Circuit P} {net : Circuit ℕ} {clocked : P → Type 0} (f : FlatDesign d net clocked) where
  -- values of one cycle are a run of that cycle
  one_cycle : (v : P → Bool) → Meets d v → IsRun d 1 (λ t. v)
  one_cycle v meets = record { meets = λ t low. meets; carries = λ t low. absurd (omega (arith, low)) }

  -- a sequence that meets the net meets its design
  pub sequence_up : (first : ℕ) (stimulus : Stimulus) (last : ℕ) → SequenceMeetsFrom first net stimulus last → SequenceMeetsFrom first d stimulus last
  sequence_up first stimulus last meets t from within v holds given name o output =
      along d v holds (f.circuit.shown name o output).follows
      ∙ meets t from within (λ s. v (f.origin s)) ((run_down f 1 (λ k. v) (one_cycle v holds)).meets 0 (omega arith)) (λ i m s at input. given i m (f.origin s) at (input_up f m s input)) name (f.signal o) (output_down f name o output)

module _ {P Q R : Type 0} {a : Circuit P} {b : Circuit Q} {c : Circuit R} {na nb nc : Circuit ℕ} {clocked_a : P → Type 0} {clocked_b : Q → Type 0} {clocked_c : R → Type 0} (f : FlatDesign a na clocked_a)
    (g : FlatDesign b nb clocked_b) (h : FlatDesign c nc clocked_c) where
  -- a run of a design that meets the assumption's design there is a run of the net that meets the assumption's net
  meets_there : (first n : ℕ) (run : ℕ → P → Bool) → RunMeetsFrom first c a n run → RunMeetsFrom first nc na n (λ t s. run t (f.origin s))
  meets_there first n run meets t from low = meets_down f h 1 (λ k. run t) (λ k one. meets t from low) 0 (omega arith)

  -- designs agree behind the rows where their nets do
  pub behind_up : (names : List (List ℕ)) (rows : List (List Bool)) (Wanted : ℕ → Type 0) → AgreeBehindWhereMet names rows Wanted nc na nb → AgreeBehindWhereMet names rows Wanted c a b
  behind_up names rows Wanted agree n left right alike lb rb meets t p q le low wanted pair = go p q pair
    where
      go : (p : P) (q : Q) → IsPair [] a b p q → left t p ≡ right t q
      go p q (IsPair.nexts k l r) = absurd (omega (arith, k.1))
      go p q (IsPair.outputs {name = name} l r) =
          output_value f n left alike.left_run name p l t low
          ∙ (agree n (λ k s. left k (f.origin s)) (λ k s. right k (g.origin s)) (alike_down f g n left right alike) (begins_down f names rows left lb) (begins_down g names rows right rb) (meets_there (length rows) n left meets)
          t (f.signal p) (g.signal q) le low wanted (IsPair.outputs {name = name} (output_down f name p l) (output_down g name q r))
          ∙ sym (output_value g n right alike.right_run name q r t low))
