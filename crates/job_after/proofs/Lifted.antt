-- What is said of flat nets behind the rows of a stimulus is said of the circuits that they come from.
use Rattle.std.proofs.Common.{◌≡◌, ◌∙◌, ℕ, Bool, List, [], sym, arith}
use Rattle.circuit_theory.specs.Agree.{IsPair}
use Rattle.circuit_theory.specs.Circuit.{Circuit}
use Rattle.job_base.proofs.design_laws.FlatParts.{FlatDesign, input_up, output_down}
use Rattle.job_base.proofs.design_laws.text_circuits.Designs.{alike_down}
use Rattle.job_base.proofs.design_laws.text_circuits.Resets.{output_value}
use Rattle.restart.specs.Agreement.{BeginsBy, AgreeBehind}

-- a run of the design that begins by the rows is a run of the net that does
pub begins_down : {P : Type 0} {d : Circuit P} {net : Circuit ℕ} {clocked : P → Type 0} (f : FlatDesign d net clocked) (names : List (List ℕ)) (rows : List (List Bool)) (run : ℕ → P → Bool) → BeginsBy d names rows run →
    BeginsBy net names rows (λ t s. run t (f.origin s))
begins_down f names rows run h t i row name bit s row_is bit_is name_is input = h t i row name bit (f.origin s) row_is bit_is name_is (input_up f name s input)

module _ {P Q : Type 0} {a : Circuit P} {b : Circuit Q} {na nb : Circuit ℕ} {clocked_a : P → Type 0} {clocked_b : Q → Type 0} (f : FlatDesign a na clocked_a) (g : FlatDesign b nb clocked_b) where
  -- designs agree behind the rows where their nets do
  pub behind_up : (names : List (List ℕ)) (rows : List (List Bool)) (Wanted : ℕ → Type 0) → AgreeBehind names rows Wanted na nb → AgreeBehind names rows Wanted a b
  behind_up names rows Wanted agree n left right alike lb rb t p q le low wanted pair = go p q pair
    where
      go : (p : P) (q : Q) → IsPair [] a b p q → left t p ≡ right t q
      go p q (IsPair.nexts h l r) = absurd (omega (arith, h.1))
      go p q (IsPair.outputs {name = name} l r) =
          output_value f n left alike.left_run name p l t low
          ∙ (agree n (λ k s. left k (f.origin s)) (λ k s. right k (g.origin s)) (alike_down f g n left right alike) (begins_down f names rows left lb) (begins_down g names rows right rb) t (f.signal p) (g.signal q) le low wanted
          (IsPair.outputs {name = name} (output_down f name p l) (output_down g name q r))
          ∙ sym (output_value g n right alike.right_run name q r t low))
