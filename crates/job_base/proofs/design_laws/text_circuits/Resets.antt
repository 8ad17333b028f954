-- What is said of runs of flat nets from their initial values is said of such runs of the circuits that they come from.
use Rattle.std.specs.List.{Contains}
use Rattle.std.proofs.Common.{◌≡◌, ◌∙◌, ℕ, ◌<◌, Bool, List, [], map, sym, subst, arith}
use Rattle.circuit_theory.specs.Agree.{IsPair}
use Rattle.circuit_theory.specs.Circuit.{Circuit, Started}
use Rattle.circuit_theory.specs.Joined.{moved_start}
use Rattle.circuit_theory.specs.Run.{IsRun, IsResetRun}
use Rattle.circuit_theory.proofs.Lists.{Contains-map}
use Rattle.job_base.proofs.design_laws.FlatParts.{FlatDesign, along, input_up, output_down, run_down}
use Rattle.circuit_laws.specs.reset_laws.Reset.{AreAlikeFromReset, AgreeFromReset}

module _ {P : Type 0} {d : Circuit P} {net : Circuit ℕ} {clocked : P → Type 0} (f : FlatDesign d net clocked) where
  -- a run of the design from its initial values is one of the net
  pub reset_down : (n : ℕ) (run : ℕ → P → Bool) → IsResetRun d n run → IsResetRun net n (λ t s. run t (f.origin s))
  reset_down n run is = record {
    is_run = run_down f n run is.is_run;
    starts = λ u bit h.
        is.starts (f.origin u) bit
        (subst (λ (ss : List (Started P)). Contains ss (record { place = f.origin u; bit = bit })) f.circuit.started (Contains-map (moved_start f.origin) net.starts (record { place = u; bit = bit }) h));
  }

  -- an output has the value of its signal
  pub output_value : (n : ℕ) (run : ℕ → P → Bool) → IsRun d n run → (name : List ℕ) (p : P) → Contains d.outputs (record { name = name; place = p }) → (t : ℕ) → t < n → run t p ≡ run t (f.origin (f.signal p))
  output_value n run is name p h t low = along d (run t) (is.meets t low) (f.circuit.shown name p h).follows

module _ {P Q : Type 0} {a : Circuit P} {b : Circuit Q} {na nb : Circuit ℕ} {clocked_a : P → Type 0} {clocked_b : Q → Type 0} (f : FlatDesign a na clocked_a) (g : FlatDesign b nb clocked_b) where
  -- two such runs of the designs with equal inputs are two of the nets
  pub nets_alike : (n : ℕ) (left : ℕ → P → Bool) (right : ℕ → Q → Bool) → AreAlikeFromReset a b n left right → AreAlikeFromReset na nb n (λ t s. left t (f.origin s)) (λ t s. right t (g.origin s))
  nets_alike n left right alike = record {
    left_run = reset_down f n left alike.left_run;
    right_run = reset_down g n right alike.right_run;
    equal_inputs = λ name i j h k t low. alike.equal_inputs name (f.origin i) (g.origin j) (input_up f name i h) (input_up g name j k) t low;
  }

  -- outputs are equal where their signals are
  pub outputs_equal : (n : ℕ) (left : ℕ → P → Bool) (right : ℕ → Q → Bool) → AreAlikeFromReset a b n left right → (name : List ℕ) (p : P) (q : Q) →
      Contains a.outputs (record { name = name; place = p }) → Contains b.outputs (record { name = name; place = q }) → (t : ℕ) → t < n →
      left t (f.origin (f.signal p)) ≡ right t (g.origin (g.signal q)) → left t p ≡ right t q
  outputs_equal n left right alike name p q l r t low same =
      output_value f n left alike.left_run.is_run name p l t low ∙ (same ∙ sym (output_value g n right alike.right_run.is_run name q r t low))

  -- the outputs of two such runs of the designs are equal where those of the nets' runs are
  pub reset_outputs_up : (n : ℕ) (left : ℕ → P → Bool) (right : ℕ → Q → Bool) → AreAlikeFromReset a b n left right →
      ((t i j : ℕ) → t < n → IsPair [] na nb i j → left t (f.origin i) ≡ right t (g.origin j)) → (t : ℕ) (p : P) (q : Q) → t < n → IsPair [] a b p q → left t p ≡ right t q
  reset_outputs_up n left right alike agree t p q low (IsPair.nexts h l r) = absurd (omega (arith, h.1))
  reset_outputs_up n left right alike agree t p q low (IsPair.outputs {name = name} l r) =
      outputs_equal n left right alike name p q l r t low (agree t (f.signal p) (g.signal q) low (IsPair.outputs {name = name} (output_down f name p l) (output_down g name q r)))

  -- designs agree where their nets do
  pub resets_agree_up : AgreeFromReset na nb → AgreeFromReset a b
  resets_agree_up agree n left right alike = reset_outputs_up n left right alike (agree n (λ k s. left k (f.origin s)) (λ k s. right k (g.origin s)) (nets_alike n left right alike))
