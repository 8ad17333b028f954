-- What is said of flat nets under an assumption is said of the circuits that they come from.
use Rattle.std.proofs.Common.{◌≡◌, ◌∙◌, ℕ, ◌+◌, ◌<◌, Bool, List, sym, ap, arith}
use Rattle.circuit_theory.specs.declared.Mode.TheVariants.{Plain}
use Rattle.circuit_theory.specs.Circuit.{Circuit, Meets}
use Rattle.circuit_theory.specs.Run.{IsRun}
use Rattle.circuit_theory.proofs.Lists.{All-from_each}
use Rattle.net_assembly.proofs.net_alike.Ends.{input_home}
use Rattle.job_base.proofs.design_laws.FlatOnward.{nets_settled, nets_start, runs_up}
use Rattle.job_base.proofs.design_laws.FlatParts.{FlatDesign, along, input_down, input_up, output_down, output_up, run_down, run_up}
use Rattle.job_base.proofs.design_laws.text_circuits.Designs.{alike_down, settled_up}
use Rattle.job_base.proofs.design_laws.text_circuits.Powers.{begins_up, net_latches_long, side_shown}
use Rattle.job_base.proofs.design_laws.text_circuits.Resets.{nets_alike, outputs_equal, reset_outputs_up}
use Rattle.witness_report.specs.declared.stimulus.Stimulus.{Stimulus}
use Rattle.obligations.specs.declared.outcome.verdict.Outcome.{Outcome}
use Rattle.obligations.specs.declared.outcome.verdict.ResetWitness.{ResetWitness}
use Rattle.pair_texts.specs.assume_texts.Agreement.{AgreeWhereMet, AgreeOnwardWhereMet, AgreeFromWhereMet, AgreeFromResetWhereMet, AreEqualWhereMet, MakesResetsDifferWhereMet}
use Rattle.pair_texts.specs.assume_texts.Meets.{RunMeetsCircuit, SequenceMeetsCircuit}

-- values of one cycle are a run of that cycle
module _ {P : Type 0} {d : Circuit P} {net : Circuit ℕ} {clocked : P → Type 0} (f : FlatDesign d net clocked) where
  one_cycle : {X : Type 0} (c : Circuit X) (v : X → Bool) → Meets c v → IsRun c 1 (λ t. v)
  one_cycle c v meets = record { meets = λ t low. meets; carries = λ t low. absurd (omega (arith, low)) }

  -- values that meet the net meet the design, and the other way round
  values_up : (v : ℕ → Bool) → Meets net v → Meets d (λ p. v (f.signal p))
  values_up v meets = (run_up f 1 (λ t. v) (one_cycle net v meets)).meets 0 (omega arith)

  values_down : (v : P → Bool) → Meets d v → Meets net (λ s. v (f.origin s))
  values_down v meets = (run_down f 1 (λ t. v) (one_cycle d v meets)).meets 0 (omega arith)

  -- a sequence that meets the net meets its design
  pub sequence_up : (stimulus : Stimulus) (last : ℕ) → SequenceMeetsCircuit net stimulus last → SequenceMeetsCircuit d stimulus last
  sequence_up stimulus last meets t within v holds given name o output =
      along d v holds (f.circuit.shown name o output).follows
      ∙ meets t within (λ s. v (f.origin s)) (values_down v holds) (λ i m s at input. given i m (f.origin s) at (input_up f m s input)) name (f.signal o) (output_down f name o output)

module _ {P R : Type 0} {a : Circuit P} {c : Circuit R} {na nc : Circuit ℕ} {clocked_a : P → Type 0} {clocked_c : R → Type 0} (f : FlatDesign a na clocked_a) (h : FlatDesign c nc clocked_c) where
  -- a run of a design that meets the assumption's design is a run of the net that meets the assumption's net
  pub meets_down : (n : ℕ) (run : ℕ → P → Bool) → RunMeetsCircuit c a n run → RunMeetsCircuit nc na n (λ t s. run t (f.origin s))
  meets_down n run meets t low v holds given name o output =
      let x = output_up h name o output in
      ap v (sym x.2)
      ∙ meets t low (λ r. v (h.signal r)) (values_up h v holds)
      (λ m r p input own. given m (h.signal r) (f.signal p) (input_down h m r input) (input_down f m p own) ∙ ap (run t) (input_home a na f.size clocked_a f.origin f.signal f.single f.circuit m p own)) name x.0 x.1

module _ {P Q R : Type 0} {a : Circuit P} {b : Circuit Q} {c : Circuit R} {na nb nc : Circuit ℕ} {clocked_a : P → Type 0} {clocked_b : Q → Type 0} {clocked_c : R → Type 0} (f : FlatDesign a na clocked_a)
    (g : FlatDesign b nb clocked_b) (h : FlatDesign c nc clocked_c) where
  agree_up : AgreeWhereMet Plain nc na nb → AgreeWhereMet Plain c a b
  agree_up agree n left right alike meets =
      settled_up f g n left right alike (agree n (λ t s. left t (f.origin s)) (λ t s. right t (g.origin s)) (alike_down f g n left right alike) (meets_down f h n left meets))

  onward_up : (names : List (List ℕ)) → AgreeOnwardWhereMet Plain names nc na nb → AgreeOnwardWhereMet Plain names c a b
  onward_up names agree n left right alike meets T below settled start =
      runs_up f g names n left right alike T
      (agree n (λ t s. left t (f.origin s)) (λ t s. right t (g.origin s)) (alike_down f g n left right alike) (meets_down f h n left meets) T below (nets_settled f g names n left right alike T settled)
      (nets_start f g names n left right alike T start))

  from_up : (from : ℕ) (names : List (List ℕ)) → AgreeFromWhereMet from names nc na nb → AgreeFromWhereMet from names c a b
  from_up from names agree n left right alike meets below start =
      runs_up f g names n left right alike from
      (agree n (λ t s. left t (f.origin s)) (λ t s. right t (g.origin s)) (alike_down f g n left right alike) (meets_down f h n left meets) below (nets_start f g names n left right alike from start))

  -- designs are equal where their nets are
  pub equal_up : (o : Outcome) → AreEqualWhereMet nc na nb o → AreEqualWhereMet c a b o
  equal_up o equal = record { agree = agree_up equal.agree; onward = onward_up o.exposed equal.onward; from = from_up o.through o.exposed equal.from }

  -- also from their initial values
  pub resets_agree_up : AgreeFromResetWhereMet nc na nb → AgreeFromResetWhereMet c a b
  resets_agree_up agree n left right alike meets =
      reset_outputs_up f g n left right alike (agree n (λ t s. left t (f.origin s)) (λ t s. right t (g.origin s)) (nets_alike f g n left right alike) (meets_down f h n left meets))

  -- what a sequence and power-ups show of the nets they show of their designs
  pub resets_differ_up : (w : ResetWitness) → MakesResetsDifferWhereMet nc na nb w → MakesResetsDifferWhereMet c a b w
  resets_differ_up w shows =
      let x = output_up f shows.name shows.left_place shows.left_output in
      let y = output_up g shows.name shows.right_place shows.right_output in
      record {
        name = shows.name;
        left_place = x.0;
        right_place = y.0;
        named = shows.named;
        left_output = x.1;
        right_output = y.1;
        differ = shows.differ;
        left_each = shows.left_each ∙ net_latches_long f;
        right_each = shows.right_each ∙ net_latches_long g;
        left_begins = begins_up f w.left_power shows.left_begins;
        right_begins = begins_up g w.right_power shows.right_begins;
        left_shows = side_shown f w.witness.stimulus w.left_power w.witness.cycle shows.name x.0 shows.left_place w.witness.left x.1 x.2 shows.left_shows;
        right_shows = side_shown g w.witness.stimulus w.right_power w.witness.cycle shows.name y.0 shows.right_place w.witness.right y.1 y.2 shows.right_shows;
        earlier = λ n left right alike meets t low before.
            outputs_equal f g n left right alike shows.name x.0 y.0 x.1 y.1 t low
            (ap (λ (s : ℕ). left t (f.origin s)) x.2
            ∙ (shows.earlier n (λ k s. left k (f.origin s)) (λ k s. right k (g.origin s)) (nets_alike f g n left right alike) (meets_down f h n left meets) t low before
            ∙ ap (λ (s : ℕ). right t (g.origin s)) (sym y.2)));
      }
