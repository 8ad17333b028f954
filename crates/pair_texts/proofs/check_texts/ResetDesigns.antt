-- What a sequence and power-ups show of flat nets they show of the circuits that the nets come from.
use Rattle.std.proofs.Common.{◌∙◌, ℕ, ap, sym}
use Rattle.circuit_theory.specs.Circuit.{Circuit}
use Rattle.job_base.proofs.design_laws.FlatParts.{FlatDesign, output_up}
use Rattle.job_base.proofs.design_laws.text_circuits.Powers.{begins_up, net_latches_long, side_shown}
use Rattle.job_base.proofs.design_laws.text_circuits.Resets.{nets_alike, outputs_equal}
use Rattle.obligations.specs.declared.outcome.verdict.ResetWitness.{ResetWitness}
use Rattle.plain_check.specs.under_base.compare_base.Says.{MakesResetsDiffer}

module _ {P Q : Type 0} {a : Circuit P} {b : Circuit Q} {na nb : Circuit ℕ} {clocked_a : P → Type 0} {clocked_b : Q → Type 0} (f : FlatDesign a na clocked_a) (g : FlatDesign b nb clocked_b) where
  -- what a sequence and power-ups show of the nets they show of their designs
  pub resets_differ_up : (w : ResetWitness) → MakesResetsDiffer na nb w → MakesResetsDiffer a b w
  resets_differ_up w shows =
      let x = output_up f shows.name shows.left_place shows.left_output in
      let y = output_up g shows.name shows.right_place shows.right_output in
      record {
        name = shows.name;
        left_place = x.0;
        right_place = y.0;
        named = shows.named;
        left_output = x.1;
        right_output = y.1;
        differ = shows.differ;
        left_each = shows.left_each ∙ net_latches_long f;
        right_each = shows.right_each ∙ net_latches_long g;
        left_begins = begins_up f w.left_power shows.left_begins;
        right_begins = begins_up g w.right_power shows.right_begins;
        left_shows = side_shown f w.witness.stimulus w.left_power w.witness.cycle shows.name x.0 shows.left_place w.witness.left x.1 x.2 shows.left_shows;
        right_shows = side_shown g w.witness.stimulus w.right_power w.witness.cycle shows.name y.0 shows.right_place w.witness.right y.1 y.2 shows.right_shows;
        earlier = λ n left right alike t low before.
            outputs_equal f g n left right alike shows.name x.0 y.0 x.1 y.1 t low
            (ap (λ (s : ℕ). left t (f.origin s)) x.2
            ∙ (shows.earlier n (λ k s. left k (f.origin s)) (λ k s. right k (g.origin s)) (nets_alike f g n left right alike) t low before ∙ ap (λ (s : ℕ). right t (g.origin s)) (sym y.2)));
      }
