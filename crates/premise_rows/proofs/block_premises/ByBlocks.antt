-- Texts of small designs can be judged by blocks of latches.
use Rattle.std.proofs.Common.{◌≡◌, ◌∙◌, ℕ, ◌≤◌, List, Option, None, refl, ap, subst, arith}
use Rattle.blif_read.specs.declared.design.BlifModel.{BlifModel}
use Rattle.blif_read.specs.Design.{walk, circuit_of_design}
use Rattle.flat_net.specs.View.{NetView}
use Rattle.flatten.specs.DesignFaults.{IsClocked, IsFlatOf}
use Rattle.job_base.specs.sec_files.Formats.{Blif}
use Rattle.job_base.specs.sec_files.Loading.{Loads}
use Rattle.job_base.proofs.sec_files.Texts.{text_net}
use Rattle.block_refine.specs.latch_blocks.Signals.{net_weight}
use Rattle.sec_jobs.specs.job_induct.induct_meaning.Answer.{CanBeJudged}
use Rattle.pair_texts.specs.design_rows.Designs as design
use Rattle.pair_texts.specs.design_rows.Small.{Small, small_and, small_toggle, small_late, small_early}
use Rattle.pair_texts.specs.design_rows.Texts.{on_and, off_and, toggle}
use Rattle.pair_texts.proofs.design_rows.Spelling.{Spells, PortsMatch, accepted, net_is_small, match}
use Rattle.pair_texts.proofs.design_rows.SpelledTexts.{on_and_spells, off_and_spells, toggle_spells}
use Rattle.premise_rows.specs.block_premises.ByBlocks.{TextsCanBeJudged}
use Rattle.premise_rows.specs.block_premises.ResetPremises.{late_from_zero, early_from_zero}
use Rattle.premise_rows.proofs.block_premises.NetWeights.{circuit_weight, net_weighs}
use Rattle.premise_rows.proofs.block_premises.ResetPremises.{late_design, early_design, late_from_spells, early_from_spells}

-- what each net of the text counts
pub light : (text : List ℕ) (models : List BlifModel) (s : Small) → Spells text models s → (weight : ℕ) → circuit_weight (circuit_of_design models None) ≡ weight → weight ≤ 2000000 → (net : NetView) → Loads text net → net_weight net ≤ 2000000
light text models s p weight is few net l =
    let flat : IsFlatOf models net = subst (λ (ms : List BlifModel). IsFlatOf ms net) p.models_are (text_net text net l Blif p.format) in
    let none : net.clock ≡ None = (net_is_small text models s p net l).unclocked in
    let whole : circuit_weight (circuit_of_design models net.clock) ≡ weight = ap (λ (c : Option (List ℕ)). circuit_weight (circuit_of_design models c)) none ∙ is in
    let h : net_weight net ≤ weight =
    subst (λ (m : ℕ). net_weight net ≤ m) whole
    (net_weighs (circuit_of_design models net.clock) net (IsClocked (circuit_of_design models net.clock) net.clock) flat.origin flat.signal flat.sound flat.circuit) in
    omega (arith, h, few)

-- two texts of small designs
judged : (x y : List ℕ) (m k : List BlifModel) (s t : Small) → Spells x m s → Spells y k t → PortsMatch s t → (v w : ℕ) → circuit_weight (circuit_of_design m None) ≡ v → circuit_weight (circuit_of_design k None) ≡ w →
    v ≤ 2000000 → w ≤ 2000000 → CanBeJudged x y
judged x y m k s t p q same v w left_is right_is few_left few_right = record {
  left = accepted x m s p;
  right = accepted y k t q;
  match = λ a b la lb. match s t a b (net_is_small x m s p a la) (net_is_small y k t q b lb) same;
  light = λ a b la lb. (light x m s p v left_is few_left a la, light y k t q w right_is few_right b lb);
}

pub texts_can_be_judged : TextsCanBeJudged
unfolding circuit_of_design walk
texts_can_be_judged = (
  judged on_and off_and design.on_and design.off_and small_and (record small_and { weight = 9 }) on_and_spells off_and_spells (λ own others. refl) 6 9 refl refl (omega arith) (omega arith),
  judged toggle toggle design.toggle design.toggle small_toggle small_toggle toggle_spells toggle_spells (λ own others. refl) 7 7 refl refl (omega arith) (omega arith),
  judged late_from_zero early_from_zero late_design early_design small_late small_early late_from_spells early_from_spells (λ own others. refl) 7 8 refl refl (omega arith) (omega arith),
)
