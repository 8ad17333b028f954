-- Texts of small designs can be searched over cycles, whether latches lie on cycles or not.
use Rattle.std.proofs.Common.{◌≡◌, ℕ, ◌≤◌, List, None, refl, arith}
use Rattle.circuit_theory.specs.declared.Side.{Side}
use Rattle.circuit_theory.specs.declared.Side.TheVariants.{A, B}
use Rattle.blif_read.specs.declared.design.BlifModel.{BlifModel}
use Rattle.blif_read.specs.Design.{walk, circuit_of_design}
use Rattle.flat_net.specs.View.{NetView}
use Rattle.cycle_search.specs.Outputs.{IsOneTooLarge}
use Rattle.job_base.specs.sec_files.Loading.{Loads}
use Rattle.sec_jobs.specs.job_search.search_meaning.Answer.{CanBeSearched}
use Rattle.pair_texts.specs.design_rows.Designs as design
use Rattle.pair_texts.specs.design_rows.Small.{Small, small_late, small_early, small_toggle}
use Rattle.pair_texts.specs.design_rows.Texts.{late, toggle}
use Rattle.pair_texts.proofs.design_rows.Spelling.{Spells, PortsMatch, accepted, net_is_small, match}
use Rattle.pair_texts.proofs.design_rows.SpelledTexts.{late_spells, toggle_spells}
use Rattle.premise_rows.specs.block_premises.ResetPremises.{late_from_zero, early_from_zero}
use Rattle.premise_rows.specs.search_premises.Searched.{TextsCanBeSearched}
use Rattle.premise_rows.proofs.block_premises.NetWeights.{circuit_weight}
use Rattle.premise_rows.proofs.block_premises.ResetPremises.{late_design, early_design, late_from_spells, early_from_spells}
use Rattle.premise_rows.proofs.search_premises.FirstCycle.{text_light, not_too_large}

searchable : (x y : List ℕ) (m k : List BlifModel) (s t : Small) → Spells x m s → Spells y k t → PortsMatch s t → (v w : ℕ) → circuit_weight (circuit_of_design m None) ≡ v → circuit_weight (circuit_of_design k None) ≡ w →
    v ≤ 2000000 → w ≤ 2000000 → CanBeSearched x y
searchable x y m k s t p q same v w left_is right_is few_left few_right = record {
  left = accepted x m s p;
  right = accepted y k t q;
  match = λ a b la lb. match s t a b (net_is_small x m s p a la) (net_is_small y k t q b lb) same;
  light = light;
}
  where
    light : (a b : NetView) → Loads x a → Loads y b → (side : Side) → IsOneTooLarge a b 0 side → ⊥
    light a b la lb A over = not_too_large a v (text_light x m s p v left_is a la) few_left over
    light a b la lb B over = not_too_large b w (text_light y k t q w right_is b lb) few_right over

pub texts_can_be_searched : TextsCanBeSearched
unfolding circuit_of_design walk
texts_can_be_searched = (
  searchable late_from_zero early_from_zero late_design early_design small_late small_early late_from_spells early_from_spells (λ own others. refl) 7 8 refl refl (omega arith) (omega arith),
  searchable late late design.late design.late small_late small_late late_spells late_spells (λ own others. refl) 7 7 refl refl (omega arith) (omega arith),
  searchable toggle toggle design.toggle design.toggle small_toggle small_toggle toggle_spells toggle_spells (λ own others. refl) 7 7 refl refl (omega arith) (omega arith),
)
