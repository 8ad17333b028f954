-- Texts of small designs without cycles can be unfolded.
use Rattle.std.proofs.Common.{◌≡◌, ℕ, ◌≤◌, List, [], ◌++◌, refl, sym, subst, arith}
use Rattle.circuit_theory.specs.Depth.{HasCycle}
use Rattle.circuit_theory.specs.Run.{NoneEnabled}
use Rattle.blif_read.specs.declared.design.BlifModel.{BlifModel}
use Rattle.flat_net.specs.View.{circuit_of}
use Rattle.outcome_fits.specs.Fitting.{IsCutOver}
use Rattle.pair_texts.specs.design_rows.Designs as design
use Rattle.pair_texts.specs.design_rows.Small.{Small, small_and, small_late, small_early, small_two, small_idle}
use Rattle.pair_texts.specs.design_rows.Texts.{on_and, late, early, hier, two, idle}
use Rattle.pair_texts.proofs.design_rows.Spelling.{Spells, accepted, net_is_small}
use Rattle.pair_texts.proofs.design_rows.SpelledTexts.{on_and_spells, late_spells, early_spells, hier_spells, two_spells, idle_spells}
use Rattle.premise_rows.specs.one_text_runs.one_text.OneText.{CanBeUnfolded, TextsCanBeUnfolded}

-- such a text can be unfolded
unfolded : (x : List ℕ) (m : List BlifModel) (s : Small) → Spells x m s → s.removed ≡ [] → s.weight ≤ 2000000 → CanBeUnfolded x
unfolded x m s p none few = record {
  accepted = accepted x m s p;
  acyclic = λ net l. subst (λ (removed : List (List ℕ)). HasCycle (circuit_of net) NoneEnabled (removed ++ []) → ⊥) none ((net_is_small x m s p net l).acyclic []);
  light = λ net l over.
      (let h = (net_is_small x m s p net l).light 2000000 (subst (λ (ns : List (List ℕ)). IsCutOver ns (circuit_of net)) (sym none) over) in
      omega (arith, h, few));
}

pub texts_can_be_unfolded : TextsCanBeUnfolded
texts_can_be_unfolded = (
  unfolded on_and design.on_and small_and on_and_spells refl (omega arith),
  unfolded late design.late small_late late_spells refl (omega arith),
  unfolded early design.early small_early early_spells refl (omega arith),
  unfolded hier design.hier small_late hier_spells refl (omega arith),
  unfolded two design.two small_two two_spells refl (omega arith),
  unfolded idle design.idle small_idle idle_spells refl (omega arith),
)
