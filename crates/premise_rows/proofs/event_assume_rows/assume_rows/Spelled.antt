-- The texts spell small designs.
use Rattle.std.proofs.Common.{◌≡◌, true, List, [], ◌∷◌, refl, arith}
use Rattle.std.specs.Prelude.{codes}
use Rattle.circuit_theory.specs.Agree.{cut}
use Rattle.circuit_theory.specs.Sizes.{Weighed}
use Rattle.blif_read.specs.blif_lines.Lines.{cut_line, going_on}
use Rattle.blif_read.specs.Design.{Place, walk, circuit_of_design}
use Rattle.blif_read.specs.Fault.{fault_of}
use Rattle.blif_read.specs.Heads.{head_of}
use Rattle.pair_texts.specs.design_rows.NoFault.{has_no_fault}
use Rattle.pair_texts.proofs.design_rows.NoFaults.{tested_is_sound}
use Rattle.pair_texts.proofs.design_rows.Examples.{at_top, flat_rank, and_spots}
use Rattle.pair_texts.proofs.design_rows.Spelling.{Spells}
use Rattle.pair_texts.proofs.design_rows.Tested.{PassesTests, tested_is_small}
use Rattle.premise_rows.specs.event_assume_rows.assume_rows.SameInputs.{on_or, same, or_design, same_design, small_or, small_same}

or_passes : PassesTests or_design small_or flat_rank (and_spots 7)
unfolding circuit_of_design walk cut
or_passes = record { no_clock = refl; inputs = refl; outputs = refl; latches = refl; ranked = refl; closed = refl; weight = refl }

or_sound : has_no_fault (codes "y" ∷ []) or_design ≡ true
unfolding walk
or_sound = refl

abbrev same_spots : List (Weighed Place)
same_spots = at_top (codes "ok") 0 7 ∷ at_top (codes "a") 0 1 ∷ at_top (codes "b") 0 1 ∷ []

same_passes : PassesTests same_design small_same flat_rank same_spots
unfolding circuit_of_design walk cut
same_passes = record { no_clock = refl; inputs = refl; outputs = refl; latches = refl; ranked = refl; closed = refl; weight = refl }

same_sound : has_no_fault (codes "ok" ∷ []) same_design ≡ true
unfolding walk
same_sound = refl

pub or_spells : Spells on_or or_design small_or
unfolding fault_of head_of cut_line going_on
or_spells = record {
  short = omega arith;
  format = refl;
  faultless = refl;
  models_are = refl;
  small = (tested_is_sound (codes "y" ∷ []) or_design or_sound, tested_is_small or_design small_or flat_rank (and_spots 7) or_passes);
}

pub same_spells : Spells same same_design small_same
unfolding fault_of head_of cut_line going_on
same_spells = record {
  short = omega arith;
  format = refl;
  faultless = refl;
  models_are = refl;
  small = (tested_is_sound (codes "ok" ∷ []) same_design same_sound, tested_is_small same_design small_same flat_rank same_spots same_passes);
}
