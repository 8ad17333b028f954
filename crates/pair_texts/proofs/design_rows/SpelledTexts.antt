-- The worked texts are small designs' texts.
use Rattle.std.proofs.Common.{refl, arith}
use Rattle.blif_read.specs.blif_lines.Lines.{cut_line, going_on}
use Rattle.blif_read.specs.Fault.{fault_of}
use Rattle.blif_read.specs.Heads.{head_of}
use Rattle.pair_texts.specs.design_rows.Designs as design
use Rattle.pair_texts.specs.design_rows.Small.{small_and, small_late, small_early, small_two, small_toggle, small_idle}
use Rattle.pair_texts.proofs.design_rows.Examples.{on_and_is_small, off_and_is_small, late_is_small, early_is_small, hier_is_small, two_is_small, idle_is_small}
use Rattle.pair_texts.proofs.design_rows.Toggle.{toggle_is_small}
use Rattle.pair_texts.specs.design_rows.Texts.{on_and, off_and, late, early, toggle, hier, two, idle}
use Rattle.pair_texts.proofs.design_rows.Spelling.{Spells}

pub on_and_spells : Spells on_and design.on_and small_and
unfolding fault_of head_of cut_line going_on
on_and_spells = record { short = omega arith; format = refl; faultless = refl; models_are = refl; small = on_and_is_small }

pub off_and_spells : Spells off_and design.off_and (record small_and { weight = 9 })
unfolding fault_of head_of cut_line going_on
off_and_spells = record { short = omega arith; format = refl; faultless = refl; models_are = refl; small = off_and_is_small }

pub late_spells : Spells late design.late small_late
unfolding fault_of head_of cut_line going_on
late_spells = record { short = omega arith; format = refl; faultless = refl; models_are = refl; small = late_is_small }

pub early_spells : Spells early design.early small_early
unfolding fault_of head_of cut_line going_on
early_spells = record { short = omega arith; format = refl; faultless = refl; models_are = refl; small = early_is_small }

pub hier_spells : Spells hier design.hier small_late
unfolding fault_of head_of cut_line going_on
hier_spells = record { short = omega arith; format = refl; faultless = refl; models_are = refl; small = hier_is_small }

pub two_spells : Spells two design.two small_two
unfolding fault_of head_of cut_line going_on
two_spells = record { short = omega arith; format = refl; faultless = refl; models_are = refl; small = two_is_small }

pub idle_spells : Spells idle design.idle small_idle
unfolding fault_of head_of cut_line going_on
idle_spells = record { short = omega arith; format = refl; faultless = refl; models_are = refl; small = idle_is_small }

pub toggle_spells : Spells toggle design.toggle small_toggle
unfolding fault_of head_of cut_line going_on
toggle_spells = record { short = omega arith; format = refl; faultless = refl; models_are = refl; small = toggle_is_small.0 }
