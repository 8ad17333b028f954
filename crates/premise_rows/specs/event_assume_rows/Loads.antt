-- Two latches with a load enable, which agree where two inputs are equal.
use Rattle.std.specs.Prelude.{ℕ, true, List, [], ◌∷◌, None, codes}
use Rattle.circuit_theory.specs.declared.Mode.TheVariants.{Event}
use Rattle.circuit_theory.specs.Cover.{Cover}
use Rattle.sec_base.specs.declared.basics.Init.TheVariants as init
use Rattle.sec_base.specs.declared.settings.Settings.{Settings}
use Rattle.blif_read.specs.declared.design.BlifModel.{BlifModel}
use Rattle.blif_read.specs.declared.design.Statement.TheVariants.{Names, Latch}
use Rattle.job_check.specs.check_meaning.Answer.{AreComparableUnder}
use Rattle.pair_texts.specs.design_rows.Designs.{one_model}
use Rattle.premise_rows.specs.event_assume_rows.assume_rows.SameInputs.{same}

-- the second input where the first is 1, and else the fourth
abbrev pub first_load : Cover
first_load = record { width = 4; rows = codes "11--" ∷ codes "0--1" ∷ []; on = true }

-- the and of the second and the third where the first is 1, and else the fourth
abbrev pub and_load : Cover
and_load = record { width = 4; rows = codes "111-" ∷ codes "0--1" ∷ []; on = true }

-- of two inputs one value is loaded into a latch where a third one is 1
abbrev pub loading : Cover → List BlifModel
loading load = one_model (codes "e" ∷ codes "a" ∷ codes "b" ∷ []) (codes "q" ∷ []) (Names 4 (codes "e" ∷ codes "a" ∷ codes "b" ∷ codes "q" ∷ []) (codes "n") load ∷ Latch 7 (codes "n") (codes "q") None None init.Unknown ∷ [])

abbrev pub loads_first : List ℕ
loads_first = codes ".model m\n.inputs e a b\n.outputs q\n.names e a b q n\n11-- 1\n0--1 1\n.latch n q\n.end\n"

abbrev pub loads_and : List ℕ
loads_and = codes ".model m\n.inputs e a b\n.outputs q\n.names e a b q n\n111- 1\n0--1 1\n.latch n q\n.end\n"

-- where both inputs are equal the two can be compared, with whatever settings
abbrev pub LoadsMeet : Type 0
LoadsMeet = (settings : Settings) → AreComparableUnder Event loads_first loads_and same settings
