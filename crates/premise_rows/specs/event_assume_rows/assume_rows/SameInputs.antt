-- An and and an or, which agree where both inputs are equal.
use Rattle.std.specs.Prelude.{◌≡◌, ℕ, true, false, List, [], ◌∷◌, codes}
use Rattle.circuit_theory.specs.declared.Mode.TheVariants.{Plain}
use Rattle.circuit_theory.specs.Cover.{Cover}
use Rattle.sec_base.specs.declared.settings.Settings.{Settings}
use Rattle.blif_read.specs.declared.design.BlifModel.{BlifModel}
use Rattle.blif_read.specs.declared.design.Statement.TheVariants.{Names}
use Rattle.job_check.specs.check_meaning.Answer.{AreComparableUnder}
use Rattle.pair_texts.specs.design_rows.Designs.{one_model}
use Rattle.pair_texts.specs.design_rows.Small.{Small, small_and}
use Rattle.pair_texts.specs.design_rows.Texts.{on_and}
use Rattle.premise_rows.specs.block_premises.ResetPremises.{late_from_zero, early_from_zero}

-- an or by its two rows
abbrev pub on_or : List ℕ
on_or = codes ".model m\n.inputs a b\n.outputs y\n.names a b y\n1- 1\n-1 1\n.end\n"

-- 1 where both inputs are equal
abbrev pub same : List ℕ
same = codes ".model m\n.inputs a b\n.outputs ok\n.names a b ok\n11 1\n00 1\n.end\n"

abbrev pub or_cover : Cover
or_cover = record { width = 2; rows = codes "1-" ∷ codes "-1" ∷ []; on = true }

abbrev pub same_cover : Cover
same_cover = record { width = 2; rows = codes "11" ∷ codes "00" ∷ []; on = true }

-- what both texts spell
abbrev pub or_design : List BlifModel
or_design = one_model (codes "a" ∷ codes "b" ∷ []) (codes "y" ∷ []) (Names 4 (codes "a" ∷ codes "b" ∷ []) (codes "y") or_cover ∷ [])

abbrev pub same_design : List BlifModel
same_design = one_model (codes "a" ∷ codes "b" ∷ []) (codes "ok" ∷ []) (Names 4 (codes "a" ∷ codes "b" ∷ []) (codes "ok") same_cover ∷ [])

abbrev pub small_or : Small
small_or = record small_and { weight = 9 }

abbrev pub small_same : Small
small_same = record { inputs = codes "a" ∷ codes "b" ∷ []; outputs = codes "ok" ∷ []; latches = []; removed = []; weight = 9 }

-- where both inputs are equal the two can be compared over all power-ups, whether latches may be cut open or not
abbrev pub AndMeetsOr : Type 0
AndMeetsOr = (settings : Settings) → settings.reset ≡ false → AreComparableUnder Plain on_and on_or same settings

-- and from the initial values so can an and with a latch behind it, and the same retimed
abbrev pub RetimedMeetFromReset : Type 0
RetimedMeetFromReset = (settings : Settings) → settings.reset ≡ true → settings.expose ≡ false → AreComparableUnder Plain late_from_zero early_from_zero same settings
