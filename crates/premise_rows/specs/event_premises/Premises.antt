-- Texts that meet the premise of what is promised of comparisons in the event mode.
use Rattle.std.specs.Prelude.{◌≡◌, true}
use Rattle.sec_base.specs.declared.settings.Settings.{Settings}
use Rattle.pair_texts.specs.design_rows.Texts.{late, early, toggle}
use Rattle.job_check.specs.check_meaning.event_texts.Texts.{AreEventComparable}
use Rattle.premise_rows.specs.event_premises.Loads.{on_loads, off_loads}

-- two latches with load enables of their own, whose classes differ, and the same by other rows
abbrev pub LoadsAreComparable : Type 0
LoadsAreComparable = (settings : Settings) → AreEventComparable on_loads off_loads settings

-- a latch that toggles, which is to be cut open
abbrev pub TogglesAreComparable : Type 0
TogglesAreComparable = (settings : Settings) → settings.expose ≡ true → AreEventComparable toggle toggle settings

-- a circuit of plain latches and the same retimed
abbrev pub RetimedAreComparable : Type 0
RetimedAreComparable = (settings : Settings) → AreEventComparable late early settings
