-- Texts that meet the premises of what is promised of comparisons, latch graphs and simulations.
use Rattle.std.specs.Prelude.{Bool, true, false}
use Rattle.pair_texts.specs.check_texts.Texts.{AreComparable}
use Rattle.job_base.specs.sec_files.Loading.{IsAccepted}
use Rattle.pair_texts.specs.design_rows.Texts.{on_and, off_and, late, early, toggle, hier, two}

-- two ands, whether latches may be cut open or not
abbrev pub AndsAreComparable : Type 0
AndsAreComparable = (expose : Bool) → AreComparable on_and off_and expose false

-- a circuit and the same retimed
abbrev pub RetimedAreComparable : Type 0
RetimedAreComparable = (expose : Bool) → AreComparable late early expose false

-- a hierarchical circuit and a flat one
abbrev pub HierarchyIsComparable : Type 0
HierarchyIsComparable = (expose : Bool) → AreComparable hier early expose false

-- a circuit with a cycle of latches and itself, where latches may be cut open
abbrev pub CyclicAreComparable : Type 0
CyclicAreComparable = AreComparable toggle toggle true false

-- all of them are accepted, as a latch graph asks for
abbrev pub TextsAreAccepted : Type 0
TextsAreAccepted = IsAccepted on_and × IsAccepted off_and × IsAccepted late × IsAccepted early × IsAccepted toggle × IsAccepted hier × IsAccepted two
