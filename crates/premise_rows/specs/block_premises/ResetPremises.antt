-- Texts that meet the premise of what is promised of comparisons from the latches' initial values.
use Rattle.std.specs.Prelude.{ℕ, false, true, List, codes}
use Rattle.pair_texts.specs.check_texts.Texts.{AreComparable}
use Rattle.pair_texts.specs.design_rows.Texts.{late, early}

-- an and, and a latch behind it that starts with 0
abbrev pub late_from_zero : List ℕ
late_from_zero = codes ".model m\n.inputs a b\n.outputs y\n.names a b n\n11 1\n.latch n y 0\n.end\n"

-- the same retimed: latches that start with 0 at each input, and the and behind them
abbrev pub early_from_zero : List ℕ
early_from_zero = codes ".model m\n.inputs a b\n.outputs y\n.latch a p 0\n.latch b q 0\n.names p q y\n11 1\n.end\n"

-- A retiming that moves the initial values along, which is equal, and one whose latches may start with either, which differs in cycle 0;
-- and a circuit with such a latch and itself, which differ there too.
abbrev pub ResetsAreComparable : Type 0
ResetsAreComparable = AreComparable late_from_zero early_from_zero false true × AreComparable late_from_zero early false true × AreComparable late late false true
