-- A circuit as an AIGER file beside the same as a BLIF text.
use Rattle.std.specs.Prelude.{ℕ, Bool, false, List, codes}
use Rattle.pair_texts.specs.check_texts.Texts.{AreComparable}
use Rattle.pair_texts.specs.design_rows.Texts.{off_and}

-- an and, with names
abbrev pub and_file : List ℕ
and_file = codes "aag 3 2 0 1 1\n2\n4\n6\n6 2 4\ni0 a\ni1 b\no0 y\n"

-- the file and the text of an and, whether latches may be cut open or not
abbrev pub FileIsComparable : Type 0
FileIsComparable = (expose : Bool) → AreComparable and_file off_and expose false
