-- Texts that meet the premise of completeness.
use Rattle.std.specs.Prelude.{ℕ, Bool, List, codes}
use Rattle.pair_texts.specs.design_rows.Texts.{early, hier, late, off_and, on_and}
use Rattle.job_pair.specs.Examples.{plainly}
use Rattle.job_pair.specs.job_renamed.Answer.{AreRenamedComparable}

-- a comment, and no pair
abbrev pub no_pairs : List ℕ
no_pairs = codes "# no pairs\n"

-- two `and`s by other rows, and an `and` with a latch behind it, also where it stands in an instance, against the same retimed
abbrev pub RenamedAreComparable : Type 0
RenamedAreComparable =
    (expose : Bool) → AreRenamedComparable on_and off_and no_pairs (plainly expose) × AreRenamedComparable late early no_pairs (plainly expose) × AreRenamedComparable hier early no_pairs (plainly expose)
