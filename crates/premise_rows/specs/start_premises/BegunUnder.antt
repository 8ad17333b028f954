-- Texts that meet the premises of what is promised of searches behind a reset sequence, and of ties of signals there, under an assumption.
use Rattle.std.specs.Prelude.{ℕ}
use Rattle.job_under.specs.Found.{SearchRefuses}
use Rattle.job_under.specs.ties.Found.{TiesRefuse}
use Rattle.job_after_under.specs.Answer.{CanBeJudgedBehind}
use Rattle.pair_texts.specs.design_rows.Texts.{late, early}
use Rattle.premise_rows.specs.event_assume_rows.assume_rows.SameInputs.{same}
use Rattle.premise_rows.specs.job_rows.Replays.{both_and_none}
use Rattle.premise_rows.specs.search_premises.SearchedUnder.{turns_with_both, turns_with_either}

-- a retiming, and two latches on cycles, behind two cycles; there both inputs are equal
abbrev pub TextsCanBeginUnder : Type 0
TextsCanBeginUnder =
    (cycles conflicts : ℕ) → CanBeJudgedBehind (SearchRefuses cycles conflicts) late early same both_and_none × CanBeJudgedBehind (SearchRefuses cycles conflicts) turns_with_both turns_with_either same both_and_none

-- the same by ties of signals
abbrev pub TextsCanBeTiedBehind : Type 0
TextsCanBeTiedBehind = (conflicts : ℕ) → CanBeJudgedBehind (TiesRefuse conflicts) late early same both_and_none × CanBeJudgedBehind (TiesRefuse conflicts) turns_with_both turns_with_either same both_and_none
