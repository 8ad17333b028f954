-- Texts that meet the premise of what is promised of comparisons behind a reset sequence.
use Rattle.std.specs.Prelude.{ℕ, List, Some, None, codes}
use Rattle.job_after.specs.Answer.{IsWide, CanBeBegun, CanBeSearchedBehind}
use Rattle.job_known.specs.Answer.{CanBeReplayedFrom, CanBeReplayedBehind}
use Rattle.job_signals.specs.job_begun.Found.{IsHeavy}
use Rattle.pair_texts.specs.design_rows.Texts.{late, early}
use Rattle.premise_rows.specs.job_rows.Replays.{both_and_none}

-- a latch that toggles where r is 0 and else takes 0
abbrev pub toggles : List ℕ
toggles = codes ".model m\n.inputs r\n.outputs y\n.names r q n\n00 1\n.latch n q\n.names q y\n1 1\n.end\n"

-- a latch that toggles where r is 0 and else takes 1, and its complement, which is shown
abbrev pub toggles_turned : List ℕ
toggles_turned = codes ".model m\n.inputs r\n.outputs y\n.names r w n\n1- 1\n-0 1\n.latch n w\n.names w y\n0 1\n.end\n"

-- r is 1 in one cycle
abbrev pub one_reset : List ℕ
one_reset = codes "inputs r\n1\n"

-- Two circuits, each with a cycle of latches, behind one cycle of reset, and a retiming behind two cycles: by a search over cycles, and by
-- ties of signals; the retiming also by a search over all cycles.
pub record TextsCanBegin : Type 0 where
  pub toggles_searched : CanBeBegun IsWide toggles toggles_turned one_reset
  pub toggles_tied : CanBeBegun IsHeavy toggles toggles_turned one_reset
  pub retimed_searched : CanBeBegun IsWide late early both_and_none
  pub retimed_wholly : CanBeSearchedBehind None (Some late) (Some early) (Some both_and_none)
  pub retimed_tied : CanBeBegun IsHeavy late early both_and_none

-- The same circuits over such stimuli: the toggles from their initial values over one cycle of reset, and over another one behind it, and the
-- retiming over two cycles behind two.
pub record TextsCanBeReplayed : Type 0 where
  pub toggles_from_reset : CanBeReplayedFrom toggles toggles_turned one_reset
  pub toggles_behind : CanBeReplayedBehind toggles toggles_turned one_reset one_reset
  pub retimed_behind : CanBeReplayedBehind late early both_and_none both_and_none
