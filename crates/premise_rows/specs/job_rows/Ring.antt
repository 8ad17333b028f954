-- A ring of latches, whose cycles are broken by either of them.
use Rattle.std.specs.Prelude.{ℕ, ◌≤◌, true, List, length}
use Rattle.flat_net.specs.View.{NetView}
use Rattle.sec_setup.specs.Cuts.{IsChoice}
use Rattle.job_base.specs.sec_files.Loading.{Loads}
use Rattle.pair_texts.specs.design_rows.Texts.{ring}

-- of two latches that take over each other at most one is cut open
abbrev pub RingIsCutOnce : Type 0
RingIsCutOnce = (a b : NetView) → Loads ring a → Loads ring b → (names : List (List ℕ)) → IsChoice a b true names → length names ≤ 1
