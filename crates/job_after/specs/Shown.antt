-- What is shown of two nets behind the rows of a stimulus where another search than the first may have found it.
use Rattle.std.specs.Prelude.{ℕ, Bool, List, length}
use Rattle.flat_net.specs.View.{NetView}
use Rattle.witness_report.specs.declared.witness.Witness.{Witness}
use Rattle.net_names.specs.Alone.{IsWithout}
use Rattle.cycle_search.specs.declared.found.Searched.{Searched}
use Rattle.restart.specs.Sequence.{IsShownBehind}
use Rattle.job_after.specs.Judged.{GoesOnAsFound}

-- The difference is shown of both nets, and its sequence goes on behind the rows as that of a search which found something of which this is said.
pub record IsShownBy (Finds : Searched → Type 0) (a b : NetView) (names : List (List ℕ)) (rows : List (List Bool)) (w : Witness) : Type 0 where
  pub shown : IsShownBehind a b names rows w
  pub searched : Searched
  pub finds : Finds searched
  pub goes_on : GoesOnAsFound (length rows) searched.verdict w

-- the second two nets are the first two without the outputs of some names, the same in both
pub record AreWithout (a b l r : NetView) : Type 0 where
  pub names : List (List ℕ)
  pub left : IsWithout names a l
  pub right : IsWithout names b r
