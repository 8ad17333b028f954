-- What is known of a net in the course of its run.
use Rattle.std.specs.Prelude.{◌≡◌, ℕ, Bool, List, length, map, None, slice_index_or}
use Rattle.flat_net.specs.View.{NetView}
use Rattle.restart.specs.Behind.{AreColumnsOf}
use Rattle.restart.specs.Cycle.{AreOfCycle, TakesOver}
use Rattle.job_known.specs.Known.{known_at_first}
use Rattle.job_known.specs.declared.course.Course.{Course}

-- there is a column for each input, and a value for each latch and for each signal
pub record IsSized (n : NetView) (c : Course) : Type 0 where
  pub columns : length c.columns.items ≡ length n.inputs
  pub latches : length c.latches.items ≡ length n.latches
  pub values : length c.values.items ≡ length n.drivers

-- before the first cycle latches have what is known of them at first
pub record IsFirst (n : NetView) (names : List (List ℕ)) (c : Course) : Type 0 where
  pub columns : AreColumnsOf n names c.columns.items
  pub sized : IsSized n c
  pub latches : c.latches.items ≡ map known_at_first n.latches
  pub values : (p : ℕ) → slice_index_or c.values.items p None ≡ None

-- the values are those of the row's cycle, and the latches take them over
pub record Steps (n : NetView) (row : List Bool) (old new : Course) : Type 0 where
  pub columns : new.columns.items ≡ old.columns.items
  pub sized : IsSized n new
  pub cycle : AreOfCycle n old.columns.items row old.latches.items new.values.items
  pub taken : TakesOver n new.values.items new.latches.items
