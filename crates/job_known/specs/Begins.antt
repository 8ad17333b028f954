-- Two nets that begin behind the rows of a stimulus, and what is told of them.
use Rattle.std.specs.Prelude.{◌≡◌, ℕ, Bool, List, ◌++◌, length, Option}
use Rattle.flat_net.specs.View.{NetView}
use Rattle.restart.specs.Behind.{IsBegun}
use Rattle.job_after.specs.Report.{begun_text}

pub record BeginsBoth (a b : NetView) (names : List (List ℕ)) (rows : List (List Bool)) (l r : NetView) (old new : List ℕ) : Type 0 where
  pub left_known : List (Option Bool)
  pub right_known : List (Option Bool)
  pub left : IsBegun a names rows left_known l
  pub right : IsBegun b names rows right_known r
  pub text : new ≡ old ++ begun_text l r (length rows) left_known right_known
