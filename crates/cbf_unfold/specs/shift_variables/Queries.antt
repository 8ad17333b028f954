-- What is asked of two functions.
use Rattle.std.specs.Prelude.{◌≡◌, ℕ}
use Rattle.pair_decide.specs.declared.query.Query.{Query}
use Rattle.aig.specs.Merged.{IsMergeBy}
use Rattle.cbf_unfold.specs.declared.unfold_places.signal_function.Unfolded.{Unfolded}

-- the query of two functions: do they agree always? Its variables are those of both, in this order.
pub record IsQueryBy (Before : ℕ → ℕ → Type 0) (left right : Unfolded) (q : Query) : Type 0 where
  pub left_is : q.left ≡ left.lit
  pub right_is : q.right ≡ right.lit
  pub care_is : q.care.0 ≡ 1
  pub variables_are : IsMergeBy Before left.vars right.vars q.vars
