-- What a contract sees of an unfolder from the initial values.
use Rattle.std.specs.Prelude.{ℕ, ◌+◌, ◌^◌, ◌<◌, ◌≤◌, List, length, All}
use Rattle.sec_base.specs.declared.limits.TheConstants.{MAX_WEIGHT}
use Rattle.flat_net.specs.View.{NetView}
use Rattle.aig.specs.declared.node.Lit.{Lit}
use Rattle.cbf_unfold.specs.unfold_places.InputOrder.{IsOrderOf}

pub record ResetView : Type 0 where
  pub net : NetView
  -- the number of each input
  pub order : List ℕ
  -- the number of the first latch's variable; the others follow
  pub base : ℕ
  -- the most that all places together may weigh
  pub cap : ℕ
  -- the signals that were unfolded, each with its cycle before it
  pub done : List (ℕ × ℕ)
  -- the places that were met, with their literals
  pub memo : List ((ℕ × ℕ) × Lit)
  -- what these places weigh together
  pub weight : ℕ

-- what each unfolder keeps: the latches' variables have numbers above those of the inputs, and below 2^31
pub record IsResetUnfolder (u : ResetView) : Type 0 where
  pub order : IsOrderOf u.net u.order
  pub base : All (λ i. i < u.base) u.order
  pub room : u.base + length u.net.latches < 2 ^ 31
  pub cap : u.cap ≤ MAX_WEIGHT
