-- What a contract sees of an unfolder.
use Rattle.std.specs.Prelude.{◌≡◌, ℕ, ◌≤◌, List}
use Rattle.sec_base.specs.declared.limits.TheConstants.{MAX_WEIGHT}
use Rattle.flat_net.specs.View.{NetView}
use Rattle.aig.specs.declared.node.Lit.{Lit}
pub use Rattle.cbf_unfold.specs.unfold_places.InputOrder.{IsOrderOf}

pub record UnfolderView : Type 0 where
  pub net : NetView
  -- the number of each input
  pub order : List ℕ
  -- the most that all places together may weigh
  pub cap : ℕ
  -- the signals that were unfolded
  pub done : List ℕ
  -- the places that were met, with their literals
  pub memo : List ((ℕ × ℕ) × Lit)
  -- what these places weigh together
  pub weight : ℕ

-- what each unfolder keeps
pub record IsUnfolder (u : UnfolderView) : Type 0 where
  pub order : IsOrderOf u.net u.order
  pub cap : u.cap ≤ MAX_WEIGHT

-- it unfolds the same net, with the same numbers and the same limit
pub record IsSameUnfolder (old new : UnfolderView) : Type 0 where
  pub net : new.net ≡ old.net
  pub order : new.order ≡ old.order
  pub cap : new.cap ≡ old.cap
