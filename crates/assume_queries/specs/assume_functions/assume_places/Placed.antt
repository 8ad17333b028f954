-- An assumption's function at several places.
use Rattle.std.specs.Prelude.{ℕ, ◌*◌, ◌≤◌, List}
use Rattle.std.specs.List.{AllZip}
use Rattle.sec_base.specs.declared.limits.TheConstants.{MAX_WEIGHT}
use Rattle.flat_net.specs.View.{NetView}
use Rattle.aig.specs.declared.node.Node.{Node}
use Rattle.cbf_unfold.specs.declared.unfold_places.signal_function.Unfolded.{Unfolded}
use Rattle.assume_queries.specs.declared.assume_functions.own.OwnFunction.{OwnFunction}
use Rattle.assume_queries.specs.assume_functions.Functions.{IsOwnFunction, IsAssumedAt}

-- at so many places it weighs no more than the limit
pub record CanBePut (own : OwnFunction) (count : ℕ) : Type 0 where
  pub net : NetView
  pub order : List ℕ
  pub output : ℕ
  pub function : IsOwnFunction net order output own
  pub light : function.weighed.weight * count ≤ MAX_WEIGHT

-- the function at each of these places
abbrev pub ArePut : NetView → List ℕ → ℕ → List Node → List (ℕ × ℕ) → List (ℕ × ℕ) → List Unfolded → Type 0
ArePut n order s g table found us = AllZip (λ (p : ℕ × ℕ) (u : Unfolded). IsAssumedAt n order s p.0 g table u) found us
