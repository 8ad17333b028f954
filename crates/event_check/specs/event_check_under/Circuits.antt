-- The circuits of a comparison under an assumption.
use Rattle.std.specs.Prelude.{◌≡◌}
use Rattle.flat_net.specs.Comparable.{IsComparable}
use Rattle.sec_setup.specs.Matching.{InterfacesMatch}
use Rattle.plain_check.specs.under_base.Met.{shared_by}
use Rattle.event_check.specs.declared.event_check_under.circuits.Circuits.{Circuits}

-- All three can be compared, the interfaces of the first two match, and the names are those that these share.
pub record AreMatched (x : Circuits) : Type 0 where
  pub left : IsComparable x.left.now
  pub right : IsComparable x.right.now
  pub assumed : IsComparable x.assumed.now
  pub matches : InterfacesMatch x.left.now x.right.now
  pub shared : x.shared.now ≡ shared_by x.left.now x.right.now
