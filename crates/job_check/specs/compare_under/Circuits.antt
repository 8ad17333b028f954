-- The circuits of a comparison under an assumption.
use Rattle.std.specs.Prelude.{◌≡◌}
use Rattle.flat_net.specs.Comparable.{IsComparable}
use Rattle.sec_setup.specs.Matching.{InterfacesMatch}
use Rattle.sec_setup.specs.Setup.{AreGraphed}
use Rattle.plain_check.specs.under_base.Met.{shared_by}
use Rattle.job_check.specs.declared.compare_under.circuits.Circuits.{Circuits}

-- All three can be compared, the graphs are those of the first two, whose interfaces match, and the names are those that these share.
pub record AreMatched (x : Circuits) : Type 0 where
  pub left : IsComparable x.nets.left.now
  pub right : IsComparable x.nets.right.now
  pub assumed : IsComparable x.assumed.now
  pub graphs : AreGraphed x.nets
  pub matches : InterfacesMatch x.nets.left.now x.nets.right.now
  pub shared : x.shared.now ≡ shared_by x.nets.left.now x.nets.right.now
