-- The names of a net's signals where its latches have new ones.
use Rattle.std.specs.Prelude.{◌≡◌, ℕ, List, ◌++◌, map, take, length}
use Rattle.base_tables.specs.Table.{AreDistinct}
use Rattle.flat_net.specs.View.{NetView}
use Rattle.net_names.specs.Renamed.{new_name}
use Rattle.net_names.specs.declared.latch_pairs.LatchPair.{LatchPair}

-- the names of the inputs, the new names of the latches, and some name for each gate; none stands twice
pub record AreNewNames (ps : List LatchPair) (n : NetView) (names : List (List ℕ)) : Type 0 where
  pub gates : List (List ℕ)
  pub long : length gates ≡ length n.gates
  pub are : names ≡ (take (length n.inputs) n.names ++ map (λ l. new_name ps l.name) n.latches) ++ gates
  pub distinct : AreDistinct names
