-- What a comparison asks of each net.
use Rattle.std.specs.Prelude.{ℕ, ◌+◌, ◌^◌, ◌≤◌, map, length}
use Rattle.base_tables.specs.Table.{AreDistinct}
use Rattle.flat_net.specs.declared.parts.Port.{Port}
use Rattle.flat_net.specs.View.{NetView}

-- no output name stands twice, and there are few ports and latches
pub record IsComparable (net : NetView) : Type 0 where
  pub distinct : AreDistinct (map (λ (p : Port). p.name) net.outputs)
  pub few : length net.inputs + length net.outputs + length net.latches ≤ 2 ^ 27
