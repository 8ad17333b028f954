-- What the numbers of a flat design keep.
use Rattle.std.specs.Prelude.{◌≡◌, ◌<◌, ◌^◌, length, [], All}
use Rattle.elaborate.specs.declared.flat.Flat.{Flat}
use Rattle.elaborate.specs.declared.flat.FlatKind.TheVariants as kind
use Rattle.elaborate.specs.Flat.{kind_of}
use Rattle.flatten.specs.connectivity.Wiring.{control_by}

pub record IsSolid (flat : Flat) : Type 0 where
  pub few : length flat.names < 2 ^ 32
  pub inputs : All (λ n. n < length flat.names) flat.inputs
  pub clocks : All (λ n. n < length flat.names) flat.clocks
  pub outputs : All (λ n. n < length flat.names) flat.outputs
  pub outs : All (λ s. s.out < length flat.names) flat.statements
  pub reads : All (λ s. All (λ n. n < length flat.names) s.reads) flat.statements
  pub controls : All (λ s. All (λ n. n < length flat.names) (control_by (kind_of [] s.kind))) flat.statements
  pub ports : All (λ s. s.kind ≡ kind.Port → length s.reads ≡ 1) flat.statements
