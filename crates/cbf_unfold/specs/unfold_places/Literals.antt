-- The literals that places are given.
use Rattle.std.specs.Prelude.{◌≡◌, ℕ, ◌*◌, ◌<◌, List, length, map, slice_get, Some, Contains}
use Rattle.std.specs.List.{AllZip}
use Rattle.flat_net.specs.declared.parts.Gate.{Gate}
use Rattle.flat_net.specs.View.{NetView, cover_of}
use Rattle.aig.specs.declared.node.Lit.{Lit}
use Rattle.aig.specs.declared.node.Node.{Node}
use Rattle.aig.specs.declared.node.Node.TheVariants.{Input}
use Rattle.aig.specs.Graph.{IsLitOf}
use Rattle.aig.specs.Rules.{IsCoverOf}

-- the literal is the variable with this number at this shift or in this cycle
pub record IsVariableLit (number at : ℕ) (g : List Node) (places : List (ℕ × ℕ)) (x : ℕ) : Type 0 where
  pub variable : ℕ
  pub numbered : slice_get places variable ≡ Some (number, at)
  pub lit : IsLitOf g (Input variable) x
  pub within : x < 2 * length g

-- the literal is the gate's cover of its fan-ins' literals in the cycle
pub record IsGateLit (n : NetView) (memo : List ((ℕ × ℕ) × Lit)) (cycle j : ℕ) (g : List Node) (x : ℕ) : Type 0 where
  pub gate : Gate
  pub at : slice_get n.gates j ≡ Some gate
  pub lits : List Lit
  pub each : AllZip (λ f y. Contains memo ((cycle, f.0), y)) gate.fanins lits
  pub is : IsCoverOf g (cover_of n.covers gate) (map (λ y. y.0) lits) x
  pub within : x < 2 * length g
