-- Literals of signals, where a latch is read as a bit.
use Rattle.std.specs.Prelude.{◌≡◌, ◌≢◌, ◌⊎◌, ℕ, ◌+◌, ◌*◌, ◌<◌, ◌≤◌, max, Bool, List, length, map, slice_get, Option, Some, Contains}
use Rattle.std.specs.List.{AllZip}
use Rattle.circuit_theory.specs.Cover.{cover_value}
use Rattle.circuit_theory.specs.Circuit.{Circuit, Reads, IsSource}
use Rattle.flat_net.specs.declared.parts.Gate.{Gate}
use Rattle.flat_net.specs.View.{NetView, cover_of}
use Rattle.aig.specs.declared.node.Lit.{Lit}
use Rattle.aig.specs.declared.node.Node.{Node}
use Rattle.aig.specs.Graph.{Grows, vars_of}
use Rattle.aig.specs.Values.{value}
use Rattle.aig.specs.Rules.{IsCoverOf}
use Rattle.aig.specs.Builds.{HasTreeLit}
use Rattle.latch_kinds.specs.unate_enable.Recovery.{IsCase, IsLeafLit}

-- the literal is put, and nothing else is changed
pub record IsPut (old : ℕ → Option Lit) (s : ℕ) (x : Lit) (new : ℕ → Option Lit) : Type 0 where
  pub here : new s ≡ Some x
  pub others : (q : ℕ) → q ≢ s → new q ≡ old q

-- the signal has a literal
abbrev pub IsKnown : (ℕ → Option Lit) → ℕ → Type 0
IsKnown known s = (x : Lit) × (known s ≡ Some x)

-- the literals are of the graph
abbrev pub AreWithin : List Node → (ℕ → Option Lit) → Type 0
AreWithin g known = (s : ℕ) (x : Lit) → known s ≡ Some x → x.0 < 2 * length g

-- the literal has the signal's value in each case of these places
abbrev pub HasValue : Circuit ℕ → ℕ → Bool → List ℕ → List Node → ℕ → ℕ → Type 0
HasValue c u bit places g s x = (a v : ℕ → Bool) → IsCase c u bit places a v → v s ≡ value g a x

-- the same of all that are known
abbrev pub HaveValues : Circuit ℕ → ℕ → Bool → List ℕ → List Node → (ℕ → Option Lit) → Type 0
HaveValues c u bit places g known = (s : ℕ) (x : Lit) → known s ≡ Some x → HasValue c u bit places g s x.0

-- the literal is that of the signal's tree
abbrev pub HasTree : Circuit ℕ → ℕ → Bool → List ℕ → List Node → ℕ → ℕ → Type 0
HasTree c u bit places g s x = HasTreeLit c g (IsLeafLit u bit places g) s x

-- the same of all that are known
abbrev pub HaveTrees : Circuit ℕ → ℕ → Bool → List ℕ → List Node → (ℕ → Option Lit) → Type 0
HaveTrees c u bit places g known = (s : ℕ) (x : Lit) → known s ≡ Some x → HasTree c u bit places g s x.0

-- what follows from what: the known literals keep their trees and values on the graph that has grown, and more have theirs
pub record Learns (c : Circuit ℕ) (u : ℕ) (bit : Bool) (places : List ℕ) (g h : List Node) (old new : ℕ → Option Lit) : Type 0 where
  pub within : AreWithin h new
  pub trees : HaveTrees c u bit places g old → HaveTrees c u bit places h new
  pub values : HaveValues c u bit places g old → HaveValues c u bit places h new
  pub stays : (s : ℕ) → IsKnown old s → IsKnown new s

-- the graph has grown by so many nodes at most, and its variables are below the number
pub record HasGrown (g h : List Node) (more top : ℕ) : Type 0 where
  pub grows : Grows g h
  pub nodes : length h ≤ length g + more
  pub vars : vars_of h ≤ max (vars_of g) top

-- the literal is the cover of the gate's fan-ins' literals
pub record IsGateLit (n : NetView) (j : ℕ) (known : ℕ → Option Lit) (g h : List Node) (x : ℕ) : Type 0 where
  pub gate : Gate
  pub at : slice_get n.gates j ≡ Some gate
  pub lits : List Lit
  pub each : AllZip (λ f y. known f.0 ≡ Some y) gate.fanins lits
  pub is : IsCoverOf h (cover_of n.covers gate) (map (λ y. y.0) lits) x
  pub value : (a : ℕ → Bool) → value h a x ≡ cover_value (cover_of n.covers gate) (map (λ y. value g a y.0) lits)
  pub within : x < 2 * length h

-- among the signals stands with each signal what it reads, and each that gates don't drive is the latch or one of the places
pub record AreClosed (c : Circuit ℕ) (u : ℕ) (places signals : List ℕ) : Type 0 where
  pub reads : (s q : ℕ) → Contains signals s → Reads c s q → Contains signals q
  pub sources : (s : ℕ) → Contains signals s → IsSource c s → (s ≡ u) ⊎ Contains places s
