-- What a renumbering carries. Each law is the contract of a function of this crate.
use Rattle.std.specs.Prelude.{ℕ, ◌↔◌, Bool, List, map}
use Rattle.std.specs.List.{Contains}
use Rattle.circuit_theory.specs.declared.Mode.TheVariants.{Plain}
use Rattle.circuit_theory.specs.Agree.{cut, IsMinimalCut}
use Rattle.circuit_theory.specs.Circuit.{Circuit}
use Rattle.circuit_theory.specs.Depth.{LatchReads, HasCycle, IsDepth, HasNoDepth}
use Rattle.circuit_theory.specs.Places.{IsPlace}
use Rattle.circuit_theory.specs.Run.{IsRun, Marked, NoneEnabled}
use Rattle.circuit_theory.specs.Sizes.{IsWeight, IsOver}
use Rattle.circuit_theory.specs.Tree.{Tree, Unfolds}
use Rattle.net_assembly.specs.net_alike.Renumbered.{AreRenumbered, IsReadBy}

-- The weight of an unfolding, and whether it is over a cap.
abbrev pub WeightIsCarried : Type 0
WeightIsCarried = (a b : Circuit ℕ) (to back : ℕ → ℕ) → AreRenumbered a b to back → (outputs : List ℕ) → ((p : ℕ) → Contains outputs p → IsPlace a p) →
    (w cap : ℕ) → (IsWeight a outputs w ↔ IsWeight b (map to outputs) w) × (IsOver a outputs cap ↔ IsOver b (map to outputs) cap)

-- The sequential depth, and that there is none.
abbrev pub DepthIsCarried : Type 0
DepthIsCarried = (a b : Circuit ℕ) (to back : ℕ → ℕ) → AreRenumbered a b to back → (p : ℕ) → IsPlace a p →
    ((d : ℕ) → IsDepth a NoneEnabled p d ↔ IsDepth b NoneEnabled (to p) d) × (HasNoDepth a NoneEnabled p ↔ HasNoDepth b NoneEnabled (to p))

-- The edges of the latch graph, and whether it has a cycle.
abbrev pub EdgesAreCarried : Type 0
EdgesAreCarried = (a b : Circuit ℕ) (to back : ℕ → ℕ) → AreRenumbered a b to back → (removed : List (List ℕ)) →
    ((u v : ℕ) → IsPlace a u → IsPlace a v → LatchReads a NoneEnabled removed u v ↔ LatchReads b NoneEnabled removed (to u) (to v))
    × (HasCycle a NoneEnabled removed ↔ HasCycle b NoneEnabled removed)

-- What is read.
abbrev pub ReadsAreCarried : Type 0
ReadsAreCarried = (a b : Circuit ℕ) (to back : ℕ → ℕ) → AreRenumbered a b to back → (p : ℕ) → IsPlace a p → IsReadBy a p ↔ IsReadBy b (to p)

-- Runs, and their marks in the plain mode.
abbrev pub RunsAreCarried : Type 0
RunsAreCarried = (a b : Circuit ℕ) (to back : ℕ → ℕ) → AreRenumbered a b to back → (n : ℕ) (run : ℕ → ℕ → Bool) → IsRun b n run →
    IsRun a n (λ t p. run t (to p)) × ((t p : ℕ) → IsPlace a p → Marked a NoneEnabled (λ t p. run t (to p)) t p ↔ Marked b NoneEnabled run t (to p))

-- The cut circuits are renumbered in the same way.
abbrev pub CutsAreCarried : Type 0
CutsAreCarried = (a b : Circuit ℕ) (to back : ℕ → ℕ) → AreRenumbered a b to back → (names : List (List ℕ)) → AreRenumbered (cut names a) (cut names b) to back

-- The plain unfolding of a place, with the numbers of the inputs by their places in the list.
abbrev pub TreesAreCarried : Type 0
TreesAreCarried = (a b : Circuit ℕ) (to back : ℕ → ℕ) → AreRenumbered a b to back → (order : List ℕ) (p k d : ℕ) (tree : Tree ℕ) → IsPlace a p → Unfolds a order p k d tree ↔ Unfolds b order (to p) k d tree

-- A minimal cut of two circuits is one of their renumberings.
abbrev pub MinimalCutsAreCarried : Type 0
MinimalCutsAreCarried = (a b c e : Circuit ℕ) (to back go come : ℕ → ℕ) → AreRenumbered a c to back → AreRenumbered b e go come → (names : List (List ℕ)) →
    IsMinimalCut Plain a b names ↔ IsMinimalCut Plain c e names
