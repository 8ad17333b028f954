-- Variables of event queries: inputs at event nodes, by their numbers in an event graph.
use Rattle.std.specs.Prelude.{◌≡◌, ◌⊎◌, ℕ, ◌<◌, List, [], length, map, reverse, slice_index_or}
use Rattle.std.specs.declared.cmp.Ordering.{Ordering}
use Rattle.std.specs.declared.cmp.Ordering.TheVariants as ordering
use Rattle.aig.specs.Merged.{StandsBy, AreOrdered, IsMergeBy}
use Rattle.circuit_theory.specs.Names.{ListBefore}
use Rattle.circuit_theory.specs.Query.{Variable}
use Rattle.circuit_theory.specs.Frame.{NodeBefore}
use Rattle.event_nodes.specs.Nodes.{EventGraphView, named_places, path_of}

-- the variable with this number
abbrev pub variable_of : EventGraphView → ℕ → Variable (List ℕ)
variable_of w v = let p = slice_index_or (named_places w) v (0, []) in record { input = p.0; at = p.1 }

abbrev pub variables_of : EventGraphView → List ℕ → List (Variable (List ℕ))
variables_of w vars = map (variable_of w) vars

-- the first number's variable goes before the second's
abbrev pub GoesBefore : EventGraphView → ℕ → ℕ → Type 0
GoesBefore w u v = NodeBefore (variable_of w u) (variable_of w v)

-- how the variables of two numbers stand to each other
abbrev pub Stands : EventGraphView → ℕ → ℕ → Ordering → Type 0
Stands w = StandsBy (GoesBefore w)

-- how two paths of one length stand to each other, read from the root; each has its last step first
abbrev pub PathsStand : List ℕ → List ℕ → Ordering → Type 0
PathsStand p q ordering.Less = ListBefore (reverse p) (reverse q)
PathsStand p q ordering.Equal = p ≡ q
PathsStand p q ordering.Greater = ListBefore (reverse q) (reverse p)

-- the first path is longer, or of the same length and before the second
abbrev pub PathBefore : List ℕ → List ℕ → Type 0
PathBefore p q = (length q < length p) ⊎ ((length p ≡ length q) × ListBefore (reverse p) (reverse q))

-- how two event nodes stand to each other
abbrev pub NodesStand : List (ℕ × ℕ) → ℕ → ℕ → Ordering → Type 0
NodesStand children m n ordering.Less = PathBefore (path_of children m) (path_of children n)
NodesStand children m n ordering.Equal = path_of children m ≡ path_of children n
NodesStand children m n ordering.Greater = PathBefore (path_of children n) (path_of children m)

-- numbers of variables, in the order of the variables
abbrev pub AreInOrder : EventGraphView → List ℕ → Type 0
AreInOrder w = AreOrdered (length w.places) (GoesBefore w)

-- the numbers that one of two lists has, in the order of their variables
abbrev pub IsMergeOf : EventGraphView → List ℕ → List ℕ → List ℕ → Type 0
IsMergeOf w = IsMergeBy (GoesBefore w)
