-- Variables by the places of their event nodes in an order of nodes.
use Rattle.std.specs.Prelude.{ℕ, ◌+◌, List, map, length, replicate, slice_get, slice_index_or, Option, Some, None}
use Rattle.event_nodes.specs.Nodes.{path_of}

-- each input with the place that its event node is given
abbrev pub ranked_in : List ℕ → List (ℕ × ℕ) → List (ℕ × ℕ)
ranked_in ranks places = map (λ p. (p.0, slice_index_or ranks p.1 0)) places

-- the path of the node at a place of that order; behind the last one paths that are longer than all of nodes
abbrev pub path_by : List (ℕ × ℕ) → ℕ → Option ℕ → List ℕ
path_by children rank (Some n) = path_of children n
path_by children rank None = replicate (length children + 1 + rank) 0

abbrev pub path_at : List (ℕ × ℕ) → List ℕ → ℕ → List ℕ
path_at children nodes rank = path_by children rank (slice_get nodes rank)

-- the variables' places by paths
abbrev pub named_ranks : List (ℕ × ℕ) → List ℕ → List (ℕ × ℕ) → List (ℕ × List ℕ)
named_ranks children nodes table = map (λ p. (p.0, path_at children nodes p.1)) table
