-- From an event node to its parent.
use Rattle.std.proofs.Common.{◌≡◌, ◌∙◌, ◌+◌, ◌-◌, ◌<◌, ◌≤◌, ℕ, List, [], ◌∷◌, slice_get, Some, ap, arith}
use Rattle.event_nodes.specs.Nodes.{path_of, IsTree}
use Rattle.event_nodes.proofs.Paths.{path_grows, child_path}

pub parent_lower : (es : List (ℕ × ℕ)) → IsTree es → (n : ℕ) (e : ℕ × ℕ) → 0 < n → slice_get es (n - 1) ≡ Some e → e.0 < n
parent_lower es tree n e some at = let below = tree (n - 1) e.0 e.1 at in omega (arith, below, some)

pub parent_child : (es : List (ℕ × ℕ)) → IsTree es → (n : ℕ) (e : ℕ × ℕ) → 0 < n → slice_get es (n - 1) ≡ Some e → path_of es n ≡ e.1 ∷ path_of es e.0
parent_child es tree n e some at = child_path es tree e.0 e.1 n (n - 1, (let k : n ≡ n - 1 + 1 = omega (arith, some) in k), at)

pub root_path : (es : List (ℕ × ℕ)) (n : ℕ) → n ≤ 0 → path_of es n ≡ []
root_path es n none = ap (path_of es) (let z : n ≡ 0 = omega (arith, none) in z) ∙ path_grows [] es 0 (omega arith)
