-- The latch graph, its cycles, and sequential depth.
use Rattle.std.specs.Prelude.{◌≡◌, ◌≢◌, ◌==◌, ℕ, zero, suc, ◌+◌, ◌<◌, ◌≤◌, ◌⊎◌, if◌then◌else◌, List, [], ◌∷◌, length, Some, slice_get}
use Rattle.std.specs.List.{Contains, AllPairs}
use Rattle.circuit_theory.specs.Names.{ListBefore}
use Rattle.circuit_theory.specs.Circuit.{Circuit, IsLatch, InCone}

-- u reads v: the latch v is in the cone of what u takes over, so that the latch graph has the edge from v to u. The
-- self-edge of an enabled latch is none; latches with a removed name have no edges.
pub record LatchReads {P : Type 0} (c : Circuit P) (enabled : P → Type 0) (removed : List (List ℕ)) (u v : P) : Type 0 where
  pub name : List ℕ
  pub next : P
  pub latch : IsLatch c name u next
  pub kept : Contains removed name → ⊥
  pub other_name : List ℕ
  pub other_next : P
  pub other : IsLatch c other_name v other_next
  pub other_kept : Contains removed other_name → ⊥
  pub cone : InCone c next v
  pub no_self_edge : enabled u → u ≢ v

-- a way of one or more readings, against the edges
pub data LatchPath {P : Type 0} (c : Circuit P) (enabled : P → Type 0) (removed : List (List ℕ)) : P → P → Type 0 where
  edge : {u v : P} → LatchReads c enabled removed u v → LatchPath c enabled removed u v
  step : {u v w : P} → LatchReads c enabled removed u v → LatchPath c enabled removed v w → LatchPath c enabled removed u w

-- the latch graph has a cycle without the latches of the removed names
abbrev pub HasCycle : {P : Type 0} → Circuit P → (P → Type 0) → List (List ℕ) → Type 0
HasCycle {P} c enabled removed = (u : P) × LatchPath c enabled removed u u

-- the place after i in a round of n
abbrev pub after_in_round : ℕ → ℕ → ℕ
after_in_round n i = if (i + 1) == n then 0 else i + 1

-- a cycle as a list: each latch in the cone of what the next takes over, and the last in that of the first
pub record IsCycle {P : Type 0} (c : Circuit P) (enabled : P → Type 0) (removed : List (List ℕ)) (latches : List P) : Type 0 where
  pub some : 0 < length latches
  pub distinct : AllPairs (λ u v. u ≢ v) latches
  pub edges : (i : ℕ) (u v : P) → slice_get latches i ≡ Some u → slice_get latches (after_in_round (length latches) i) ≡ Some v → LatchReads c enabled removed v u

-- no latch of the list has a name before that of the first
abbrev pub BeginsWithLeast : {P : Type 0} → Circuit P → List P → Type 0
BeginsWithLeast {P} c latches =
    (name name' : List ℕ) (u next v next' : P) → slice_get latches 0 ≡ Some u → Contains latches v → IsLatch c name u next → IsLatch c name' v next' → ListBefore name' name → ⊥

-- a chain of n latches from u, each read by the one before
pub data LatchChain {P : Type 0} (c : Circuit P) (enabled : P → Type 0) : P → ℕ → Type 0 where
  last : {u next : P} {name : List ℕ} → IsLatch c name u next → LatchChain c enabled u 1
  more : {u v : P} {n : ℕ} → LatchReads c enabled [] u v → LatchChain c enabled v n → LatchChain c enabled u (suc n)

-- a chain from p: none, or one from a latch in p's cone
abbrev pub ChainFrom : {P : Type 0} → Circuit P → (P → Type 0) → P → ℕ → Type 0
ChainFrom {P} c enabled p n = (n ≡ 0) ⊎ ((u : P) × InCone c p u × LatchChain c enabled u n)

-- the sequential depth is the greatest number of latches on a chain
pub record IsDepth {P : Type 0} (c : Circuit P) (enabled : P → Type 0) (p : P) (depth : ℕ) : Type 0 where
  pub reached : ChainFrom c enabled p depth
  pub greatest : (n : ℕ) → ChainFrom c enabled p n → n ≤ depth

-- there is no greatest number
abbrev pub HasNoDepth : {P : Type 0} → Circuit P → (P → Type 0) → P → Type 0
HasNoDepth c enabled p = (n : ℕ) → ChainFrom c enabled p n

-- xs without the element at one place
abbrev pub without : {X : Type 0} → List X → ℕ → List X
without [] i = []
without (x ∷ xs) zero = xs
without (x ∷ xs) (suc i) = x ∷ without xs i

-- each latch has a depth: no cycle is left in the latch graph
abbrev pub LatchesHaveDepths : {P : Type 0} → Circuit P → (P → Type 0) → Type 0
LatchesHaveDepths {P} c enabled = (name : List ℕ) (u next : P) → IsLatch c name u next → (d : ℕ) × IsDepth c enabled u d
