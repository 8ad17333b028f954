-- Values of a circuit in which some latches take those of the other circuit's latches of their names.
use Rattle.std.proofs.Common.{◌≡◌, ◌≢◌, ℕ, Bool, false, cond, List, [], refl, ap, inl, inr, Option, Some, None}
use Rattle.std.specs.Prelude.{◌⊎◌}
use Rattle.circuit_theory.specs.Circuit.{Circuit, Equation, Gate, Latch, Port, IsInput, IsLatch, IsSingleDriven}
use Rattle.circuit_laws.proofs.finite_laws.Deciding.{latch_or}

-- the value of the latch that was found
abbrev pub value_named : {P : Type 0} → (P → Bool) → Option (P × P) → Bool
value_named y None = false
value_named y (Some x) = y x.0

module _ {P : Type 0} (same : (p q : P) → (p ≡ q) ⊎ (p ≢ q)) (c : Circuit P) (single : IsSingleDriven c) (other swap : List ℕ → Bool) (x : P → Bool) where
  abbrev exchanged_by : (v : P) → ((name : List ℕ) × (next : P) × IsLatch c name v next) ⊎ ((name : List ℕ) (next : P) → IsLatch c name v next → ⊥) → Bool
  exchanged_by v (inl l) = cond (swap l.0) (other l.0) (x v)
  exchanged_by v (inr none) = x v

  -- a latch whose name is swapped has the other's value, and all else its own
  pub exchanged : P → Bool
  exchanged v = exchanged_by v (latch_or same c.equations v)

  pub exchanged_input : (v : P) → IsInput c v → exchanged v ≡ x v
  unfolding exchanged
  exchanged_input v i = go (latch_or same c.equations v)
    where
      go : (d : ((name : List ℕ) × (next : P) × IsLatch c name v next) ⊎ ((name : List ℕ) (next : P) → IsLatch c name v next → ⊥)) → exchanged_by v d ≡ x v
      go (inl l) = absurd (single.no_input (Latch l.0 v l.1) l.2 i)
      go (inr none) = refl

  name_of : Equation P → List ℕ
  name_of (Gate out fanins cover) = []
  name_of (Latch name out next) = name
  name_of (Port out from) = []

  pub exchanged_latch : (name : List ℕ) (v next : P) → IsLatch c name v next → exchanged v ≡ cond (swap name) (other name) (x v)
  unfolding exchanged name_of
  exchanged_latch name v next latch = go (latch_or same c.equations v)
    where
      go : (d : ((name : List ℕ) × (next : P) × IsLatch c name v next) ⊎ ((name : List ℕ) (next : P) → IsLatch c name v next → ⊥)) → exchanged_by v d ≡ cond (swap name) (other name) (x v)
      go (inl l) = ap (λ m. cond (swap m) (other m) (x v)) (ap name_of (single.one (Latch l.0 v l.1) (Latch name v next) l.2 latch refl))
      go (inr none) = absurd (none name next latch)
