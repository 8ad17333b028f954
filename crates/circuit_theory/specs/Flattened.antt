-- What a flattening keeps of a design.
use Rattle.std.specs.Prelude.{◌≡◌, ℕ, ◌<◌, Bool, List, [], ◌∷◌, map, Some, slice_get}
use Rattle.std.specs.List.{Contains}
use Rattle.circuit_theory.specs.Circuit.{Circuit, Equation, Gate, Latch, Port, Named}
use Rattle.circuit_theory.specs.Run.{IsRun, Marked, NoneEnabled}

-- following port equations from p ends at q
pub data Follows {P : Type 0} (c : Circuit P) : P → P → Type 0 where
  here : {p : P} → Follows c p p
  there : {p from q : P} → Contains c.equations (Port p from) → Follows c from q → Follows c p q

-- the names of the latches in the order of the list
abbrev pub latch_names : {P : Type 0} → List (Equation P) → List (List ℕ)
latch_names [] = []
latch_names (Gate out fanins cover ∷ es) = latch_names es
latch_names (Latch name out next ∷ es) = name ∷ latch_names es
latch_names (Port out from ∷ es) = latch_names es

-- The net's runs are the design's. `origin` is the place at which each of the net's signals is driven; places of the clock
-- net have no values in a run.
pub record IsFlattened {P : Type 0} (d : Circuit P) (net : Circuit ℕ) (size : ℕ) (clocked is_place : P → Type 0) (origin : ℕ → P) : Type 0 where
  pub inputs : map (λ i. record { name = i.name; place = origin i.place }) net.inputs ≡ d.inputs
  pub outputs : map (λ o. o.name) net.outputs ≡ map (λ o. o.name) d.outputs
  pub output_is : (i : ℕ) (o : Named P) (s : Named ℕ) → slice_get d.outputs i ≡ Some o → slice_get net.outputs i ≡ Some s → Follows d o.place (origin s.place)
  pub latches : latch_names net.equations ≡ latch_names d.equations
  pub down : (n : ℕ) (run : ℕ → P → Bool) → IsRun d n run → IsRun net n (λ t s. run t (origin s))
  pub up : (n : ℕ) (run : ℕ → ℕ → Bool) → IsRun net n run → (whole : ℕ → P → Bool) × IsRun d n whole × ((t s : ℕ) → t < n → s < size → whole t (origin s) ≡ run t s)
  -- what is settled in the design is settled in the net, as far as the outputs show it
  pub settled : (n : ℕ) (run : ℕ → P → Bool) → IsRun d n run → (t i : ℕ) (o : Named P) (s : Named ℕ) → t < n → slice_get d.outputs i ≡ Some o → slice_get net.outputs i ≡ Some s →
      Marked d NoneEnabled run t o.place → Marked net NoneEnabled (λ t s. run t (origin s)) t s.place
  pub one : (n : ℕ) (r s : ℕ → P → Bool) → IsRun d n r → IsRun d n s → ((t i : ℕ) → t < n → i < size → r t (origin i) ≡ s t (origin i)) →
      (t : ℕ) (p : P) → t < n → (clocked p → ⊥) → is_place p → r t p ≡ s t p
