-- What a gate, a latch or an input drives is where its signal is driven.
use Rattle.std.proofs.Common.{◌≡◌, ℕ, List, refl}
use Rattle.std.specs.List.{Contains}
use Rattle.circuit_theory.specs.Cover.{Cover}
use Rattle.circuit_theory.specs.Circuit.{Circuit, Gate, Latch, Port, IsLatch, IsSingleDriven}
use Rattle.circuit_theory.specs.Flattened.{Follows}
use Rattle.net_assembly.specs.net_alike.FlatCircuit.{IsFlatCircuit}

-- what no port drives stays
stays : {P : Type 0} (d : Circuit P) {p q : P} → ((from : P) → Contains d.equations (Port p from) → ⊥) → Follows d p q → q ≡ p
stays d none Follows.here = refl
stays d none (Follows.there {from = from} h rest) = absurd (none from h)

module _ {P : Type 0} (d : Circuit P) (net : Circuit ℕ) (size : ℕ) (clocked : P → Type 0) (o : ℕ → P) (s : P → ℕ) (single : IsSingleDriven d) (flat : IsFlatCircuit d net size clocked o s) where
  pub gate_home : (out : P) (fanins : List P) (cover : Cover) → Contains d.equations (Gate out fanins cover) → o (s out) ≡ out
  gate_home out fanins cover h = stays d (λ from k. (let e = single.one (Gate out fanins cover) (Port out from) h k refl in absurd (cc))) (flat.read out fanins cover h).0.follows

  pub latch_home : (name : List ℕ) (out next : P) → IsLatch d name out next → o (s out) ≡ out
  latch_home name out next h = stays d (λ from k. (let e = single.one (Latch name out next) (Port out from) h k refl in absurd (cc))) (flat.taken name out next h).0.follows

  pub input_home : (name : List ℕ) (p : P) → Contains d.inputs (record { name = name; place = p }) → o (s p) ≡ p
  input_home name p h = stays d (λ from k. single.no_input (Port p from) k (name, h)) (flat.entered name p h).follows
