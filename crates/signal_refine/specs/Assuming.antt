-- What is assumed of cycles, and invariants of the cycles in which it is met.
use Rattle.std.specs.Prelude.{◌≡◌, ℕ, ◌*◌, ◌<◌, Bool, true, List, length}
use Rattle.std.specs.List.{All}
use Rattle.circuit_theory.specs.Circuit.{Circuit}
use Rattle.circuit_theory.specs.Tree.{IsInputNumber}
use Rattle.circuit_theory.specs.Joined.{Either}
use Rattle.aig.specs.declared.node.Lit.{Lit}
use Rattle.aig.specs.declared.node.Node.{Node}
use Rattle.aig.specs.Values.{value}
use Rattle.aig.specs.graph_copy.Copy.{renamed}
use Rattle.circuit_laws.specs.signal_laws.Invariants.{IsFirstCycle, AreSuccessive}
use Rattle.signal_refine.specs.declared.nets.SignalNets.{SignalNets}
use Rattle.signal_refine.specs.declared.assumed.Assumed.{Assumed}
use Rattle.signal_refine.specs.Places.{whole, order_of}
use Rattle.signal_refine.specs.Copies.{HaveAt}

-- the literal is 1 where each variable has the bit of its number
abbrev pub Holds : Assumed → (ℕ → Bool) → Type 0
Holds w a = value w.graph.now (renamed w.numbers.now a) w.lit.0 ≡ true

-- values of a cycle meet it: it holds wherever each input's number has the input's value
abbrev pub IsMet : Assumed → SignalNets → (Either ℕ ℕ → Bool) → Type 0
IsMet w n x = (a : ℕ → Bool) → ((p : Either ℕ ℕ) (i : ℕ) → IsInputNumber (whole n) (order_of n) p i → a i ≡ x p) → Holds w a

-- nothing is assumed
abbrev pub Always : (Either ℕ ℕ → Bool) → Type 0
Always x = Unit {0}

-- A property of the values of a cycle that each first cycle has in which the assumption is met, and each cycle in which it is met that
-- follows on one in which it is met and that has the property.
pub record IsInductiveUnder {P : Type 0} (c : Circuit P) (order : List ℕ) (met good : (P → Bool) → Type 0) : Type 0 where
  pub begins : (x : P → Bool) → IsFirstCycle c order x → met x → good x
  pub steps : (x y : P → Bool) → AreSuccessive c order x y → met x → met y → good x → good y

-- The literal is 1 wherever the assumption is met by the bits of the variables in this cycle and by those in the next one.
abbrev pub IsStepCare : Assumed → List Lit → List Lit → List Node → List Node → Lit → Type 0
IsStepCare w leaves next from g x = (a c d : ℕ → Bool) → HaveAt c from a leaves → HaveAt d from a next → Holds w c → Holds w d → value g a x.0 ≡ true

-- the literals of the variables with these numbers
pub record ArePicked (leaves : List Lit) (numbers : List ℕ) (count : ℕ) (made : List Lit) : Type 0 where
  pub each : length made ≡ count
  pub within : (n : ℕ) → All (λ x. x.0 < 2 * n) leaves → All (λ x. x.0 < 2 * n) made
  pub values : (g : List Node) (a c : ℕ → Bool) → HaveAt c g a leaves → HaveAt (renamed numbers c) g a made
