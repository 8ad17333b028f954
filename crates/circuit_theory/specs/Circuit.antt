-- A circuit as equations over places.
use Rattle.std.specs.Prelude.{◌≡◌, ℕ, ◌⊎◌, Bool, List, map}
use Rattle.std.specs.List.{All, Contains}
use Rattle.circuit_theory.specs.Cover.{Cover, cover_value}

-- What drives a place. P is the type of places: a signal's number in a flat net, a path and a name in a design.
pub data Equation (P : Type 0) : Type 0 where
  -- out has the cover's value of the fan-ins, in the same cycle
  Gate : (out : P) (fanins : List P) (cover : Cover) → Equation P
  -- out has in the next cycle what next has now
  Latch : (name : List ℕ) (out next : P) → Equation P
  -- out has what the other side of a port has
  Port : (out from : P) → Equation P

-- an input or an output
pub record Named (P : Type 0) : Type 0 where
  pub name : List ℕ
  pub place : P

-- a latch's initial value 0 or 1
pub record Started (P : Type 0) : Type 0 where
  pub place : P
  pub bit : Bool

-- the ports in their listing order, one equation for each gate, latch and port, and the initial values
pub record Circuit (P : Type 0) : Type 0 where
  pub inputs : List (Named P)
  pub outputs : List (Named P)
  pub equations : List (Equation P)
  -- only reset runs look at these
  pub starts : List (Started P)

-- the place is an input's
abbrev pub IsInput : {P : Type 0} → Circuit P → P → Type 0
IsInput c p = (name : List ℕ) × Contains c.inputs (record { name = name; place = p })

-- p is the latch of this name, and takes over what next has
abbrev pub IsLatch : {P : Type 0} → Circuit P → List ℕ → P → P → Type 0
IsLatch c name p next = Contains c.equations (Latch name p next)

-- a place whose value in a cycle the gates don't give
abbrev pub IsSource : {P : Type 0} → Circuit P → P → Type 0
IsSource {P} c p = IsInput c p ⊎ ((name : List ℕ) × (next : P) × IsLatch c name p next)

-- what the equation asks of the values of one cycle
abbrev pub Holds : {P : Type 0} → (P → Bool) → Equation P → Type 0
Holds v (Gate out fanins cover) = v out ≡ cover_value cover (map v fanins)
Holds v (Latch name out next) = Unit {0}
Holds v (Port out from) = v out ≡ v from

-- what the equation asks of the values of a cycle and of the next
abbrev pub Carries : {P : Type 0} → (P → Bool) → (P → Bool) → Equation P → Type 0
Carries now later (Gate out fanins cover) = Unit {0}
Carries now later (Latch name out next) = later out ≡ now next
Carries now later (Port out from) = Unit {0}

-- the values of one cycle meet each gate and port equation
abbrev pub Meets : {P : Type 0} → Circuit P → (P → Bool) → Type 0
Meets c v = All (Holds v) c.equations

-- q is read by the equation that drives p, in the same cycle
pub data Reads {P : Type 0} (c : Circuit P) : P → P → Type 0 where
  by_gate : {out q : P} {fanins : List P} {cover : Cover} → Contains c.equations (Gate out fanins cover) → Contains fanins q → Reads c out q
  by_port : {out from : P} → Contains c.equations (Port out from) → Reads c out from

-- the place u is reached from p backwards through gates and ports, p itself among them
pub data Reaches {P : Type 0} (c : Circuit P) : P → P → Type 0 where
  here : {p : P} → Reaches c p p
  there : {p q u : P} → Reads c p q → Reaches c q u → Reaches c p u

-- the inputs and latches that are reached from p
abbrev pub InCone : {P : Type 0} → Circuit P → P → P → Type 0
InCone c p u = IsSource c u × Reaches c p u

-- what an equation drives
abbrev pub out_of : {P : Type 0} → Equation P → P
out_of (Gate out fanins cover) = out
out_of (Latch name out next) = out
out_of (Port out from) = out

-- each place has one driver at most
pub record IsSingleDriven {P : Type 0} (c : Circuit P) : Type 0 where
  pub one : (e f : Equation P) → Contains c.equations e → Contains c.equations f → out_of e ≡ out_of f → e ≡ f
  pub no_input : (e : Equation P) → Contains c.equations e → IsInput c (out_of e) → ⊥
