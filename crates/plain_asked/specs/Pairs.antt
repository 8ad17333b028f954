-- The functions of pairs of signals, on one graph and table.
use Rattle.std.specs.Prelude.{◌≡◌, ℕ, ◌≤◌, List, map, Result, Ok, Err}
use Rattle.std.specs.List.{AllZip}
use Rattle.circuit_theory.specs.declared.Side.{Side}
use Rattle.circuit_theory.specs.declared.Side.TheVariants.{A, B}
use Rattle.circuit_theory.specs.Sizes.{IsWeight, IsOver}
use Rattle.sec_base.specs.declared.limits.TheConstants.{MAX_WEIGHT}
use Rattle.flat_net.specs.declared.signals.Signal.{Signal}
use Rattle.flat_net.specs.View.{NetView, circuit_of}
use Rattle.aig.specs.declared.node.Node.{Node}
use Rattle.cbf_unfold.specs.declared.unfold_places.signal_function.Unfolded.{Unfolded}
use Rattle.cbf_unfold.specs.Unfolded.{IsUnfolded}
use Rattle.plain_asked.specs.declared.error.PlainError.{PlainError}
use Rattle.plain_asked.specs.declared.error.PlainError.TheVariants as refused
use Rattle.sec_setup.specs.declared.ports.pairs.SignalPair.{SignalPair}
use Rattle.sec_setup.specs.declared.setup.Setup.{Setup}
use Rattle.plain_asked.specs.declared.functions.Functions.{Functions}

-- the unfoldings of these signals weigh at most 2,000,000 together
abbrev pub AreLight : NetView → List ℕ → Type 0
AreLight n signals = (w : ℕ) × IsWeight (circuit_of n) signals w × (w ≤ MAX_WEIGHT)

-- or more
abbrev pub AreTooLarge : NetView → List ℕ → Type 0
AreTooLarge n signals = IsOver (circuit_of n) signals MAX_WEIGHT

-- the circuit of this side is refused because its signals weigh too much, or memory was wanted
abbrev pub IsRefusalOf : Side → NetView → List ℕ → PlainError → Type 0
IsRefusalOf side n signals (refused.TooLarge other) = (other ≡ side) × AreTooLarge n signals
IsRefusalOf side n signals refused.NoMemory = Unit {0}

abbrev pub left_signals : List SignalPair → List ℕ
left_signals pairs = map (λ (p : SignalPair). p.left.0) pairs

abbrev pub right_signals : List SignalPair → List ℕ
right_signals pairs = map (λ (p : SignalPair). p.right.0) pairs

-- the signal of a pair in the circuit of this side
abbrev pub signal_of : Side → SignalPair → Signal
signal_of A p = p.left
signal_of B p = p.right

-- the signals of the pairs there
abbrev pub side_signals : Side → List SignalPair → List ℕ
side_signals side pairs = map (λ (p : SignalPair). (signal_of side p).0) pairs

-- the literal and the variables are the signal's function
abbrev pub IsFunctionOf : NetView → List ℕ → List Node → List (ℕ × ℕ) → ℕ → Unfolded → Type 0
IsFunctionOf n order g places s u = IsUnfolded n order g places s u.lit.0 u.vars

-- both functions of each pair, on one graph and table
pub record AreFunctions (a b : NetView) (left right : List ℕ) (pairs : List SignalPair) (f : Functions) : Type 0 where
  pub left_are : AllZip (λ (p : SignalPair) u. IsFunctionOf a left f.aig f.places p.left.0 u) pairs f.left.items
  pub right_are : AllZip (λ (p : SignalPair) u. IsFunctionOf b right f.aig f.places p.right.0 u) pairs f.right.items

-- those of each pair of a setup
abbrev pub HaveFunctions : Setup → Functions → Type 0
HaveFunctions s f = AreFunctions s.left.now s.right.now s.orders.left s.orders.right s.pairs f

-- the functions of the pairs, or the first circuit whose outputs weigh too much
abbrev pub Unfolds : NetView → NetView → List ℕ → List ℕ → List SignalPair → Result Functions PlainError → Type 0
Unfolds a b left right pairs (Ok f) = AreLight a (left_signals pairs) × AreLight b (right_signals pairs) × AreFunctions a b left right pairs f
Unfolds a b left right pairs (Err (refused.TooLarge A)) = AreTooLarge a (left_signals pairs)
Unfolds a b left right pairs (Err (refused.TooLarge B)) = AreLight a (left_signals pairs) × AreTooLarge b (right_signals pairs)
Unfolds a b left right pairs (Err refused.NoMemory) = Unit {0}
