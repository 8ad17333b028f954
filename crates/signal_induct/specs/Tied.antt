-- Two circuits compared by ties of their signals.
use Rattle.std.specs.Prelude.{◌≡◌, ℕ, suc, ◌+◌, ◌<◌, ◌==◌, ◌&&◌, ◌||◌, not, Bool, true, false, if◌then◌else◌, List, [], ◌∷◌, ◌++◌, length, map, slice_get, find, unwrap_or, Option, option_map}
use Rattle.std.specs.List.{AllZip}
use Rattle.circuit_theory.specs.Circuit.{Circuit}
use Rattle.circuit_theory.specs.Interface.{AreOrders}
use Rattle.circuit_theory.specs.Agree.{IsPair}
use Rattle.circuit_theory.specs.Joined.{Either, beside}
use Rattle.circuit_laws.specs.reset_laws.Reset.{AreAlikeFromReset}
use Rattle.circuit_laws.specs.signal_laws.Ties.{AreTied}
use Rattle.flat_net.specs.View.{NetView, circuit_of, ports_of}
use Rattle.witness_report.specs.declared.witness.PairName.{PairName}
use Rattle.witness_report.specs.declared.witness.PairName.TheVariants as pair_name
use Rattle.sec_setup.specs.declared.ports.pairs.SignalPair.{SignalPair}
use Rattle.sec_setup.specs.ports.Pairing.{IsOutputPair}
use Rattle.circuit_laws.specs.declared.signal_laws.anchor.Anchor.{Anchor}
use Rattle.circuit_laws.specs.declared.signal_laws.anchor.Anchor.TheVariants as anchor
use Rattle.signal_refine.specs.declared.nets.SignalNets.{SignalNets}
use Rattle.signal_refine.specs.Asking.{same_bit}
use Rattle.signal_refine.specs.Assuming.{Always}
use Rattle.signal_refine.specs.Showing.{AreInductiveTies}
use Rattle.signal_induct.specs.declared.outputs.TiedPair.{TiedPair}
use Rattle.signal_induct.specs.declared.induction.SignalInduction.{SignalInduction}

-- what the signal at a place is tied to; itself, where it is tied to nothing
abbrev pub anchor_at : List Anchor → ℕ → Anchor
anchor_at anchors p = unwrap_or (slice_get anchors p) (anchor.Place p false)

-- both are one bit, or one signal under one sign
abbrev pub same_anchor : Anchor → Anchor → Bool
same_anchor (anchor.Bit x) (anchor.Bit y) = same_bit x y
same_anchor (anchor.Bit x) (anchor.Place q turned) = false
same_anchor (anchor.Place p flipped) (anchor.Bit y) = false
same_anchor (anchor.Place p flipped) (anchor.Place q turned) = (p == q) && same_bit flipped turned

-- the signal at the place is tied to a bit, to another signal, or to a complement
abbrev pub is_tied : ℕ → Anchor → Bool
is_tied p (anchor.Bit bit) = true
is_tied p (anchor.Place q flipped) = flipped || not (q == p)

-- how many signals from a place on are tied
abbrev pub ties_from : ℕ → List Anchor → ℕ
ties_from p [] = 0
ties_from p (k ∷ anchors) = (if is_tied p k then 1 else 0) + ties_from (suc p) anchors

-- the name of the outputs
abbrev pub name_of : PairName → List ℕ
name_of (pair_name.Output name) = name
name_of (pair_name.Next name) = name

-- Two outputs of one name, where so many signals of A stand before those of B: equal where both are tied to one bit or one signal, under
-- one sign.
abbrev pub tied_pair : ℕ → List Anchor → SignalPair → TiedPair
tied_pair size anchors p = record { name = name_of p.name; equal = same_anchor (anchor_at anchors p.left.0) (anchor_at anchors (size + p.right.0)) }

-- the name of the first output that isn't shown equal
abbrev pub first_apart : List TiedPair → Option (List ℕ)
first_apart pairs = option_map (λ (p : TiedPair). p.name) (find (λ (p : TiedPair). not p.equal) pairs)

-- values of both circuits side by side meet it in each of so many cycles
abbrev pub MeetsThroughout : ((Either ℕ ℕ → Bool) → Type 0) → ℕ → (ℕ → ℕ → Bool) → (ℕ → ℕ → Bool) → Type 0
MeetsThroughout met n l r = (t : ℕ) → t < n → met (beside (l t) (r t))

-- the ties hold in every cycle of two reset runs with equal inputs that meet the assumption throughout
abbrev pub AreHeld : ((Either ℕ ℕ → Bool) → Type 0) → Circuit ℕ → Circuit ℕ → ℕ → List Anchor → Type 0
AreHeld met a b size anchors = (n : ℕ) (l r : ℕ → ℕ → Bool) → AreAlikeFromReset a b n l r → MeetsThroughout met n l r → (t : ℕ) → t < n → AreTied size anchors (beside (l t) (r t))

-- in such runs each output has equal values in every cycle
abbrev pub AgreeFromResetWhere : ((Either ℕ ℕ → Bool) → Type 0) → Circuit ℕ → Circuit ℕ → Type 0
AgreeFromResetWhere met a b = (n : ℕ) (l r : ℕ → ℕ → Bool) → AreAlikeFromReset a b n l r → MeetsThroughout met n l r → (t : ℕ) (p q : ℕ) → t < n → IsPair [] a b p q → l t p ≡ r t q

-- By some numbers of the interface an inductive invariant of both circuits under the assumption gives the ties, so that they hold in every cycle
-- of two reset runs with equal inputs that meet it, and each output of A is compared with B's of its name by them.
pub record IsInductionWhere (met : (Either ℕ ℕ → Bool) → Type 0) (a b : NetView) (made : SignalInduction) : Type 0 where
  pub nets : SignalNets
  pub left_is : nets.left.now ≡ a
  pub right_is : nets.right.now ≡ b
  pub are_own : AreOrders (ports_of a) (ports_of b) nets.orders.now.left nets.orders.now.right
  pub inductive : AreInductiveTies met nets made.ties.anchors.items
  pub hold : AreHeld met (circuit_of a) (circuit_of b) (length a.drivers) made.ties.anchors.items
  pub outputs : List SignalPair
  pub are_outputs : AllZip (IsOutputPair b) a.outputs outputs
  pub pairs_are : made.pairs ≡ map (tied_pair (length a.drivers) made.ties.anchors.items) outputs

-- the same of all runs
abbrev pub IsSignalInduction : NetView → NetView → SignalInduction → Type 0
IsSignalInduction a b made = IsInductionWhere Always a b made
