-- Setups in which no latch is cut open: their nets have the circuits that are compared, so what is said of them is said of these.
use Rattle.std.proofs.Common.{◌≡◌, ◌∙◌, ℕ, ◌<◌, List, [], ◌∷◌, map, length, refl, sym, ap, subst, arith}
use Rattle.std.specs.List.{filter, All, Contains}
use Rattle.std.proofs.lemmas.List.{append-nil}
use Rattle.std.proofs.lemmas.List.Elements.{All-contains}
use Rattle.circuit_theory.specs.declared.Side.TheVariants.{A, B}
use Rattle.circuit_theory.specs.Circuit.{Circuit}
use Rattle.circuit_theory.specs.Cone.{latches_of}
use Rattle.circuit_theory.specs.Cover.{Cover}
use Rattle.circuit_theory.specs.Fits.{IsPairDepth}
use Rattle.circuit_theory.specs.Interface.{shared_inputs, AreNumbersOf}
use Rattle.circuit_theory.specs.Tree.{IsInputNumber}
use Rattle.circuit_theory.proofs.Lists.{Contains-map, Contains-map_from, of_at}
use Rattle.circuit_theory.proofs.Numbers.{beside_at}
use Rattle.flat_net.specs.declared.parts.Gate.{Gate}
use Rattle.flat_net.specs.declared.parts.LatchAt.{LatchAt}
use Rattle.flat_net.specs.declared.parts.Port.{Port}
use Rattle.flat_net.specs.Cut.{latch_at, stays, IsCut}
use Rattle.flat_net.specs.Sound.{IsSound}
use Rattle.flat_net.specs.View.{NetView, circuit_of, ports_of}
use Rattle.sec_setup.specs.declared.ports.pairs.SignalPair.{SignalPair}
use Rattle.circuit_laws.specs.reset_laws.Reset.{AreBased}
use Rattle.circuit_laws.specs.reset_laws.Weight.{IsResetWeight, IsResetOver}
use Rattle.circuit_laws.proofs.reset_laws.reset_nets.Starts.{nets_have_starts}
use Rattle.reset_form.specs.reset_unfold.Places.{starts_of}
use Rattle.sec_setup.specs.declared.setup.Setup.{Setup}
use Rattle.outcome_fits.specs.Cuts.{columns_of}
use Rattle.outcome_fits.specs.Pairs.{NamedPair, named_pairs, places_of}
use Rattle.sec_setup.specs.Setup.{IsSetupOf}
use Rattle.reset_form.specs.declared.reset_functions.bases.Bases.{Bases}
use Rattle.reset_form.specs.reset_functions.Bases.{AreBases}
use Rattle.outcome_fits.specs.ResetOutcome.{Numbered}
use Rattle.reset_form.specs.reset_functions.Pairs.{IsLeftSide, IsRightSide, IsLight, IsTooLarge}
use Rattle.plain_check.specs.under_base.compare_base.FromReset.{IsLeftStart, IsRightStart, IsLeftLight, IsRightLight, AreTooLargeFromReset, numbered_by}

-- all latches stay
all_stay : (ls : List LatchAt) → filter (stays []) ls ≡ ls
all_stay [] = refl
all_stay (l ∷ ls) = ap (λ rest. l ∷ rest) (all_stay ls)

no_positions : (f : ℕ → List ℕ) (positions : List ℕ) → map f positions ≡ [] → positions ≡ []
no_positions f [] e = refl
no_positions f (j ∷ js) e = absurd (cc)

-- the net of these lists
abbrev net_by : NetView → List Port → List Port → List Gate → List LatchAt → List Cover → NetView
net_by m inputs outputs gates latches covers = record m { inputs = inputs; outputs = outputs; gates = gates; latches = latches; covers = covers }

-- a net without latches cut out has the circuit of the net
module _ (n m : NetView) (is : IsCut n m []) where
  same_inputs : m.inputs ≡ n.inputs
  same_inputs = is.inputs ∙ append-nil n.inputs

  same_latches : m.latches ≡ n.latches
  same_latches = is.latches ∙ all_stay n.latches

  same_circuit : circuit_of m ≡ circuit_of n
  same_circuit =
      ap (λ (ps : List Port). circuit_of (net_by m ps m.outputs m.gates m.latches m.covers)) same_inputs
      ∙ (ap (λ (ps : List Port). circuit_of (net_by m n.inputs ps m.gates m.latches m.covers)) (is.outputs ∙ append-nil n.outputs)
      ∙ (ap (λ (gs : List Gate). circuit_of (net_by m n.inputs n.outputs gs m.latches m.covers)) is.gates
      ∙ (ap (λ (ls : List LatchAt). circuit_of (net_by m n.inputs n.outputs n.gates ls m.covers)) same_latches
      ∙ ap (λ (cs : List Cover). circuit_of (net_by m n.inputs n.outputs n.gates n.latches cs)) is.covers)))

  same_names : (ports_of m).inputs ≡ (ports_of n).inputs
  same_names = ap (map (λ (p : Port). p.name)) same_inputs

-- the numbers of a circuit's inputs are below a base
below_base : (c : Circuit ℕ) (order : List ℕ) (base : ℕ) → All (λ i. i < base) order → (p i : ℕ) → IsInputNumber c order p i → i < base
below_base c order base low p i number = let k = beside_at c.inputs order p i number in All-contains (λ j. j < base) order i low (of_at order k.0 i k.4)

module _ (a b : NetView) (s : Setup) (is : IsSetupOf a b s) (none : s.exposed ≡ []) where
  left_cut : IsCut a s.left.now []
  left_cut = subst (IsCut a s.left.now) (no_positions (λ j. (latch_at a j).name) is.are_cut.left (is.are_cut.left_names ∙ none)) is.are_cut.left_cut

  right_cut : IsCut b s.right.now []
  right_cut = subst (IsCut b s.right.now) (no_positions (λ j. (latch_at b j).name) is.are_cut.right (is.are_cut.right_names ∙ none)) is.are_cut.right_cut

  left_is : circuit_of s.left.now ≡ circuit_of a
  left_is = same_circuit a s.left.now left_cut

  right_is : circuit_of s.right.now ≡ circuit_of b
  right_is = same_circuit b s.right.now right_cut

  abbrev listed : List (NamedPair ℕ ℕ)
  listed = named_pairs [] (circuit_of a) (circuit_of b)

  pairs_are : map places_of s.pairs ≡ listed
  pairs_are = is.pairs ∙ ap (λ (names : List (List ℕ)). named_pairs names (circuit_of a) (circuit_of b)) none

  abbrev shared : List (List ℕ)
  shared = shared_inputs (ports_of a) (ports_of b)

  columns_are : s.columns ≡ shared
  columns_are = is.columns ∙ (ap (columns_of a b) none ∙ append-nil shared)

  -- a side of a setup is an output of the circuits in a cycle up to the depth of its pair
  depth_up : (p q depth : ℕ) → IsPairDepth (circuit_of s.left.now) (circuit_of s.right.now) p q depth → IsPairDepth (circuit_of a) (circuit_of b) p q depth
  depth_up p q depth deep =
      subst (λ (c : Circuit ℕ). IsPairDepth c (circuit_of b) p q depth) left_is (subst (λ (c : Circuit ℕ). IsPairDepth (circuit_of s.left.now) c p q depth) right_is deep)

  depth_down : (p q depth : ℕ) → IsPairDepth (circuit_of a) (circuit_of b) p q depth → IsPairDepth (circuit_of s.left.now) (circuit_of s.right.now) p q depth
  depth_down p q depth deep =
      subst (λ (c : Circuit ℕ). IsPairDepth c (circuit_of s.right.now) p q depth) (sym left_is) (subst (λ (c : Circuit ℕ). IsPairDepth (circuit_of a) c p q depth) (sym right_is) deep)

  listed_pair : (x : SignalPair) → Contains s.pairs x → Contains listed (places_of x)
  listed_pair x h = subst (λ (xs : List (NamedPair ℕ ℕ)). Contains xs (places_of x)) pairs_are (Contains-map places_of s.pairs x h)

  pair_listed : (x : NamedPair ℕ ℕ) → Contains listed x → (y : SignalPair) × Contains s.pairs y × (places_of y ≡ x)
  pair_listed x h = Contains-map_from places_of s.pairs x (subst (λ (xs : List (NamedPair ℕ ℕ)). Contains xs x) (sym pairs_are) h)

  left_start : (p : ℕ × ℕ) → IsLeftSide s p → IsLeftStart (circuit_of a) (circuit_of b) p
  left_start p (x, h, depth, deep, le, at) = (places_of x, listed_pair x h, depth, depth_up x.left.0 x.right.0 depth deep, le, at)

  left_side : (p : ℕ × ℕ) → IsLeftStart (circuit_of a) (circuit_of b) p → IsLeftSide s p
  left_side p (x, h, depth, deep, le, at) =
      let y = pair_listed x h in (
        y.0,
        y.1,
        depth,
        depth_down y.0.left.0 y.0.right.0 depth (subst (λ (z : NamedPair ℕ ℕ). IsPairDepth (circuit_of a) (circuit_of b) z.left z.right depth) (sym y.2) deep),
        le,
        at ∙ ap (λ (z : NamedPair ℕ ℕ). z.left) (sym y.2),
      )

  right_start : (p : ℕ × ℕ) → IsRightSide s p → IsRightStart (circuit_of a) (circuit_of b) p
  right_start p (x, h, depth, deep, le, at) = (places_of x, listed_pair x h, depth, depth_up x.left.0 x.right.0 depth deep, le, at)

  right_side : (p : ℕ × ℕ) → IsRightStart (circuit_of a) (circuit_of b) p → IsRightSide s p
  right_side p (x, h, depth, deep, le, at) =
      let y = pair_listed x h in (
        y.0,
        y.1,
        depth,
        depth_down y.0.left.0 y.0.right.0 depth (subst (λ (z : NamedPair ℕ ℕ). IsPairDepth (circuit_of a) (circuit_of b) z.left z.right depth) (sym y.2) deep),
        le,
        at ∙ ap (λ (z : NamedPair ℕ ℕ). z.right) (sym y.2),
      )

  -- so the weights of the setup are those of the circuits
  pub left_light : IsLight s.left.now (IsLeftSide s) → IsLeftLight a b
  left_light (sides, are, weight, weighs, le) =
      (sides, λ p. (λ h. left_start p ((are p).0 h), λ h. (are p).1 (left_side p h)), weight, subst (λ (c : Circuit ℕ). IsResetWeight c (starts_of sides) weight) left_is weighs, le)

  pub right_light : IsLight s.right.now (IsRightSide s) → IsRightLight a b
  right_light (sides, are, weight, weighs, le) =
      (sides, λ p. (λ h. right_start p ((are p).0 h), λ h. (are p).1 (right_side p h)), weight, subst (λ (c : Circuit ℕ). IsResetWeight c (starts_of sides) weight) right_is weighs, le)

  pub left_too_large : IsTooLarge s.left.now (IsLeftSide s) → AreTooLargeFromReset a b A
  left_too_large (sides, are, over) = (sides, λ p h. left_start p (are p h), subst (λ (c : Circuit ℕ). IsResetOver c (starts_of sides) 2000000) left_is over)

  pub right_too_large : IsLight s.left.now (IsLeftSide s) → IsTooLarge s.right.now (IsRightSide s) → AreTooLargeFromReset a b B
  right_too_large light (sides, are, over) = (left_light light, (sides, λ p h. right_start p (are p h), subst (λ (c : Circuit ℕ). IsResetOver c (starts_of sides) 2000000) right_is over))

  -- what is true of the setup's numbers and pairs is true of the circuits'
  module _ (left_base right_base : ℕ) where
    abbrev by_circuits : Circuit ℕ → Circuit ℕ → List (List ℕ) → Numbered
    by_circuits c d columns = record { a = c; b = d; left = s.orders.left; right = s.orders.right; left_base = left_base; right_base = right_base; columns = columns }

    pub of_circuits : (F : Numbered → List (NamedPair ℕ ℕ) → Type 0) → F (by_circuits (circuit_of s.left.now) (circuit_of s.right.now) s.columns) (map places_of s.pairs) →
        F (numbered_by a b s.orders.left s.orders.right left_base right_base) listed
    of_circuits F h =
        subst (F (numbered_by a b s.orders.left s.orders.right left_base right_base)) pairs_are
        (subst (λ (names : List (List ℕ)). F (by_circuits (circuit_of a) (circuit_of b) names) (map places_of s.pairs)) columns_are
        (subst (λ (c : Circuit ℕ). F (by_circuits c (circuit_of b) s.columns) (map places_of s.pairs)) left_is
        (subst (λ (c : Circuit ℕ). F (by_circuits (circuit_of s.left.now) c s.columns) (map places_of s.pairs)) right_is h)))

  pub based : (bases : Bases) → AreBases s bases → IsSound a → AreBased (circuit_of a) (circuit_of b) s.orders.left s.orders.right bases.left bases.right
  based bases are sa = record {
    left_inputs = below_base (circuit_of a) s.orders.left bases.left are.left_inputs;
    right_inputs = below_base (circuit_of b) s.orders.right bases.left are.right_inputs;
    latches =
        let own : length (latches_of (circuit_of a)) ≡ length a.latches = (nets_have_starts a sa).2 in
        let cut : length s.left.now.latches ≡ length a.latches = ap length (same_latches a s.left.now left_cut) in
        omega (arith, are.right_is, own, cut);
  }

  -- the numbers of the setup are those of the circuits' inputs
  pub left_numbers : AreNumbersOf (ports_of a).inputs shared s.orders.left s.orders.right
  left_numbers =
      subst (λ (own : List (List ℕ)). AreNumbersOf own shared s.orders.left s.orders.right) (same_names a s.left.now left_cut)
      (subst (λ (names : List (List ℕ)). AreNumbersOf (ports_of s.left.now).inputs names s.orders.left s.orders.right) columns_are is.is.left_columns.numbers)

  pub right_numbers : AreNumbersOf (ports_of b).inputs shared s.orders.right s.orders.left
  right_numbers =
      subst (λ (own : List (List ℕ)). AreNumbersOf own shared s.orders.right s.orders.left) (same_names b s.right.now right_cut)
      (subst (λ (names : List (List ℕ)). AreNumbersOf (ports_of s.right.now).inputs names s.orders.right s.orders.left) columns_are is.is.right_columns.numbers)
