-- Two circuits with a latch that turns over in each cycle, by other rows, and what they are once that latch is cut open in both.
use Rattle.std.specs.Prelude.{true, ◌≡◌, ℕ, false, List, [], ◌∷◌, None, codes}
use Rattle.circuit_theory.specs.declared.Mode.TheVariants.{Event}
use Rattle.circuit_theory.specs.Agree.{IsPair, Agree, AgreeOnward, IsMinimalCut}
use Rattle.circuit_theory.specs.Circuit.{Circuit}
use Rattle.circuit_theory.specs.Cover.{Cover}
use Rattle.circuit_theory.specs.Depth.{LatchesHaveDepths}
use Rattle.circuit_theory.specs.Joined.{Either, Left, Right}
use Rattle.circuit_theory.specs.Net.{IsNet, HasDistinctNames}
use Rattle.circuit_theory.specs.Run.{IsEnabled}
use Rattle.circuit_theory.specs.Tree.{AreNumbered}
use Rattle.circuit_theory.specs.Classes.{HasClasses}
use Rattle.circuit_theory.specs.Frame.{EventSide}
use Rattle.sec_base.specs.declared.basics.Init.TheVariants as init
use Rattle.flat_net.specs.declared.parts.Driver.TheVariants as driver
use Rattle.flat_net.specs.Cut.{IsCutCircuit}
use Rattle.flat_net.specs.View.{NetView, circuit_of}
use Rattle.event_nodes.specs.aig.Node.TheVariants.{Constant, Input}
use Rattle.event_nodes.specs.Nodes.{EventGraphView}
use Rattle.event_nodes.specs.View.{EventCircuitView}
use Rattle.edbf_unfold.specs.class_queries.Enables.{both_of}
use Rattle.edbf_unfold.specs.class_queries.Laws.{AreKept}
use Rattle.event_form.specs.SignalFunction.{SignalFunction}
use Rattle.event_form.specs.event_agreement.Laws.{HasSameQuery}
use Rattle.event_form.specs.event_agreement.event_pairs.Functions.{IsEventFunction}
use Rattle.call_rows.specs.circuit_samples.event_samples.Samples.{not_cover}

-- 0 t, which y shows; 1 what it takes over, made of t
abbrev pub turning : Cover → NetView
turning cover = record {
  inputs = [];
  outputs = record { name = codes "y"; signal = record { 0 = 0 } } ∷ [];
  gates = record { fanins = record { 0 = 0 } ∷ []; cover = 0; out = record { 0 = 1 } } ∷ [];
  latches = record { name = codes "t"; next = record { 0 = 1 }; out = record { 0 = 0 }; init = init.Unknown } ∷ [];
  covers = cover ∷ [];
  drivers = driver.Latch 0 ∷ driver.Gate 0 ∷ [];
  names = codes "t" ∷ codes "n" ∷ [];
  clock = None;
}

-- cut open: t is an input, and what it takes over an output
abbrev pub opened : Cover → EventCircuitView
opened cover = record {
  net = record {
    inputs = record { name = codes "t"; signal = record { 0 = 0 } } ∷ [];
    outputs = record { name = codes "y"; signal = record { 0 = 0 } } ∷ record { name = codes "t"; signal = record { 0 = 1 } } ∷ [];
    gates = record { fanins = record { 0 = 0 } ∷ []; cover = 0; out = record { 0 = 1 } } ∷ [];
    latches = [];
    covers = cover ∷ [];
    drivers = driver.Input 0 ∷ driver.Gate 0 ∷ [];
    names = codes "t" ∷ codes "n" ∷ [];
    clock = None;
  };
  enabled = [];
  order = 0 ∷ [];
  classes = [];
}

-- the complement by the row where it is 0
abbrev pub off_cover : Cover
off_cover = record { width = 1; rows = codes "1" ∷ []; on = false }

abbrev pub turns : Circuit ℕ
turns = circuit_of (turning not_cover)

abbrev pub turns_too : Circuit ℕ
turns_too = circuit_of (turning off_cover)

abbrev pub both_opened : EventSide (Either ℕ ℕ)
both_opened = both_of (opened not_cover) (opened off_cover)

-- t is the one variable
abbrev pub at_turn : EventGraphView
at_turn = record { graph = Constant ∷ Input 0 ∷ []; children = []; places = (0, 0) ∷ [] }

abbrev pub t_name : List (List ℕ)
t_name = codes "t" ∷ []

-- The latch of both is a minimal cut. Of the circuits as they are cut the output, and what t takes over, have one query each whose sides are one
-- literal. So the circuits themselves agree, and agree onward.
pub record CutPairsMeetPremises : Type 0 where
  pub left_net : IsNet turns 2
  pub right_net : IsNet turns_too 2
  pub left_names : HasDistinctNames turns
  pub right_names : HasDistinctNames turns_too
  pub minimal : IsMinimalCut Event turns turns_too t_name
  pub left_cut : IsCutCircuit t_name turns (circuit_of (opened not_cover).net)
  pub right_cut : IsCutCircuit t_name turns_too (circuit_of (opened off_cover).net)
  pub kept : AreKept (opened not_cover) (opened off_cover) at_turn
  pub classes : HasClasses both_opened
  pub depths : LatchesHaveDepths both_opened.circuit (IsEnabled both_opened.circuit)
  pub numbered : AreNumbered (circuit_of (opened not_cover).net) (circuit_of (opened off_cover).net) (0 ∷ []) (0 ∷ [])
  pub each_pair : (p q : ℕ) → IsPair t_name turns turns_too p q → HasSameQuery both_opened at_turn (Left p) (Right q)
  pub agree : Agree Event turns turns_too × AgreeOnward Event t_name turns turns_too

-- the function of t: its variable
abbrev pub of_t : SignalFunction
of_t = record { value = record { 0 = 2 }; care = record { 0 = 1 }; vars = 0 ∷ []; nodes = 0 ∷ []; only_always = true }

-- As they are cut both outputs have one tree, and so each function with the tree of A's has its literal.
pub record OneTreeMeetsPremises : Type 0 where
  pub kept : AreKept (opened not_cover) (opened off_cover) at_turn
  pub left_is : IsEventFunction both_opened at_turn (Left 0) of_t
  pub right_is : IsEventFunction both_opened at_turn (Right 0) of_t
  pub same_tree : left_is.tree ≡ right_is.tree
  pub one_literal : (p : Either ℕ ℕ) (r : SignalFunction) (k : IsEventFunction both_opened at_turn p r) → left_is.tree ≡ k.tree → 2 ≡ r.value.0
