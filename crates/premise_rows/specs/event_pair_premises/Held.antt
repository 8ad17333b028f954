-- Two circuits with one enabled latch each, whose outputs are equal wherever both have care: in one the latch loads an input, in the other its
-- complement, and that output is the latch's complement.
use Rattle.std.specs.Prelude.{◌≡◌, ◌≢◌, ℕ, true, false, List, [], ◌∷◌, None, All, codes}
use Rattle.std.specs.List.{AllZip}
use Rattle.circuit_theory.specs.declared.Mode.TheVariants.{Event}
use Rattle.circuit_theory.specs.Agree.{IsPair, Agree}
use Rattle.circuit_theory.specs.Cover.{Cover}
use Rattle.circuit_theory.specs.Depth.{LatchesHaveDepths}
use Rattle.circuit_theory.specs.Joined.{Either, Left, Right}
use Rattle.circuit_theory.specs.Run.{IsEnabled}
use Rattle.circuit_theory.specs.Tree.{AreNumbered}
use Rattle.circuit_theory.specs.Classes.{HasClasses}
use Rattle.circuit_theory.specs.EventFits.{HaveEqualEvents}
use Rattle.circuit_theory.specs.Frame.{EventSide}
use Rattle.sec_base.specs.declared.basics.Init.TheVariants as init
use Rattle.sec_base.specs.declared.basics.PairAnswer.TheVariants as answer
use Rattle.flat_net.specs.declared.parts.Driver.TheVariants as driver
use Rattle.flat_net.specs.View.{NetView, circuit_of}
use Rattle.sec_setup.specs.declared.ports.pairs.SignalPair.{SignalPair}
use Rattle.witness_report.specs.declared.witness.PairName.TheVariants as pair
use Rattle.event_nodes.specs.aig.Node.{Node}
use Rattle.event_nodes.specs.aig.Node.TheVariants.{Constant, Input, And}
use Rattle.event_nodes.specs.aig.Values.{value}
use Rattle.event_nodes.specs.Nodes.{EventGraphView}
use Rattle.event_nodes.specs.View.{EventCircuitView}
use Rattle.pair_decide.specs.declared.query.Query.{Query}
use Rattle.pair_decide.specs.Queries.{IsSame}
use Rattle.obligations.specs.declared.obligation.Obligation.{Obligation}
use Rattle.obligations.specs.declared.outcome.verdict.PairResult.{PairResult}
use Rattle.obligations.specs.Decided.{IsAnswered}
use Rattle.edbf_unfold.specs.class_queries.Enables.{both_of}
use Rattle.edbf_unfold.specs.class_queries.Laws.{AreKept}
use Rattle.event_form.specs.Answers.{PairFits}
use Rattle.event_form.specs.Asked.{AreAsked}
use Rattle.event_form.specs.Laws.{AreAllPairs}
use Rattle.event_form.specs.SignalFunction.{SignalFunction}
use Rattle.event_form.specs.event_agreement.Queries.{AsksEventPair}
use Rattle.event_form.specs.event_agreement.Laws.{HasSameQuery}
use Rattle.call_rows.specs.circuit_samples.event_samples.Samples.{load_cover, load_not_cover, same_cover, not_cover}

-- 0 e; 1 a; 2 q, 3 what it takes over, made of e, a and q; 4 y, made of q
abbrev pub holding : Cover → Cover → NetView
holding load out = record {
  inputs = record { name = codes "e"; signal = record { 0 = 0 } } ∷ record { name = codes "a"; signal = record { 0 = 1 } } ∷ [];
  outputs = record { name = codes "y"; signal = record { 0 = 4 } } ∷ [];
  gates = record { fanins = record { 0 = 0 } ∷ record { 0 = 1 } ∷ record { 0 = 2 } ∷ []; cover = 0; out = record { 0 = 3 } } ∷ record { fanins = record { 0 = 2 } ∷ []; cover = 1; out = record { 0 = 4 } } ∷ [];
  latches = record { name = codes "q"; next = record { 0 = 3 }; out = record { 0 = 2 }; init = init.Unknown } ∷ [];
  covers = load ∷ out ∷ [];
  drivers = driver.Input 0 ∷ driver.Input 1 ∷ driver.Latch 0 ∷ driver.Gate 0 ∷ driver.Gate 1 ∷ [];
  names = codes "e" ∷ codes "a" ∷ codes "q" ∷ codes "n" ∷ codes "y" ∷ [];
  clock = None;
}

-- the latch is enabled, and of class 1
abbrev pub with_class : NetView → EventCircuitView
with_class n = record { net = n; enabled = true ∷ []; order = 0 ∷ 1 ∷ []; classes = 1 ∷ [] }

-- under e, q loads a and y is q
abbrev pub loads_a : EventCircuitView
loads_a = with_class (holding load_cover same_cover)

-- under e, q loads the complement of a, and y is that of q
abbrev pub loads_not_a : EventCircuitView
loads_not_a = with_class (holding load_not_cover not_cover)

abbrev pub both_held : EventSide (Either ℕ ℕ)
both_held = both_of loads_a loads_not_a

-- e and a at the root, and then both at the child by class 1; the ands of e with a and with its complement, and with the complements of these
abbrev pub and_of : ℕ → ℕ → Node
and_of l r = And (record { 0 = l }) (record { 0 = r })

abbrev pub held_nodes : List Node
held_nodes = Constant ∷ Input 0 ∷ Input 1 ∷ Input 2 ∷ Input 3 ∷ and_of 6 8 ∷ and_of 6 9 ∷ and_of 6 11 ∷ and_of 6 13 ∷ []

abbrev pub at_load : EventGraphView
at_load = record { graph = held_nodes; children = (0, 1) ∷ []; places = (0, 0) ∷ (1, 0) ∷ (0, 1) ∷ (1, 1) ∷ [] }

-- the function of an output: over e and a at the child, with e there as its care
abbrev pub over_load : ℕ → SignalFunction
over_load lit = record { value = record { 0 = lit }; care = record { 0 = 6 }; vars = 2 ∷ 3 ∷ []; nodes = 0 ∷ 1 ∷ []; only_always = false }

-- is e and a the complement of e and not a? The care is e, at the child.
abbrev pub y_query : Query
y_query = record { left = record { 0 = 10 }; right = record { 0 = 13 }; care = record { 0 = 6 }; vars = 2 ∷ 3 ∷ [] }

abbrev pub held_pair : SignalPair
held_pair = record { name = pair.Output (codes "y"); left = record { 0 = 4 }; right = record { 0 = 4 } }

-- the pair reaches the root and one child, and no difference of it would show anything
abbrev pub held_asked : Obligation
held_asked = record { name = pair.Output (codes "y"); size = 2; decisive = false; queries = y_query ∷ [] }

abbrev pub held_result : PairResult
held_result = record { name = pair.Output (codes "y"); size = 2; answer = answer.Equal; proof = None }

-- The query is that of the pair of outputs, the only one. Its sides agree wherever e is 1 at the child, and differ where all is 0. So the pair
-- is answered as equal, the event functions agree wherever both have care, and so do the circuits.
pub record EqualitiesMeetPremises : Type 0 where
  pub kept : AreKept loads_a loads_not_a at_load
  pub classes : HasClasses both_held
  pub depths : LatchesHaveDepths both_held.circuit (IsEnabled both_held.circuit)
  pub numbered : AreNumbered (circuit_of loads_a.net) (circuit_of loads_not_a.net) loads_a.order loads_not_a.order
  pub asks : AsksEventPair both_held at_load (Left 4) (Right 4) y_query
  pub same : IsSame held_nodes y_query
  pub elsewhere : value held_nodes (λ v. false) 10 ≢ value held_nodes (λ v. false) 13
  pub each_pair : (p q : ℕ) → IsPair [] (circuit_of loads_a.net) (circuit_of loads_not_a.net) p q → HasSameQuery both_held at_load (Left p) (Right q)
  pub asked : AreAsked both_held at_load false (held_pair ∷ []) (held_asked ∷ [])
  pub answered : (conflicts : ℕ) → AllZip (IsAnswered held_nodes conflicts) (held_asked ∷ []) (held_result ∷ [])
  pub all_equal : All (λ (r : PairResult). r.answer ≡ answer.Equal) (held_result ∷ [])
  pub all_pairs : AreAllPairs loads_a loads_not_a (held_pair ∷ [])
  pub equal : HaveEqualEvents both_held (Left 4) (Right 4)
  pub fits : (conflicts : ℕ) → PairFits both_held false conflicts held_pair held_result
  pub agree : Agree Event (circuit_of loads_a.net) (circuit_of loads_not_a.net)
