-- Two latches, one behind the other: q loads under an input, and p under what a gate makes of q. So the enable of p reads q one event ago, and has a
-- care: that q loaded then.
use Rattle.std.specs.Prelude.{ℕ, Bool, true, List, [], ◌∷◌, ◌++◌, ◌==◌, None, codes}
use Rattle.circuit_theory.specs.Cover.{Cover}
use Rattle.circuit_theory.specs.EventSizes.{Start}
use Rattle.sec_base.specs.declared.basics.Init.TheVariants as init
use Rattle.flat_net.specs.declared.parts.Driver.TheVariants as driver
use Rattle.flat_net.specs.declared.parts.LatchAt.{LatchAt}
use Rattle.flat_net.specs.View.{NetView}
use Rattle.event_nodes.specs.aig.Node.{Node}
use Rattle.event_nodes.specs.Nodes.{EventGraphView}
use Rattle.event_nodes.specs.View.{EventCircuitView}
use Rattle.edbf_unfold.specs.event_literals.event_walk.Walk.{enable_start}
use Rattle.call_rows.specs.circuit_samples.event_samples.Samples.{load_cover, load_not_cover, same_cover, not_cover}
use Rattle.premise_rows.specs.event_pair_premises.Held.{and_of, held_nodes, at_load}

abbrev pub latch_q : LatchAt
latch_q = record { name = codes "q"; next = record { 0 = 4 }; out = record { 0 = 2 }; init = init.Unknown }

abbrev pub latch_p : LatchAt
latch_p = record { name = codes "p"; next = record { 0 = 6 }; out = record { 0 = 3 }; init = init.Unknown }

-- 0 e; 1 a; 2 q; 3 p, which y shows; 4 what q takes over, made of e, a and q; 5 g, made of q; 6 what p takes over: a where g is 1, else p
abbrev pub chain : Cover → Cover → NetView
chain load out = record {
  inputs = record { name = codes "e"; signal = record { 0 = 0 } } ∷ record { name = codes "a"; signal = record { 0 = 1 } } ∷ [];
  outputs = record { name = codes "y"; signal = record { 0 = 3 } } ∷ [];
  gates =
      record { fanins = record { 0 = 0 } ∷ record { 0 = 1 } ∷ record { 0 = 2 } ∷ []; cover = 0; out = record { 0 = 4 } } ∷ record { fanins = record { 0 = 2 } ∷ []; cover = 1; out = record { 0 = 5 } }
      ∷ record { fanins = record { 0 = 5 } ∷ record { 0 = 1 } ∷ record { 0 = 3 } ∷ []; cover = 2; out = record { 0 = 6 } } ∷ [];
  latches = latch_q ∷ latch_p ∷ [];
  covers = load ∷ out ∷ load_cover ∷ [];
  drivers = driver.Input 0 ∷ driver.Input 1 ∷ driver.Latch 0 ∷ driver.Latch 1 ∷ driver.Gate 0 ∷ driver.Gate 1 ∷ driver.Gate 2 ∷ [];
  names = codes "e" ∷ codes "a" ∷ codes "q" ∷ codes "p" ∷ codes "n" ∷ codes "g" ∷ codes "m" ∷ [];
  clock = None;
}

-- both latches are enabled; q is of class 1, and p of the one that is given
abbrev pub chained : Cover → Cover → ℕ → EventCircuitView
chained load out class = record { net = chain load out; enabled = true ∷ true ∷ []; order = 0 ∷ 1 ∷ []; classes = 1 ∷ class ∷ [] }

-- under e q loads a, and p loads where q is 1
abbrev pub where_a : EventCircuitView
where_a = chained load_cover same_cover 2

-- the same by complements: q loads that of a, and p loads where q is 0
abbrev pub where_a_too : EventCircuitView
where_a_too = chained load_not_cover not_cover 2

-- q loads the complement of a, and p loads where q is 1: that is a class of its own
abbrev pub where_not_a : EventCircuitView
where_not_a = chained load_not_cover same_cover 3

-- 1 where the first fan-in is 1, else the third
abbrev pub load_one_cover : Cover
load_one_cover = record { width = 3; rows = codes "1--" ∷ codes "0-1" ∷ []; on = true }

-- under e q loads 1, and p loads where q is 1: of class 0, since q is 1 once it has loaded
abbrev pub where_loaded : EventCircuitView
where_loaded = chained load_one_cover same_cover 0

-- q loads a, and p loads where q is 0
abbrev pub where_no_a : EventCircuitView
where_no_a = chained load_cover not_cover 3

-- the start of the enable of p
abbrev pub p_enable : Start ℕ
p_enable = enable_start latch_p

-- the graph of `at_load`: e and a at the root, both at the child by class 1, and what q takes over there. Behind it for each of the four enables of p,
-- which are 10, 13, 12 and 6, the and with a at the root, and the enable without that.
abbrev pub chain_nodes : List Node
chain_nodes = held_nodes ++ and_of 4 10 ∷ and_of 10 19 ∷ and_of 4 13 ∷ and_of 13 23 ∷ and_of 4 12 ∷ and_of 12 27 ∷ and_of 4 6 ∷ and_of 6 31 ∷ []

abbrev pub at_chain : EventGraphView
at_chain = record at_load { graph = chain_nodes }

-- at the child e is 1 and a is 0; all else is 0
abbrev pub e_alone : ℕ → Bool
e_alone v = v == 2
