-- Two circuits of seventeen inputs. One shows its first input; the other chooses by the second one between the first and itself, in a gate that
-- reads all of them.
use Rattle.std.specs.Prelude.{ℕ, zero, suc, ◌+◌, true, List, [], ◌∷◌, ◌++◌, map, None, codes}
use Rattle.circuit_theory.specs.Cover.{Cover}
use Rattle.circuit_theory.specs.Frame.{EventSide}
use Rattle.circuit_theory.specs.Joined.{Either}
use Rattle.flat_net.specs.declared.parts.Driver.TheVariants as driver
use Rattle.flat_net.specs.declared.parts.Port.{Port}
use Rattle.flat_net.specs.View.{NetView}
use Rattle.event_nodes.specs.aig.Node.{Node}
use Rattle.event_nodes.specs.aig.Node.TheVariants.{Constant, Input}
use Rattle.event_nodes.specs.Nodes.{EventGraphView}
use Rattle.event_nodes.specs.View.{EventCircuitView}
use Rattle.edbf_unfold.specs.class_queries.Enables.{both_of}
use Rattle.premise_rows.specs.event_pair_premises.Held.{and_of}

-- so many numbers, from this one on
abbrev pub numbers_from : ℕ → ℕ → List ℕ
numbers_from k zero = []
numbers_from k (suc count) = k ∷ numbers_from (suc k) count

abbrev pub seventeen : List ℕ
seventeen = numbers_from 0 17

-- the inputs are named a to q
abbrev pub letter : ℕ → List ℕ
letter k = (97 + k) ∷ []

abbrev pub input_port : ℕ → Port
input_port k = record { name = letter k; signal = record { 0 = k } }

-- a where b is 1, and a where b is 0, whatever the others are
abbrev pub choice_cover : Cover
choice_cover = record { width = 17; rows = codes "11---------------" ∷ codes "10---------------" ∷ []; on = true }

-- 0 to 16 a to q; 17 y, made of all of them
abbrev pub choosing : NetView
choosing = record {
  inputs = map input_port seventeen;
  outputs = record { name = codes "y"; signal = record { 0 = 17 } } ∷ [];
  gates = record { fanins = map (λ k. record { 0 = k }) seventeen; cover = 0; out = record { 0 = 17 } } ∷ [];
  latches = [];
  covers = choice_cover ∷ [];
  drivers = map driver.Input seventeen ++ driver.Gate 0 ∷ [];
  names = map letter seventeen ++ codes "y" ∷ [];
  clock = None;
}

-- y is a
abbrev pub showing : NetView
showing = record {
  inputs = map input_port seventeen;
  outputs = record { name = codes "y"; signal = record { 0 = 0 } } ∷ [];
  gates = [];
  latches = [];
  covers = [];
  drivers = map driver.Input seventeen;
  names = map letter seventeen;
  clock = None;
}

abbrev pub with_seventeen : NetView → EventCircuitView
with_seventeen n = record { net = n; enabled = []; order = seventeen; classes = [] }

abbrev pub chooses : EventCircuitView
chooses = with_seventeen choosing

abbrev pub shows : EventCircuitView
shows = with_seventeen showing

abbrev pub both_chosen : EventSide (Either ℕ ℕ)
both_chosen = both_of chooses shows

-- a and b, a and not b, and neither of these
abbrev pub choice_ands : List Node
choice_ands = and_of 2 4 ∷ and_of 2 5 ∷ and_of 37 39 ∷ []

-- behind the inputs at the root
abbrev pub chosen_nodes : List Node
chosen_nodes = Constant ∷ map Input seventeen ++ choice_ands

abbrev pub at_choice : EventGraphView
at_choice = record { graph = chosen_nodes; children = []; places = map (λ v. (v, 0)) seventeen }
