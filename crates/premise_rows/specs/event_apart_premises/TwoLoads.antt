-- Two circuits with two latches each, which load one input under different enables: one shows the `and` of its latches, the other their `or`.
use Rattle.std.specs.Prelude.{ℕ, Bool, true, false, List, [], ◌∷◌, None, Some, codes}
use Rattle.circuit_theory.specs.declared.Side.TheVariants.{A}
use Rattle.circuit_theory.specs.Cover.{Cover}
use Rattle.circuit_theory.specs.Frame.{EventSide}
use Rattle.circuit_theory.specs.Joined.{Either, Left, Right}
use Rattle.circuit_theory.specs.Query.{Variable}
use Rattle.sec_base.specs.declared.basics.Init.TheVariants as init
use Rattle.flat_net.specs.declared.parts.Driver.TheVariants as driver
use Rattle.flat_net.specs.View.{NetView}
use Rattle.event_nodes.specs.aig.Node.TheVariants.{Constant, Input}
use Rattle.event_nodes.specs.Nodes.{EventGraphView}
use Rattle.event_nodes.specs.View.{EventCircuitView}
use Rattle.edbf_unfold.specs.class_queries.Enables.{both_of}
use Rattle.class_search.specs.declared.class_separations.apart.Apart.{Apart}
use Rattle.event_form.specs.event_agreement.pair_events.View.{EventsView}
use Rattle.call_rows.specs.circuit_samples.Circuits.{and_cover}
use Rattle.call_rows.specs.circuit_samples.event_samples.Samples.{load_cover}

-- 1 where one of the two fan-ins is
abbrev pub or_cover : Cover
or_cover = record { width = 2; rows = codes "1-" ∷ codes "-1" ∷ []; on = true }

-- 0 e, 1 f, 2 a; 3 q, which loads a under e, 5 what it takes over; 4 r, which loads a under f, 6 what it takes over; 7 y, made of q and r
abbrev pub loading_two : Cover → NetView
loading_two out = record {
  inputs = record { name = codes "e"; signal = record { 0 = 0 } } ∷ record { name = codes "f"; signal = record { 0 = 1 } } ∷ record { name = codes "a"; signal = record { 0 = 2 } } ∷ [];
  outputs = record { name = codes "y"; signal = record { 0 = 7 } } ∷ [];
  gates =
      record { fanins = record { 0 = 0 } ∷ record { 0 = 2 } ∷ record { 0 = 3 } ∷ []; cover = 0; out = record { 0 = 5 } }
      ∷ record { fanins = record { 0 = 1 } ∷ record { 0 = 2 } ∷ record { 0 = 4 } ∷ []; cover = 0; out = record { 0 = 6 } }
      ∷ record { fanins = record { 0 = 3 } ∷ record { 0 = 4 } ∷ []; cover = 1; out = record { 0 = 7 } } ∷ [];
  latches = record { name = codes "q"; next = record { 0 = 5 }; out = record { 0 = 3 }; init = init.Unknown } ∷ record { name = codes "r"; next = record { 0 = 6 }; out = record { 0 = 4 }; init = init.Unknown } ∷ [];
  covers = load_cover ∷ out ∷ [];
  drivers = driver.Input 0 ∷ driver.Input 1 ∷ driver.Input 2 ∷ driver.Latch 0 ∷ driver.Latch 1 ∷ driver.Gate 0 ∷ driver.Gate 1 ∷ driver.Gate 2 ∷ [];
  names = codes "e" ∷ codes "f" ∷ codes "a" ∷ codes "q" ∷ codes "r" ∷ codes "m" ∷ codes "n" ∷ codes "y" ∷ [];
  clock = None;
}

-- both latches are enabled; q is of class 1, and r of class 2
abbrev pub with_both : NetView → EventCircuitView
with_both n = record { net = n; enabled = true ∷ true ∷ []; order = 0 ∷ 1 ∷ 2 ∷ []; classes = 1 ∷ 2 ∷ [] }

abbrev pub shows_and : EventCircuitView
shows_and = with_both (loading_two and_cover)

abbrev pub shows_or : EventCircuitView
shows_or = with_both (loading_two or_cover)

abbrev pub both_loading : EventSide (Either ℕ ℕ)
both_loading = both_of shows_and shows_or

-- the order in which the latches join
abbrev pub joining : List (Either ℕ ℕ)
joining = Left 3 ∷ Left 4 ∷ Right 3 ∷ Right 4 ∷ []

-- e, f and a at the root are variables, by which the enables were told apart
abbrev pub three_inputs : EventGraphView
three_inputs = record { graph = Constant ∷ Input 0 ∷ Input 1 ∷ Input 2 ∷ []; children = []; places = (0, 0) ∷ (1, 0) ∷ (2, 0) ∷ [] }

-- nothing was counted, and there are two classes besides `always`
abbrev pub with_two : EventsView
with_two = record { left = shows_and; right = shows_or; events = three_inputs; left_count = record { places = []; weight = 0 }; right_count = record { places = []; weight = 0 }; count = 2 }

-- A's q founds class 1, and A's r class 2: their enables are 0 where all is. Where e alone is 1, that of q is 1, and that of r is 0.
abbrev pub q_from_always : Apart
q_from_always = record { low = None; high = record { side = A; latch = 0 }; left = true; right = false; vars = 0 ∷ 2 ∷ []; bits = false ∷ false ∷ [] }

abbrev pub r_from_always : Apart
r_from_always = record { low = None; high = record { side = A; latch = 1 }; left = true; right = false; vars = 1 ∷ 2 ∷ []; bits = false ∷ false ∷ [] }

abbrev pub q_from_r : Apart
q_from_r = record { low = Some (record { side = A; latch = 0 }); high = record { side = A; latch = 1 }; left = true; right = false; vars = 0 ∷ 1 ∷ 2 ∷ []; bits = true ∷ false ∷ false ∷ [] }

abbrev pub two_apart : List Apart
two_apart = q_from_always ∷ r_from_always ∷ q_from_r ∷ []

-- an input at the root
abbrev pub now_of : ℕ → Variable (List ℕ)
now_of i = record { input = i; at = [] }

-- and as it was when the latches of a class last loaded
abbrev pub loaded_of : ℕ → ℕ → Variable (List ℕ)
loaded_of class i = record { input = i; at = class ∷ [] }

-- the frame in which e alone is 1
abbrev pub three_variables : List (Variable (List ℕ))
three_variables = now_of 0 ∷ now_of 1 ∷ now_of 2 ∷ []

abbrev pub e_alone : List Bool
e_alone = true ∷ false ∷ false ∷ []

-- the frame in which q loaded 1 under e, and r 0 under f
abbrev pub four_variables : List (Variable (List ℕ))
four_variables = loaded_of 1 0 ∷ loaded_of 1 2 ∷ loaded_of 2 1 ∷ loaded_of 2 2 ∷ []

abbrev pub q_alone : List Bool
q_alone = true ∷ true ∷ true ∷ false ∷ []
