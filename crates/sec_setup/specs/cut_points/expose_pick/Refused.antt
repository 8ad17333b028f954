-- What a refusal says.
use Rattle.std.specs.Prelude.{ℕ, List}
use Rattle.circuit_theory.specs.declared.Side.TheVariants.{A, B}
use Rattle.latch_graph.specs.Graph.{GraphView}
use Rattle.sec_setup.specs.declared.cut_points.expose_pick.error.PickError.{PickError}
use Rattle.sec_setup.specs.declared.cut_points.expose_pick.error.PickError.TheVariants as pick_error
use Rattle.latch_graph.specs.minimal_cut.Chosen.{IsFree}
use Rattle.sec_setup.specs.cut_points.expose_pick.Pairs.{IsLeft}

-- a cycle of the first graph is left, or else one of the second
abbrev pub Refuses : GraphView → GraphView → List ℕ → List ℕ → PickError → Type 0
Refuses a b left right (pick_error.Unpaired A ids) = IsLeft a left ids
Refuses a b left right (pick_error.Unpaired B ids) = IsFree a left × IsLeft b right ids
Refuses a b left right pick_error.NoMemory = Unit {0}
