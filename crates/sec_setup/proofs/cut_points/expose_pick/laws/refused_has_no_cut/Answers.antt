use Rattle.std.proofs.Common.{◌≡◌, ℕ, List, refl}
use Rattle.circuit_theory.specs.declared.Mode.{Mode}
use Rattle.circuit_theory.specs.declared.Side.TheVariants.{A, B}
use Rattle.circuit_theory.specs.Agree.{IsMinimalCut}
use Rattle.latch_graph.specs.flat_net.View.{NetView, circuit_of}
use Rattle.latch_graph.specs.Graph.{GraphView, IsGraphIn}
use Rattle.sec_setup.specs.declared.cut_points.expose_pick.pairs.LatchPair.{LatchPair}
use Rattle.sec_setup.specs.declared.cut_points.expose_pick.error.PickError.{PickError}
use Rattle.sec_setup.specs.declared.cut_points.expose_pick.error.PickError.TheVariants as pick_error
use Rattle.sec_setup.specs.cut_points.expose_pick.Pairs.{lefts, rights}
use Rattle.sec_setup.specs.cut_points.expose_pick.Refused.{Refuses}
use Rattle.sec_setup.specs.cut_points.expose_pick.Laws.{AreAllPairs}
use Rattle.sec_setup.proofs.cut_points.expose_pick.Cuts.{left_refused, right_refused}
use Rattle.sec_setup.proofs.cut_points.expose_pick.laws.refused_has_no_cut.Goals as goal

none : (mode : Mode) (m n : NetView) (a b : GraphView) (common : List LatchPair) (error : PickError) → IsGraphIn mode m a → IsGraphIn mode n b → AreAllPairs a b common → (error ≡ pick_error.NoMemory → ⊥) → Refuses a b (lefts common) (rights common) error →
    (names : List (List ℕ)) → IsMinimalCut mode (circuit_of m) (circuit_of n) names → ⊥
none mode m n a b common (pick_error.Unpaired A ids) of_m of_n all other refused names cut = left_refused mode m n a b common of_m of_n all names cut ids refused
none mode m n a b common (pick_error.Unpaired B ids) of_m of_n all other refused names cut = right_refused mode m n a b common of_m of_n all names cut ids refused.1
none mode m n a b common pick_error.NoMemory of_m of_n all other refused names cut = other refl

pub returns : goal.returns
returns c = none
