-- The minimal cut that is chosen, or the cycle that is told.
use Rattle.std.proofs.Common.{◌≡◌, true, false, List, ℕ, Err, subst}
use Rattle.circuit_theory.specs.declared.Mode.{Mode}
use Rattle.circuit_theory.specs.declared.Side.{Side}
use Rattle.circuit_theory.specs.declared.Side.TheVariants.{A, B}
use Rattle.sec_setup.specs.declared.cut_points.exposed.ExposeError.{ExposeError}
use Rattle.sec_setup.specs.declared.cut_points.exposed.ExposeError.TheVariants as expose_error
use Rattle.sec_setup.specs.cut_points.Exposed.{Exposes}
use Rattle.sec_setup.specs.ports.flat_net.View.{NetView}
use Rattle.sec_setup.specs.declared.error.SetupError.TheVariants as setup_error
use Rattle.sec_setup.specs.Choosing.{ChosenIn}
use Rattle.sec_setup.proofs.choice.choose_cut.Goals as goal

pub expose-requires-clause-left_graph : goal.expose-requires-clause-left_graph
expose-requires-clause-left_graph g c = c.requires.left.graph

pub expose-requires-clause-right_graph : goal.expose-requires-clause-right_graph
expose-requires-clause-right_graph g c = c.requires.right.graph

no_false : true ≡ false → ⊥
no_false e = cc

pub returns-in-Ok : goal.returns-in-Ok
returns-in-Ok g c =
    let e = c.in-Ok.ensures g.mode c.requires.left c.requires.right in
    record {
      cut_open = record {
        minimal = e.minimal;
        in_order = e.in_order;
        left = record { within = e.left_within; distinct = e.left_distinct; named = e.left_names };
        right = record { within = e.right_within; distinct = e.right_distinct; named = e.right_names };
      };
      closed = λ q. absurd (no_false q);
      broken = e.paired;
    }

-- a cycle that no common latch breaks is refused
unpaired : (mode : Mode) (a b : NetView) (side : Side) (names : List (List ℕ)) → Exposes mode a b (Err (expose_error.Unpaired side names)) → ChosenIn mode a b true (Err (setup_error.Unpaired side names))
unpaired mode a b A names told = (λ i. true, told)
unpaired mode a b B names told = (λ i. true, told.0, told.1)

pub returns-in-Err-Unpaired : goal.returns-in-Err-Unpaired
returns-in-Err-Unpaired g c =
    let a = c.args.nets.now.left.now in
    let b = c.args.nets.now.right.now in
    let arm = c.in-Err-Unpaired in
    unpaired g.mode a b arm.side arm.names (subst (λ (e : ExposeError). Exposes g.mode a b (Err e)) arm.field-0-is (arm.ensures g.mode c.requires.left c.requires.right))
