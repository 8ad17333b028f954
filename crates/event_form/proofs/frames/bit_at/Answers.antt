-- The variable's input, and the steps to its event node.
use Rattle.std.proofs.Common.{◌≤◌, ℕ, length, refl}
use Rattle.sec_setup.proofs.ports.flat_net.Places.{All-at}
use Rattle.event_form.proofs.Telling.{tells}
use Rattle.event_form.proofs.frames.bit_at.Goals as goal

pub node_path-requires : goal.node_path-requires
node_path-requires c = All-at (λ (p : ℕ × ℕ). p.1 ≤ length c.args.events.now.children) c.args.events.now.places c.args.variable c.place-input.result c.place-input.ensures c.keeps.ensures.events.placed

pub returns-clause-variable : goal.returns-clause-variable
returns-clause-variable c = tells c.args.events.now c.keeps.ensures.events c.args.variable c.place-input.result _ c.place-input.ensures refl c.in_ok-path.ensures
