-- The place's driver tells whether its signal is an input.
use Rattle.std.proofs.Common.{refl, inl, inr}
use Rattle.event_nodes.proofs.event_variables.Putting.{input_within, input_number, no_number}
use Rattle.event_nodes.proofs.event_variables.visited.put_variable.Goals as goal

pub number-input-requires : goal.number-input-requires
number-input-requires c = input_within c.args.circuit.now c.keeps.ensures.sound c.net.result.now c.net.ensures c.args.place.1 c.driver.result c.driver.ensures c.keeps.ensures.circuit c.in-Input.i c.in-Input.is

pub returns-in_ok-push-in-Input-clause-put : goal.returns-in_ok-push-in-Input-clause-put
returns-in_ok-push-in-Input-clause-put c = inr (
  c.in_ok-variable-in-Input.variable,
  record {
    number = c.number-input.result;
    numbered = input_number c.args.circuit.now c.keeps.ensures.sound c.net.result.now c.net.ensures c.args.place.1 c.driver.result c.driver.ensures c.in-Input.i c.number-input.result c.in-Input.is c.number-input.ensures;
    at = c.in_ok-variable-in-Input.ensures.here;
  },
  c.in_ok-push-in-Input.ensures.items,
)

pub returns-in_default-clause-put : goal.returns-in_default-clause-put
returns-in_default-clause-put c = inl (no_number c.args.circuit.now c.keeps.ensures.sound c.net.result.now c.net.ensures c.args.place.1 c.driver.result c.driver.ensures (λ i is. c.in_default.not-Input i is), refl)
