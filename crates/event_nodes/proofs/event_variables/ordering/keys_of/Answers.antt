-- One variable's key more.
use Rattle.std.proofs.Common.{◌<◌, ◌+◌, ℕ, List, length, take, sym, subst}
use Rattle.std.proofs.lemmas.List.{take_all}
use Rattle.std.proofs.lemmas.List.Elements.{All-get_or}
use Rattle.event_nodes.specs.declared.event_variables.ordering.Key.{Key}
use Rattle.event_nodes.specs.event_variables.Order.{IsKeyOf, AreKeysOf}
use Rattle.event_nodes.proofs.event_variables.Sorting.{zip_next}
use Rattle.event_nodes.proofs.event_variables.ordering.keys_of.Goals as goal

pub key_of-requires : goal.key_of-requires
key_of-requires c = All-get_or (λ (v : ℕ). v < length c.args.events.now.places) c.args.variables.now c.loop-variable.variable-index _ c.loop-variable-test.true c.requires

pub loop-variable-preserved : goal.loop-variable-preserved
loop-variable-preserved c =
    subst (λ (l : List Key). AreKeysOf c.args.events.now (take (c.loop-variable.variable-index + 1) c.args.variables.now) l) (sym c.in_ok-push.ensures.items)
    (zip_next (IsKeyOf c.args.events.now) c.args.variables.now c.loop-variable.keys.items c.loop-variable.variable-index _ _ c.loop-variable-test.true c.loop-variable.invariant c.in_ok-key_of.ensures)

pub returns : goal.returns
returns c = subst (λ (l : List ℕ). AreKeysOf c.args.events.now l c.loop-variable.keys.items) (take_all c.loop-variable.variable-index c.args.variables.now c.loop-variable-test.false) c.loop-variable.invariant
