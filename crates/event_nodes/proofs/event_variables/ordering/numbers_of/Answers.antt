-- One number more.
use Rattle.std.proofs.Common.{◌≡◌, ◌∙◌, ◌++◌, ◌∷◌, [], ap, map, subst}
use Rattle.std.proofs.lemmas.List.{take_all}
use Rattle.event_nodes.specs.declared.event_variables.ordering.Key.{Key}
use Rattle.event_nodes.proofs.event_variables.Sorting.{map_next}
use Rattle.event_nodes.proofs.event_variables.ordering.numbers_of.Goals as goal

pub loop-key-preserved : goal.loop-key-preserved
loop-key-preserved c =
    map_next (λ (k : Key). k.variable) c.args.keys.now c.loop-key.numbers.items c.push.new.self.items c.loop-key.key-index c.key-item.result c.loop-key-test.true c.loop-key.invariant
    (subst (λ (k : Key). c.push.new.self.items ≡ c.loop-key.numbers.items ++ k.variable ∷ []) c.key-item.is c.in_ok-push.ensures.items)

pub returns : goal.returns
returns c = c.loop-key.invariant ∙ ap (map (λ (k : Key). k.variable)) (take_all c.loop-key.key-index c.args.keys.now c.loop-key-test.false)
