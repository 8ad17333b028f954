-- The exposed names are few, and they are those of the table.
use Rattle.std.proofs.Common.{◌∙◌, ℕ, List, length, map, filter, ap, subst, arith}
use Rattle.std.proofs.lemmas.List.{length-map}
use Rattle.flat_net.specs.Cut.{exposed_names, latch_at, stays, AreMoved}
use Rattle.flat_net.proofs.CutNets.{few_cut}
use Rattle.flat_net.proofs.net.Net.latches_after.Goals as goal

pub drivers_after-requires : goal.drivers_after-requires
drivers_after-requires c =
    let n = c.args.self.now in
    let few = few_cut n c.keeps.ensures.sound c.args.exposed.now c.requires.within c.requires.distinct in
    let len = ap length c.in_ok-names.ensures ∙ length-map c.args.exposed.now (λ j. (latch_at n j).name) in
    omega (arith, few, len, c.keeps.ensures.sound.few)

pub returns-clause-latches : goal.returns-clause-latches
returns-clause-latches c = c.in_ok-latches.ensures ∙ ap (λ names. filter (stays names) c.args.self.now.latches) c.in_ok-names.ensures

pub returns-clause-drivers : goal.returns-clause-drivers
returns-clause-drivers c =
    let P : List (List ℕ) → Type 0 = λ names. AreMoved c.args.self.now names c.in_ok-drivers.drivers.items in
    subst P c.in_ok-names.ensures c.in_ok-drivers.ensures
