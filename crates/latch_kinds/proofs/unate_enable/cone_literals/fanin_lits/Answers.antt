-- One fan-in's literal more.
use Rattle.std.proofs.Common.{◌≡◌, ◌+◌, List, Some, nat_eq, sym, subst, take}
use Rattle.std.specs.List.{AllZip}
use Rattle.std.proofs.lemmas.List.{take_all}
use Rattle.std.proofs.lemmas.List.Elements.{All-get_or}
use Rattle.indexmap.specs.IndexMap.{get}
use Rattle.flat_net.specs.declared.signals.Signal.{Signal}
use Rattle.aig.specs.declared.node.Lit.{Lit}
use Rattle.latch_kinds.specs.unate_enable.Building.{IsKnown}
use Rattle.latch_kinds.proofs.unate_enable.Literals.{zip_more_left}
use Rattle.latch_kinds.proofs.unate_enable.cone_literals.fanin_lits.Goals as goal

pub lit_of-requires : goal.lit_of-requires
lit_of-requires c = All-get_or (λ (f : Signal). IsKnown (get nat_eq c.args.known.now) f.0) c.args.fanins.now c.loop-fanin.fanin-index _ c.loop-fanin-test.true c.requires

pub loop-fanin-preserved : goal.loop-fanin-preserved
loop-fanin-preserved c =
    let R : Signal → Lit → Type 0 = λ f y. get nat_eq c.args.known.now f.0 ≡ Some y in
    subst (λ (l : List Lit). AllZip R (take (c.loop-fanin.fanin-index + 1) c.args.fanins.now) l) (sym c.in_ok-push.ensures.items)
    (zip_more_left R c.args.fanins.now c.loop-fanin.lits.items c.loop-fanin.fanin-index _ _ c.loop-fanin-test.true c.loop-fanin.invariant c.lit_of.ensures)

pub returns : goal.returns
returns c =
    let R : Signal → Lit → Type 0 = λ f y. get nat_eq c.args.known.now f.0 ≡ Some y in
    subst (λ (l : List Signal). AllZip R l c.loop-fanin.lits.items) (take_all c.loop-fanin.fanin-index c.args.fanins.now c.loop-fanin-test.false) c.loop-fanin.invariant
