-- One fan-in's literal more.
use Rattle.std.proofs.Common.{◌+◌, List, sym, subst, take}
use Rattle.std.specs.List.{AllZip, Contains}
use Rattle.std.proofs.lemmas.List.{take_all}
use Rattle.std.proofs.lemmas.List.Elements.{All-get_or}
use Rattle.flat_net.specs.declared.signals.Signal.{Signal}
use Rattle.aig.specs.declared.node.Lit.{Lit}
use Rattle.cbf_unfold.specs.unfold_places.Reach.{IsMet}
use Rattle.cbf_unfold.proofs.unfold_places.Zips.{zip_more_left}
use Rattle.cbf_unfold.proofs.unfold_places.literals.fanin_literals.Goals as goal

pub met-requires : goal.met-requires
met-requires c = All-get_or (λ (f : Signal). IsMet c.args.memo.now (c.args.cycle, f.0)) c.args.fanins.now c.loop-fanin.fanin-index _ c.loop-fanin-test.true c.requires

pub loop-fanin-preserved : goal.loop-fanin-preserved
loop-fanin-preserved c =
    let R : Signal → Lit → Type 0 = λ f y. Contains c.args.memo.now ((c.args.cycle, f.0), y) in
    subst (λ (l : List Lit). AllZip R (take (c.loop-fanin.fanin-index + 1) c.args.fanins.now) l) (sym c.in_ok-push.ensures.items)
    (zip_more_left R c.args.fanins.now c.loop-fanin.lits.items c.loop-fanin.fanin-index _ _ c.loop-fanin-test.true c.loop-fanin.invariant c.met.ensures)

pub returns : goal.returns
returns c =
    let R : Signal → Lit → Type 0 = λ f y. Contains c.args.memo.now ((c.args.cycle, f.0), y) in
    subst (λ (l : List Signal). AllZip R l c.loop-fanin.lits.items) (take_all c.loop-fanin.fanin-index c.args.fanins.now c.loop-fanin-test.false) c.loop-fanin.invariant
