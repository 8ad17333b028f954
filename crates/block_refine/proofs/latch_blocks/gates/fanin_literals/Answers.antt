-- One fan-in more.
use Rattle.std.proofs.Common.{◌∙◌, ◌++◌, List, [], ◌∷◌, map, take, get_or, sym, ap}
use Rattle.std.proofs.lemmas.List.{map-append, take_more, take_all}
use Rattle.flat_net.specs.declared.signals.Signal.{Signal}
use Rattle.aig.specs.declared.node.Lit.{Lit}
use Rattle.block_refine.specs.latch_blocks.Signals.{lit_at}
use Rattle.block_refine.proofs.latch_blocks.gates.fanin_literals.Goals as goal

pub loop-fanin-preserved : goal.loop-fanin-preserved
loop-fanin-preserved c =
    let none : Signal = record { 0 = 0 } in
    let fanin = get_or c.args.fanins.now c.loop-fanin.fanin-index none in
    let front = take c.loop-fanin.fanin-index c.args.fanins.now in
    c.in_ok-push.ensures.items
    ∙ (ap (λ (ls : List Lit). ls ++ lit_at c.args.lits.now fanin.0 ∷ []) c.loop-fanin.invariant
    ∙ (sym (map-append (λ (f : Signal). lit_at c.args.lits.now f.0) front (fanin ∷ [])) ∙ ap (map (λ (f : Signal). lit_at c.args.lits.now f.0)) (sym (take_more c.args.fanins.now c.loop-fanin.fanin-index none c.loop-fanin-test.true))))

pub returns : goal.returns
returns c = c.loop-fanin.invariant ∙ ap (map (λ (f : Signal). lit_at c.args.lits.now f.0)) (take_all c.loop-fanin.fanin-index c.args.fanins.now c.loop-fanin-test.false)
