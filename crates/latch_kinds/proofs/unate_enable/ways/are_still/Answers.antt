-- One fan-in more stays.
use Rattle.std.proofs.Common.{◌≡◌, ◌∙◌, List, nat_eq, sym, subst}
use Rattle.std.specs.List.{All}
use Rattle.std.proofs.lemmas.List.{take_all}
use Rattle.std.proofs.lemmas.List.Elements.{All-more}
use Rattle.indexmap.specs.IndexMap.{get}
use Rattle.flat_net.specs.declared.signals.Signal.{Signal}
use Rattle.latch_kinds.specs.unate_enable.Raises.{still, way_in}
use Rattle.latch_kinds.proofs.unate_enable.ways.are_still.Goals as goal

pub loop-fanin-preserved : goal.loop-fanin-preserved
loop-fanin-preserved c =
    All-more (λ (f : Signal). way_in (get nat_eq c.args.ways.now) f.0 ≡ still) c.args.fanins.now c.loop-fanin.fanin-index (record { 0 = 0 }) c.loop-fanin-test.true c.loop-fanin.invariant
    (sym c.way_at.ensures ∙ c.is_still.ensures c.if-not-is_still.false)

pub returns : goal.returns
returns c = λ e. subst (λ (l : List Signal). All (λ (f : Signal). way_in (get nat_eq c.args.ways.now) f.0 ≡ still) l) (take_all c.loop-fanin.fanin-index c.args.fanins.now c.loop-fanin-test.false) c.loop-fanin.invariant
