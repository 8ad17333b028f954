use Rattle.lrat_core.specs.lrat_text.Spellings.{hint_of}
use Rattle.lrat_core.proofs.Loops.{map_more, map_whole}
use Rattle.lrat_core.proofs.lrat_text.addition.put_hints.Goals as goal

pub loop-number-preserved : goal.loop-number-preserved
loop-number-preserved c = map_more hint_of c.args.hints.now.items c.loop-number.hints.items c.push.new.self.items c.args.numbers.now c.loop-number.number-index _ c.hint_of.result c.loop-number.invariant c.in_ok-push.ensures.items c.hint_of.ensures c.loop-number-test.true

pub returns : goal.returns
returns c = map_whole hint_of c.args.hints.now.items c.loop-number.hints.items c.args.numbers.now c.loop-number.number-index c.loop-number.invariant c.loop-number-test.false
