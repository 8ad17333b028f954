-- One number more.
use Rattle.std.proofs.Common.{◌<◌, ◌^◌, ℕ, List, take, subst, arith}
use Rattle.std.specs.List.{All}
use Rattle.std.proofs.lemmas.List.{take_all}
use Rattle.std.proofs.lemmas.List.Elements.{All-more}
use Rattle.signal_induct.proofs.induction.are_small.Goals as goal

pub loop-i-preserved : goal.loop-i-preserved
loop-i-preserved c small =
    All-more (λ (k : ℕ). k < 2 ^ 30) c.args.numbers.now c.loop-i.i-index 0 c.loop-i-test.true (c.loop-i.invariant (c.with_number-small.ensures.others small)) (c.with_number-small.ensures.own small)

pub returns : goal.returns
returns c small = subst (λ (l : List ℕ). All (λ i. i < 2 ^ 30) l) (take_all c.loop-i.i-index c.args.numbers.now c.loop-i-test.false) (c.loop-i.invariant small)
