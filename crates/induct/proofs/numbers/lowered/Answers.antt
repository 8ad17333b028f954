-- One number more.
use Rattle.std.proofs.Common.{◌+◌, ℕ, get_or, subst, sym, arith}
use Rattle.std.proofs.lemmas.Option.{slice_get-get_or}
use Rattle.induct.proofs.Lowering.{AreLoweredTo, lowered_more, lowered_all}
use Rattle.induct.proofs.numbers.lowered.Goals as goal

pub loop-k-preserved : goal.loop-k-preserved
loop-k-preserved c =
    let n : ℕ = get_or c.args.numbers.now c.loop-k.k 0 in
    let here = slice_get-get_or c.args.numbers.now c.loop-k.k 0 c.loop-k-test.true in
    subst (AreLoweredTo c.args.bound c.args.from c.args.numbers.now (c.loop-k.k + 1)) (sym c.in_ok-push.ensures.ok)
    (lowered_more c.args.bound c.args.from c.args.numbers.now c.loop-k.k c.loop-k.made c.loop-k.invariant n c.lowered_one.result here c.lowered_one.ensures.low c.lowered_one.ensures.high)

pub returns : goal.returns
returns c = lowered_all c.args.bound c.args.from c.args.numbers.now c.loop-k.k c.loop-k.made (omega (arith, c.loop-k-test.false, c.loop-k.auto.k-end)) c.loop-k.invariant
