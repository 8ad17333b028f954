use Rattle.std.proofs.Common.{ℕ, ◌+◌, Option, None, slice_set, refl, sym, subst, arith}
use Rattle.std.proofs.lemmas.Option.{slice_get-get_or}
use Rattle.cycle_sim.specs.pair_runs.Showing.{PutsSome}
use Rattle.cycle_sim.proofs.Lists.{item_at}
use Rattle.cycle_sim.proofs.pair_runs.Puts.{puts_none, puts_more}
use Rattle.cycle_sim.proofs.pair_runs.shown.put_shown.Goals as goal

pub loop-j-init : goal.loop-j-init
loop-j-init c = puts_none c.args.left.now c.args.right.now c.args.pairs.now c.args.cycle c.args.found.now c.args.firsts.now

pub loop-j-preserved : goal.loop-j-preserved
loop-j-preserved c =
    let pairs = c.args.pairs.now in
    let j = c.loop-j.j in
    let noted = c.loop-j.firsts in
    let at = item_at pairs pairs j c.index-pairs-j.result refl c.loop-j-test.true c.index-pairs-j.is in
    subst (λ (f : Option ℕ). PutsSome c.args.left.now c.args.right.now pairs c.args.cycle (j + 1) c.args.found.now c.put_pair.new.found c.args.firsts.now (slice_set noted j f)) (sym c.first_with.ensures)
    (puts_more c.args.left.now c.args.right.now pairs c.args.cycle j c.args.found.now c.loop-j.found c.put_pair.new.found c.args.firsts.now noted _ c.index-pairs-j.result c.read_pair-shown.result at
    (slice_get-get_or noted j None (omega (arith, c.loop-j-test.true, c.loop-j.auto.firsts, c.requires.firsts))) c.loop-j.invariant c.read_pair-shown.ensures c.in_ok-put_pair.ensures)
