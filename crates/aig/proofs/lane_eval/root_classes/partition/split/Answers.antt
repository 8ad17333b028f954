use Rattle.std.proofs.Common.{◌≡◌, ℕ, ◌<◌, length, get_or, nat_eq, subst, arith}
use Rattle.std.proofs.lemmas.Option.{slice_get-get_or}
use Rattle.indexmap.specs.IndexMap.{get}
use Rattle.aig.specs.lane_eval.root_classes.Splits.{IsSplit}
use Rattle.aig.proofs.lane_eval.root_classes.Classes.{split-step, split-done}
use Rattle.aig.proofs.lane_eval.root_classes.partition.split.Goals as goal

pub loop-i-preserved : goal.loop-i-preserved
loop-i-preserved c =
    split-step c.args.firsts.now c.args.bits.now (get nat_eq c.loop-i.heads) (get nat_eq c.head_of.new.heads) c.key_of.result c.loop-i.i c.in_ok-first.first c.loop-i.new.items c.push.new.self.items
    c.key_of.ensures c.loop-i.invariant c.in_ok-first.ensures c.in_ok-push.ensures.items

pub returns : goal.returns
returns c =
    let done : c.loop-i.i ≡ length c.args.firsts.now = omega arith in
    subst (λ (n : ℕ). IsSplit c.args.firsts.now c.args.bits.now n c.loop-i.new.items) done
    (split-done c.args.firsts.now c.args.bits.now (get nat_eq c.loop-i.heads) c.loop-i.i c.loop-i.new.items c.loop-i.invariant)

pub key_of-requires : goal.key_of-requires
key_of-requires c =
    let first = get_or c.args.firsts.now c.loop-i.i 0 in
    let within : first < length c.args.bits.now = c.requires.within c.loop-i.i first (slice_get-get_or c.args.firsts.now c.loop-i.i 0 c.loop-i-test.true) in
    omega (arith, within, c.requires.each)
