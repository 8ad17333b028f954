-- The pair that the loop is at may have a difference.
use Rattle.std.proofs.Common.{◌∙◌, ◌<◌, ◌++◌, List, None, map, length, refl, sym, ap, slice_index_or}
use Rattle.std.proofs.lemmas.List.{take_all, append-nil}
use Rattle.flat_net.proofs.Places.{All-at}
use Rattle.cycle_sim.proofs.Lists.{item_at}
use Rattle.sec_setup.specs.declared.ports.pairs.SignalPair.{SignalPair}
use Rattle.sec_setup.specs.ports.Pairs.{places_of}
use Rattle.job_known.specs.Pairs.{difference_of, differences_in}
use Rattle.job_known.proofs.Marks.{differences_more}
use Rattle.job_known.proofs.known_pairs.put_differences.Goals as goal

pub loop-pair-init : goal.loop-pair-init
loop-pair-init c = sym (append-nil c.args.found.now)

pub known_of-a-requires : goal.known_of-a-requires
known_of-a-requires c =
    let pairs = c.args.pairs.now in
    (All-at (λ (p : SignalPair). (p.left.0 < length c.args.left.now) × (p.right.0 < length c.args.right.now)) pairs c.loop-pair.pair-index c.pair-item.result (item_at pairs pairs c.loop-pair.pair-index c.pair-item.result refl c.loop-pair-test.true c.pair-item.is) c.requires).0

pub known_of-b-requires : goal.known_of-b-requires
known_of-b-requires c =
    let pairs = c.args.pairs.now in
    (All-at (λ (p : SignalPair). (p.left.0 < length c.args.left.now) × (p.right.0 < length c.args.right.now)) pairs c.loop-pair.pair-index c.pair-item.result (item_at pairs pairs c.loop-pair.pair-index c.pair-item.result refl c.loop-pair-test.true c.pair-item.is) c.requires).1

pub loop-pair-preserved : goal.loop-pair-preserved
loop-pair-preserved c =
    let p = c.pair-item.result in
    differences_more (λ s. slice_index_or c.args.left.now s None) (λ s. slice_index_or c.args.right.now s None) c.args.cycle c.args.found.now c.loop-pair.found c.put_difference.new.found c.args.pairs.now c.loop-pair.pair-index p
    c.loop-pair.invariant c.loop-pair-test.true c.pair-item.is
    (c.in_ok-put_difference.ensures ∙ (ap (λ a. c.loop-pair.found ++ difference_of c.args.cycle p.name a c.known_of-b.result) c.known_of-a.ensures ∙ ap (λ b. c.loop-pair.found ++ difference_of c.args.cycle p.name (slice_index_or c.args.left.now p.left.0 None) b) c.known_of-b.ensures))

pub returns : goal.returns
returns c =
    c.loop-pair.invariant
    ∙ ap (λ (pairs : List SignalPair). c.args.found.now ++ differences_in c.args.cycle (λ s. slice_index_or c.args.left.now s None) (λ s. slice_index_or c.args.right.now s None) (map places_of pairs)) (take_all c.loop-pair.pair-index c.args.pairs.now c.loop-pair-test.false)
