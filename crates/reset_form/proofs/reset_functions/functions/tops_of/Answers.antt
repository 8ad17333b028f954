-- One pair more.
use Rattle.std.proofs.Common.{◌≡◌, ◌≤◌, List, length, slice_get, Some, subst}
use Rattle.std.proofs.lemmas.List.{take_all}
use Rattle.circuit_theory.proofs.Lists.{of_at}
use Rattle.sec_setup.specs.declared.ports.pairs.SignalPair.{SignalPair}
use Rattle.cbf_unfold.proofs.shift_variables.Reading.{item_at}
use Rattle.reset_form.specs.reset_functions.Pairs.{AreTops}
use Rattle.reset_form.proofs.reset_functions.OwnPairs.{own_pairs, output_within}
use Rattle.reset_form.proofs.reset_functions.Growing.{tops_next}
use Rattle.reset_form.proofs.reset_functions.functions.tops_of.Goals as goal

pub pair_depth-depth-requires-clause-left : goal.pair_depth-depth-requires-clause-left
pair_depth-depth-requires-clause-left c =
    let s = c.args.setup.now in
    let x : SignalPair = c.pair-item.result in
    let at : slice_get s.pairs c.loop-pair.pair-index ≡ Some x = item_at s.pairs c.as_slice-pair-items.result.now c.loop-pair.pair-index x c.as_slice-pair-items.ensures c.loop-pair-test.true c.pair-item.is in
    output_within s.left.now c.keeps.ensures.sound x.left.0 ((own_pairs s c.requires).left x (of_at s.pairs c.loop-pair.pair-index x at))

pub pair_depth-depth-requires-clause-right : goal.pair_depth-depth-requires-clause-right
pair_depth-depth-requires-clause-right c =
    let s = c.args.setup.now in
    let x : SignalPair = c.pair-item.result in
    let at : slice_get s.pairs c.loop-pair.pair-index ≡ Some x = item_at s.pairs c.as_slice-pair-items.result.now c.loop-pair.pair-index x c.as_slice-pair-items.ensures c.loop-pair-test.true c.pair-item.is in
    output_within s.right.now c.keeps-2.ensures.sound x.right.0 ((own_pairs s c.requires).right x (of_at s.pairs c.loop-pair.pair-index x at))

pub loop-pair-preserved : goal.loop-pair-preserved
loop-pair-preserved c =
    let s = c.args.setup.now in
    let i = c.loop-pair.pair-index in
    let x : SignalPair = c.pair-item.result in
    let at : slice_get s.pairs i ≡ Some x = item_at s.pairs c.as_slice-pair-items.result.now i x c.as_slice-pair-items.ensures c.loop-pair-test.true c.pair-item.is in
    record {
      left = tops_next s (λ (y : SignalPair). y.left.0) s.pairs i x c.pair_depth-depth.result c.loop-pair.tops.left.items _ at c.pair_depth-depth.ensures c.in_ok-push.ensures.items c.loop-pair.invariant.left;
      right = tops_next s (λ (y : SignalPair). y.right.0) s.pairs i x c.pair_depth-depth.result c.loop-pair.tops.right.items _ at c.pair_depth-depth.ensures c.in_ok-push-2.ensures.items c.loop-pair.invariant.right;
    }

pub returns : goal.returns
returns c =
    let s = c.args.setup.now in
    subst (λ (ps : List SignalPair). AreTops s ps c.loop-pair.tops) (take_all c.loop-pair.pair-index s.pairs (subst (λ (ps : List SignalPair). length ps ≤ c.loop-pair.pair-index) c.as_slice-pair-items.ensures c.loop-pair-test.false)) c.loop-pair.invariant
