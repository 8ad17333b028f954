-- One pair more.
use Rattle.std.proofs.Common.{◌≡◌, ◌∙◌, ◌+◌, ◌≤◌, ℕ, List, [], ◌∷◌, ◌++◌, length, map, take, slice_get, Some, sym, ap, subst}
use Rattle.std.proofs.lemmas.List.{take_all, map-append}
use Rattle.circuit_theory.proofs.Lists.{of_at}
use Rattle.flat_net.specs.View.{circuit_of}
use Rattle.cbf_unfold.proofs.shift_variables.Assignments.{take_next}
use Rattle.cbf_unfold.proofs.shift_variables.Reading.{item_at}
use Rattle.sec_setup.specs.declared.ports.pairs.SignalPair.{SignalPair}
use Rattle.sec_setup.specs.ports.Pairs.{NamedPair, places_of}
use Rattle.reset_form.proofs.reset_functions.OwnPairs.{own_pairs, output_within}
use Rattle.job_after.specs.Last.{IsGreatestDepth}
use Rattle.job_after.proofs.Deepest.{deeper}
use Rattle.job_after.proofs.last.greatest_depth.Goals as goal

pub pair_depth-depth-requires-clause-left : goal.pair_depth-depth-requires-clause-left
pair_depth-depth-requires-clause-left c =
    let s = c.args.setup.now in
    let x : SignalPair = c.pair-item.result in
    let at : slice_get s.pairs c.loop-pair.pair-index ≡ Some x = item_at s.pairs c.as_slice-pair-items.result.now c.loop-pair.pair-index x c.as_slice-pair-items.ensures c.loop-pair-test.true c.pair-item.is in
    output_within s.left.now c.keeps.ensures.sound x.left.0 ((own_pairs s c.requires).left x (of_at s.pairs c.loop-pair.pair-index x at))

pub pair_depth-depth-requires-clause-right : goal.pair_depth-depth-requires-clause-right
pair_depth-depth-requires-clause-right c =
    let s = c.args.setup.now in
    let x : SignalPair = c.pair-item.result in
    let at : slice_get s.pairs c.loop-pair.pair-index ≡ Some x = item_at s.pairs c.as_slice-pair-items.result.now c.loop-pair.pair-index x c.as_slice-pair-items.ensures c.loop-pair-test.true c.pair-item.is in
    output_within s.right.now c.keeps-2.ensures.sound x.right.0 ((own_pairs s c.requires).right x (of_at s.pairs c.loop-pair.pair-index x at))

pub loop-pair-preserved : goal.loop-pair-preserved
loop-pair-preserved c =
    let s = c.args.setup.now in
    let i = c.loop-pair.pair-index in
    let x : SignalPair = c.pair-item.result in
    let at : slice_get s.pairs i ≡ Some x = item_at s.pairs c.as_slice-pair-items.result.now i x c.as_slice-pair-items.ensures c.loop-pair-test.true c.pair-item.is in
    let c_left = circuit_of s.left.now in
    let c_right = circuit_of s.right.now in
    let next : map places_of (take (i + 1) s.pairs) ≡ map places_of (take i s.pairs) ++ places_of x ∷ [] = ap (λ (xs : List SignalPair). map places_of xs) (take_next s.pairs i x at) ∙ map-append places_of (take i s.pairs) (x ∷ []) in
    subst (λ (ps : List (NamedPair ℕ ℕ)). IsGreatestDepth c_left c_right ps c.max-greatest.result) (sym next)
    (subst (λ (d : ℕ). IsGreatestDepth c_left c_right (map places_of (take i s.pairs) ++ places_of x ∷ []) d) (sym c.max-greatest.ensures)
    (deeper c_left c_right (map places_of (take i s.pairs)) (places_of x) c.loop-pair.greatest c.pair_depth-depth.result c.loop-pair.invariant c.pair_depth-depth.ensures))

pub returns : goal.returns
returns c =
    let s = c.args.setup.now in
    subst (λ (ps : List SignalPair). IsGreatestDepth (circuit_of s.left.now) (circuit_of s.right.now) (map places_of ps) c.loop-pair.greatest)
    (take_all c.loop-pair.pair-index s.pairs (subst (λ (ps : List SignalPair). length ps ≤ c.loop-pair.pair-index) c.as_slice-pair-items.ensures c.loop-pair-test.false)) c.loop-pair.invariant
