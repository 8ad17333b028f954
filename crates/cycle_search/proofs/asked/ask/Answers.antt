-- One pair more.
use Rattle.std.proofs.Common.{◌≡◌, ◌∙◌, ◌<◌, List, [], length, slice_get, Some, refl, sym, ap, subst, arith}
use Rattle.std.proofs.lemmas.List.{take_all}
use Rattle.std.proofs.lemmas.Option.{slice_get_within}
use Rattle.flat_net.proofs.Places.{All-at}
use Rattle.cbf_unfold.specs.declared.unfold_places.signal_function.Unfolded.{Unfolded}
use Rattle.cbf_unfold.specs.shift_variables.cycle_variables.Cycles.{AreInCycles}
use Rattle.cbf_unfold.proofs.shift_variables.Reading.{item_at}
use Rattle.obligations.specs.declared.obligation.Obligation.{Obligation}
use Rattle.sec_setup.specs.declared.ports.pairs.SignalPair.{SignalPair}
use Rattle.cycle_search.specs.Asked.{AskedIn, AreAskedIn}
use Rattle.cycle_search.proofs.Asking.{asked_more}
use Rattle.cycle_search.proofs.asked.ask.Goals as goal

pub loop-i-init : goal.loop-i-init
loop-i-init c = record {
  each = ap length c.new-asked.ensures.items;
  are = λ j x l r o hx hl hr ho. absurd (let k = slice_get_within [] j o (ap (λ (os : List Obligation). slice_get os j) (sym c.new-asked.ensures.items) ∙ ho) in omega (arith, k));
}

pub obligation_of-requires-clause-left : goal.obligation_of-requires-clause-left
obligation_of-requires-clause-left c =
    let xs = c.args.left.now in
    let l : Unfolded = c.index-left-i.result in
    let inside : c.loop-i.i < length xs = omega (arith, c.loop-i-test.true, c.requires.left_each) in
    All-at (λ (u : Unfolded). AreInCycles c.args.functions.now.places u.vars) xs c.loop-i.i l (item_at xs xs c.loop-i.i l refl inside c.index-left-i.is) c.requires.left

pub obligation_of-requires-clause-right : goal.obligation_of-requires-clause-right
obligation_of-requires-clause-right c =
    let xs = c.args.right.now in
    let r : Unfolded = c.index-right-i.result in
    let inside : c.loop-i.i < length xs = omega (arith, c.loop-i-test.true, c.requires.right_each) in
    All-at (λ (u : Unfolded). AreInCycles c.args.functions.now.places u.vars) xs c.loop-i.i r (item_at xs xs c.loop-i.i r refl inside c.index-right-i.is) c.requires.right

pub loop-i-preserved : goal.loop-i-preserved
loop-i-preserved c =
    let pairs = c.args.pairs.now in
    let left = c.args.left.now in
    let right = c.args.right.now in
    let x : SignalPair = c.index-pairs-i.result in
    let l : Unfolded = c.index-left-i.result in
    let r : Unfolded = c.index-right-i.result in
    let at : slice_get pairs c.loop-i.i ≡ Some x = item_at pairs pairs c.loop-i.i x refl c.loop-i-test.true c.index-pairs-i.is in
    let left_at : slice_get left c.loop-i.i ≡ Some l = item_at left left c.loop-i.i l refl (omega (arith, c.loop-i-test.true, c.requires.left_each)) c.index-left-i.is in
    let right_at : slice_get right c.loop-i.i ≡ Some r = item_at right right c.loop-i.i r refl (omega (arith, c.loop-i-test.true, c.requires.right_each)) c.index-right-i.is in
    asked_more (AskedIn c.args.functions.now.aig c.args.functions.now.places c.args.cycle) pairs left right c.loop-i.i x l r at left_at right_at c.loop-i.asked.items c.push.new.self.items c.in_ok-obligation.obligation c.in_ok-push.ensures.items c.loop-i.invariant c.in_ok-obligation.ensures

pub returns : goal.returns
returns c =
    subst (λ (ps : List SignalPair). AreAskedIn c.args.functions.now.aig c.args.functions.now.places c.args.cycle ps c.args.left.now c.args.right.now c.loop-i.asked.items) (take_all c.loop-i.i c.args.pairs.now (omega (arith, c.loop-i-test.false))) c.loop-i.invariant
