-- One number more.
use Rattle.std.proofs.Common.{◌<◌, ◌^◌, ℕ, List, take, subst, arith}
use Rattle.std.specs.List.{All}
use Rattle.std.proofs.lemmas.List.{take_all}
use Rattle.std.proofs.lemmas.List.Elements.{All-get_or, All-more, All-weaker}
use Rattle.signal_refine.proofs.refinement.above.Goals as goal

pub loop-i-init : goal.loop-i-init
loop-i-init c = record { above = λ k d l. absurd (omega (arith, l)); least = omega arith; small = c.requires.least }

pub loop-i-preserved : goal.loop-i-preserved
loop-i-preserved c =
    let old = c.loop-i.next in
    let new = c.max-next.result in
    let is = c.max-next.ensures in
    let low = All-get_or (λ (k : ℕ). k < 2 ^ 30) c.args.numbers.now c.loop-i.i-index 0 c.loop-i-test.true c.requires.small in
    record {
      above = All-more (λ (k : ℕ). k < new) c.args.numbers.now c.loop-i.i-index 0 c.loop-i-test.true
          (All-weaker (λ (k : ℕ). k < old) (λ (k : ℕ). k < new) (λ k l. omega (arith, l, is)) (take c.loop-i.i-index c.args.numbers.now) c.loop-i.invariant.above) (omega (arith, is));
      least = omega (arith, c.loop-i.invariant.least, is);
      small = omega (arith, c.loop-i.invariant.small, is, low);
    }

pub returns-clause-above : goal.returns-clause-above
returns-clause-above c = subst (λ (l : List ℕ). All (λ i. i < c.loop-i.next) l) (take_all c.loop-i.i-index c.args.numbers.now c.loop-i-test.false) c.loop-i.invariant.above
