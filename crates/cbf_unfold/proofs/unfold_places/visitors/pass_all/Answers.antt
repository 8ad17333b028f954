-- One place more has passed its bits on.
use Rattle.std.proofs.Common.{◌≡◌, ◌∙◌, ◌+◌, ◌-◌, ◌<◌, ℕ, length, sym, subst, arith}
use Rattle.std.specs.List.{All}
use Rattle.flat_net.specs.View.{circuit_of}
use Rattle.flat_net.proofs.Nets.{some_at}
use Rattle.cbf_unfold.specs.unfold_places.Visitors.{ArePassed}
use Rattle.cbf_unfold.proofs.unfold_places.Passing.{marked_on, passed_on, passed_none, links_within}
use Rattle.cbf_unfold.proofs.unfold_places.visitors.pass_all.Goals as goal

pub loop-at-init : goal.loop-at-init
loop-at-init c = record {
  within = omega (arith, c.len-at.ensures);
  marked = c.requires.marked;
  passed = passed_none (circuit_of c.args.net.now) c.args.memo.now c.args.words.now c.len-at.result (omega (arith, c.len-at.ensures));
}

pub pass_on-requires-clause-at : goal.pass_on-requires-clause-at
pass_on-requires-clause-at c = omega (arith, c.loop-at.invariant.within, c.loop-at.invariant.marked.size, c.loop-at-test.true)

pub pass_on-requires-clause-size : goal.pass_on-requires-clause-size
pass_on-requires-clause-size c = c.loop-at.invariant.marked.size ∙ sym c.requires.links.size

pub pass_on-requires-clause-within : goal.pass_on-requires-clause-within
pass_on-requires-clause-within c = λ numbers at.
    let d = some_at c.args.memo.now (c.loop-at.at - 1) (let k : c.loop-at.at - 1 < length c.args.memo.now = omega (arith, c.loop-at.invariant.within, c.loop-at-test.true) in k) in
    subst (λ (m : ℕ). All (λ n. n < m) numbers) (sym c.loop-at.invariant.marked.size) (links_within (circuit_of c.args.net.now) c.args.memo.now c.args.links.now c.requires.links (c.loop-at.at - 1) d.0 d.1 numbers at)

pub loop-at-preserved : goal.loop-at-preserved
loop-at-preserved c =
    let inside : c.loop-at.at - 1 < length c.args.memo.now = omega (arith, c.loop-at.invariant.within, c.loop-at-test.true) in
    let d = some_at c.args.memo.now (c.loop-at.at - 1) inside in
    let l = some_at c.args.links.now (c.loop-at.at - 1) (let k : c.loop-at.at - 1 < length c.args.links.now = omega (arith, inside, c.requires.links.size) in k) in
    let gives = c.pass_on.ensures l.0 l.1 in
    let reads = c.requires.links.reads (c.loop-at.at - 1) d.0 l.0 d.1 l.1 in
    let up : c.loop-at.at ≡ c.loop-at.at - 1 + 1 = omega (arith, c.loop-at-test.true) in
    record {
      within = omega (arith, c.loop-at.invariant.within);
      marked = marked_on (circuit_of c.args.net.now) c.args.last c.args.signals.now c.args.memo.now (length c.args.signals.now) (c.loop-at.at - 1) d.0 l.0 c.loop-at.words c.pass_on.new.words d.1 reads gives c.loop-at.invariant.marked;
      passed = passed_on (circuit_of c.args.net.now) c.args.last c.args.signals.now c.args.memo.now (length c.args.signals.now) (c.loop-at.at - 1) d.0 l.0 c.loop-at.words c.pass_on.new.words d.1 reads gives c.requires.planned c.keeps.ensures
          (subst (λ (n : ℕ). ArePassed (circuit_of c.args.net.now) c.args.memo.now n c.loop-at.words) up c.loop-at.invariant.passed);
    }

pub returns-clause-passed : goal.returns-clause-passed
returns-clause-passed c =
    subst (λ (n : ℕ). ArePassed (circuit_of c.args.net.now) c.args.memo.now n c.loop-at.words) (let e : c.loop-at.at ≡ 0 = omega (arith, c.loop-at-test.false) in e) c.loop-at.invariant.passed
