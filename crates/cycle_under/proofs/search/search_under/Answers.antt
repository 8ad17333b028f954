-- Cycle after cycle, up to the last.
use Rattle.std.proofs.Common.{◌≡◌, ℕ, ◌+◌, ◌*◌, ◌≤◌, map, refl, subst, arith, inl, inr, Err, Some, None}
use Rattle.circuit_theory.specs.declared.Side.{Side}
use Rattle.sec_setup.specs.ports.Pairs.{places_of}
use Rattle.assume_laws.specs.assume_shape.Shape.{assumption_of}
use Rattle.assume_queries.proofs.Mapped.{weight_light}
use Rattle.reset_form.specs.reset_asked.Numbers.{numbered}
use Rattle.reset_form.specs.declared.reset_functions.error.ResetError.{ResetError}
use Rattle.cycle_search.specs.Searches.{IsVerdictOf}
use Rattle.cycle_under.specs.Cycles.{ComparedUnder, IsFoundUnder}
use Rattle.cycle_under.proofs.Searching.{Before, before_first, before_next, searched_is}
use Rattle.cycle_under.proofs.search.search_under.Goals as goal

pub compare_cycle-requires-clause-light : goal.compare_cycle-requires-clause-light
compare_cycle-requires-clause-light c =
    let w = c.args.premise.now.weight in
    let one : w * (0 + 1) ≡ w = grind arith in
    record { light = omega (arith, weight_light c.args.premise.now.own w c.requires.premise, one); few = omega arith }

pub compare_cycle-requires-clause-before : goal.compare_cycle-requires-clause-before
compare_cycle-requires-clause-before c = c.in_ok-unfolded.ensures c.args.premise.now

pub returns-then-ends : goal.returns-then-ends
returns-then-ends c = (
  c.in_ok-bases.bases,
  c.in_ok-bases.ensures,
  λ n inputs output size function assumption.
      searched_is (assumption_of n inputs output) c.args.setup.now c.in_ok-bases.bases c.args.premise.now.weight c.args.cycles c.args.conflicts c.loop-last.last c.loop-last.found None c.searched_of.result (omega (arith, c.loop-last-test.true))
      (c.loop-last.invariant.found n inputs output size function assumption) (c.loop-last.invariant.before n inputs output size function assumption) c.searched_of.ensures.pairs c.searched_of.ensures.last
      c.searched_of.ensures.verdict (λ e shallow. absurd (shallow (c.ends.ensures.deep c.if-ends.true e))),
)

pub returns-then-is_over : goal.returns-then-is_over
returns-then-is_over c =
    let made = c.searched_of-then-is_over in (
      c.in_ok-bases.bases,
      c.in_ok-bases.ensures,
      λ n inputs output size function assumption.
          searched_is (assumption_of n inputs output) c.args.setup.now c.in_ok-bases.bases c.args.premise.now.weight c.args.cycles c.args.conflicts c.loop-last.last c.loop-last.found None made.result (omega (arith, c.loop-last-test.true))
          (c.loop-last.invariant.found n inputs output size function assumption) (c.loop-last.invariant.before n inputs output size function assumption) made.ensures.pairs made.ensures.last
          made.ensures.verdict (λ e shallow. inr (omega (arith, c.loop-last-test.true), c.is_over.ensures.over c.if-is_over.true)),
    )

pub returns-in-Err-TooLarge : goal.returns-in-Err-TooLarge
returns-in-Err-TooLarge c =
    let made = c.searched_of-in-Err-TooLarge in
    let s = c.args.setup.now in
    let large = subst (λ (e : ResetError). ComparedUnder s c.in_ok-bases.bases c.args.premise.now (c.loop-last.last + 1) c.args.conflicts (Err e)) c.in-Err-TooLarge.field-0-is c.in-Err-TooLarge.ensures.compared in (
      c.in_ok-bases.bases,
      c.in_ok-bases.ensures,
      λ n inputs output size function assumption.
          searched_is (assumption_of n inputs output) c.args.setup.now c.in_ok-bases.bases c.args.premise.now.weight c.args.cycles c.args.conflicts c.loop-last.last c.loop-last.found (Some c.in-Err-TooLarge.side) made.result (omega (arith, c.loop-last-test.true))
          (c.loop-last.invariant.found n inputs output size function assumption) (c.loop-last.invariant.before n inputs output size function assumption) made.ensures.pairs made.ensures.last
          (subst (λ (x : Side). IsVerdictOf c.args.setup.now c.loop-last.last (Some x) c.loop-last.found.verdict made.result.verdict) c.in-Err-TooLarge.side-is made.ensures.verdict) (λ e shallow. (omega (arith, c.loop-last-test.true), large)),
    )

pub loop-last-preserved : goal.loop-last-preserved
loop-last-preserved c = record {
  state = c.in-Ok.ensures.after;
  found = c.in-Ok.ensures.compared;
  before = λ n inputs output size function assumption.
      before_next (assumption_of n inputs output) c.args.setup.now c.in_ok-bases.bases c.args.conflicts c.loop-last.last c.loop-last.found (c.loop-last.invariant.found n inputs output size function assumption) (c.ends.ensures.goes_on c.if-ends.false)
      (c.loop-last.invariant.before n inputs output size function assumption);
}

pub returns : goal.returns
returns c =
    let s = c.args.setup.now in
    let b = c.in_ok-bases.bases in
    let made = c.searched_of-2 in
    let all : c.loop-last.last ≡ c.args.cycles = omega (arith, c.loop-last-test.false) in (
      b,
      c.in_ok-bases.ensures,
      λ n inputs output size function assumption.
          let u = assumption_of n inputs output in
          searched_is u s b c.args.premise.now.weight c.args.cycles c.args.conflicts c.args.cycles c.loop-last.found None made.result (omega arith)
          (subst (λ (k : ℕ). IsFoundUnder u (numbered s b) c.args.conflicts k (map places_of s.pairs) c.loop-last.found) all (c.loop-last.invariant.found n inputs output size function assumption))
          (subst (Before u s b) all (c.loop-last.invariant.before n inputs output size function assumption)) made.ensures.pairs made.ensures.last made.ensures.verdict (λ e shallow. inl refl),
    )
