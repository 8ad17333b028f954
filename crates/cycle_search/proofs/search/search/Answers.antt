-- Cycle after cycle, up to the last.
use Rattle.std.proofs.Common.{◌≡◌, ℕ, ◌+◌, map, refl, subst, arith, Err, Some, None}
use Rattle.circuit_theory.specs.declared.Side.{Side}
use Rattle.sec_setup.specs.ports.Pairs.{places_of}
use Rattle.reset_form.specs.reset_asked.Numbers.{numbered}
use Rattle.reset_form.specs.declared.reset_functions.error.ResetError.{ResetError}
use Rattle.cycle_search.specs.Cycles.{Compared, IsFoundIn}
use Rattle.cycle_search.specs.Searches.{IsVerdictOf}
use Rattle.cycle_search.proofs.Searching.{Before, before_next, searched_is}
use Rattle.cycle_search.proofs.search.search.Goals as goal

pub returns-then-ends : goal.returns-then-ends
returns-then-ends c = (
  c.in_ok-bases.bases,
  c.in_ok-bases.ensures,
  searched_is c.args.setup.now c.in_ok-bases.bases c.args.cycles c.args.conflicts c.loop-last.last c.loop-last.found None c.searched_of.result (omega (arith, c.loop-last-test.true)) c.loop-last.invariant.found c.loop-last.invariant.before c.searched_of.ensures.pairs c.searched_of.ensures.last
      c.searched_of.ensures.verdict (λ e shallow. absurd (shallow (c.ends.ensures.deep c.if-ends.true e))),
)

pub returns-in-Err-TooLarge : goal.returns-in-Err-TooLarge
returns-in-Err-TooLarge c =
    let made = c.searched_of-in-Err-TooLarge in
    let s = c.args.setup.now in
    let large = subst (λ (e : ResetError). Compared s c.in_ok-bases.bases (c.loop-last.last + 1) c.args.conflicts (Err e)) c.in-Err-TooLarge.field-0-is c.in-Err-TooLarge.ensures.compared in (
      c.in_ok-bases.bases,
      c.in_ok-bases.ensures,
      searched_is c.args.setup.now c.in_ok-bases.bases c.args.cycles c.args.conflicts c.loop-last.last c.loop-last.found (Some c.in-Err-TooLarge.side) made.result (omega (arith, c.loop-last-test.true)) c.loop-last.invariant.found c.loop-last.invariant.before made.ensures.pairs made.ensures.last
          (subst (λ (x : Side). IsVerdictOf c.args.setup.now c.loop-last.last (Some x) c.loop-last.found.verdict made.result.verdict) c.in-Err-TooLarge.side-is made.ensures.verdict) (λ e shallow. (omega (arith, c.loop-last-test.true), large)),
    )

pub loop-last-preserved : goal.loop-last-preserved
loop-last-preserved c = record {
  state = c.in-Ok.ensures.after;
  found = c.in-Ok.ensures.compared;
  before = before_next c.args.setup.now c.in_ok-bases.bases c.args.conflicts c.loop-last.last c.loop-last.found c.loop-last.invariant.found (c.ends.ensures.goes_on c.if-ends.false) c.loop-last.invariant.before;
}

pub returns : goal.returns
returns c =
    let s = c.args.setup.now in
    let b = c.in_ok-bases.bases in
    let all : c.loop-last.last ≡ c.args.cycles = omega (arith, c.loop-last-test.false) in (
      b,
      c.in_ok-bases.ensures,
      searched_is s b c.args.cycles c.args.conflicts c.args.cycles c.loop-last.found None c.searched_of-2.result (omega arith) (subst (λ (k : ℕ). IsFoundIn (numbered s b) c.args.conflicts k (map places_of s.pairs) c.loop-last.found) all c.loop-last.invariant.found)
          (subst (Before s b) all c.loop-last.invariant.before) c.searched_of-2.ensures.pairs c.searched_of-2.ensures.last c.searched_of-2.ensures.verdict (λ e shallow. refl),
    )
