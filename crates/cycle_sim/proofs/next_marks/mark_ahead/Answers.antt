-- The latch that the loop is at has its mark of the next cycle.
use Rattle.std.proofs.Common.{◌+◌, ◌∙◌, arith}
use Rattle.std.proofs.lemmas.Option.{slice_get_within}
use Rattle.cycle_sim.proofs.Marks.{ahead_more}
use Rattle.cycle_sim.proofs.next_marks.mark_ahead.Goals as goal

pub overflow_cast-j : goal.overflow_cast-j
overflow_cast-j c = let s = c.keeps.ensures.sound in omega (arith, c.loop-j-test.true, c.loop-j.auto.latches, c.requires.latches, s.few_latches, s.few)

pub loop-j-preserved : goal.loop-j-preserved
loop-j-preserved c = record {
  tried = c.next_mark.ensures.same ∙ c.loop-j.invariant.tried;
  ahead = λ run t meets have marks.
      ahead_more c.args.net.now c.args.enabled.now run (t + 1) c.loop-j.latches c.loop-j.j c.next_mark.result (omega (arith, c.loop-j-test.true, c.loop-j.auto.latches))
      (λ l at. c.next_mark.ensures.mark run t l at meets have marks) (c.loop-j.invariant.ahead run t meets have marks);
}

pub returns-clause-ahead : goal.returns-clause-ahead
returns-clause-ahead c = λ run t meets have marks j l at.
    c.loop-j.invariant.ahead run t meets have marks j l (let w = slice_get_within c.args.net.now.latches j l at in omega (arith, w, c.loop-j-test.false, c.requires.latches)) at
