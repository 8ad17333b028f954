-- Up to here the variables are those of the shift.
use Rattle.std.proofs.Common.{◌≡◌, ◌∙◌, length, slice_get, Some, sym, subst, arith, inl, inr}
use Rattle.std.proofs.lemmas.Option.{slice_get_within}
use Rattle.cbf_unfold.proofs.shift_variables.Reading.{shift_at, below_or_here}
use Rattle.cbf_unfold.proofs.shift_variables.rows.end_of_shift.Goals as goal

pub loop-k-preserved : goal.loop-k-preserved
loop-k-preserved c = λ j v from below at.
    elim (below_or_here j c.loop-k.k below) [
      | inl h ↦ c.loop-k.invariant j v from h at
      | inr e ↦ shift_at c.args.places.now c.args.vars.now c.loop-k.k v c.pair-own.result (subst (λ i. slice_get c.args.vars.now i ≡ Some v) e at) c.pair-own.ensures ∙ c.if-own-shift.false
    ]

pub returns-then-own-shift : goal.returns-then-own-shift
returns-then-own-shift c = record {
  behind = c.loop-k.auto.k;
  within = omega (arith, c.loop-k-test.true);
  same = c.loop-k.invariant;
  next = λ v at e. c.if-own-shift.true (sym (shift_at c.args.places.now c.args.vars.now c.loop-k.k v c.pair-own.result at c.pair-own.ensures) ∙ e);
}

pub returns : goal.returns
returns c = record {
  behind = c.requires.from;
  within = omega arith;
  same = λ j v from below at. c.loop-k.invariant j v from (omega (arith, below, c.loop-k-test.false)) at;
  next = λ v at e. let h = slice_get_within c.args.vars.now (length c.args.vars.now) v at in omega (arith, h);
}
