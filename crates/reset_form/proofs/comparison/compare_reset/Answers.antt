-- A refusal is that of the unfolding.
use Rattle.std.proofs.Common.{◌≡◌, ℕ, Err, sym, subst, rules}
use Rattle.reset_form.specs.declared.reset_functions.error.ResetError.{ResetError}
use Rattle.reset_form.specs.declared.reset_functions.error.ResetError.TheVariants as refused
use Rattle.circuit_theory.specs.declared.Side.TheVariants.{A, B}
use Rattle.sec_setup.specs.declared.setup.Setup.{Setup}
use Rattle.reset_form.specs.declared.reset_functions.bases.Bases.{Bases}
use Rattle.reset_form.specs.Formed.{Formed}
use Rattle.reset_form.specs.reset_functions.Pairs.{Unfolds}
use Rattle.reset_form.proofs.comparison.compare_reset.Goals as goal

refusal_formed : (s : Setup) (b : Bases) (conflicts : ℕ) (e : ResetError) → Unfolds s b (Err e) → Formed s conflicts (Err e)
refusal_formed s b conflicts (refused.TooLarge A) h = h
refusal_formed s b conflicts (refused.TooLarge B) h = h
refusal_formed s b conflicts refused.NoMemory h = tt

pub returns-in_err-functions : goal.returns-in_err-functions
returns-in_err-functions c =
    let s = c.args.setup.now in
    let same : c.from_residual-in_err-functions.result ≡ Err c.in_err-functions.field-0.0 = search rules in
    subst (Formed s c.args.conflicts) (sym same) (refusal_formed s c.in_ok-bases.bases c.args.conflicts c.in_err-functions.field-0.0 c.in_err-functions.ensures.unfolds)

pub returns : goal.returns
returns c = record {
  left_light = c.in_ok-functions.ensures.unfolds.0;
  right_light = c.in_ok-functions.ensures.unfolds.1;
  bases = c.in_ok-bases.bases;
  are_bases = c.in_ok-bases.ensures;
  fits = c.in_ok-findings.ensures;
}
