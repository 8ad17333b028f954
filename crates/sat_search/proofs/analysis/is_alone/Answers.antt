use Rattle.std.proofs.Common.{◌-◌, sym, ◌∙◌, subst, arith}
use Rattle.proof_check.specs.Resolution.{IsLiteralOf}
use Rattle.sat_search.proofs.Uniques.{others_before, others_passed, others_more}
use Rattle.sat_search.proofs.analysis.is_alone.Goals as goal

pub places-init : goal.places-init
places-init c =
    record {
      within = omega arith;
      alone = others_before c.args.trail.now.variables c.args.trail.now.entries c.args.resolver.now c.args.last.now c.requires.range c.requires.last;
    }

pub places-preserved : goal.places-preserved
places-preserved c =
    record {
      within = omega (arith, c.places.invariant.within);
      alone = others_passed c.args.trail.now.entries c.args.resolver.now c.args.last.now.literal (c.places.place - 1) c.places.place c.entry-entry.result (omega (arith, c.places-test.true)) c.places.invariant.alone c.entry-entry.ensures.there
          (λ l h e. (subst (IsLiteralOf c.args.resolver.now c.variable.result) c.in_default.is c.literal.ensures) l h (e ∙ sym c.variable.ensures.value));
    }

pub returns-clause-alone : goal.returns-clause-alone
returns-clause-alone c = λ yes. others_more c.args.trail.now.entries c.args.resolver.now c.args.last.now.literal c.places.place c.args.decision (omega (arith, c.places-test.false)) c.places.invariant.alone
