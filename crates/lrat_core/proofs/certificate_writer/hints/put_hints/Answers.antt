use Rattle.std.proofs.Common.{◌++◌, ◌-◌, List, length, get_or, refl, ◌∙◌, ap, arith}
use Rattle.std.proofs.lemmas.List.{get_or_default}
use Rattle.proof_check.specs.declared.derivation.Step.{Step}
use Rattle.lrat_core.specs.certificate_writer.Hinting.{all_known, falsified_by, hints_text}
use Rattle.lrat_core.proofs.certificate_writer.Hinted.{all_left, stops, goes_on, ends}
use Rattle.lrat_core.proofs.certificate_writer.hints.put_hints.Goals as goal

pub loop-left-init : goal.loop-left-init
loop-left-init c =
    let same = ap (λ (s : List Step). length s) c.as_slice-steps.ensures in
    (omega (arith, same), refl, c.requires.consistent, ap (λ es. c.args.text.now.items ++ hints_text (falsified_by c.args.trail.now.entries) es) (all_left (all_known c.args.known.now) c.args.chain.now _ same))

pub returns-clause-text : goal.returns-clause-text
returns-clause-text c =
    ends (all_known c.args.known.now) c.args.chain.now c.loop-left.left c.loop-left.text.items _ (falsified_by c.loop-left.trail.entries) c.in_ok-put_hint.field-0 c.put_hint-2.new.text.items (falsified_by c.put_hint-2.new.trail.entries)
    (omega (arith, c.loop-left-test.false)) c.loop-left.invariant.3 c.in_ok-put_hint.ensures.hinted

pub returns-then-not-goes_on-clause-text : goal.returns-then-not-goes_on-clause-text
returns-then-not-goes_on-clause-text c =
    let left = c.loop-left.left - 1 in
    let d : Step = record { pivot = 0; clause = 0 } in
    let s = get_or c.as_slice-steps.result.now left d in
    stops (all_known c.args.known.now) c.args.chain.now c.loop-left.left left s c.loop-left.text.items _ (falsified_by c.loop-left.trail.entries) c.in_ok-goes_on.goes_on c.put_hint.new.text.items (falsified_by c.put_hint.new.trail.entries)
    (omega (arith, c.loop-left-test.true)) c.loop-left.invariant.0 (ap (λ (xs : List Step). get_or xs left d) c.as_slice-steps.ensures ∙ get_or_default c.args.chain.now.steps left d s (omega (arith, c.loop-left-test.true, c.loop-left.invariant.0))) c.loop-left.invariant.3 c.in_ok-goes_on.ensures.hinted c.if-not-goes_on.true

pub loop-left-preserved : goal.loop-left-preserved
loop-left-preserved c =
    let left = c.loop-left.left - 1 in
    let d : Step = record { pivot = 0; clause = 0 } in
    let s = get_or c.as_slice-steps.result.now left d in
    let w =
    goes_on (all_known c.args.known.now) c.args.chain.now c.loop-left.left left s c.loop-left.text.items _ (falsified_by c.loop-left.trail.entries) c.in_ok-goes_on.goes_on c.put_hint.new.text.items (falsified_by c.put_hint.new.trail.entries)
    (omega (arith, c.loop-left-test.true)) c.loop-left.invariant.0 (ap (λ (xs : List Step). get_or xs left d) c.as_slice-steps.ensures ∙ get_or_default c.args.chain.now.steps left d s (omega (arith, c.loop-left-test.true, c.loop-left.invariant.0))) c.loop-left.invariant.3 c.in_ok-goes_on.ensures.hinted c.if-not-goes_on.false in
    (omega (arith, c.loop-left.invariant.0), c.put_hint.ensures.variables ∙ c.loop-left.invariant.1, w.0, w.1)
