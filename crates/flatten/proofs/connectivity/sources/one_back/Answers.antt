use Rattle.std.proofs.Common.{◌≡◌, ◌∙◌, ◌∷◌, [], ℕ, Option, length, sym, ap, subst, arith}
use Rattle.std.specs.Prelude.{unwrap_or}
use Rattle.std.proofs.lemmas.List.{length-append}
use Rattle.flatten.specs.connectivity.Steps.{back}
use Rattle.flatten.proofs.connectivity.StepTables.{AreBack, back_push, one_back_all}
use Rattle.flatten.proofs.connectivity.sources.one_back.Goals as goal
use Rattle.flatten.proofs.connectivity.sources.one_back.Goals.{in-Some, in-None}

pub returns : goal.returns
returns c =
    let len : length c.loop-signal.at.items ≡ length c.args.froms.now = omega (arith, c.loop-signal.invariant.len, c.loop-signal-test.false, c.loop-signal.auto.signal-end) in
    one_back_all c.args.froms.now c.loop-signal.at.items len c.requires.within c.loop-signal.invariant.back

pub loop-signal-preserved : goal.loop-signal-preserved
loop-signal-preserved c =
    let froms = c.args.froms.now in
    let at = c.loop-signal.at.items in
    let n = c.loop-signal.signal in
    let pushed = c.in_ok-push.ensures.items in
    let is : back froms n ≡ c.match-from.push =
    elim c.match-from.branch [
      | in-Some w ↦ ap (λ (o : Option ℕ). unwrap_or o n) w.in-Some.is ∙ sym w.push-is
      | in-None w ↦ ap (λ (o : Option ℕ). unwrap_or o n) w.in-None.is ∙ sym w.push-is
    ] in
    record {
      len = omega (arith, ap length pushed, length-append at (c.match-from.push ∷ []), c.loop-signal.invariant.len);
      back = subst (AreBack froms) (sym pushed) (back_push froms at n c.match-from.push (sym c.loop-signal.invariant.len) is c.loop-signal.invariant.back);
    }
