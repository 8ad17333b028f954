-- One signal more.
use Rattle.std.proofs.Common.{◌≡◌, ◌∙◌, ◌+◌, ℕ, [], ◌∷◌, length, sym, ap, subst}
use Rattle.std.proofs.Math.ListN.{length-append}
use Rattle.signal_refine.specs.Told.{IsTold, AreTold}
use Rattle.signal_refine.proofs.Telling.{told_more}
use Rattle.signal_refine.proofs.told.told_anchors.Goals as goal

pub loop-place-preserved : goal.loop-place-preserved
loop-place-preserved c =
    let old = c.loop-place.told.items in
    let items = c.in_ok-push.ensures.items in
    record {
      each = ap length items ∙ (length-append old (c.told_anchor.result ∷ []) ∙ ap (λ n. n + 1) c.loop-place.invariant.each);
      told = subst (AreTold c.args.lits.now c.args.nodes.now) (sym items)
          (told_more c.args.lits.now c.args.nodes.now old c.told_anchor.result c.loop-place.invariant.told (subst (λ (p : ℕ). IsTold c.args.lits.now c.args.nodes.now p c.told_anchor.result) (sym c.loop-place.invariant.each) c.told_anchor.ensures));
    }
