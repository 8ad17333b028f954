use Rattle.std.proofs.Common.{◌≡◌, List, Some, slice_get, subst, arith, ◌∙◌, inl, inr}
use Rattle.std.proofs.lemmas.Option.{slice_get_within}
use Rattle.flat_net.proofs.circuit_theory.Lists.{at_of}
use Rattle.flat_net.specs.declared.signals.Signal.{Signal}
use Rattle.signal_graph.proofs.inner_cone.latch_cone.Walks.{others_more, nothing_at}
use Rattle.signal_graph.proofs.inner_cone.latch_cone.walk.others_among.Goals.{then-is_other+in_ok-push, else-is_other}
use Rattle.signal_graph.proofs.inner_cone.latch_cone.walk.others_among.Goals as goal

pub loop-at-init : goal.loop-at-init
loop-at-init c = record { each = λ k r h. absurd (nothing_at k r (subst (λ (z : List Signal). slice_get z k ≡ Some r) c.new-others.ensures h)); all = λ i s l h o. absurd (omega (arith, l)) }

pub loop-at-preserved : goal.loop-at-preserved
loop-at-preserved c = others_more c.args.net.now c.args.own.0 c.args.seen.now c.loop-at.at c.key-signal.result c.loop-at.others c.if-is_other.others c.loop-at.invariant c.key-signal.ensures
    (elim c.if-is_other.branch [ then-is_other+in_ok-push w ↦ inl (w.others-is ∙ w.in_ok-push.ensures.ok, c.is_other.ensures.yes w.if-is_other.true) | else-is_other w ↦ inr (w.others-is, c.is_other.ensures.no w.if-is_other.false) ])

pub returns-clause-all : goal.returns-clause-all
returns-clause-all c = λ s h o.
    let at = at_of c.args.seen.now s h in
    let l = slice_get_within c.args.seen.now at.0 s at.1 in
    c.loop-at.invariant.all at.0 s (omega (arith, l, c.loop-at-test.false, c.len-at-end.ensures)) at.1 o
