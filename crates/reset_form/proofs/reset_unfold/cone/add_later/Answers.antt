-- One leaf more, where it is an input's.
use Rattle.std.proofs.Common.{ℕ, List, subst, arith}
use Rattle.std.proofs.lemmas.List.{take_all}
use Rattle.reset_form.specs.reset_unfold.Cone.{HasLater}
use Rattle.reset_form.proofs.reset_unfold.CycleLeaves.{later_none, later_skip, later_push, push_ordered}
use Rattle.reset_form.proofs.reset_unfold.cone.add_later.Goals as goal

pub loop-leaf-init : goal.loop-leaf-init
loop-leaf-init c = record { later = later_none c.args.before.now c.args.base c.args.found.now.items; ordered = c.requires.ordered }

pub loop-leaf-preserved-then-leaf-base : goal.loop-leaf-preserved-then-leaf-base
loop-leaf-preserved-then-leaf-base c = record {
  later = later_skip c.args.before.now c.args.base c.args.found.now.items c.loop-leaf.leaf-index (0, 0) c.loop-leaf-test.true c.loop-leaf.found.items (omega (arith, c.if-leaf-base.true)) c.loop-leaf.invariant.later;
  ordered = c.loop-leaf.invariant.ordered;
}

pub loop-leaf-preserved : goal.loop-leaf-preserved
loop-leaf-preserved c = record {
  later =
      later_push c.args.before.now c.args.base c.args.found.now.items c.loop-leaf.leaf-index (0, 0) c.loop-leaf-test.true c.loop-leaf.found.items _ (omega (arith, c.if-leaf-base.false)) c.in_ok-push.ensures.items
      c.loop-leaf.invariant.later;
  ordered =
      push_ordered c.args.before.now c.args.base c.args.found.now.items c.loop-leaf.leaf-index (0, 0) c.loop-leaf-test.true c.loop-leaf.found.items _ c.requires.first c.requires.before c.in_ok-push.ensures.items
      c.loop-leaf.invariant.later c.loop-leaf.invariant.ordered;
}

pub returns-clause-later : goal.returns-clause-later
returns-clause-later c =
    subst (λ (l : List (ℕ × ℕ)). HasLater l c.args.base c.args.found.now.items c.loop-leaf.found.items) (take_all c.loop-leaf.leaf-index c.args.before.now c.loop-leaf-test.false) c.loop-leaf.invariant.later
