-- The cone, its weight, and the answer.
use Rattle.std.proofs.Common.{◌∙◌, ◌≤◌, ◌<◌, ◌⊎◌, inl, inr, ℕ, Contains, true≢false, sym, subst, arith}
use Rattle.std.specs.List.{sum_by}
use Rattle.flat_net.specs.declared.parts.LatchAt.{LatchAt}
use Rattle.flat_net.specs.Weights.{weight_at}
use Rattle.latch_kinds.proofs.unate_enable.Cones.{cone_weight, cone_over, own_reached}
use Rattle.latch_kinds.proofs.unate_enable.Unate.{recovery_from}
use Rattle.latch_kinds.proofs.unate_enable.recovery.recover_over.Goals as goal

pub are_light-requires : goal.are_light-requires
are_light-requires c = c.requires.reached.within

pub returns-then-not-are_light : goal.returns-then-not-are_light
returns-then-not-are_light c =
    let n = c.args.net.now in
    let own = subst (λ (l : LatchAt). Contains c.args.signals.now l.out.0) c.latch_of-at.ensures.is (c.is_among.ensures.0 c.if-not-is_among.false) in
    record {
      recovery = tt;
      large = λ e. (
        own_reached n c.keeps.ensures.sound c.args.latch c.args.signals.now c.requires.reached own c.requires.latch,
        cone_over n c.keeps.ensures.sound c.args.latch c.args.signals.now c.requires.reached 2000000
            (above (sum_by (weight_at c.args.net.now) c.args.signals.now) (λ few. true≢false (sym (c.are_light.ensures.1 few) ∙ c.if-not-are_light.true))),
      );
    }
  where
    above : (w : ℕ) → (w ≤ 2000000 → ⊥) → 2000000 < w
    above w no_more = by (order w)
      where
        order : (w : ℕ) → (w ≤ 2000000) ⊎ (2000000 < w)
        order w = grind arith

        by : (w ≤ 2000000) ⊎ (2000000 < w) → 2000000 < w
        by (inl few) = absurd (no_more few)
        by (inr more) = more

pub ask-requires : goal.ask-requires
ask-requires c = record {
  latch = c.requires.latch;
  conflicts = c.requires.conflicts;
  reached = c.requires.reached;
  own = subst (λ (l : LatchAt). Contains c.args.signals.now l.out.0) c.latch_of-at.ensures.is (c.is_among.ensures.0 c.if-not-is_among.false);
  light = c.are_light.ensures.0 c.if-not-are_light.false;
}

pub returns : goal.returns
returns c =
    let n = c.args.net.now in
    let own = subst (λ (l : LatchAt). Contains c.args.signals.now l.out.0) c.latch_of-at.ensures.is (c.is_among.ensures.0 c.if-not-is_among.false) in
    record {
      recovery = recovery_from n c.args.latch c.args.conflicts c.in_ok-recovery.recovery (
        own_reached n c.keeps.ensures.sound c.args.latch c.args.signals.now c.requires.reached own c.requires.latch,
        record { weight = sum_by (weight_at c.args.net.now) c.args.signals.now; weight_is = cone_weight n c.keeps.ensures.sound c.args.latch c.args.signals.now c.requires.reached; within = c.are_light.ensures.0 c.if-not-are_light.false },
      )
          c.in_ok-recovery.ensures;
      large = λ e. cc;
    }
