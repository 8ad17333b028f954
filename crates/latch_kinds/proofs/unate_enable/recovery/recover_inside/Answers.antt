-- The answer by what leads back to the latch.
use Rattle.std.proofs.Common.{◌∙◌, Contains, true≢false, sym, subst}
use Rattle.flat_net.specs.declared.parts.LatchAt.{LatchAt}
use Rattle.latch_kinds.specs.unate_enable.Cones.{data_of_latch, out_of_latch}
use Rattle.latch_kinds.proofs.unate_enable.Inside.{inside_own, inside_edge}
use Rattle.latch_kinds.proofs.unate_enable.recovery.recover_inside.Goals as goal

pub returns-then-not-is_among : goal.returns-then-not-is_among
returns-then-not-is_among c =
    let n = c.args.net.now in
    record {
      recovery = λ edge.
          let own : Contains c.args.signals.now (out_of_latch c.args.net.now c.args.latch) = inside_own n (data_of_latch n c.args.latch) (out_of_latch n c.args.latch) c.args.signals.now c.requires.inside edge.1 in
          let there = subst (λ (l : LatchAt). Contains c.args.signals.now l.out.0) (sym c.latch_of-at.ensures.is) own in
          true≢false (sym (c.is_among.ensures.1 there) ∙ c.if-not-is_among.true);
      large = λ e. cc;
    }

pub is_shown-requires : goal.is_shown-requires
is_shown-requires c = record {
  latch = c.requires.latch;
  inside = c.requires.inside;
  own = subst (λ (l : LatchAt). Contains c.args.signals.now l.out.0) c.latch_of-at.ensures.is (c.is_among.ensures.0 c.if-not-is_among.false);
}

pub returns-then-shown : goal.returns-then-shown
returns-then-shown c =
    let n = c.args.net.now in
    let own = subst (λ (l : LatchAt). Contains c.args.signals.now l.out.0) c.latch_of-at.ensures.is (c.is_among.ensures.0 c.if-not-is_among.false) in
    let light = c.requires.facts.light (c.is_query_alone-skip.ensures (c.in_ok-shown.ensures.looked c.if-shown.true)) c.args.latch c.requires.latch in
    record {
      recovery = ((inside_edge n c.keeps.ensures.sound c.args.latch c.args.signals.now c.requires.inside own c.requires.latch, light), c.in_ok-shown.ensures.enabled c.if-shown.true);
      large = λ e. cc;
    }

pub recover_whole-requires : goal.recover_whole-requires
recover_whole-requires c = record { latch = c.requires.latch; conflicts = c.requires.conflicts }

pub returns : goal.returns
returns c = record { recovery = c.recover_whole.ensures.recovery; large = c.recover_whole.ensures.large }
