-- The first latch of each class is asked about, by what tells it from `always`.
use Rattle.std.proofs.Common.{◌+◌, Bool, arith, subst}
use Rattle.event_form.specs.event_agreement.pair_events.View.{side_of_both}
use Rattle.event_settles.specs.Idle.{LatchIs, signal_of}
use Rattle.event_settles.proofs.LoadCares.{few_classes, first_within, is_idle, may_load, may_next}
use Rattle.event_settles.proofs.idle.first_idle.Goals as goal

pub is_idle-requires-clause-latch : goal.is_idle-requires-clause-latch
is_idle-requires-clause-latch c = first_within c.args.events.now (c.loop-class.class + 1) c.apart_at.result.now c.apart_at.ensures

pub named_idle-requires : goal.named_idle-requires
named_idle-requires c = record { latch = first_within c.args.events.now (c.loop-class.class + 1) c.apart_at.result.now c.apart_at.ensures }

pub returns-then-branch : goal.returns-then-branch
returns-then-branch c =
    let e = c.args.events.now in
    let x = c.apart_at.result.now in
    is_idle e c.args.conflicts (c.loop-class.class + 1) x c.apart_at.ensures (omega arith) c.in_ok-latch.latch c.in_ok-latch.ensures
    (subst (λ (b : Bool). LatchIs (side_of_both e) c.args.conflicts (signal_of e x.high) b) c.if-branch.true c.in_ok-is_idle.ensures)

pub loop-class-preserved : goal.loop-class-preserved
loop-class-preserved c =
    let e = c.args.events.now in
    let x = c.apart_at.result.now in
    may_next e c.args.conflicts c.loop-class.class c.loop-class.invariant
    (may_load e c.args.conflicts (c.loop-class.class + 1) x c.apart_at.ensures
    (subst (λ (b : Bool). LatchIs (side_of_both e) c.args.conflicts (signal_of e x.high) b) c.if-branch.false c.in_ok-is_idle.ensures))

pub returns : goal.returns
returns c classes class above low =
    c.loop-class.invariant class above (let few = few_classes c.args.events.now c.keeps.ensures.events classes in omega (arith, low, few, c.loop-class-test.false, c.classes-class-end.ensures))
