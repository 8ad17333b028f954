-- The row that the loop is at is that of its cycle.
use Rattle.std.proofs.Common.{◌≡◌, ◌∙◌, ◌+◌, ℕ, suc, Bool, List, Option, None, Some, length, map, refl, sym, ap, subst, arith, slice_index_or}
use Rattle.std.proofs.lemmas.List.{length-map}
use Rattle.cycle_sim.proofs.Lists.{item_at}
use Rattle.sec_setup.specs.ports.Pairs.{places_of}
use Rattle.job_known.specs.Cycle.{AreWithin, PutsCycle}
use Rattle.job_known.specs.Pairs.{is_seen}
use Rattle.job_known.proofs.Cycles.{IsAt, side_first, none_shown, at_more, all_shown, cycles_few}
use Rattle.job_known.proofs.known_pairs.known_replay.Goals as goal

pub loop-t-init : goal.loop-t-init
loop-t-init c =
    let a = c.args.a.now in
    let b = c.args.b.now in
    let rows = c.args.rows.now in
    let names = c.args.names.now in
    let both = c.in_ok-both.both in
    let l = side_first a c.keeps.ensures.sound both.left.columns.items rows names both.left refl c.in_ok-both.ensures.left in
    let r = side_first b c.keeps-2.ensures.sound both.right.columns.items rows names both.right refl c.in_ok-both.ensures.right in
    record { left_side = l; right_side = r; shown = none_shown l.ran.run r.ran.run c.args.pairs.now c.in_ok-found.found c.in_ok-found.ensures.differences c.in_ok-found.ensures.seen c.in_ok-found.ensures.cycles }

pub step-requires-clause-left : goal.step-requires-clause-left
step-requires-clause-left c = c.loop-t.invariant.left_side.sized

pub step-requires-clause-right : goal.step-requires-clause-right
step-requires-clause-right c = c.loop-t.invariant.right_side.sized

pub overflow_cast-t : goal.overflow_cast-t
overflow_cast-t c = omega (arith, c.loop-t-test.true, c.requires.few)

pub put_cycle-requires-clause-within : goal.put_cycle-requires-clause-within
put_cycle-requires-clause-within c =
    let pairs = c.args.pairs.now in
    let left = c.step.new.self.left.values.items in
    let right = c.step.new.self.right.values.items in
    subst (λ (xs : List (Option Bool)). AreWithin (length xs) (length c.deref-in-loop-t.result.now) pairs) (sym c.deref.ensures.value)
    (subst (λ (ys : List (Option Bool)). AreWithin (length left) (length ys) pairs) (sym c.deref-in-loop-t.ensures.value)
    (subst (λ (m : ℕ). AreWithin m (length right) pairs) (sym c.step.ensures.left.sized.values)
    (subst (λ (k : ℕ). AreWithin (length c.args.a.now.drivers) k pairs) (sym c.step.ensures.right.sized.values) c.requires.within)))

pub put_cycle-requires-clause-size : goal.put_cycle-requires-clause-size
put_cycle-requires-clause-size c =
    let at = c.loop-t.invariant in
    ap length at.shown.seen ∙ (length-map (map places_of c.args.pairs.now) (is_seen at.left_side.ran.run at.right_side.ran.run c.loop-t.t) ∙ length-map c.args.pairs.now places_of)

pub put_cycle-requires-clause-room : goal.put_cycle-requires-clause-room
put_cycle-requires-clause-room c =
    let at = c.loop-t.invariant in
    let few = cycles_few at.left_side.ran.run at.right_side.ran.run (map places_of c.args.pairs.now) c.loop-t.t in
    omega (arith, at.shown.cycles, few, c.loop-t-test.true, c.requires.few)

pub loop-t-preserved : goal.loop-t-preserved
loop-t-preserved c =
    let a = c.args.a.now in
    let b = c.args.b.now in
    let rows = c.args.rows.now in
    let t = c.loop-t.t in
    let first = c.in_ok-both.both in
    subst (λ (k : ℕ). IsAt a b first.left.columns.items first.right.columns.items rows c.args.pairs.now k c.step.new.self.left c.step.new.self.right c.put_cycle.new.found) (let e : suc t ≡ t + 1 = omega arith in e)
    (at_more a b c.keeps.ensures.sound c.keeps-2.ensures.sound first.left.columns.items first.right.columns.items rows c.args.pairs.now t c.as_slice.result.now c.loop-t.both.left c.loop-t.both.right c.step.new.self.left c.step.new.self.right c.loop-t.found
    c.put_cycle.new.found (item_at rows rows t c.index-rows-t.result refl c.loop-t-test.true c.index-rows-t.is ∙ ap Some (sym c.as_slice.ensures)) c.loop-t.invariant c.step.ensures.left c.step.ensures.right
    (subst (λ (xs : List (Option Bool)). PutsCycle t (λ s. slice_index_or xs s None) (λ s. slice_index_or c.step.new.self.right.values.items s None) (map places_of c.args.pairs.now) c.loop-t.found c.put_cycle.new.found) c.deref.ensures.value
    (subst (λ (ys : List (Option Bool)). PutsCycle t (λ s. slice_index_or c.deref.result.now s None) (λ s. slice_index_or ys s None) (map places_of c.args.pairs.now) c.loop-t.found c.put_cycle.new.found) c.deref-in-loop-t.ensures.value
    c.in_ok-put_cycle.ensures)))

pub returns : goal.returns
returns c =
    let a = c.args.a.now in
    let b = c.args.b.now in
    let rows = c.args.rows.now in
    let first = c.in_ok-both.both in
    let all : c.loop-t.t ≡ length rows = omega (arith, c.loop-t-test.false, c.loop-t.auto.t-end) in
    all_shown a b c.keeps.ensures.sound c.keeps-2.ensures.sound first.left.columns.items first.right.columns.items rows c.args.pairs.now c.args.names.now c.loop-t.both.left c.loop-t.both.right c.loop-t.found
    c.in_ok-both.ensures.left.columns c.in_ok-both.ensures.right.columns
    (subst (λ (k : ℕ). IsAt a b first.left.columns.items first.right.columns.items rows c.args.pairs.now k c.loop-t.both.left c.loop-t.both.right c.loop-t.found) all c.loop-t.invariant)
