-- One place more of the search, and its two ends.
use Rattle.std.proofs.Common.{◌≡◌, ◌∙◌, ◌-◌, ◌<◌, ℕ, length, get_or, slice_get, Some, sym, ap, arith, true≢false}
use Rattle.std.proofs.lemmas.Option.{slice_get-get_or, same_Some}
use Rattle.base_tables.proofs.unique_table.Searches.{passed-none, passed-more, passed-free, passed-all}
use Rattle.base_tables.proofs.unique_table.search.number_of.Goals as goal

pub loop-step-init : goal.loop-step-init
loop-step-init g c = passed-none (g.K.Key.place_at c.args.key) c.args.keys.now c.args.slots.now c.args.key

pub overflow_cast-step : goal.overflow_cast-step
overflow_cast-step g c = omega (arith, c.loop-step-test.true, c.min-step-end.ensures, c.ranges.tries.fits)

pub place_in-requires : goal.place_in-requires
place_in-requires g c = omega (arith, c.loop-step-test.true, c.min-step-end.ensures)

pub bounds-slots-place_in : goal.bounds-slots-place_in
bounds-slots-place_in g c = c.place_in.ensures.within

pub overflow_cast-slot : goal.overflow_cast-slot
overflow_cast-slot g c = omega (arith, c.type_inv.slots c.place_in.result)

pub overflow_sub-slot : goal.overflow_sub-slot
overflow_sub-slot g c = omega (arith, c.if-slot-eq0.false)

pub offset_bounds-keys-slot : goal.offset_bounds-keys-slot
offset_bounds-keys-slot g c = omega (arith, c.requires.within c.place_in.result 0 c.place_in.ensures.within)

pub bounds-keys-slot : goal.bounds-keys-slot
bounds-keys-slot g c = omega (arith, c.requires.within c.place_in.result 0 c.place_in.ensures.within, c.if-slot-eq0.false)

pub overflow_sub-result : goal.overflow_sub-result
overflow_sub-result g c = omega (arith, c.if-slot-eq0.false)

pub returns-then-is-clause-here : goal.returns-then-is-clause-here
returns-then-is-clause-here g c =
    let small : get_or c.args.slots.now c.place_in.result 0 - 1 < length c.args.keys.now = omega (arith, c.requires.within c.place_in.result 0 c.place_in.ensures.within, c.if-slot-eq0.false) in
    slice_get-get_or c.args.keys.now (get_or c.args.slots.now c.place_in.result 0 - 1) c.index-keys-slot.result small ∙ ap Some (sym c.index-keys-slot.is ∙ c.is.ensures.0 c.if-is.true)

pub loop-step-smaller : goal.loop-step-smaller
loop-step-smaller g c = omega (arith, c.loop-step-test.true)

pub loop-step-preserved : goal.loop-step-preserved
loop-step-preserved g c =
    let slots = c.args.slots.now in
    let slot = get_or c.args.slots.now c.place_in.result 0 in
    let small : get_or c.args.slots.now c.place_in.result 0 - 1 < length c.args.keys.now = omega (arith, c.requires.within c.place_in.result 0 c.place_in.ensures.within, c.if-slot-eq0.false) in
    let there : slice_get c.args.keys.now (get_or c.args.slots.now c.place_in.result 0 - 1) ≡ Some c.index-keys-slot.result =
    slice_get-get_or c.args.keys.now (get_or c.args.slots.now c.place_in.result 0 - 1) c.index-keys-slot.result small ∙ ap Some (sym c.index-keys-slot.is) in
    passed-more (g.K.Key.place_at c.args.key) c.args.keys.now slots c.args.key c.index-keys-slot.result c.loop-step.step slot c.loop-step.invariant (ap (λ (p : ℕ). get_or c.args.slots.now p 0) (sym c.place_in.ensures.is))
    c.if-slot-eq0.false there (λ e. true≢false (sym (c.is.ensures.1 (same_Some c.index-keys-slot.result c.args.key e)) ∙ c.if-is.false))

pub returns-then-slot-eq0-clause-absent : goal.returns-then-slot-eq0-clause-absent
returns-then-slot-eq0-clause-absent g c =
    passed-free g.K.Key.place_at c.args.tries c.args.keys.now c.args.slots.now c.requires c.args.key c.loop-step.step c.loop-step.invariant (ap (λ (p : ℕ). get_or c.args.slots.now p 0) (sym c.place_in.ensures.is) ∙ c.if-slot-eq0.true)

pub returns-clause-absent : goal.returns-clause-absent
returns-clause-absent g c =
    passed-all g.K.Key.place_at c.args.tries c.args.keys.now c.args.slots.now c.requires c.args.key c.loop-step.step c.loop-step.invariant (omega (arith, c.loop-step-test.false, c.min-step-end.ensures))
