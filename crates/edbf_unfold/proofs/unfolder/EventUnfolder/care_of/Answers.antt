-- The enable of each place in its turn, and then the and of all of them.
use Rattle.std.proofs.Common.{◌+◌, ◌*◌, ◌<◌, ◌≤◌, ℕ, List, length, get_or, ap, sym, subst, arith}
use Rattle.std.specs.List.{All}
use Rattle.std.proofs.lemmas.List.{take_all}
use Rattle.std.proofs.lemmas.Option.{slice_get_within, slice_get-get_or}
use Rattle.std.proofs.lemmas.Result.{IfOk-weaker}
use Rattle.edbf_unfold.specs.declared.event_literals.event_walk.frames.Ways.{Ways}
use Rattle.edbf_unfold.specs.Care.{IsAndOfThese, IsCareOf}
use Rattle.edbf_unfold.specs.event_literals.Known.{IsMet}
use Rattle.edbf_unfold.specs.event_literals.event_walk.Ready.{IsReadyBy}
use Rattle.edbf_unfold.proofs.Caring.{enables_none, enables_next, enables_within, has_few, care_made}
use Rattle.edbf_unfold.proofs.event_literals.Going.{are_known_later, grown_trans, grown_within}
use Rattle.edbf_unfold.proofs.event_literals.Lits.{grown_none}
use Rattle.edbf_unfold.proofs.unfolder.EventUnfolder.care_of.Goals as goal

pub loop-number-init : goal.loop-number-init
loop-number-init c = record {
  grown = grown_none c.args.events.now 0;
  known = c.requires.known;
  enables = enables_none c.args.self.now.circuit c.args.events.now c.args.self.now.frames c.new-enables.result.items c.new-enables.ensures.items;
  few = omega (arith, ap length c.new-enables.ensures.items);
}

pub put_enable-requires-clause-ready : goal.put_enable-requires-clause-ready
put_enable-requires-clause-ready c =
    let d : Ways = record { onward = 0; high = 0 } in
    let g : Ways = get_or c.args.ways.now c.loop-number.number d in
    subst (λ (cs : List (ℕ × ℕ)). IsReadyBy c.args.self.now.circuit c.args.self.now.frames cs (IsMet c.args.self.now.memo) (record { rank = 0; signal = c.pair-place.result.1; frame = c.pair-place.result.0; onward = g.onward; high = g.high })) (sym c.loop-number.invariant.grown.children)
    (c.requires.met.ready c.loop-number.number c.pair-place.result g c.pair-place.ensures
    (slice_get-get_or c.args.ways.now c.loop-number.number d (let k = slice_get_within c.args.table.now c.loop-number.number c.pair-place.result c.pair-place.ensures in omega (arith, k, c.requires.met.each))))

pub put_enable-requires-clause-room : goal.put_enable-requires-clause-room
put_enable-requires-clause-room c = omega (arith, c.requires.room, c.loop-number.invariant.grown.nodes, c.loop-number-test.true, c.len-number-end.ensures)

pub loop-number-preserved : goal.loop-number-preserved
loop-number-preserved c = record {
  grown = grown_trans c.args.events.now c.loop-number.events c.put_enable.new.events c.loop-number.number 1 (c.loop-number.number + 1) c.loop-number.invariant.grown c.put_enable.ensures.grown (omega arith);
  known = are_known_later c.args.self.now.circuit c.loop-number.events c.put_enable.new.events c.args.self.now.frames c.args.self.now.memo c.keeps-in-loop-number.ensures.events c.put_enable.ensures.grown.grows c.loop-number.invariant.known;
  enables = enables_next c.args.self.now.circuit c.loop-number.events c.put_enable.new.events c.keeps-in-loop-number.ensures.events c.put_enable.ensures.grown.grows c.put_enable.ensures.grown.children c.args.self.now.frames c.args.table.now c.loop-number.number c.loop-number.enables.items c.put_enable.new.enables.items
      c.pair-place.result c.pair-place.ensures c.loop-number.invariant.enables c.in_ok-put_enable.ensures.here;
  few = let more = has_few c.args.self.now.circuit c.put_enable.new.events c.args.self.now.frames c.loop-number.enables.items c.put_enable.new.enables.items c.pair-place.result c.in_ok-put_enable.ensures.here in omega (arith, more, c.loop-number.invariant.few);
}

pub returns-in_err-put_enable-clause-grown : goal.returns-in_err-put_enable-clause-grown
returns-in_err-put_enable-clause-grown c =
    grown_trans c.args.events.now c.loop-number.events c.put_enable.new.events c.loop-number.number 1 (2 * length c.args.table.now) c.loop-number.invariant.grown c.put_enable.ensures.grown (omega (arith, c.loop-number-test.true, c.len-number-end.ensures))

pub returns-in_err-sort-clause-grown : goal.returns-in_err-sort-clause-grown
returns-in_err-sort-clause-grown c =
    grown_within c.args.events.now c.loop-number.events c.loop-number.number (2 * length c.args.table.now) c.loop-number.invariant.grown (omega (arith, c.loop-number.invariant.few))

pub and_all-requires-clause-within : goal.and_all-requires-clause-within
and_all-requires-clause-within c =
    subst (All (λ y. y < 2 * length c.loop-number.events.graph)) (sym c.as_slice.ensures.value)
    (enables_within c.args.self.now.circuit c.loop-number.events c.args.self.now.frames _ c.loop-number.enables.items c.sort.new.self.items c.loop-number.invariant.enables c.sort.ensures.permutation)

pub returns-clause-here : goal.returns-clause-here
returns-clause-here c =
    let u = c.args.self.now in
    let whole : length c.args.table.now ≤ c.loop-number.number = omega (arith, c.loop-number-test.false, c.len-number-end.ensures) in
    IfOk-weaker c.and_all.result _ _ (λ x all. subst (λ (ps : List (ℕ × ℕ)). IsCareOf u.circuit c.and_all.new.events u.frames ps x.0) (take_all c.loop-number.number c.args.table.now whole)
    (care_made u.circuit c.loop-number.events c.and_all.new.events c.keeps-2.ensures.events c.and_all.ensures.grown.grows c.and_all.ensures.grown.children u.frames _ c.loop-number.enables.items c.sort.new.self.items x.0 c.loop-number.invariant.enables
    c.sort.ensures.permutation (subst (λ (ls : List ℕ). IsAndOfThese c.and_all.new.events.graph ls x.0) c.as_slice.ensures.value all))) c.and_all.ensures.here
