use Rattle.std.proofs.Common.{◌≡◌, ◌∙◌, ◌+◌, ◌<◌, ℕ, List, length, slice_get, Some, sym, ap, subst, arith}
use Rattle.std.proofs.lemmas.Option.{same_Some, slice_get_within}
use Rattle.base_tables.specs.Table.{is_among}
use Rattle.flat_net.specs.Makes.{MakerView, with_latch}
use Rattle.flat_net.specs.View.{NetView}
use Rattle.net_names.specs.Fronts.{front}
use Rattle.net_names.proofs.Copies.{drivers_taken, fresh, latch_step, latch_seen}
use Rattle.net_names.proofs.copying.add_latches.Goals as goal

pub name-requires : goal.name-requires
name-requires c =
    let n = c.args.original.now in
    let seen = latch_seen n.latches _ c.loop-latch.latch-index c.latch-item.result c.latches-latch-items.ensures c.loop-latch-test.true c.latch-item.is in
    let own = (c.keeps.ensures.sound.latches c.loop-latch.latch-index seen.latch seen.at).owner in
    let low = slice_get_within n.drivers seen.latch.out.0 _ own in
    let out = seen.out in
    omega (arith, low, ap (λ s. s.0) out)

pub latch-requires-clause-room : goal.latch-requires-clause-room
latch-requires-clause-room c =
    let n = c.args.original.now in
    let j = c.loop-latch.latch-index in
    let seen = latch_seen n.latches _ j c.latch-item.result c.latches-latch-items.ensures c.loop-latch-test.true c.latch-item.is in
    let within = slice_get_within n.latches j seen.latch seen.at in
    let low : length n.inputs + j < length n.drivers = omega (arith, within, c.keeps.ensures.laid.whole) in
    let long = ap (λ (m : NetView). length m.drivers) c.loop-latch.invariant.made ∙ drivers_taken n c.keeps.ensures.sound (length n.inputs + j) low in
    omega (arith, low, long, c.keeps.ensures.sound.few)

pub latch-requires-clause-new : goal.latch-requires-clause-new
latch-requires-clause-new c =
    let n = c.args.original.now in
    let j = c.loop-latch.latch-index in
    let seen = latch_seen n.latches _ j c.latch-item.result c.latches-latch-items.ensures c.loop-latch-test.true c.latch-item.is in
    let place = ap (λ s. s.0) (sym seen.out) ∙ c.keeps.ensures.laid.latches j seen.latch seen.at in
    let named = subst (λ (k : ℕ). slice_get n.names k ≡ Some c.name.result.now) place c.name.ensures in
    ap (λ (m : NetView). is_among m.names c.name.result.now) c.loop-latch.invariant.made ∙ fresh n c.keeps.ensures.sound (length n.inputs + j) c.name.result.now named

pub loop-latch-preserved : goal.loop-latch-preserved
loop-latch-preserved c =
    let n = c.args.original.now in
    let j = c.loop-latch.latch-index in
    let s = length n.inputs + j in
    let seen = latch_seen n.latches _ j c.latch-item.result c.latches-latch-items.ensures c.loop-latch-test.true c.latch-item.is in
    let within = slice_get_within n.latches j seen.latch seen.at in
    let laid = c.keeps.ensures.laid.latches j seen.latch seen.at in
    let place = ap (λ x. x.0) (sym seen.out) ∙ laid in
    let here = subst (λ (k : ℕ). slice_get n.names k ≡ Some c.name.result.now) place c.name.ensures in
    let there = subst (λ (k : ℕ). slice_get n.names k ≡ Some seen.latch.name) laid (c.keeps.ensures.sound.latches j seen.latch seen.at).named in
    let name : c.name.result.now ≡ seen.latch.name = same_Some _ _ (sym here ∙ there) in
    let next : s + 1 ≡ length n.inputs + (j + 1) = omega arith in
    record {
      made = ap (λ (m : MakerView). m.net) c.in_ok-latch.ensures.ok ∙ ap (λ (m : NetView). with_latch m c.name.result.now c.latch-item.result.init) c.loop-latch.invariant.made
          ∙ ap (λ (w : List ℕ). with_latch (front n (length n.inputs) j 0 s) w c.latch-item.result.init) name
          ∙ ap (λ i. with_latch (front n (length n.inputs) j 0 s) seen.latch.name i) seen.init
          ∙ latch_step n c.keeps.ensures.sound (length n.inputs) j s seen.latch seen.at laid
          ∙ ap (λ (k : ℕ). front n (length n.inputs) (j + 1) 0 k) next;
      few = omega (arith, within);
    }
