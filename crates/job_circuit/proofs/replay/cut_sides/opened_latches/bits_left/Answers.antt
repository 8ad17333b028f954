use Rattle.std.proofs.Common.{◌≡◌, List, false, ℕ, length, get_or, slice_get, Some, sym, ap, subst, arith}
use Rattle.std.specs.List.{Contains}
use Rattle.std.proofs.lemmas.Option.{slice_get-get_or, slice_get_within}
use Rattle.circuit_theory.proofs.Lists.{Contains-map, of_at}
use Rattle.flat_net.specs.declared.parts.LatchAt.{LatchAt}
use Rattle.cycle_sim.proofs.Lists.{item_at}
use Rattle.sec_setup.specs.ports.name_tables.Names.{latch_names}
use Rattle.job_circuit.proofs.replay.cut_sides.Opened.{no_latch_absent, latch_named_at, has_bit, bit_more}
use Rattle.job_circuit.proofs.replay.cut_sides.opened_latches.bits_left.Goals as goal

pub unreachable-requires : goal.unreachable-requires
unreachable-requires c =
    let n = c.args.net.now in
    let m = c.args.cut.now in
    let at = item_at m.latches _ c.loop-latch.latch-index c.latch-item.result c.latches-latch-items.ensures c.loop-latch-test.true c.latch-item.is in
    let stands = Contains-map (λ (l : LatchAt). l.name) n.latches c.latch-item.result (c.requires.left c.latch-item.result (of_at m.latches c.loop-latch.latch-index c.latch-item.result at)) in
    no_latch_absent n c.as_slice.result.now (subst (λ (name : List ℕ). Contains (latch_names n) name) (sym c.as_slice.ensures) stands) c.in_default.ensures.absent

pub loop-latch-preserved : goal.loop-latch-preserved
loop-latch-preserved c =
    let n = c.args.net.now in
    let m = c.args.cut.now in
    let i = c.loop-latch.latch-index in
    let l = c.latch-item.result in
    let j = c.in-Some.position in
    let enabled = c.as_slice-enabled.result.now in
    let at = item_at m.latches _ i l c.latches-latch-items.ensures c.loop-latch-test.true c.latch-item.is in
    let stands : Contains n.latches l = c.requires.left l (of_at m.latches i l at) in
    let bit = get_or enabled j false in
    let same : enabled ≡ c.args.enabled.now = c.as_slice-enabled.ensures in
    let there : slice_get enabled j ≡ Some bit = slice_get-get_or enabled j false (let k = latch_named_at n j c.as_slice.result.now c.in-Some.ensures.here in let w = slice_get_within n.latches j k.0 k.1 in let e = c.requires.each in let f = ap length same in omega (arith, w, e, f)) in
    bit_more n enabled m i c.loop-latch.bits c.push.new.self l bit at (has_bit n c.keeps.ensures.sound enabled l j c.as_slice.result.now bit stands c.as_slice.ensures c.in-Some.ensures.here there) c.loop-latch.invariant c.in_ok-push.ensures.ok
