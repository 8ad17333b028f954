-- One signal more goes its way.
use Rattle.std.proofs.Common.{◌≡◌, ◌∙◌, ◌<◌, ℕ, length, get_or, nat_eq, refl, sym, subst, arith}
use Rattle.std.proofs.lemmas.List.Elements.{All-get_or, Contains-get_or}
use Rattle.std.proofs.lemmas.Option.{slice_get-get_or, slice_get_within}
use Rattle.indexmap.specs.IndexMap.{get}
use Rattle.circuit_theory.proofs.Lists.{at_of}
use Rattle.latch_kinds.specs.declared.unate_enable.ways.Way.{Way}
use Rattle.latch_kinds.specs.unate_enable.Raises.{MayGo, way_in}
use Rattle.latch_kinds.proofs.unate_enable.Raised.{own_stays, goes_more}
use Rattle.latch_kinds.proofs.unate_enable.ways.put_ways.Goals as goal

pub loop-s-init : goal.loop-s-init
loop-s-init c = record { own = λ u source. refl; go = λ u low high source raise closed first k s below. absurd (omega arith) }

pub put_way-requires : goal.put_way-requires
put_way-requires c = All-get_or (λ s. s < length c.args.net.now.drivers) c.args.signals.now c.loop-s.s-index _ c.loop-s-test.true c.requires.within

pub loop-s-preserved : goal.loop-s-preserved
loop-s-preserved c =
    let n = c.args.net.now in
    let s = get_or c.args.signals.now c.loop-s.s-index 0 in
    let puts = c.in_ok-put_way.ensures in
    record {
      own = λ u source. own_stays n c.keeps.ensures.sound s (way_in (get nat_eq c.loop-s.ways)) (way_in (get nat_eq c.put_way.new.ways)) puts u source ∙ c.loop-s.invariant.own u source;
      go = λ u low high source raise closed first k q below at.
          goes_more n c.keeps.ensures.sound c.args.signals.now c.requires.increasing c.loop-s.s-index s (slice_get-get_or c.args.signals.now c.loop-s.s-index 0 c.loop-s-test.true)
          (Contains-get_or c.args.signals.now c.loop-s.s-index 0 c.loop-s-test.true) (All-get_or (λ s. s < length c.args.net.now.drivers) c.args.signals.now c.loop-s.s-index 0 c.loop-s-test.true c.requires.within)
          (way_in (get nat_eq c.loop-s.ways)) (way_in (get nat_eq c.put_way.new.ways)) puts u low high source raise closed
          (subst (λ (w : Way). MayGo w (low u) (high u)) (sym (c.loop-s.invariant.own u source)) first) (λ i p less there. c.loop-s.invariant.go u low high source raise closed first i p less there) k q below at;
    }

pub returns : goal.returns
returns c = λ u low high source raise closed first s h.
    let at = at_of c.args.signals.now s h in
    let inside = slice_get_within c.args.signals.now at.0 s at.1 in
    c.loop-s.invariant.go u low high source raise closed first at.0 s (omega (arith, inside, c.loop-s-test.false)) at.1
