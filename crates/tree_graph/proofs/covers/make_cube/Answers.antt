use Rattle.std.proofs.Common.{get_or, refl, arith, map}
use Rattle.aig.proofs.Growth.{Grows-refl, Grows-trans, Grows-length}
use Rattle.circuit_theory.proofs.Lists.{length-map}
use Rattle.aig.specs.declared.node.Lit.{Lit}
use Rattle.aig.specs.Rules.{place_lit}
use Rattle.tree_graph.proofs.Built.{place_grown}
use Rattle.aig.proofs.Making.{cube_step, cube_done}
use Rattle.tree_graph.proofs.covers.make_cube.Goals as goal

pub loop-i-init : goal.loop-i-init
loop-i-init c = record { grows = Grows-refl c.args.aig.now; few = c.requires.few; within = omega (arith, c.requires.some); rest = λ h x is. is }

pub make_place-requires-clause-fanin : goal.make_place-requires-clause-fanin
make_place-requires-clause-fanin c =
    omega (arith, c.requires.within c.loop-i.i (record { 0 = 0 }) (omega (arith, c.requires.width, c.loop-i-test.true)), Grows-length c.args.aig.now c.loop-i.aig c.loop-i.invariant.grows)

pub loop-i-preserved : goal.loop-i-preserved
loop-i-preserved c =
    let f : Lit = get_or c.args.fanins.now c.loop-i.i (record { 0 = 0 }) in
    record {
      grows =
          Grows-trans c.args.aig.now c.loop-i.aig c.make_place.new.aig c.loop-i.invariant.grows
          (place_grown c.loop-i.aig c.make_place.new.aig c.loop-i.lit.0 (place_lit (get_or c.args.places.now c.loop-i.i 0) f.0) c.in_ok-next.next.0 c.in_ok-next.ensures.made);
      few = c.make_place.ensures.few;
      within = c.in_ok-next.ensures.within;
      rest = λ h x is.
          c.loop-i.invariant.rest h x
          (cube_step c.loop-i.aig c.make_place.new.aig h c.loop-i.lit.0 c.args.places.now c.args.fanins.now c.loop-i.i (get_or c.args.places.now c.loop-i.i 0) f (record { 0 = 0 }) c.in_ok-next.next.0 x refl refl c.loop-i-test.true
          (omega (arith, c.requires.width, c.loop-i-test.true)) c.in_ok-next.ensures.made is);
    }

pub returns-clause-made : goal.returns-clause-made
returns-clause-made c =
    let numbers = map (λ (f : Lit). f.0) c.args.fanins.now in
    c.loop-i.invariant.rest c.loop-i.aig c.loop-i.lit.0
    (cube_done c.loop-i.aig c.loop-i.lit.0 c.args.places.now numbers c.loop-i.i c.loop-i-test.false (omega (arith, c.loop-i-test.false, c.requires.width, length-map (λ (f : Lit). f.0) c.args.fanins.now)))
