use Rattle.std.proofs.Common.{◌∙◌, get_or, map, refl, arith}
use Rattle.aig.proofs.Growth.{Grows-refl, Grows-trans, Grows-length}
use Rattle.circuit_theory.proofs.Lists.{length-map}
use Rattle.aig.specs.declared.node.Lit.{Lit}
use Rattle.aig.proofs.Folds.{cube-step}
use Rattle.aig.proofs.Making.{cube_step, cube_done}
use Rattle.aig.proofs.graph.Aig.cube.Goals as goal

pub loop-i-init : goal.loop-i-init
loop-i-init c = record { grows = Grows-refl c.args.self.now; few = omega arith; within = omega (arith, c.requires.some); vars = refl; rest = λ h x grows is. is; made = λ h x is. is }

pub place-requires-clause-fanin : goal.place-requires-clause-fanin
place-requires-clause-fanin c =
    omega (arith, c.requires.within c.loop-i.i (record { 0 = 0 }) (omega (arith, c.requires.width, c.loop-i-test.true)), Grows-length c.args.self.now c.loop-i.self c.loop-i.invariant.grows)

pub returns-in_err-next-clause-grows : goal.returns-in_err-next-clause-grows
returns-in_err-next-clause-grows c = Grows-trans c.args.self.now c.loop-i.self c.place.new.self c.loop-i.invariant.grows c.place.ensures.grows

pub loop-i-preserved : goal.loop-i-preserved
loop-i-preserved c = record {
  grows = Grows-trans c.args.self.now c.loop-i.self c.place.new.self c.loop-i.invariant.grows c.place.ensures.grows;
  few = omega (arith, c.loop-i.invariant.few, c.place.ensures.few);
  within = c.in_ok-next.ensures.within;
  vars = c.place.ensures.vars ∙ c.loop-i.invariant.vars;
  rest = λ h x grows is.
      c.loop-i.invariant.rest h x (Grows-trans c.loop-i.self c.place.new.self h c.place.ensures.grows grows)
      (cube-step c.place.new.self h c.loop-i.lit.0 c.args.places.now c.args.fanins.now c.loop-i.i (get_or c.args.places.now c.loop-i.i 0) (get_or c.args.fanins.now c.loop-i.i (record { 0 = 0 })) (record { 0 = 0 })
      c.in_ok-next.next.0 x refl refl c.loop-i-test.true (omega (arith, c.requires.width, c.loop-i-test.true)) c.in_ok-next.ensures.here grows is);
  made = λ h x is.
      c.loop-i.invariant.made h x
      (cube_step c.loop-i.self c.place.new.self h c.loop-i.lit.0 c.args.places.now c.args.fanins.now c.loop-i.i (get_or c.args.places.now c.loop-i.i 0) (get_or c.args.fanins.now c.loop-i.i (record { 0 = 0 })) (record { 0 = 0 })
      c.in_ok-next.next.0 x refl refl c.loop-i-test.true (omega (arith, c.requires.width, c.loop-i-test.true)) c.in_ok-next.ensures.made is);
}

pub returns-clause-made : goal.returns-clause-made
returns-clause-made c =
    let numbers = map (λ (f : Lit). f.0) c.args.fanins.now in
    c.loop-i.invariant.made c.loop-i.self c.loop-i.lit.0
    (cube_done c.loop-i.self c.loop-i.lit.0 c.args.places.now numbers c.loop-i.i c.loop-i-test.false (omega (arith, c.loop-i-test.false, c.requires.width, length-map (λ (f : Lit). f.0) c.args.fanins.now)))
