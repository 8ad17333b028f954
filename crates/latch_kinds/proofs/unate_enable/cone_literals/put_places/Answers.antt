-- One variable more.
use Rattle.std.proofs.Common.{◌≡◌, ◌∙◌, inr, length, nat_eq, get_or, sym, subst, arith}
use Rattle.std.proofs.lemmas.Option.{slice_get-get_or, slice_get_within}
use Rattle.indexmap.specs.IndexMap.{get}
use Rattle.circuit_theory.proofs.Lists.{at_of, All-from_each}
use Rattle.latch_kinds.specs.unate_enable.Building.{IsKnown, HasGrown}
use Rattle.aig.specs.Builds.{HasTreeLit}
use Rattle.aig.proofs.Growth.{Grows-trans}
use Rattle.latch_kinds.proofs.unate_enable.Literals.{learns_none, learns_put, learns_trans, grown_none, known_more, put_stays}
use Rattle.latch_kinds.proofs.unate_enable.cone_literals.put_places.Goals as goal

pub loop-k-init : goal.loop-k-init
loop-k-init c = record {
  learns = λ b u bit. learns_none b u bit c.args.places.now c.args.aig.now (get nat_eq c.args.known.now) c.requires.within;
  known = λ k s below. absurd (omega arith);
  grown = grown_none c.args.aig.now 0 0;
}

pub input-requires : goal.input-requires
input-requires c = record { room = omega (arith, c.loop-k.invariant.grown.nodes, c.requires.room, c.loop-k-test.true); small = omega (arith, c.requires.few, c.loop-k-test.true) }

pub loop-k-preserved : goal.loop-k-preserved
loop-k-preserved c =
    let p = get_or c.args.places.now c.loop-k.k 0 in
    let here = slice_get-get_or c.args.places.now c.loop-k.k 0 c.loop-k-test.true in
    record {
      learns = λ b u bit.
          learns_trans b u bit c.args.places.now c.args.aig.now c.loop-k.aig c.input.new.self (get nat_eq c.args.known.now) (get nat_eq c.loop-k.known) (get nat_eq c.put.new.known) (c.loop-k.invariant.learns b u bit)
          (learns_put b u bit c.args.places.now c.loop-k.aig c.input.new.self (get nat_eq c.loop-k.known) (get nat_eq c.put.new.known) (get_or c.args.places.now c.loop-k.k 0) c.in_ok-lit.lit c.input.ensures.grows (c.loop-k.invariant.learns b u bit).within
          c.in_ok-put.ensures c.in_ok-lit.ensures.within
          (λ trees. HasTreeLit.at_leaf (get_or c.args.places.now c.loop-k.k 0) c.in_ok-lit.lit.0 (inr (c.loop-k.k, here, c.in_ok-lit.ensures.here)))
          (λ values a v case. case.takes c.loop-k.k (get_or c.args.places.now c.loop-k.k 0) here ∙ sym (c.in_ok-lit.ensures.value a)));
      known = λ k q below at.
          known_more c.args.places.now c.loop-k.k (get nat_eq c.loop-k.known) (get nat_eq c.put.new.known) p here c.loop-k.invariant.known
          (put_stays (get nat_eq c.loop-k.known) (get nat_eq c.put.new.known) p c.in_ok-lit.lit c.in_ok-put.ensures)
          (c.in_ok-lit.lit, c.in_ok-put.ensures.here) k q below at;
      grown = record { grows = Grows-trans _ _ _ c.loop-k.invariant.grown.grows c.input.ensures.grows; nodes = omega (arith, c.loop-k.invariant.grown.nodes, c.input.ensures.few); vars = omega (arith, c.loop-k.invariant.grown.vars, c.in_ok-lit.ensures.vars) };
    }

pub returns : goal.returns
returns c =
    record {
      learns = c.loop-k.invariant.learns;
      known = All-from_each (IsKnown (get nat_eq c.loop-k.known)) c.args.places.now (λ s h.
          let at = at_of c.args.places.now s h in
          let inside = slice_get_within c.args.places.now at.0 s at.1 in
          c.loop-k.invariant.known at.0 s (omega (arith, inside, c.loop-k-test.false)) at.1);
      grown = let same : length c.args.places.now ≡ c.loop-k.k = omega (arith, c.loop-k-test.false, c.loop-k.auto.k-end) in subst (λ k. HasGrown c.args.aig.now c.loop-k.aig k k) (sym same) c.loop-k.invariant.grown;
    }
