-- One query more.
use Rattle.std.proofs.Common.{◌∙◌, ◌+◌, ◌<◌, [], length, slice_get, refl, sym, ap, arith}
use Rattle.std.proofs.lemmas.Option.{slice_get_within}
use Rattle.flat_net.proofs.Growth.{length-push}
use Rattle.flat_net.proofs.Places.{All-at}
use Rattle.cbf_unfold.specs.declared.unfold_places.signal_function.Unfolded.{Unfolded}
use Rattle.cbf_unfold.proofs.shift_variables.Reading.{item_at}
use Rattle.cbf_unfold.specs.shift_variables.cycle_variables.Cycles.{AreInCycles}
use Rattle.reset_form.proofs.reset_asked.PairAt.{query_next}
use Rattle.reset_form.proofs.reset_asked.questions.queries_of.Goals as goal

pub loop-t-init : goal.loop-t-init
loop-t-init c = record {
  each = ap length c.new-queries.ensures;
  are = λ t x y q hx hy hq. absurd (let k = slice_get_within [] t q (ap (λ l. slice_get l t) (sym c.new-queries.ensures) ∙ hq) in omega (arith, k));
}

pub bounds-right-t : goal.bounds-right-t
bounds-right-t c = omega (arith, c.requires.each, c.loop-t-test.true)

pub query_of-requires-clause-left : goal.query_of-requires-clause-left
query_of-requires-clause-left c =
    let xs = c.args.left.now in
    let l : Unfolded = c.index-left-t.result in
    let inside : c.loop-t.t < length xs = omega (arith, c.loop-t-test.true) in
    All-at (λ (u : Unfolded). AreInCycles c.args.places.now u.vars) xs c.loop-t.t l (item_at xs xs c.loop-t.t l refl inside c.index-left-t.is) c.requires.left

pub query_of-requires-clause-right : goal.query_of-requires-clause-right
query_of-requires-clause-right c =
    let xs = c.args.right.now in
    let r : Unfolded = c.index-right-t.result in
    let inside : c.loop-t.t < length xs = omega (arith, c.requires.each, c.loop-t-test.true) in
    All-at (λ (u : Unfolded). AreInCycles c.args.places.now u.vars) xs c.loop-t.t r (item_at xs xs c.loop-t.t r refl inside c.index-right-t.is) c.requires.right

pub loop-t-preserved : goal.loop-t-preserved
loop-t-preserved c =
    let left = c.args.left.now in
    let right = c.args.right.now in
    let l : Unfolded = c.index-left-t.result in
    let r : Unfolded = c.index-right-t.result in
    let here : c.loop-t.t < length left = omega (arith, c.loop-t-test.true) in
    let there : c.loop-t.t < length right = omega (arith, c.requires.each, c.loop-t-test.true) in
    record {
      each = ap length c.in_ok-push.ensures.ok ∙ (length-push c.loop-t.queries c.in_ok-query.query ∙ ap (λ k. k + 1) c.loop-t.invariant.each);
      are =
          query_next c.args.places.now left right c.loop-t.t l r c.loop-t.queries c.push.new.self c.in_ok-query.query (item_at left left c.loop-t.t l refl here c.index-left-t.is) (item_at right right c.loop-t.t r refl there c.index-right-t.is)
          c.loop-t.invariant.each c.loop-t.invariant.are c.in_ok-query.ensures c.in_ok-push.ensures.ok;
    }
