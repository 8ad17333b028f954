-- Pair after pair.
use Rattle.std.proofs.Common.{◌≡◌, ◌∙◌, ℕ, List, length, get_or, slice_get, Some, refl, sym, ap, subst, arith}
use Rattle.std.proofs.lemmas.List.{take_all}
use Rattle.std.proofs.lemmas.Option.{slice_get-get_or, same_Some}
use Rattle.circuit_theory.specs.declared.Side.TheVariants.{A, B}
use Rattle.circuit_theory.proofs.Lists.{zip_length}
use Rattle.aig.specs.declared.node.Lit.{Lit}
use Rattle.aig.specs.declared.node.Node.{Node}
use Rattle.cbf_unfold.specs.declared.unfold_places.signal_function.Unfolded.{Unfolded}
use Rattle.cbf_unfold.proofs.shift_variables.Reading.{item_at}
use Rattle.sec_setup.specs.declared.ports.pairs.SignalPair.{SignalPair}
use Rattle.reset_form.specs.reset_unfold.View.{ResetView}
use Rattle.cycle_search.specs.Apart.{AreApart}
use Rattle.cycle_search.specs.Outputs.{side_of, IsApart, IsLiteralIn}
use Rattle.cycle_search.proofs.Parting.{literal_of, done_at, apart_more}
use Rattle.cycle_search.proofs.apart.functions_apart.Goals as goal

pub bounds-xs-i : goal.bounds-xs-i
bounds-xs-i c =
    let each = zip_length (IsLiteralIn c.args.left.now.memo A c.args.cycle) c.args.pairs.now c.args.literals.now.left.items c.requires.left_literals in
    let same = ap length c.as_slice-xs.ensures.value in
    omega (arith, c.loop-i-test.true, each, same)

pub bounds-ys-i : goal.bounds-ys-i
bounds-ys-i c =
    let each = zip_length (IsLiteralIn c.args.right.now.memo B c.args.cycle) c.args.pairs.now c.args.literals.now.right.items c.requires.right_literals in
    let same = ap length c.as_slice-ys.ensures.value in
    omega (arith, c.loop-i-test.true, each, same)

pub function_apart-requires-clause-own : goal.function_apart-requires-clause-own
function_apart-requires-clause-own c =
    let pairs = c.args.pairs.now in
    let xs = c.as_slice-xs.result.now in
    let i = c.loop-i.i in
    let p : SignalPair = c.index-pairs-i.result in
    let at : slice_get pairs i ≡ Some p = item_at pairs pairs i p refl c.loop-i-test.true c.index-pairs-i.is in
    let each = zip_length (IsLiteralIn c.args.left.now.memo A c.args.cycle) pairs c.args.literals.now.left.items c.requires.left_literals in
    let same = ap length c.as_slice-xs.ensures.value in
    literal_of c.args.left.now.memo A c.args.cycle pairs c.args.literals.now.left.items c.requires.left_literals xs c.as_slice-xs.ensures.value i p at (get_or xs i (record { 0 = 0 }))
    (slice_get-get_or xs i (record { 0 = 0 }) (omega (arith, c.loop-i-test.true, each, same))) c.side_of-a.result c.side_of-a.ensures

pub function_apart-requires-clause-done : goal.function_apart-requires-clause-done
function_apart-requires-clause-done c =
    let pairs = c.args.pairs.now in
    let p : SignalPair = c.index-pairs-i.result in
    let at : slice_get pairs c.loop-i.i ≡ Some p = item_at pairs pairs c.loop-i.i p refl c.loop-i-test.true c.index-pairs-i.is in
    done_at c.args.left.now.done A c.args.cycle pairs c.requires.left_done c.loop-i.i p at c.side_of-a.result c.side_of-a.ensures

pub function_apart-requires-in-loop-i-clause-own : goal.function_apart-requires-in-loop-i-clause-own
function_apart-requires-in-loop-i-clause-own c =
    let pairs = c.args.pairs.now in
    let ys = c.as_slice-ys.result.now in
    let i = c.loop-i.i in
    let p : SignalPair = c.index-pairs-i-in-loop-i.result in
    let at : slice_get pairs i ≡ Some p = item_at pairs pairs i p refl c.loop-i-test.true c.index-pairs-i-in-loop-i.is in
    let each = zip_length (IsLiteralIn c.args.right.now.memo B c.args.cycle) pairs c.args.literals.now.right.items c.requires.right_literals in
    let same = ap length c.as_slice-ys.ensures.value in
    literal_of c.args.right.now.memo B c.args.cycle pairs c.args.literals.now.right.items c.requires.right_literals ys c.as_slice-ys.ensures.value i p at (get_or ys i (record { 0 = 0 }))
    (slice_get-get_or ys i (record { 0 = 0 }) (omega (arith, c.loop-i-test.true, each, same))) c.side_of-b.result c.side_of-b.ensures

pub function_apart-requires-in-loop-i-clause-done : goal.function_apart-requires-in-loop-i-clause-done
function_apart-requires-in-loop-i-clause-done c =
    let pairs = c.args.pairs.now in
    let p : SignalPair = c.index-pairs-i-in-loop-i.result in
    let at : slice_get pairs c.loop-i.i ≡ Some p = item_at pairs pairs c.loop-i.i p refl c.loop-i-test.true c.index-pairs-i-in-loop-i.is in
    done_at c.args.right.now.done B c.args.cycle pairs c.requires.right_done c.loop-i.i p at c.side_of-b.result c.side_of-b.ensures

pub loop-i-preserved : goal.loop-i-preserved
loop-i-preserved c =
    let u = c.args.left.now in
    let v = c.args.right.now in
    let f = c.args.functions.now in
    let cycle = c.args.cycle in
    let pairs = c.args.pairs.now in
    let i = c.loop-i.i in
    let p : SignalPair = c.index-pairs-i.result in
    let q : SignalPair = c.index-pairs-i-in-loop-i.result in
    let at : slice_get pairs i ≡ Some p = item_at pairs pairs i p refl c.loop-i-test.true c.index-pairs-i.is in
    let at_b : slice_get pairs i ≡ Some q = item_at pairs pairs i q refl c.loop-i-test.true c.index-pairs-i-in-loop-i.is in
    let one : Unfolded = c.in_ok-one.one in
    let two : Unfolded = c.in_ok-two.two in
    let first_places = c.function_apart.ensures.same ∙ c.loop-i.invariant.same_places in
    record {
      same_aig = c.loop-i.invariant.same_aig;
      same_places = c.function_apart-in-loop-i.ensures.same ∙ first_places;
      apart = apart_more u v f.aig f.places cycle pairs i p at (record { left = c.loop-i.of_a; right = c.loop-i.of_b }) (record { left = c.push.new.self; right = c.push-in-loop-i.new.self }) one two
          c.in_ok-push.ensures.items c.in_ok-push-2.ensures.items c.loop-i.invariant.apart (record {
            left = moved u c.loop-i.functions.aig f.aig c.loop-i.functions.places f.places cycle c.side_of-a.result p.left.0 _ two.lit.0 one c.loop-i.invariant.same_aig c.loop-i.invariant.same_places c.side_of-a.ensures
                (ap (λ (y : Lit). y.0) (sym c.in_ok-two.ensures.own)) c.in_ok-one.ensures.apart;
            right = moved v c.loop-i.functions.aig f.aig c.function_apart.new.places f.places cycle c.side_of-b.result p.right.0 _ one.lit.0 two c.loop-i.invariant.same_aig first_places
                (c.side_of-b.ensures ∙ ap (side_of B) (same_pair q p (sym at_b ∙ at))) (ap (λ (y : Lit). y.0) (sym c.in_ok-one.ensures.own)) c.in_ok-two.ensures.apart;
          });
    }
  where
    same_pair : (x y : SignalPair) → Some x ≡ Some y → x ≡ y
    same_pair x y e = same_Some x y e

    moved : (w : ResetView) (g h : List Node) (table places : List (ℕ × ℕ)) (cycle s t other same : ℕ) (y : Unfolded) → g ≡ h → table ≡ places → s ≡ t → other ≡ same → IsApart w.net w.order w.base g table s cycle other y → IsApart w.net w.order w.base h places t cycle same y
    moved w g h table places cycle s t other same y e d own others is =
        subst (λ (k : ℕ). IsApart w.net w.order w.base h places t cycle k y) others
        (subst (λ (k : ℕ). IsApart w.net w.order w.base h places k cycle other y) own
        (subst (λ (m : List (ℕ × ℕ)). IsApart w.net w.order w.base h m s cycle other y) d (subst (λ (l : List Node). IsApart w.net w.order w.base l table s cycle other y) e is)))

pub returns-clause-apart : goal.returns-clause-apart
returns-clause-apart c =
    subst (λ (ps : List SignalPair). AreApart c.args.left.now c.args.right.now c.args.functions.now.aig c.args.functions.now.places c.args.cycle ps (record { left = c.loop-i.of_a; right = c.loop-i.of_b }))
    (take_all c.loop-i.i c.args.pairs.now (omega (arith, c.loop-i-test.false))) c.loop-i.invariant.apart
