use Rattle.std.proofs.Common.{◌≡◌, ◌≢◌, ◌<◌, ◌+◌, ◌∙◌, ℕ, List, length, sym, ap, subst, arith}
use Rattle.std.specs.List.{All}
use Rattle.latch_graph.specs.flat_net.LatchAt.{LatchAt}
use Rattle.sec_setup.specs.cut_points.Common.{AreCommonUpTo}
use Rattle.sec_setup.proofs.cut_points.Pairs.{common_same, common_more, common_all, own_name, some_named}
use Rattle.sec_setup.proofs.cut_points.common_latches.common_pairs.Goals as goal

pub loop-i-preserved-in_default : goal.loop-i-preserved-in_default
loop-i-preserved-in_default c =
    let a = c.args.a.now in
    let b = c.args.b.now in
    let inside : c.loop-i.i < length a.latches = omega (arith, ap length c.latches-latches.ensures, c.loop-i-test.true) in
    let name = c.as_slice.ensures ∙ ap (λ (l : LatchAt). l.name) (sym c.index-latches-i.is) ∙ own_name a c.latches-latches.result.now c.loop-i.i c.index-latches-i.result c.latches-latches.ensures inside c.index-latches-i.is in
    let none = rw c.in_default.is at c.latch_named.ensures.absent in
    common_same a b c.loop-i.i inside c.loop-i.pairs c.loop-i.invariant (subst (λ (name : List ℕ). All (λ (m : LatchAt). m.name ≢ name) b.latches) name none)

pub loop-i-preserved : goal.loop-i-preserved
loop-i-preserved c =
    let a = c.args.a.now in
    let b = c.args.b.now in
    let inside : c.loop-i.i < length a.latches = omega (arith, ap length c.latches-latches.ensures, c.loop-i-test.true) in
    let name = c.as_slice.ensures ∙ ap (λ (l : LatchAt). l.name) (sym c.index-latches-i.is) ∙ own_name a c.latches-latches.result.now c.loop-i.i c.index-latches-i.result c.latches-latches.ensures inside c.index-latches-i.is in
    let found = some_named _ _ c.in-Some.ensures.here in
    subst (AreCommonUpTo a b (c.loop-i.i + 1)) (sym c.in_ok-push.ensures.ok)
    (common_more a b c.loop-i.i inside c.loop-i.pairs c.loop-i.invariant c.in-Some.right found.0 found.1 (found.2 ∙ name))

pub returns : goal.returns
returns c =
    let i : c.loop-i.i ≡ length c.args.a.now.latches = omega (arith, ap length c.latches-latches.ensures, c.loop-i-test.false, c.loop-i.auto.i-end) in
    common_all c.args.a.now c.args.b.now c.loop-i.pairs (subst (λ (k : ℕ). AreCommonUpTo c.args.a.now c.args.b.now k c.loop-i.pairs) i c.loop-i.invariant)
