-- One gate more.
use Rattle.std.proofs.Common.{◌≡◌, ◌≤◌, ℕ, List, Some, length, get_or, slice_get, refl, ap, subst, arith}
use Rattle.std.specs.List.{All}
use Rattle.std.proofs.lemmas.Option.{slice_get_read, slice_get_within}
use Rattle.signal_graph.specs.inner_cone.latch_cone.flat_net.Signal.{Signal}
use Rattle.signal_graph.specs.inner_cone.latch_cone.flat_net.Gate.{Gate}
use Rattle.signal_graph.proofs.inner_cone.Inner.{ranked_more, ranked_all}
use Rattle.signal_graph.proofs.inner_cone.numbers.are_ranked.Goals as goal

pub loop-j-init : goal.loop-j-init
loop-j-init c = λ j g below. absurd (omega arith)

pub loop-j-preserved : goal.loop-j-preserved
loop-j-preserved c =
    let at = slice_get_read c.gates-gates.result.now (length c.gates-gates.result.now) c.loop-j.j c.index-gates-j.result refl c.loop-j-test.true c.index-gates-j.is in
    let here = subst (λ (z : List Gate). slice_get z c.loop-j.j ≡ Some c.index-gates-j.result) c.gates-gates.ensures at in
    let all = subst (λ (m : ℕ). All (λ (r : Signal). get_or c.args.numbers.now r.0 0 ≤ m) c.as_slice.result.now) c.number_at.ensures (c.are_at_most.ensures c.if-not-are_at_most.false) in
    ranked_more c.args.net.now.gates c.args.numbers.now c.loop-j.j c.index-gates-j.result here (subst (λ (l : List Signal). All (λ (r : Signal). get_or c.args.numbers.now r.0 0 ≤ get_or c.args.numbers.now c.index-gates-j.result.out.0 0) l) c.as_slice.ensures all) c.loop-j.invariant

pub returns : goal.returns
returns c = λ e. ranked_all c.args.net.now c.keeps.ensures.sound c.args.numbers.now c.loop-j.j
    (λ j g here. let l = slice_get_within c.args.net.now.gates j g here in omega (arith, l, c.loop-j-test.false, ap length c.gates-gates.ensures)) c.loop-j.invariant
