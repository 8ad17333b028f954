-- One signal more has its bit.
use Rattle.std.proofs.Common.{◌≡◌, ◌<◌, ℕ, get_or, subst, arith, length}
use Rattle.std.proofs.lemmas.Nat.{one_shl}
use Rattle.std.proofs.lemmas.Option.{slice_get-get_or, slice_get_within}
use Rattle.flat_net.specs.View.{circuit_of}
use Rattle.cbf_unfold.specs.unfold_places.Visitors.{AreMarked, Gives}
use Rattle.cbf_unfold.proofs.unfold_places.Passing.{marked_root, root_met}
use Rattle.cbf_unfold.proofs.unfold_places.visitors.mark_roots.Goals as goal

pub number-requires : goal.number-requires
number-requires c = root_met (circuit_of c.args.net.now) c.args.last c.args.signals.now c.args.memo.now c.requires.met c.loop-k.k _ c.loop-k-test.true

pub give-requires : goal.give-requires
give-requires c = let k = slice_get_within c.args.memo.now c.number.result (_, c.number.ensures.0) c.number.ensures.1 in omega (arith, k, c.loop-k.invariant.size)

pub loop-k-preserved : goal.loop-k-preserved
loop-k-preserved c =
    let few : c.loop-k.k < 64 = omega (arith, c.loop-k-test.true, c.requires.few) in
    let here = slice_get-get_or c.args.signals.now c.loop-k.k (record { 0 = 0 }) c.loop-k-test.true in
    marked_root (circuit_of c.args.net.now) c.args.last c.args.signals.now c.args.memo.now c.loop-k.k (get_or c.args.signals.now c.loop-k.k (record { 0 = 0 })) c.loop-k.words c.give.new.words here c.loop-k.invariant c.keeps.ensures
    c.number.result c.number.ensures.0 c.number.ensures.1 (subst (λ (w : ℕ). Gives (λ n. n ≡ c.number.result) w c.loop-k.words c.give.new.words) (one_shl c.loop-k.k 64 few) c.give.ensures)

pub returns : goal.returns
returns c =
    let all : c.loop-k.k ≡ length c.args.signals.now = omega (arith, c.loop-k-test.false, c.loop-k.auto.k-end) in
    subst (λ (m : ℕ). AreMarked (circuit_of c.args.net.now) c.args.last c.args.signals.now c.args.memo.now m c.loop-k.words) all c.loop-k.invariant
