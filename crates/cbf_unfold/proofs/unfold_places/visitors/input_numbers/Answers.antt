-- One place more, with its number or without.
use Rattle.std.proofs.Common.{◌≡◌, ◌+◌, ◌<◌, ℕ, List, length, sym, subst, arith}
use Rattle.flat_net.specs.View.{circuit_of}
use Rattle.flat_net.proofs.Places.{All-at}
use Rattle.aig.specs.declared.node.Lit.{Lit}
use Rattle.cbf_unfold.proofs.unfold_places.Candidates.{AreFirst, first_none, first_skip, first_push, first_all}
use Rattle.cbf_unfold.proofs.unfold_places.visitors.input_numbers.Goals as goal

pub loop-number-init : goal.loop-number-init
loop-number-init c = subst (AreFirst (circuit_of c.args.net.now) c.args.order.now c.args.memo.now 0) (sym {A = List ℕ} c.new-numbers.ensures.items) (first_none (circuit_of c.args.net.now) c.args.order.now c.args.memo.now)

pub input_number-requires-clause-signal : goal.input_number-requires-clause-signal
input_number-requires-clause-signal c =
    All-at (λ (e : (ℕ × ℕ) × Lit). e.0.1 < length c.args.net.now.drivers) c.args.memo.now c.loop-number.number (c.place-signal.result, c.place-signal.ensures.0) c.place-signal.ensures.1 c.requires.within

pub loop-number-preserved-in_default : goal.loop-number-preserved-in_default
loop-number-preserved-in_default c =
    first_skip (circuit_of c.args.net.now) c.args.order.now c.args.memo.now c.loop-number.number c.place-signal.result c.place-signal.ensures.0 c.loop-number.numbers.items c.place-signal.ensures.1 c.in_default.ensures.none c.loop-number.invariant

pub loop-number-preserved : goal.loop-number-preserved
loop-number-preserved c =
    subst (AreFirst (circuit_of c.args.net.now) c.args.order.now c.args.memo.now (c.loop-number.number + 1)) (sym {A = List ℕ} c.in_ok-push.ensures.items)
    (first_push (circuit_of c.args.net.now) c.args.order.now c.args.memo.now c.loop-number.number c.loop-number.numbers.items c.loop-number.invariant)

pub returns : goal.returns
returns c =
    first_all (circuit_of c.args.net.now) c.args.order.now c.args.memo.now c.loop-number.number c.loop-number.numbers.items (let e : c.loop-number.number ≡ length c.args.memo.now = omega (arith, c.loop-number-test.false, c.loop-number.auto.number-end, c.len-number-end.ensures) in e) c.loop-number.invariant
