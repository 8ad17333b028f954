use Rattle.std.proofs.Common.{◌≡◌, ℕ, List, slice_get, Some, subst}
use Rattle.std.proofs.lemmas.Result.{IfOk-weaker}
use Rattle.latch_graph.specs.Rounds.{IsTurned, IsTurnedRound}
use Rattle.latch_graph.proofs.rounds.round_behind.Goals as goal

pub turned-requires-clause-within : goal.turned-requires-clause-within
turned-requires-clause-within c = λ i j h. (c.in_ok-round.ensures.endless i j (subst (λ (z : List ℕ). slice_get z i ≡ Some j) c.as_slice.ensures.value h)).within

pub returns : goal.returns
returns c =
    IfOk-weaker c.turned.result (IsTurned c.args.latches.now c.as_slice.result.now) (IsTurnedRound c.args.nodes.now c.args.latches.now c.args.states.now)
    (λ (ids : List ℕ) turn. record { round = c.in_ok-round.round.items; closed = c.in_ok-round.ensures; turn = subst (λ (z : List ℕ). IsTurned c.args.latches.now z ids) c.as_slice.ensures.value turn })
    c.turned.ensures
