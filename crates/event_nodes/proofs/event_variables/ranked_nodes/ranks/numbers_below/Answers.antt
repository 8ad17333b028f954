-- One number more.
use Rattle.std.proofs.Common.{◌≡◌, ◌↔◌, ℕ, ◌<◌, Contains, subst, arith}
use Rattle.event_nodes.proofs.event_variables.ranked_nodes.Zeros.{below_next}
use Rattle.event_nodes.proofs.event_variables.ranked_nodes.ranks.numbers_below.Goals as goal

pub loop-v-preserved : goal.loop-v-preserved
loop-v-preserved c = below_next c.loop-v.numbers.items c.push.new.self.items c.loop-v.v c.in_ok-push.ensures.items c.loop-v.invariant

pub returns : goal.returns
returns c =
    let all : c.loop-v.v ≡ c.args.count = omega (arith, c.loop-v-test.false, c.loop-v.auto.v-end) in
    subst (λ (n : ℕ). (u : ℕ) → Contains c.loop-v.numbers.items u ↔ (u < n)) all c.loop-v.invariant
