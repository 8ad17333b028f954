use Rattle.std.proofs.Common.{rules, ◌≡◌, ◌≢◌, ◌<◌, ◌+◌, ℕ, slice_get, Some, subst, arith, inl, inr}
use Rattle.std.specs.Prelude.{◌⊎◌}
use Rattle.std.proofs.lemmas.Option.{slice_get_within}
use Rattle.circuit_theory.proofs.Sums.{same_or_not}
use Rattle.latch_graph.specs.declared.states.State.TheVariants.{New}
use Rattle.latch_graph.proofs.Ways.{first_way, way_ends, later_same, later_after}
use Rattle.latch_graph.proofs.states.settle.Goals as goal

pub loop-signal-init : goal.loop-signal-init
loop-signal-init c = record {
  way = first_way c.args.nodes.now c.args.states.now c.requires.size c.requires.first;
  empty = search rules;
  later = later_same c.args.states.now;
  old = λ s l h. absurd (omega (arith, l));
}

pub loop-signal-preserved : goal.loop-signal-preserved
loop-signal-preserved c = record {
  way = c.in_ok-settle_from.ensures.way;
  empty = c.in_ok-settle_from.ensures.empty;
  later = later_after c.loop-signal.invariant.later c.in_ok-settle_from.ensures.later;
  old = λ s l h. old s l h (same_or_not s c.loop-signal.signal);
}
  where
    old : (s : ℕ) → s < c.loop-signal.signal + 1 → slice_get c.settle_from.new.states s ≡ Some New → (s ≡ c.loop-signal.signal) ⊎ (s ≢ c.loop-signal.signal) → ⊥
    old s l h (inl e) = c.in_ok-settle_from.ensures.root (subst (λ z. slice_get c.settle_from.new.states z ≡ Some New) e h)
    old s l h (inr n) = c.loop-signal.invariant.old s (omega (arith, l, n)) (c.in_ok-settle_from.ensures.later.news s h)

pub returns-clause-settled : goal.returns-clause-settled
returns-clause-settled c = way_ends c.args.nodes.now c.loop-signal.states c.loop-signal.invariant.way
    (λ s h. let l = slice_get_within c.loop-signal.states s New h in c.loop-signal.invariant.old s (omega (arith, l, c.loop-signal.invariant.way.table.size, c.loop-signal-test.false)) h)
