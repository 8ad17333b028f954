use Rattle.std.proofs.Common.{◌≡◌, ℕ, map, take}
use Rattle.job_under.proofs.ties.judging.numbers_of.Given as goal

abbrev pub invariant-loop-v : goal.invariant-loop-v
invariant-loop-v l = l.numbers.items ≡ map (λ (p : ℕ × ℕ). p.0) (take l.v l.places)
