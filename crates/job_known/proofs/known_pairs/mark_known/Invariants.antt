use Rattle.std.specs.Prelude.{◌≡◌, None, map, take, slice_index_or}
use Rattle.sec_setup.specs.ports.Pairs.{places_of}
use Rattle.job_known.specs.Cycle.{marked}
use Rattle.job_known.proofs.known_pairs.mark_known.Given as goal

abbrev pub invariant-loop-j : goal.invariant-loop-j
invariant-loop-j l = l.seen ≡ marked (λ s. slice_index_or l.left s None) (λ s. slice_index_or l.right s None) (map places_of (take l.j l.pairs)) l.initial.seen
