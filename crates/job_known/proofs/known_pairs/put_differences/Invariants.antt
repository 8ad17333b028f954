use Rattle.std.specs.Prelude.{◌≡◌, ◌++◌, None, map, take, slice_index_or}
use Rattle.sec_setup.specs.ports.Pairs.{places_of}
use Rattle.job_known.specs.Pairs.{differences_in}
use Rattle.job_known.proofs.known_pairs.put_differences.Given as goal

abbrev pub invariant-loop-pair : goal.invariant-loop-pair
invariant-loop-pair l = l.found ≡ l.initial.found ++ differences_in l.cycle (λ s. slice_index_or l.left s None) (λ s. slice_index_or l.right s None) (map places_of (take l.pair-index l.pairs))
