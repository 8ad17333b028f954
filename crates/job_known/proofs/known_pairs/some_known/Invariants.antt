use Rattle.std.specs.Prelude.{◌≡◌, None, map, drop, slice_index_or}
use Rattle.sec_setup.specs.ports.Pairs.{places_of}
use Rattle.job_known.specs.Pairs.{some_known}
use Rattle.job_known.proofs.known_pairs.some_known.Given as goal

abbrev pub invariant-loop-pair : goal.invariant-loop-pair
invariant-loop-pair l =
    some_known (λ s. slice_index_or l.left s None) (λ s. slice_index_or l.right s None) (map places_of l.pairs)
    ≡ some_known (λ s. slice_index_or l.left s None) (λ s. slice_index_or l.right s None) (map places_of (drop l.pair-index l.pairs))
