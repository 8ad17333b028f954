-- The status of a replay, by how many differences it has.
use Rattle.std.proofs.Common.{◌≡◌, ◌≢◌, List, [], ◌∷◌, length, refl, arith}
use Rattle.cycle_sim.specs.declared.pair_runs.differences.Difference.{Difference}
use Rattle.job_base.specs.declared.status.StatusName.TheVariants as status
use Rattle.job_base.specs.Written.{replay_status}

pub none_status : (differences : List Difference) → length differences ≡ 0 → replay_status differences ≡ status.Equal
none_status [] e = refl
none_status (d ∷ more) e = absurd (omega (arith, e))

pub some_status : (differences : List Difference) → length differences ≢ 0 → replay_status differences ≡ status.Different
some_status [] n = absurd (n refl)
some_status (d ∷ more) n = refl
