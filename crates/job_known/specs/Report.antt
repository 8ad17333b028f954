-- The report of a replay of what is known.
use Rattle.std.specs.Prelude.{ℕ, Bool, true, false, ◌==◌, ◌&&◌, List, ◌++◌, length, codes, filter, if◌then◌else◌}
use Rattle.std.specs.Fmt.{decimal}
use Rattle.cycle_sim.specs.pair_runs.replay_report.Report.{replay_text}
use Rattle.job_base.specs.declared.finding.Judgement.{Judgement}
use Rattle.job_base.specs.declared.finding.Judgement.TheVariants as judgement
use Rattle.job_known.specs.declared.known_pairs.KnownReplay.{KnownReplay}

-- how many are so
abbrev pub count_of : List Bool → ℕ
count_of bits = length (filter (λ (bit : Bool). bit) bits)

-- how many of the pairs are known in both circuits in some cycle, and in how many of all cycles one is
abbrev pub known_line : KnownReplay → ℕ → List ℕ
known_line r rows =
    codes "known " ++ decimal (count_of r.seen.items) ++ codes " of " ++ decimal (length r.seen.items) ++ codes " in " ++ decimal r.cycles ++ codes " of " ++ decimal rows ++ codes " cycles\n"

-- the differences, and with `settles` also how much was known
abbrev pub known_text : Bool → KnownReplay → ℕ → List ℕ
known_text false r rows = replay_text r.differences
known_text true r rows = replay_text r.differences ++ known_line r rows

-- some pair differs; or none does, and with `settles` none was known
abbrev pub judgement_of : Bool → KnownReplay → Judgement
judgement_of settles r = if length r.differences == 0 then (if settles && (count_of r.seen.items == 0) then judgement.NotShown else judgement.Equal) else judgement.Different
