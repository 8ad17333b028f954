-- The report of a replay, and that of what is settled in it.
use Rattle.std.specs.Prelude.{ℕ, ◌-◌, min, fold, Bool, ◌==◌, List, [], ◌∷◌, ◌++◌, length, Option, Some, None, codes, if◌then◌else◌}
use Rattle.std.specs.Fmt.{decimal}
use Rattle.std.specs.List.{flat_map, filter_map}
use Rattle.sec_base.specs.Texts.{digit_of}
use Rattle.witness_report.specs.declared.witness.PairName.{PairName}
use Rattle.witness_report.specs.declared.witness.PairName.TheVariants as pair
use Rattle.cycle_sim.specs.declared.pair_runs.differences.Difference.{Difference}
use Rattle.cycle_sim.specs.declared.pair_runs.differences.Replayed.{Replayed}
use Rattle.cycle_sim.specs.declared.pair_runs.differences.Settling.{Settling}

-- a pair by its name
abbrev pub pair_text : PairName → List ℕ
pair_text (pair.Output name) = codes "pair " ++ name
pair_text (pair.Next name) = codes "next " ++ name

-- the values in both circuits
unfoldable pub values_text : Bool → Bool → List ℕ
values_text left right = codes " values " ++ digit_of left ∷ [] ++ 32 ∷ [] ++ digit_of right ∷ [] ++ 10 ∷ []

-- the line of a difference: its cycle, its pair, and the values in both circuits
abbrev pub difference_line : Difference → List ℕ
difference_line d = codes "cycle " ++ decimal d.cycle ++ 32 ∷ [] ++ pair_text d.pair ++ values_text d.left d.right

-- the last line: whether there are differences, and how many
abbrev pub end_line : ℕ → List ℕ
end_line count = if count == 0 then codes "replay same\n" else codes "replay different " ++ decimal count ++ 10 ∷ []

-- the whole report
abbrev pub replay_text : List Difference → List ℕ
replay_text differences = flat_map difference_line differences ++ end_line (length differences)

-- since when a pair is settled in both circuits
abbrev pub since_text : Option ℕ → List ℕ
since_text None = codes " not yet\n"
since_text (Some first) = codes " settled " ++ decimal first ++ 10 ∷ []

-- the line of a pair: its name, and since when it is settled in both circuits
abbrev pub settling_line : Settling → List ℕ
settling_line s = pair_text s.pair ++ since_text s.first

-- how many of the pairs are settled in both circuits in some cycle
abbrev pub settled_count : List Settling → ℕ
settled_count settlings = length (filter_map (λ (s : Settling). s.first) settlings)

-- the earlier of a cycle and another, if there is one
abbrev pub earlier_of : ℕ → Option ℕ → ℕ
earlier_of t None = t
earlier_of t (Some first) = min first t

-- the first of so many cycles in which one of the pairs is settled in both circuits; their number, where there is none
abbrev pub first_settled : ℕ → List Settling → ℕ
first_settled cycles settlings = fold (λ t (s : Settling). earlier_of t s.first) cycles settlings

-- How many of the pairs are settled in both circuits, and in how many of so many cycles at least one is: from the first on in all, since
-- what is settled stays so.
abbrev pub settled_line : ℕ → List Settling → List ℕ
settled_line cycles settlings =
    codes "settled " ++ decimal (settled_count settlings) ++ codes " of " ++ decimal (length settlings) ++ codes " in " ++ decimal (cycles - first_settled cycles settlings) ++ codes " of " ++ decimal cycles
    ++ codes " cycles\n"

-- the whole report of a replay that tells what is settled, too
abbrev pub settled_replay_text : ℕ → Replayed → List ℕ
settled_replay_text cycles r = replay_text r.differences ++ settled_line cycles r.settlings

-- the whole report of what is settled
abbrev pub settle_text : ℕ → List Settling → List ℕ
settle_text cycles settlings = flat_map settling_line settlings ++ settled_line cycles settlings
