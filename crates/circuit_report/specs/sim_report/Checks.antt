-- When a stimulus and a power word fit a circuit.
use Rattle.std.specs.Prelude.{ℕ, ◌==◌, ◌&&◌, ◌||◌, Bool, true, false, if◌then◌else◌, List, map, length, replicate, Option, Some, None}
use Rattle.std.specs.List.{list_all}
use Rattle.circuit_theory.specs.Interface.{first_missing, ◌or_else◌}
use Rattle.flat_net.specs.View.{NetView}
use Rattle.sec_setup.specs.ports.name_tables.Names.{input_names}
use Rattle.cycle_sim.specs.Runs.{reset_bits}
use Rattle.circuit_report.specs.declared.sim_report.refusal.Misfit.{Misfit}
use Rattle.circuit_report.specs.declared.sim_report.refusal.Misfit.TheVariants as misfit

-- each digit is `0` or `1`, and there is one for each latch
abbrev pub is_power_word : NetView → List ℕ → Bool
is_power_word n word = (length word == length n.latches) && list_all (λ digit. (digit == 48) || (digit == 49)) word

-- the same of a word that there may be
abbrev pub is_power : NetView → Option (List ℕ) → Bool
is_power n None = true
is_power n (Some word) = is_power_word n word

-- the latches' bits of the word, or 0
abbrev pub word_bits : NetView → Option (List ℕ) → List Bool
word_bits n None = replicate (length n.latches) false
word_bits n (Some word) = map (λ digit. digit == 49) word

-- the latches' bits in cycle 0 from these: with `reset` a latch has its initial value 0 or 1, if it has one
abbrev pub start_bits : NetView → Bool → List Bool → List Bool
start_bits n true bits = reset_bits n.latches bits
start_bits n false bits = bits

-- the latches' bits in cycle 0: those of the word, or 0; with `reset` an initial value 0 or 1 goes before them
abbrev pub power_of : NetView → Option (List ℕ) → Bool → List Bool
power_of n power reset = start_bits n reset (word_bits n power)

-- a misfit by its name, if there is one
abbrev pub named_misfit : (List ℕ → Misfit) → Option (List ℕ) → Option Misfit
named_misfit kind None = None
named_misfit kind (Some name) = Some (kind name)

-- The first that doesn't fit: a name of the header that is no input, an input that the header lacks, the power word.
abbrev pub first_misfit : NetView → List (List ℕ) → Option (List ℕ) → Option Misfit
first_misfit n names power =
    named_misfit misfit.Unknown (first_missing names (input_names n))
    or_else named_misfit misfit.Missing (first_missing (input_names n) names)
    or_else (if is_power n power then None else Some misfit.Power)
