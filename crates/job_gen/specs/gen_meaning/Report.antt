-- The report of a generated pair.
use Rattle.std.specs.Prelude.{ℕ, List, [], ◌∷◌, ◌++◌, length, codes, if◌then◌else◌}
use Rattle.std.specs.Fmt.{decimal}
use Rattle.flat_net.specs.View.{NetView}
use Rattle.obligations.specs.declared.outcome.verdict.Verdict.{Verdict}
use Rattle.obligations.specs.declared.outcome.verdict.Verdict.TheVariants as verdict
use Rattle.job_gen.specs.declared.gen_meaning.generation.Generation.{Generation}

-- the line of the number
abbrev pub title_text : Generation → List ℕ
title_text g = codes "gen " ++ decimal g.seed ++ (if g.regroup then codes " regroup\n" else codes "\n")

-- a line with one number, or two
abbrev pub count_text : List ℕ → ℕ → List ℕ
count_text front n = front ++ decimal n ++ 10 ∷ []

abbrev pub counts_text : List ℕ → ℕ → ℕ → List ℕ
counts_text front m n = front ++ decimal m ++ 32 ∷ [] ++ decimal n ++ 10 ∷ []

abbrev pub verdict_word : Verdict → List ℕ
verdict_word verdict.Equal = codes "equal"
verdict_word (verdict.Different w) = codes "different"
verdict_word (verdict.DifferentFrom w) = codes "different"
verdict_word (verdict.NotShown reason) = codes "not-shown"
verdict_word (verdict.Limit at) = codes "limit"

-- the lines of the numbers of inputs, outputs, gates and latches
abbrev pub sizes_text : NetView → NetView → List ℕ
sizes_text a b =
    count_text (codes "inputs ") (length a.inputs) ++ count_text (codes "outputs ") (length a.outputs)
    ++ counts_text (codes "gates ") (length a.gates) (length b.gates) ++ counts_text (codes "latches ") (length a.latches) (length b.latches)

-- the whole report
abbrev pub gen_text : Generation → NetView → NetView → Verdict → List ℕ
gen_text g a b v = title_text g ++ sizes_text a b ++ codes "verdict " ++ verdict_word v ++ 10 ∷ []
