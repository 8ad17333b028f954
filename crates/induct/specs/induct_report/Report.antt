-- The report of a comparison by blocks of latches, as a function of both nets, the limit of conflicts and what was found.
use Rattle.std.specs.Prelude.{ℕ, suc, ◌-◌, Bool, nat_lt, if◌then◌else◌, List, [], ◌∷◌, ◌++◌, length, slice_index_or, zip, codes}
use Rattle.std.specs.Fmt.{decimal}
use Rattle.std.specs.List.{flat_map}
use Rattle.circuit_theory.specs.declared.Side.{Side}
use Rattle.circuit_theory.specs.declared.Side.TheVariants.{A, B}
use Rattle.circuit_theory.specs.Interface.{shared_inputs}
use Rattle.sec_base.specs.declared.basics.Tag.{Tag}
use Rattle.sec_base.specs.Texts.{digit_of}
use Rattle.flat_net.specs.Cut.{latch_at}
use Rattle.flat_net.specs.View.{NetView, ports_of}
use Rattle.obligations.specs.outcome.Report.{answer_word}
use Rattle.induct.specs.declared.induction.InductPair.{InductPair}
use Rattle.induct.specs.declared.induction.InductVerdict.{InductVerdict}
use Rattle.induct.specs.declared.induction.InductVerdict.TheVariants as verdict
use Rattle.induct.specs.declared.induction.Induction.{Induction}

-- the lines of the counts: shared inputs, A's latches and B's
abbrev pub counts_text : ℕ → ℕ → ℕ → List ℕ
counts_text inputs left right = codes "inputs " ++ decimal inputs ++ codes "\nlatches " ++ decimal left ++ 32 ∷ [] ++ decimal right ++ 10 ∷ []

-- a latch of A or of B, by its name
abbrev pub member_text : NetView → NetView → Tag → List ℕ
member_text a b tag = go tag.side
  where
    go : Side → List ℕ
    go A = codes " A:" ++ (latch_at a tag.latch).name
    go B = codes " B:" ++ (latch_at b tag.latch).name

-- the line of a block
abbrev pub block_line : NetView → NetView → List Tag → List ℕ
block_line a b block = codes "block" ++ flat_map (member_text a b) block ++ 10 ∷ []

-- the line of an output
abbrev pub pair_line : InductPair → List ℕ
pair_line p = codes "pair " ++ p.name ++ 32 ∷ [] ++ answer_word p.answer ++ 10 ∷ []

-- how many blocks there are, and the line of each
abbrev pub blocks_text : NetView → NetView → List (List Tag) → List ℕ
blocks_text a b blocks = codes "blocks " ++ decimal (length blocks) ++ 10 ∷ [] ++ flat_map (block_line a b) blocks

-- a variable: a shared input by its name, or a block by its number, counted from 1, which has the variable one less behind the inputs'
abbrev pub variable_text : List (List ℕ) → ℕ → List ℕ
variable_text inputs v = if nat_lt v (length inputs) then codes "input " ++ slice_index_or inputs v [] else codes "block " ++ decimal (suc (v - length inputs))

-- the line of a variable and its bit
abbrev pub bit_line : List (List ℕ) → ℕ × Bool → List ℕ
bit_line inputs x = variable_text inputs x.0 ++ 32 ∷ [] ++ digit_of x.1 ∷ [] ++ 10 ∷ []

-- the values of an output of A and of B
abbrev pub values_text : Bool → Bool → List ℕ
values_text left right = codes " values " ++ digit_of left ∷ [] ++ 32 ∷ [] ++ digit_of right ∷ [] ++ 10 ∷ []

-- where the limit was met
abbrev pub limit_text : List ℕ → ℕ → List ℕ
limit_text at conflicts = codes "verdict limit " ++ at ++ codes " conflicts " ++ decimal conflicts ++ 10 ∷ []

-- the verdict, with the variables that show it
abbrev pub verdict_text : List (List ℕ) → ℕ → InductVerdict → List ℕ
verdict_text inputs conflicts verdict.Equal = codes "verdict equal" ++ 10 ∷ []
verdict_text inputs conflicts (verdict.NotShown pair left right vars bits) = codes "verdict not-shown " ++ pair ++ values_text left right ++ flat_map (bit_line inputs) (zip vars bits)
verdict_text inputs conflicts (verdict.Limit pair) = limit_text pair conflicts
verdict_text inputs conflicts (verdict.SplitLimit left right proof) = limit_text (codes "blocks") conflicts

-- A limit while blocks were split leaves out the blocks of that moment; there are no outputs then.
abbrev pub listed_text : InductVerdict → List ℕ → List ℕ
listed_text verdict.Equal text = text
listed_text (verdict.NotShown pair left right vars bits) text = text
listed_text (verdict.Limit pair) text = text
listed_text (verdict.SplitLimit left right proof) text = []

-- the whole report
abbrev pub induct_text : NetView → NetView → ℕ → Induction → List ℕ
induct_text a b conflicts made =
    counts_text (length (shared_inputs (ports_of a) (ports_of b))) (length a.latches) (length b.latches) ++ listed_text made.verdict (blocks_text a b made.blocks ++ flat_map pair_line made.pairs)
    ++ verdict_text (shared_inputs (ports_of a) (ports_of b)) conflicts made.verdict
