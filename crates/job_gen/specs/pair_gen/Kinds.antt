-- Kinds of gates, and their rows in both circuits of a pair.
use Rattle.std.specs.Prelude.{◌≡◌, ℕ, ◌%◌, ◌==◌, Bool, true, false, not, ◌&&◌, ◌||◌, if◌then◌else◌, List, [], ◌∷◌, codes}
use Rattle.circuit_theory.specs.Cover.{Cover, cover_value}
use Rattle.circuit_theory.specs.declared.Side.{Side}
use Rattle.circuit_theory.specs.declared.Side.TheVariants.{A, B}
use Rattle.job_gen.specs.declared.pair_gen.kinds.Kind.{Kind}
use Rattle.job_gen.specs.declared.pair_gen.kinds.Kind.TheVariants.{And, Or, Xor, AndNot}

-- the kind that a word decides, by its remainder at 4
abbrev pub kind_of : ℕ → Kind
kind_of w = if w % 4 == 0 then And else if w % 4 == 1 then Or else if w % 4 == 2 then Xor else AndNot

-- what a gate of the kind computes of its first and second fan-in
abbrev pub function_of : Kind → Bool → Bool → Bool
function_of And first second = first && second
function_of Or first second = first || second
function_of Xor first second = (first && not second) || (not first && second)
function_of AndNot first second = first && not second

-- rows of two fan-ins that list where the value is 1, and where it is 0
abbrev pub on_set : List (List ℕ) → Cover
on_set rows = record { width = 2; rows = rows; on = true }

abbrev pub off_set : List (List ℕ) → Cover
off_set rows = record { width = 2; rows = rows; on = false }

-- the rows of a kind in a circuit of a pair: A lists where the value is 1, and B where it is 0, but for an exclusive or that isn't regrouped
abbrev pub rows_of : Side → Bool → Kind → Cover
rows_of A regrouped And = on_set (codes "11" ∷ [])
rows_of A regrouped Or = on_set (codes "1-" ∷ codes "-1" ∷ [])
rows_of A regrouped Xor = on_set (codes "10" ∷ codes "01" ∷ [])
rows_of A regrouped AndNot = on_set (codes "10" ∷ [])
rows_of B regrouped And = off_set (codes "0-" ∷ codes "-0" ∷ [])
rows_of B regrouped Or = off_set (codes "00" ∷ [])
rows_of B false Xor = on_set (codes "10" ∷ codes "01" ∷ [])
rows_of B true Xor = off_set (codes "11" ∷ codes "00" ∷ [])
rows_of B regrouped AndNot = off_set (codes "0-" ∷ codes "-1" ∷ [])

-- the rows of each kind, in both circuits, spell the kind's function
abbrev pub RowsSpellFunctions : Type 0
RowsSpellFunctions =
    (circuit : Side) (regrouped : Bool) (kind : Kind) (first second : Bool) →
    cover_value (rows_of circuit regrouped kind) (first ∷ second ∷ []) ≡ function_of kind first second
