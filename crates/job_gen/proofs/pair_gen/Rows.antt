-- The rows of a kind, by their number, and what they spell.
use Rattle.std.proofs.Common.{◌≡◌, ℕ, Bool, true, false, slice_get, Some, refl}
use Rattle.std.specs.Prelude.{◌&&◌, ◌==◌}
use Rattle.circuit_theory.specs.Cover.{cover_value}
use Rattle.circuit_theory.specs.declared.Side.{Side}
use Rattle.circuit_theory.specs.declared.Side.TheVariants.{A, B}
use Rattle.job_gen.specs.declared.pair_gen.kinds.Kind.{Kind}
use Rattle.job_gen.specs.declared.pair_gen.kinds.Kind.TheVariants.{And, Or, Xor, AndNot}
use Rattle.job_gen.specs.pair_gen.Kinds.{rows_of, RowsSpellFunctions}
use Rattle.job_gen.specs.pair_gen.Twins.{is_regrouped}
use Rattle.job_gen.specs.pair_gen.Sketch.{cover_number, covers_of}

pub rows_spell : RowsSpellFunctions
unfolding cover_value
rows_spell A r And true true = refl
rows_spell A r And true false = refl
rows_spell A r And false true = refl
rows_spell A r And false false = refl
rows_spell A r Or true true = refl
rows_spell A r Or true false = refl
rows_spell A r Or false true = refl
rows_spell A r Or false false = refl
rows_spell A r Xor true true = refl
rows_spell A r Xor true false = refl
rows_spell A r Xor false true = refl
rows_spell A r Xor false false = refl
rows_spell A r AndNot true true = refl
rows_spell A r AndNot true false = refl
rows_spell A r AndNot false true = refl
rows_spell A r AndNot false false = refl
rows_spell B r And true true = refl
rows_spell B r And true false = refl
rows_spell B r And false true = refl
rows_spell B r And false false = refl
rows_spell B r Or true true = refl
rows_spell B r Or true false = refl
rows_spell B r Or false true = refl
rows_spell B r Or false false = refl
rows_spell B false Xor true true = refl
rows_spell B false Xor true false = refl
rows_spell B false Xor false true = refl
rows_spell B false Xor false false = refl
rows_spell B true Xor true true = refl
rows_spell B true Xor true false = refl
rows_spell B true Xor false true = refl
rows_spell B true Xor false false = refl
rows_spell B r AndNot true true = refl
rows_spell B r AndNot true false = refl
rows_spell B r AndNot false true = refl
rows_spell B r AndNot false false = refl

-- rows have two places
pub rows_width : (circuit : Side) (r : Bool) (kind : Kind) → (rows_of circuit r kind).width ≡ 2
rows_width A r And = refl
rows_width A r Or = refl
rows_width A r Xor = refl
rows_width A r AndNot = refl
rows_width B r And = refl
rows_width B r Or = refl
rows_width B false Xor = refl
rows_width B true Xor = refl
rows_width B r AndNot = refl

rows_plain : (circuit : Side) (regroup : Bool) (kind : Kind) → slice_get (covers_of circuit regroup) (cover_number false kind) ≡ Some (rows_of circuit false kind)
rows_plain circuit regroup And = refl
rows_plain circuit regroup Or = refl
rows_plain circuit regroup Xor = refl
rows_plain circuit regroup AndNot = refl

rows_regrouped : (circuit : Side) (kind : Kind) → slice_get (covers_of circuit true) (cover_number true kind) ≡ Some (rows_of circuit true kind)
rows_regrouped A And = refl
rows_regrouped A Or = refl
rows_regrouped A Xor = refl
rows_regrouped A AndNot = refl
rows_regrouped B And = refl
rows_regrouped B Or = refl
rows_regrouped B Xor = refl
rows_regrouped B AndNot = refl

-- the rows of a kind stand at its number
pub rows_at : (circuit : Side) (regroup : Bool) (s l : ℕ) (kind : Kind) →
    slice_get (covers_of circuit regroup) (cover_number (is_regrouped regroup s l) kind) ≡ Some (rows_of circuit (is_regrouped regroup s l) kind)
rows_at circuit false s l kind = rows_plain circuit false kind
rows_at circuit true s l kind = by ((s == 0) && (l == 0))
  where
    by : (b : Bool) → slice_get (covers_of circuit true) (cover_number b kind) ≡ Some (rows_of circuit b kind)
    by true = rows_regrouped circuit kind
    by false = rows_plain circuit true kind
