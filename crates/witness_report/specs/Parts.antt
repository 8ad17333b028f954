-- What the parts of the reader say.
use Rattle.std.specs.Prelude.{◌≡◌, ℕ, ◌+◌, Bool, List, ◌∷◌, ◌++◌, length, map}
use Rattle.witness_report.specs.Text.{row_text}
use Rattle.witness_report.specs.Form.{AreRows, IsNoRow}

-- the line with this number is the first of the lines that is no row; the first of them has the number 2
pub record IsBadLine (count : ℕ) (lines : List (List ℕ)) (number : ℕ) : Type 0 where
  pub rows : List (List Bool)
  pub line : List ℕ
  pub more : List (List ℕ)
  pub lines_are : lines ≡ map row_text rows ++ line ∷ more
  pub rows_are : AreRows count rows
  pub faulty : IsNoRow count line
  pub place : number ≡ length rows + 2
