-- Which texts are stimuli, and the first faulty line of one that is none.
use Rattle.std.specs.Prelude.{◌≡◌, ℕ, ◌+◌, ◌<◌, ◌==◌, ◌⊎◌, Bool, List, [], ◌∷◌, ◌++◌, length, map, All, Contains}
use Rattle.std.specs.List.{slice_split}
use Rattle.std.specs.Io.BufRead.{strip_last}
use Rattle.base_tables.specs.Table.{AreDistinct}
use Rattle.witness_report.specs.Text.{header_line, row_text, stimulus_text}

-- a name that a header can hold: some bytes, none of them a blank or a line feed
pub record IsName (name : List ℕ) : Type 0 where
  pub some : 0 < length name
  pub no_blank : Contains name 32 → ⊥
  pub no_line_feed : Contains name 10 → ⊥

-- the names of a header: each stands once
pub record AreNames (names : List (List ℕ)) : Type 0 where
  pub each : All IsName names
  pub distinct : AreDistinct names

-- each row has one bit for each name
abbrev pub AreRows : ℕ → List (List Bool) → Type 0
AreRows count rows = All (λ row. length row ≡ count) rows

-- The text is the form of these names and rows. The last line feed may be left out.
pub record IsForm (text : List ℕ) (names : List (List ℕ)) (rows : List (List Bool)) : Type 0 where
  pub names_are : AreNames names
  pub rows_are : AreRows (length names) rows
  pub spelled : (text ≡ stimulus_text names rows) ⊎ (text ++ 10 ∷ [] ≡ stimulus_text names rows)

-- the lines: what stands between line feeds, where a line feed at the end ends the last of them
abbrev pub lines_of : List ℕ → List (List ℕ)
lines_of text = slice_split (λ b. b == 10) (strip_last 10 text)

-- the first line is no header
abbrev pub HasNoHeader : List ℕ → Type 0
HasNoHeader text = (names : List (List ℕ)) (more : List (List ℕ)) → AreNames names → lines_of text ≡ header_line names ∷ more → ⊥

-- the line is no row of so many bits
abbrev pub IsNoRow : ℕ → List ℕ → Type 0
IsNoRow count line = (row : List Bool) → length row ≡ count → row_text row ≡ line → ⊥

-- The line with this number, counted from 1, is the first faulty one: what stands before it are a header and rows, and it
-- is no row.
pub record IsBadRow (text : List ℕ) (number : ℕ) : Type 0 where
  pub names : List (List ℕ)
  pub rows : List (List Bool)
  pub line : List ℕ
  pub more : List (List ℕ)
  pub lines : lines_of text ≡ header_line names ∷ (map row_text rows ++ line ∷ more)
  pub names_are : AreNames names
  pub rows_are : AreRows (length names) rows
  pub faulty : IsNoRow (length names) line
  pub place : number ≡ length rows + 2
