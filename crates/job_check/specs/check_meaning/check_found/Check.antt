-- What a comparison asks for.
use Rattle.std.specs.Prelude.{ℕ, List, [], ◌∷◌, Option, Some, None}
use Rattle.sec_base.specs.declared.settings.Settings.{Settings}

-- the paths of two files that are to be compared, how, and that of the assumption where there is one
pub record Check : Type 0 where
  pub left : List ℕ
  pub right : List ℕ
  pub settings : Settings
  pub assumed : Option (List ℕ)

-- the path of the assumption, where there is one
abbrev pub assumed_paths : Option (List ℕ) → List (List ℕ)
assumed_paths None = []
assumed_paths (Some path) = path ∷ []

-- both paths, and that of the assumption
abbrev pub all_paths : List ℕ → List ℕ → Option (List ℕ) → List (List ℕ)
all_paths left right assumed = left ∷ right ∷ assumed_paths assumed

-- the paths that a comparison reads, in the order of their fetches
abbrev pub check_paths : Check → List (List ℕ)
check_paths check = all_paths check.left check.right check.assumed
