-- What is true where a read of a job's files failed.
use Rattle.std.specs.Prelude.{◌≡◌, ℕ, List, Option, Some, slice_get, take}
use Rattle.std.specs.List.{All}
use Rattle.base_shelves.specs.Outside.{Rose}

-- A read of one of these paths failed, and what is held at each path that is fetched before it lets the work go on.
pub record ReadFailedAfter (GoesOn : Option (List ℕ) → Type 0) (held : List ℕ → Option (List ℕ)) (before now : List ℕ → ℕ) (paths : List (List ℕ)) : Type 0 where
  pub fetch : ℕ
  pub path : List ℕ
  pub is_path : slice_get paths fetch ≡ Some path
  pub rose : Rose (before path) (now path)
  pub reached : All (λ (earlier : List ℕ). GoesOn (held earlier)) (take fetch paths)
