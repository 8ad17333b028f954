-- Reads that failed.
use Rattle.std.proofs.Common.{ℕ, List, [], ◌∷◌, Option, refl}
use Rattle.std.proofs.lemmas.List.Elements.{All-nil, All-cons}
use Rattle.base_shelves.specs.Outside.{Rose}
use Rattle.job_base.specs.Reading.{ReadFailedAfter}

module _ (GoesOn : Option (List ℕ) → Type 0) (held : List ℕ → Option (List ℕ)) (before now : List ℕ → ℕ) where
  -- the first read failed
  pub first_read_failed : (path : List ℕ) (paths : List (List ℕ)) → Rose (before path) (now path) → ReadFailedAfter GoesOn held before now (path ∷ paths)
  first_read_failed path paths rose = record { fetch = 0; path = path; is_path = refl; rose = rose; reached = All-nil (λ (earlier : List ℕ). GoesOn (held earlier)) }

  -- the first file lets the work go on, and the read behind it failed
  pub second_read_failed : (first path : List ℕ) (paths : List (List ℕ)) → GoesOn (held first) → Rose (before path) (now path) → ReadFailedAfter GoesOn held before now (first ∷ path ∷ paths)
  second_read_failed first path paths on rose =
      let P : List ℕ → Type 0 = λ earlier. GoesOn (held earlier) in
      record { fetch = 1; path = path; is_path = refl; rose = rose; reached = All-cons P first [] on (All-nil P) }
