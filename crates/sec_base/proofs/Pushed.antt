-- A cover with one row more.
use Rattle.std.proofs.Common.{◌≡◌, ℕ, Bool, List, [], ◌∷◌, ◌++◌, length, sym, ap, subst, arith}
use Rattle.std.specs.Prelude.{Result, Ok, Err, OnOk, OnErr}
use Rattle.std.proofs.lemmas.List.{length_push}
use Rattle.std.proofs.lemmas.List.Elements.{All-push}
use Rattle.sec_base.specs.Cover.{IsCube, IsCoverSound}

pub cover-push : {V E : Type 0} (r : Result V E) (width : ℕ) (rows new : List (List ℕ)) (on : Bool) (row : List ℕ) → OnOk r (new ≡ rows ++ row ∷ []) → OnErr r (new ≡ rows) → IsCube width row
    → IsCoverSound (record { width = width; rows = rows; on = on }) → IsCoverSound (record { width = width; rows = new; on = on })
cover-push (Err e) width rows new on row longer same cube sound = subst (λ (rs : List (List ℕ)). IsCoverSound (record { width = width; rows = rs; on = on })) (sym same) sound
cover-push (Ok v) width rows new on row longer same cube sound = subst (λ (rs : List (List ℕ)). IsCoverSound (record { width = width; rows = rs; on = on })) (sym longer) (record {
  cubes = All-push (IsCube width) rows row sound.cubes cube;
  empty_is_on = λ none. let long : length (rows ++ row ∷ []) ≡ 0 = ap length none in absurd (omega (arith, long, length_push rows row));
})
