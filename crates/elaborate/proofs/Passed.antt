-- Loops that look for the first item of which a test holds.
use Rattle.std.proofs.Common.{◌≡◌, ℕ, ◌+◌, ◌<◌, ◌||◌, Bool, true, false, List, get_or, length, drop, refl, sym, ◌∙◌, ap}
use Rattle.std.specs.Prelude.{Option, Some}
use Rattle.std.specs.List.{list_any, find}
use Rattle.std.proofs.lemmas.List.{at_drop_more}

-- none so far, nor at this item
pub passed : {X : Type 0} (p : X → Bool) (whole : Bool) (xs : List X) (i : ℕ) (x : X) → whole ≡ list_any p (drop i xs) → x ≡ get_or xs i x → i < length xs → p x ≡ false → whole ≡ list_any p (drop (i + 1) xs)
passed p whole xs i x before is within fails = before ∙ (at_drop_more (list_any p) xs i x within ∙ ap (λ b. b || list_any p (drop (i + 1) xs)) (ap p (sym is) ∙ fails))

-- one is found
pub met : {X : Type 0} (p : X → Bool) (whole : Bool) (xs : List X) (i : ℕ) (x : X) → whole ≡ list_any p (drop i xs) → x ≡ get_or xs i x → i < length xs → p x ≡ true → true ≡ whole
met p whole xs i x before is within holds = sym (before ∙ (at_drop_more (list_any p) xs i x within ∙ ap (λ b. b || list_any p (drop (i + 1) xs)) (ap p (sym is) ∙ holds)))

-- none found so far, nor at this item
pub not_found : {X : Type 0} (p : X → Bool) (whole : Option X) (xs : List X) (i : ℕ) (x : X) → whole ≡ find p (drop i xs) → x ≡ get_or xs i x → i < length xs → p x ≡ false → whole ≡ find p (drop (i + 1) xs)
not_found p whole xs i x before is within fails =
    let here : p (get_or xs i x) ≡ false = ap p (sym is) ∙ fails in
    before ∙ (at_drop_more (find p) xs i x within ∙ (rw here refl))

-- the first that is found
pub found : {X : Type 0} (p : X → Bool) (whole : Option X) (xs : List X) (i : ℕ) (x : X) → whole ≡ find p (drop i xs) → x ≡ get_or xs i x → i < length xs → p x ≡ true → whole ≡ Some x
found p whole xs i x before is within holds =
    let here : p (get_or xs i x) ≡ true = ap p (sym is) ∙ holds in
    before ∙ (at_drop_more (find p) xs i x within ∙ (rw here (ap Some (sym is))))
