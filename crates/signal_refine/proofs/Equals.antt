-- The bits of equalities.
use Rattle.std.proofs.Common.{◌≡◌, ◌∙◌, Bool, true, false, not, refl, sym}
use Rattle.std.specs.Prelude.{◌&&◌}
use Rattle.signal_refine.specs.Asking.{same_bit}

pub equal_is : (x y : Bool) → (not (x && not y) && not (not x && y)) ≡ same_bit x y
equal_is true true = refl
equal_is true false = refl
equal_is false true = refl
equal_is false false = refl

pub is_same : (x y : Bool) → x ≡ y → same_bit x y ≡ true
is_same true true h = refl
is_same false false h = refl
is_same true false h = cc
is_same false true h = cc

-- where the care holds and it isn't so that it holds while the two differ, they are one
pub same_from : (x y c : Bool) → c ≡ true → (c && not (same_bit x y)) ≡ false → x ≡ y
same_from true true c h k = refl
same_from false false c h k = refl
same_from true false true h k = cc
same_from false true true h k = cc
same_from true false false h k = cc
same_from false true false h k = cc
