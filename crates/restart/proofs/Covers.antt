-- And, or of bits that may be unknown, taken from the left.
use Rattle.std.proofs.Common.{◌≡◌, true, false, Bool, refl, Option, Some, None}
use Rattle.circuit_laws.specs.start_laws.Known.{three_and, three_or}

pub and_assoc : (x y z : Option Bool) → three_and (three_and x y) z ≡ three_and x (three_and y z)
and_assoc (Some true) y z = refl
and_assoc (Some false) y z = refl
and_assoc None (Some true) z = refl
and_assoc None (Some false) (Some true) = refl
and_assoc None (Some false) (Some false) = refl
and_assoc None (Some false) None = refl
and_assoc None None (Some true) = refl
and_assoc None None (Some false) = refl
and_assoc None None None = refl

pub or_assoc : (x y z : Option Bool) → three_or (three_or x y) z ≡ three_or x (three_or y z)
or_assoc (Some true) y z = refl
or_assoc (Some false) y z = refl
or_assoc None (Some false) z = refl
or_assoc None (Some true) (Some true) = refl
or_assoc None (Some true) (Some false) = refl
or_assoc None (Some true) None = refl
or_assoc None None (Some true) = refl
or_assoc None None (Some false) = refl
or_assoc None None None = refl
