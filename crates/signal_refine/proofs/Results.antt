-- What holds of a result where it is Ok.
use Rattle.std.proofs.Common.{Result, Ok, Err}
use Rattle.std.specs.Prelude.{IfOk, OnOk}

pub ok_map : {A E : Type 0} (P Q : A → Type 0) (r : Result A E) → ((x : A) → P x → Q x) → IfOk r P → IfOk r Q
ok_map P Q (Ok x) f h = f x h
ok_map P Q (Err e) f h = tt

pub on_ok : {A E P : Type 0} (r : Result A E) → P → OnOk r P
on_ok (Ok x) p = p
on_ok (Err e) p = tt
