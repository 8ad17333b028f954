-- Errors of reads and of fetches, told apart.
use Rattle.std.proofs.Common.{◌≡◌, refl}
use Rattle.std.specs.Prelude.{Result, Ok, Err, IfOk, IsErr, OnOk, OnErr}
use Rattle.base_shelves.specs.declared.shelves.ShelfError.{ShelfError}
use Rattle.base_shelves.specs.declared.shelves.ShelfError.TheVariants as shelf_error
use Rattle.base_shelves.specs.declared.whole_file.FetchError.{FetchError}
use Rattle.base_shelves.specs.declared.whole_file.FetchError.TheVariants as fetch_error
use Rattle.base_shelves.specs.Fetch.{fetch_error_of}

-- what isn't told needs nothing
pub if_ok_none : {T E : Type 0} (P : T → Type 0) (r : Result T E) → IsErr r → IfOk r P
if_ok_none P (Ok v) wrong = absurd (cc)
if_ok_none P (Err e) is = tt

pub on_ok_none : {T E : Type 0} (P : Type 0) (r : Result T E) → IsErr r → OnOk r P
on_ok_none P (Ok v) wrong = absurd (cc)
on_ok_none P (Err e) is = tt

pub on_err_any : {T E : Type 0} (P : Type 0) (r : Result T E) → P → OnErr r P
on_err_any P (Ok v) holds = tt
on_err_any P (Err e) holds = holds

pub shelf_memory_failed : {T : Type 0} → ◌≡◌ {A = Result T ShelfError} (Err shelf_error.NoMemory) (Err shelf_error.Failed) → ⊥
shelf_memory_failed wrong = cc

module _ {T : Type 0} where
  pub too_long_failed : ◌≡◌ {A = Result T FetchError} (Err fetch_error.TooLong) (Err fetch_error.Failed) → ⊥
  too_long_failed wrong = cc

  module _ (r : Result T FetchError) (e : FetchError) where
    -- an error of memory is none of a read
    pub memory_failed : r ≡ Err e → e ≡ fetch_error.NoMemory → r ≡ Err fetch_error.Failed → ⊥
    memory_failed is memory failed = cc

    pub memory_too_long : r ≡ Err e → e ≡ fetch_error.NoMemory → r ≡ Err fetch_error.TooLong → ⊥
    memory_too_long is memory long = cc

  -- a fetch fails where a read does
  pub read_failed : {U : Type 0} (r : Result T FetchError) (e : FetchError) (read : ShelfError) → r ≡ Err e → e ≡ fetch_error_of read → r ≡ Err fetch_error.Failed → ◌≡◌ {A = Result U ShelfError} (Err read) (Err shelf_error.Failed)
  read_failed r e shelf_error.Failed is from failed = refl
  read_failed r e shelf_error.NoMemory is from failed = absurd (memory_failed r e is from failed)

  pub read_too_long : (r : Result T FetchError) (e : FetchError) (read : ShelfError) → r ≡ Err e → e ≡ fetch_error_of read → r ≡ Err fetch_error.TooLong → ⊥
  read_too_long r e shelf_error.Failed is from long = cc
  read_too_long r e shelf_error.NoMemory is from long = memory_too_long r e is from long
