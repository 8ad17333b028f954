-- The error of a fetch.
use Rattle.base_shelves.specs.declared.shelves.ShelfError.{ShelfError}
use Rattle.base_shelves.specs.declared.shelves.ShelfError.TheVariants as shelf_error
use Rattle.base_shelves.specs.declared.whole_file.FetchError.{FetchError}
use Rattle.base_shelves.specs.declared.whole_file.FetchError.TheVariants as fetch_error

-- what a failed read makes of the fetch
abbrev pub fetch_error_of : ShelfError → FetchError
fetch_error_of shelf_error.Failed = fetch_error.Failed
fetch_error_of shelf_error.NoMemory = fetch_error.NoMemory
