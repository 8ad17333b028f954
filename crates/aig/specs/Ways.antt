-- Where an and is looked for.
use Rattle.std.specs.Prelude.{ℕ, ◌+◌, ◌-◌, ◌*◌, ◌/◌, ◌%◌, ◌^◌, nat_lt, if◌then◌else◌}
use Rattle.base_tables.specs.unique_table.Places.{mixed}

-- the place of a step of the search for the and of two literals
unfoldable pub and_place : ℕ → ℕ → ℕ → ℕ
and_place l r step = if nat_lt step 8 then ((r - r % 2 + ((l * 0x9E37_79B9) % 2 ^ 32) / 2 ^ 24) % 2 ^ 32 + step) % 2 ^ 32 else mixed (mixed l r) step
