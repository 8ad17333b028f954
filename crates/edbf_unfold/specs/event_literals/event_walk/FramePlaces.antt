-- Where a frame is looked for.
use Rattle.std.specs.Prelude.{ℕ, ◌+◌, ◌%◌, ◌^◌}
use Rattle.base_tables.specs.unique_table.Places.{mixed}
use Rattle.edbf_unfold.specs.declared.event_literals.event_walk.frames.Frame.{Frame}
use Rattle.edbf_unfold.specs.declared.event_literals.event_walk.frames.Put.{Put}
use Rattle.edbf_unfold.specs.declared.event_literals.event_walk.frames.Put.TheVariants.{Free, Low, High}

-- a number for the latch that is put
abbrev pub put_number : Put → ℕ
put_number Free = 0
put_number (Low u) = mixed 1 u
put_number (High u) = mixed 2 u

-- the place of a step of the search for a frame
abbrev pub frame_place : Frame → ℕ → ℕ
frame_place f step = (mixed f.node (put_number f.put) + step) % 2 ^ 32
