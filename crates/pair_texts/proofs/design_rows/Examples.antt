-- The small designs pass the computed tests.
use Rattle.std.proofs.Common.{◌≡◌, ℕ, true, List, [], ◌∷◌, refl}
use Rattle.std.specs.Fmt.{digits}
use Rattle.std.specs.Prelude.{codes, if◌then◌else◌}
use Rattle.circuit_theory.specs.Agree.{cut}
use Rattle.circuit_theory.specs.Names.{is_among}
use Rattle.circuit_theory.specs.Sizes.{Weighed}
use Rattle.blif_read.specs.Design.{Inside, Place, place_at, top, walk, circuit_of_design}
use Rattle.pair_texts.specs.design_rows.NoFault.{rank_in, has_no_fault}
use Rattle.pair_texts.proofs.design_rows.NoFaults.{tested_is_sound}
use Rattle.pair_texts.specs.design_rows.Designs.{on_and, off_and, late, early, two, idle, ring, hier}
use Rattle.pair_texts.specs.design_rows.Small.{small_and, OnAndIsSmall, OffAndIsSmall, small_late, LateIsSmall, small_early, EarlyIsSmall, HierIsSmall, small_two, TwoIsSmall, small_idle, IdleIsSmall, small_ring, RingIsSmall}
use Rattle.pair_texts.proofs.design_rows.Tested.{PassesTests, tested_is_small}

-- a place of the main model so many cycles ago, and what it counts
abbrev pub at_top : List ℕ → ℕ → ℕ → Weighed Place
at_top name shift weight = record { place = top name; shift = shift; weight = weight }

-- all places have one rank
abbrev pub flat_rank : Place → ℕ
flat_rank p = 0

-- places by their names; those that aren't among them have rank 0
abbrev pub rank_of : List (List ℕ) → Place → ℕ
rank_of order p = rank_in order p.name

abbrev pub and_spots : ℕ → List (Weighed Place)
and_spots weight = at_top (codes "y") 0 weight ∷ at_top (codes "a") 0 1 ∷ at_top (codes "b") 0 1 ∷ []

on_passes : PassesTests on_and small_and flat_rank (and_spots 4)
unfolding circuit_of_design walk cut
on_passes = record { no_clock = refl; inputs = refl; outputs = refl; latches = refl; ranked = refl; closed = refl; weight = refl }

on_sound : has_no_fault (codes "y" ∷ []) on_and ≡ true
unfolding walk
on_sound = refl

pub on_and_is_small : OnAndIsSmall
on_and_is_small = (tested_is_sound (codes "y" ∷ []) on_and on_sound, tested_is_small on_and small_and flat_rank (and_spots 4) on_passes)

off_passes : PassesTests off_and (record small_and { weight = 9 }) flat_rank (and_spots 7)
unfolding circuit_of_design walk cut
off_passes = record { no_clock = refl; inputs = refl; outputs = refl; latches = refl; ranked = refl; closed = refl; weight = refl }

off_sound : has_no_fault (codes "y" ∷ []) off_and ≡ true
unfolding walk
off_sound = refl

pub off_and_is_small : OffAndIsSmall
off_and_is_small = (tested_is_sound (codes "y" ∷ []) off_and off_sound, tested_is_small off_and (record small_and { weight = 9 }) flat_rank (and_spots 7) off_passes)

-- the latch now, all else a cycle ago
abbrev late_spots : List (Weighed Place)
late_spots = at_top (codes "y") 0 1 ∷ at_top (codes "n") 1 4 ∷ at_top (codes "a") 1 1 ∷ at_top (codes "b") 1 1 ∷ []

late_passes : PassesTests late small_late (rank_of (codes "y" ∷ [])) late_spots
unfolding circuit_of_design walk cut
late_passes = record { no_clock = refl; inputs = refl; outputs = refl; latches = refl; ranked = refl; closed = refl; weight = refl }

late_sound : has_no_fault (codes "n" ∷ []) late ≡ true
unfolding walk
late_sound = refl

pub late_is_small : LateIsSmall
late_is_small = (tested_is_sound (codes "n" ∷ []) late late_sound, tested_is_small late small_late (rank_of (codes "y" ∷ [])) late_spots late_passes)

-- gate and latches now, the inputs a cycle ago
abbrev early_spots : List (Weighed Place)
early_spots = at_top (codes "y") 0 4 ∷ at_top (codes "p") 0 1 ∷ at_top (codes "q") 0 1 ∷ at_top (codes "a") 1 1 ∷ at_top (codes "b") 1 1 ∷ []

-- latches and gate behind the inputs
abbrev early_rank : Place → ℕ
early_rank p = if is_among (codes "a" ∷ codes "b" ∷ []) p.name then 0 else 1

early_passes : PassesTests early small_early (early_rank) early_spots
unfolding circuit_of_design walk cut
early_passes = record { no_clock = refl; inputs = refl; outputs = refl; latches = refl; ranked = refl; closed = refl; weight = refl }

early_sound : has_no_fault (codes "y" ∷ []) early ≡ true
unfolding walk
early_sound = refl

pub early_is_small : EarlyIsSmall
early_is_small = (tested_is_sound (codes "y" ∷ []) early early_sound, tested_is_small early small_early (early_rank) early_spots early_passes)

abbrev inner : List Inside
inner = record { model = codes "g"; instance = 0 } ∷ []

-- the latch now, all else a cycle ago; what a port drives counts nothing
abbrev hier_spots : List (Weighed Place)
hier_spots =
    at_top (codes "y") 0 1 ∷ at_top (codes "n") 1 0 ∷ record { place = place_at inner (codes "w"); shift = 1; weight = 4 } ∷ record { place = place_at inner (codes "u"); shift = 1; weight = 0 }
    ∷ record { place = place_at inner (codes "v"); shift = 1; weight = 0 } ∷ at_top (codes "a") 1 1 ∷ at_top (codes "b") 1 1 ∷ []

hier_passes : PassesTests hier small_late (rank_of (codes "y" ∷ [])) hier_spots
unfolding circuit_of_design walk cut
hier_passes = record { no_clock = refl; inputs = refl; outputs = refl; latches = refl; ranked = refl; closed = refl; weight = refl }

abbrev hier_order : List (List ℕ)
hier_order = codes "g#0#u" ∷ codes "g#0#v" ∷ codes "g#0#w" ∷ codes "n" ∷ []

hier_sound : has_no_fault hier_order hier ≡ true
unfolding walk digits
hier_sound = refl

pub hier_is_small : HierIsSmall
hier_is_small = (tested_is_sound hier_order hier hier_sound, tested_is_small hier small_late (rank_of (codes "y" ∷ [])) hier_spots hier_passes)

-- the latches now and a cycle ago, the input two cycles ago
abbrev two_spots : List (Weighed Place)
two_spots = at_top (codes "y") 0 1 ∷ at_top (codes "p") 1 1 ∷ at_top (codes "a") 2 1 ∷ []

two_passes : PassesTests two small_two (rank_of (codes "p" ∷ codes "y" ∷ [])) two_spots
unfolding circuit_of_design walk cut
two_passes = record { no_clock = refl; inputs = refl; outputs = refl; latches = refl; ranked = refl; closed = refl; weight = refl }

two_sound : has_no_fault [] two ≡ true
unfolding walk
two_sound = refl

pub two_is_small : TwoIsSmall
two_is_small = (tested_is_sound [] two two_sound, tested_is_small two small_two (rank_of (codes "p" ∷ codes "y" ∷ [])) two_spots two_passes)

-- the output and the input; nothing is read of the latch
abbrev idle_spots : List (Weighed Place)
idle_spots = at_top (codes "y") 0 3 ∷ at_top (codes "a") 0 1 ∷ []

idle_passes : PassesTests idle small_idle (rank_of (codes "q" ∷ [])) idle_spots
unfolding circuit_of_design walk cut
idle_passes = record { no_clock = refl; inputs = refl; outputs = refl; latches = refl; ranked = refl; closed = refl; weight = refl }

idle_sound : has_no_fault (codes "y" ∷ []) idle ≡ true
unfolding walk
idle_sound = refl

pub idle_is_small : IdleIsSmall
idle_is_small = (tested_is_sound (codes "y" ∷ []) idle idle_sound, tested_is_small idle small_idle (rank_of (codes "q" ∷ [])) idle_spots idle_passes)

-- with the first latch cut open: it is an input now and a cycle ago, and the other a latch
abbrev first_spots : List (Weighed Place)
first_spots = at_top (codes "y") 0 3 ∷ at_top (codes "p") 0 1 ∷ at_top (codes "q") 0 1 ∷ at_top (codes "p") 1 1 ∷ []

first_passes : PassesTests ring (small_ring (codes "p") 6) (rank_of (codes "q" ∷ [])) first_spots
unfolding circuit_of_design walk cut
first_passes = record { no_clock = refl; inputs = refl; outputs = refl; latches = refl; ranked = refl; closed = refl; weight = refl }

-- with the second cut open
abbrev second_spots : List (Weighed Place)
second_spots = at_top (codes "y") 0 3 ∷ at_top (codes "p") 0 1 ∷ at_top (codes "q") 1 1 ∷ []

-- all else behind the second latch
abbrev second_rank : Place → ℕ
second_rank p = if is_among (codes "q" ∷ []) p.name then 0 else 1

second_passes : PassesTests ring (small_ring (codes "q") 5) second_rank second_spots
unfolding circuit_of_design walk cut
second_passes = record { no_clock = refl; inputs = refl; outputs = refl; latches = refl; ranked = refl; closed = refl; weight = refl }

ring_sound : has_no_fault (codes "y" ∷ []) ring ≡ true
unfolding walk
ring_sound = refl

pub ring_is_small : RingIsSmall
ring_is_small = (
  (tested_is_sound (codes "y" ∷ []) ring ring_sound, tested_is_small ring (small_ring (codes "p") 6) (rank_of (codes "q" ∷ [])) first_spots first_passes),
  (tested_is_sound (codes "y" ∷ []) ring ring_sound, tested_is_small ring (small_ring (codes "q") 5) second_rank second_spots second_passes),
)
