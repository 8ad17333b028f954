-- The exposed latches of a cut.
use Rattle.std.proofs.Common.{◌≡◌, ◌<◌, ◌∙◌, ℕ, false, List, length, map, take, slice_get, Some, option_map, sym, ap}
use Rattle.std.specs.List.{All}
use Rattle.std.proofs.lemmas.List.{take-map}
use Rattle.std.proofs.lemmas.Option.{slice_get-get_or, slice_get-map}
use Rattle.base_tables.specs.Table.{is_among, AreDistinct}
use Rattle.base_tables.proofs.TableLemmas.{key_at, not_before}
use Rattle.flat_net.specs.declared.parts.Driver.TheVariants as driver
use Rattle.flat_net.specs.View.{NetView}
use Rattle.flat_net.specs.Sound.{IsSound}
use Rattle.flat_net.specs.Cut.{latch_at, no_latch, exposed_names}
use Rattle.flat_net.proofs.Places.{All-at, one_at}

-- what a function gives at a place
pub map_at : {X Y : Type 0} (f : X → Y) (xs : List X) (i : ℕ) (x : X) → slice_get xs i ≡ Some x → slice_get (map f xs) i ≡ Some (f x)
map_at f xs i x h = slice_get-map f xs i ∙ ap (option_map f) h

same_place : {i j : ℕ} → driver.Latch i ≡ driver.Latch j → i ≡ j
same_place e = cc

module _ (n : NetView) (sound : IsSound n) where
  pub latch_there : (j : ℕ) → j < length n.latches → slice_get n.latches j ≡ Some (latch_at n j)
  latch_there j below = slice_get-get_or n.latches j no_latch below

  -- latches of one name are one
  pub one_latch : (i j : ℕ) (name : List ℕ) → i < length n.latches → j < length n.latches → (latch_at n i).name ≡ name → (latch_at n j).name ≡ name → i ≡ j
  one_latch i j name below_i below_j name_i name_j =
      let first = sound.latches i _ (latch_there i below_i) in
      let second = sound.latches j _ (latch_there j below_j) in
      let out : (latch_at n i).out.0 ≡ (latch_at n j).out.0 = sound.distinct _ _ name (first.named ∙ ap Some name_i) (second.named ∙ ap Some name_j) in
      same_place (one_at n.drivers _ (driver.Latch i) (driver.Latch j) first.owner (ap (slice_get n.drivers) out ∙ second.owner))

  module _ (exposed : List ℕ) (within : All (λ j. j < length n.latches) exposed) (distinct : AreDistinct exposed) where
    -- an exposed latch is in range
    pub exposed_within : (k j : ℕ) → slice_get exposed k ≡ Some j → j < length n.latches
    exposed_within k j here = All-at (λ i. i < length n.latches) exposed k j here within

    -- no name is exposed twice
    pub distinct_names : AreDistinct (exposed_names n exposed)
    distinct_names i j name hi hj =
        let first = key_at (λ k. (latch_at n k).name) exposed i name hi in
        let second = key_at (λ k. (latch_at n k).name) exposed j name hj in
        let one : first.0 ≡ second.0 = one_latch first.0 second.0 name (exposed_within i first.0 first.1) (exposed_within j second.0 second.1) first.2 second.2 in
        distinct i j first.0 first.1 (second.1 ∙ ap Some (sym one))

    -- the next name is new
    pub not_yet : (i : ℕ) (j : ℕ) → slice_get exposed i ≡ Some j → (name : List ℕ) → name ≡ (latch_at n j).name → is_among (exposed_names n (take i exposed)) name ≡ false
    not_yet i j here name is =
        let at : slice_get (exposed_names n exposed) i ≡ Some name = map_at (λ k. (latch_at n k).name) exposed i j here ∙ ap Some (sym is) in
        ap (λ names. is_among names name) (sym (take-map (λ k. (latch_at n k).name) i exposed)) ∙ not_before (exposed_names n exposed) i name distinct_names at
