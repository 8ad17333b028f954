-- The latch by very many rows weighs too much.
use Rattle.std.proofs.Common.{◌≡◌, ℕ, ◌+◌, ◌*◌, ◌<◌, max, List, [], ◌∷◌, length, slice_get, Option, Some, refl, subst, arith, inl, inr}
use Rattle.std.specs.Prelude.{codes}
use Rattle.std.specs.List.{All, Contains}
use Rattle.std.proofs.lemmas.List.{length-replicate}
use Rattle.std.proofs.lemmas.List.Elements.{All-cons, All-from_recursion, All-replicate}
use Rattle.circuit_theory.specs.Circuit.{Circuit}
use Rattle.circuit_theory.specs.EventSizes.{EventVisits, IsEventOver, Start, WeighedAtNode}
use Rattle.circuit_theory.specs.Sizes.{WeighsAt}
use Rattle.circuit_theory.proofs.Lists.{only}
use Rattle.sec_base.specs.Cover.{IsPlace, IsCube, IsCoverSound}
use Rattle.flat_net.specs.declared.parts.Gate.{Gate as NetGate}
use Rattle.flat_net.specs.declared.parts.Port.{Port}
use Rattle.flat_net.specs.declared.signals.Signal.{Signal}
use Rattle.flat_net.specs.Sound.{Drives, IsInputOf, IsGateOf, IsLatchOf, IsSound}
use Rattle.flat_net.specs.View.{circuit_of}
use Rattle.event_nodes.specs.View.{Enabled, side_of}
use Rattle.edbf_unfold.specs.event_literals.event_walk.Walk.{enable_start}
use Rattle.event_classes.specs.event_functions.class_totals.Laws.{nothing}
use Rattle.event_classes.proofs.event_functions.class_totals.Going.{totals_begin}
use Rattle.event_classes.proofs.event_functions.class_totals.Over.{heavy_is_over}
use Rattle.call_rows.specs.circuit_samples.event_samples.Samples.{same_cover}
use Rattle.call_rows.proofs.circuit_samples.Each.{each_pair}
use Rattle.premise_rows.specs.event_pair_premises.Held.{loads_a}
use Rattle.premise_rows.specs.event_class_premises.Heavy.{load_rows, heavy_cover, heavy, HeavyMeetsPremises}
use Rattle.premise_rows.specs.event_class_premises.Totals.{q_latch}
use Rattle.premise_rows.proofs.block_premises.TurningNets.{each}
use Rattle.premise_rows.proofs.event_pair_premises.HeldPair.{kept}

rows_long : (n : ℕ) → length (load_rows n) ≡ n
unfolding load_rows
rows_long n = length-replicate n (codes "11-")

rows_fit : (n : ℕ) → All (IsCube 3) (load_rows n)
unfolding load_rows
rows_fit n = All-replicate (IsCube 3) n (codes "11-") (refl, All-from_recursion IsPlace (codes "11-") (inr (inl refl), (inr (inl refl), (inr (inr refl), tt))))

cover_sound : IsCoverSound heavy_cover
cover_sound = record {
  cubes = All-cons (IsCube 3) (codes "0-1") (load_rows 500000) (refl, All-from_recursion IsPlace (codes "0-1") (inl refl, (inr (inr refl), (inr (inl refl), tt)))) (rows_fit 500000);
  empty_is_on = λ e. refl;
}

ordered : (i j : ℕ) (g h : NetGate) → i < j → slice_get heavy.net.gates i ≡ Some g → slice_get heavy.net.gates j ≡ Some h → g.out.0 < h.out.0
ordered i j g h less l r =
    let first : g.out.0 ≡ 3 + i = each (λ k (y : NetGate). y.out.0 ≡ 3 + k) heavy.net.gates (refl, (refl, tt)) i g l in
    let second : h.out.0 ≡ 3 + j = each (λ k (y : NetGate). y.out.0 ≡ 3 + k) heavy.net.gates (refl, (refl, tt)) j h r in
    omega (arith, first, second, less)

sound : IsSound heavy.net
sound = record {
  inputs = each (IsInputOf heavy.net) heavy.net.inputs (record { owner = refl; named = refl }, (record { owner = refl; named = refl }, tt));
  gates = each (IsGateOf heavy.net) heavy.net.gates (
    record { owner = refl; above = All-from_recursion (λ (f : Signal). f.0 < 3) (record { 0 = 0 } ∷ record { 0 = 1 } ∷ record { 0 = 2 } ∷ []) (omega arith, (omega arith, (omega arith, tt))); cover = heavy_cover; covered = refl; width = refl },
    (record { owner = refl; above = All-from_recursion (λ (f : Signal). f.0 < 4) (record { 0 = 2 } ∷ []) (omega arith, tt); cover = same_cover; covered = refl; width = refl }, tt),
  );
  ordered = ordered;
  latches = each (IsLatchOf heavy.net) heavy.net.latches (record { owner = refl; named = refl; within = omega arith }, tt);
  drivers = each (Drives heavy.net) heavy.net.drivers ((_, refl, refl), ((_, refl, refl), ((_, refl, refl), ((_, refl, refl), ((_, refl, refl), tt)))));
  outputs = All-from_recursion (λ (port : Port). port.signal.0 < 5) heavy.net.outputs (omega arith, tt);
  covers = All-from_recursion IsCoverSound (heavy_cover ∷ same_cover ∷ []) (cover_sound, (kept.left_sound.covers 1 same_cover (omega arith), tt));
  named = refl;
  distinct = kept.left_sound.distinct;
  few = omega arith;
  few_inputs = omega arith;
  few_gates = omega arith;
  few_latches = omega arith;
  few_covers = omega arith;
}

abbrev c : Circuit ℕ
c = circuit_of heavy.net

-- what the latch takes over, at the root
abbrev next_place : WeighedAtNode ℕ
next_place = record { place = 3; node = []; weight = 1 + max 1 (length heavy_cover.rows) * (3 + 1) }

over : (starts : List (Start ℕ)) → Contains starts (enable_start q_latch) → IsEventOver (side_of heavy) (Enabled heavy) starts 2000000
over starts among = record {
  places = next_place ∷ [];
  distinct = each_pair (λ (y z : WeighedAtNode ℕ). (y.place ≡ z.place) → (y.node ≡ z.node) → ⊥) (next_place ∷ []) (tt, tt);
  weighed = λ y h. subst (λ (z : WeighedAtNode ℕ). WeighsAt c z.place z.weight) (only next_place y h) (WeighsAt.gate {fanins = 0 ∷ 1 ∷ 2 ∷ []} {cover = heavy_cover} (0, omega arith, refl));
  met = λ y h. subst (λ (z : WeighedAtNode ℕ). (out : Option ℕ) × EventVisits (side_of heavy) (Enabled heavy) starts out z.place z.node) (only next_place y h) (Some 2, EventVisits.start among);
  total = let long = rows_long 500000 in omega (arith, long);
}

pub heavy_meets_premises : HeavyMeetsPremises
heavy_meets_premises = record {
  sound = sound;
  other_sound = kept.left_sound;
  at = refl;
  begins = totals_begin heavy loads_a;
  over = λ starts among all. over starts among;
  too_heavy = (heavy_is_over heavy loads_a [] [] 0 q_latch nothing nothing sound kept.left_sound (totals_begin heavy loads_a)).0 refl (λ starts among all. over starts among);
}
