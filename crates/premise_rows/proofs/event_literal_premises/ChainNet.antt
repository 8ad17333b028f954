-- The circuit with two latches keeps what each net keeps, whatever q loads and g makes of it.
use Rattle.std.proofs.Common.{◌≡◌, ℕ, ◌+◌, ◌<◌, [], ◌∷◌, slice_get, Some, refl, arith}
use Rattle.std.specs.Prelude.{codes}
use Rattle.std.proofs.lemmas.List.Elements.{All-from_recursion}
use Rattle.circuit_theory.specs.Cover.{Cover}
use Rattle.base_tables.specs.Table.{AreDistinct}
use Rattle.base_tables.proofs.Appended.{distinct-push}
use Rattle.sec_base.specs.Cover.{IsCoverSound}
use Rattle.flat_net.specs.declared.parts.Gate.{Gate as NetGate}
use Rattle.flat_net.specs.declared.parts.Port.{Port}
use Rattle.flat_net.specs.declared.signals.Signal.{Signal}
use Rattle.flat_net.specs.Sound.{Drives, IsInputOf, IsGateOf, IsLatchOf, IsSound}
use Rattle.flat_net.specs.View.{NetView}
use Rattle.call_rows.specs.circuit_samples.event_samples.Samples.{load_cover}
use Rattle.premise_rows.specs.event_literal_premises.Chained.{chain}
use Rattle.premise_rows.proofs.block_premises.TurningNets.{each, one_name}
use Rattle.premise_rows.proofs.event_pair_premises.HeldPair.{load_sound as held_sound}

four_distinct : AreDistinct (codes "e" ∷ codes "a" ∷ codes "q" ∷ codes "p" ∷ [])
four_distinct = distinct-push (codes "e" ∷ codes "a" ∷ codes "q" ∷ []) (codes "p") (distinct-push (codes "e" ∷ codes "a" ∷ []) (codes "q") (distinct-push (codes "e" ∷ []) (codes "a") (one_name (codes "e")) refl) refl) refl

names_distinct : AreDistinct (codes "e" ∷ codes "a" ∷ codes "q" ∷ codes "p" ∷ codes "n" ∷ codes "g" ∷ codes "m" ∷ [])
names_distinct =
    distinct-push (codes "e" ∷ codes "a" ∷ codes "q" ∷ codes "p" ∷ codes "n" ∷ codes "g" ∷ []) (codes "m")
    (distinct-push (codes "e" ∷ codes "a" ∷ codes "q" ∷ codes "p" ∷ codes "n" ∷ []) (codes "g") (distinct-push (codes "e" ∷ codes "a" ∷ codes "q" ∷ codes "p" ∷ []) (codes "n") four_distinct refl) refl) refl

module _ (load out : Cover) (load_sound : IsCoverSound load) (out_sound : IsCoverSound out) (load_wide : load.width ≡ 3) (out_wide : out.width ≡ 1) where
  abbrev n : NetView
  n = chain load out

  ordered : (i j : ℕ) (g h : NetGate) → i < j → slice_get n.gates i ≡ Some g → slice_get n.gates j ≡ Some h → g.out.0 < h.out.0
  ordered i j g h less l r =
      let first : g.out.0 ≡ 4 + i = each (λ k (x : NetGate). x.out.0 ≡ 4 + k) n.gates (refl, (refl, (refl, tt))) i g l in
      let second : h.out.0 ≡ 4 + j = each (λ k (x : NetGate). x.out.0 ≡ 4 + k) n.gates (refl, (refl, (refl, tt))) j h r in
      omega (arith, first, second, less)

  pub sound : IsSound n
  sound = record {
    inputs = each (IsInputOf n) n.inputs (record { owner = refl; named = refl }, (record { owner = refl; named = refl }, tt));
    gates = each (IsGateOf n) n.gates (
      record { owner = refl; above = All-from_recursion (λ (f : Signal). f.0 < 4) (record { 0 = 0 } ∷ record { 0 = 1 } ∷ record { 0 = 2 } ∷ []) (omega arith, (omega arith, (omega arith, tt))); cover = load; covered = refl; width = load_wide },
      (
        record { owner = refl; above = All-from_recursion (λ (f : Signal). f.0 < 5) (record { 0 = 2 } ∷ []) (omega arith, tt); cover = out; covered = refl; width = out_wide },
        (
          record { owner = refl; above = All-from_recursion (λ (f : Signal). f.0 < 6) (record { 0 = 5 } ∷ record { 0 = 1 } ∷ record { 0 = 3 } ∷ []) (omega arith, (omega arith, (omega arith, tt))); cover = load_cover; covered = refl; width = refl },
          tt,
        ),
      ),
    );
    ordered = ordered;
    latches = each (IsLatchOf n) n.latches (record { owner = refl; named = refl; within = omega arith }, (record { owner = refl; named = refl; within = omega arith }, tt));
    drivers = each (Drives n) n.drivers ((_, refl, refl), ((_, refl, refl), ((_, refl, refl), ((_, refl, refl), ((_, refl, refl), ((_, refl, refl), ((_, refl, refl), tt)))))));
    outputs = All-from_recursion (λ (port : Port). port.signal.0 < 7) n.outputs (omega arith, tt);
    covers = All-from_recursion IsCoverSound (load ∷ out ∷ load_cover ∷ []) (load_sound, (out_sound, (held_sound, tt)));
    named = refl;
    distinct = names_distinct;
    few = omega arith;
    few_inputs = omega arith;
    few_gates = omega arith;
    few_latches = omega arith;
    few_covers = omega arith;
  }
