-- Both nets keep what each net keeps, and side by side their inputs have one number each.
use Rattle.std.proofs.Common.{◌≡◌, ◌∙◌, ℕ, ◌<◌, List, [], ◌∷◌, ◌++◌, map, slice_get, Some, refl, sym, ap, subst, arith, inl, inr}
use Rattle.std.specs.Prelude.{◌⊎◌, codes}
use Rattle.std.specs.List.{All, Contains}
use Rattle.std.proofs.lemmas.List.Elements.{All-cons, All-from_recursion, All-nil}
use Rattle.std.proofs.lemmas.Option.{none-some, same_Some, slice_get_within}
use Rattle.circuit_theory.specs.Circuit.{Circuit, Named, IsLatch}
use Rattle.circuit_theory.specs.Joined.{Either}
use Rattle.circuit_theory.specs.Tree.{AreNumbered, StandsBeside}
use Rattle.circuit_theory.proofs.Inputs.{beside_is_input}
use Rattle.circuit_theory.proofs.Lists.{All-from_each, Contains-map_from}
use Rattle.circuit_theory.proofs.Numbers.{at_beside, beside_at}
use Rattle.base_tables.specs.Table.{AreDistinct}
use Rattle.base_tables.proofs.Appended.{distinct-push}
use Rattle.sec_base.specs.Cover.{IsPlace, IsCube, IsCoverSound}
use Rattle.flat_net.specs.declared.parts.Driver.{Driver}
use Rattle.flat_net.specs.declared.parts.Driver.TheVariants as driver
use Rattle.flat_net.specs.declared.parts.Port.{Port}
use Rattle.flat_net.specs.declared.signals.Signal.{Signal}
use Rattle.flat_net.specs.Sound.{Drives, IsInputOf, IsGateOf, IsSound}
use Rattle.flat_net.specs.View.{circuit_of}
use Rattle.event_nodes.specs.View.{IsEventCircuit}
use Rattle.call_rows.proofs.circuit_samples.Each.{each_latch}
use Rattle.premise_rows.specs.event_limit_premises.Chosen.{both_chosen, choice_cover, chooses, choosing, input_port, letter, numbers_from, seventeen, showing, shows}
use Rattle.premise_rows.proofs.block_premises.TurningNets.{each}
use Rattle.premise_rows.proofs.event_limit_premises.Numbers.{at, is_at, letters_distinct, numbers_distinct, of_seventeen}

-- a cube asks of the first two fan-ins alone
dashes : (count : ℕ) → All IsPlace (map (λ k. 45) (numbers_from 0 count))
dashes count = All-from_each IsPlace _ (λ x h. let f = Contains-map_from (λ k. 45) (numbers_from 0 count) x h in inr (inr (sym f.2)))

row_is : (first second : ℕ) → IsPlace first → IsPlace second → IsCube 17 (first ∷ second ∷ map (λ k. 45) (numbers_from 0 15))
row_is first second f s = (refl, All-cons IsPlace first (second ∷ map (λ k. 45) (numbers_from 0 15)) f (All-cons IsPlace second (map (λ k. 45) (numbers_from 0 15)) s (dashes 15)))

choice_sound : IsCoverSound choice_cover
choice_sound = record { cubes = All-from_recursion (IsCube 17) choice_cover.rows (row_is 49 49 (inr (inl refl)) (inr (inl refl)), (row_is 49 48 (inr (inl refl)) (inl refl), tt)); empty_is_on = λ e. refl }

names_distinct : AreDistinct (map letter seventeen ++ codes "y" ∷ [])
names_distinct = distinct-push (map letter seventeen) (codes "y") letters_distinct refl

-- a driver of the first net is an input, or the gate behind them
driven : (s : ℕ) (d : Driver) → slice_get choosing.drivers s ≡ Some d → Drives choosing s d
driven s d h = go (below s (slice_get_within choosing.drivers s d h))
  where
    below : (k : ℕ) → k < 18 → (k < 17) ⊎ (17 ≡ k)
    below k l = grind arith

    go : (s < 17) ⊎ (17 ≡ s) → Drives choosing s d
    go (inl l) = subst (Drives choosing s) (same_Some (driver.Input s) d (sym (at driver.Input (driver.Gate 0 ∷ []) s l) ∙ h)) (input_port s, at input_port [] s l, refl)
    go (inr same) = subst (λ k. Drives choosing k d) same (subst (Drives choosing 17) (same_Some (driver.Gate 0) d (subst (λ k. slice_get choosing.drivers k ≡ Some d) (sym same) h)) (_, refl, refl))

pub choosing_sound : IsSound choosing
choosing_sound = record {
  inputs = λ i port h. let m = is_at input_port i port h in subst (IsInputOf choosing i) m.1 (record { owner = at driver.Input (driver.Gate 0 ∷ []) i m.0; named = at letter (codes "y" ∷ []) i m.0 });
  gates = each (IsGateOf choosing) choosing.gates (record { owner = refl; above = read_below; cover = choice_cover; covered = refl; width = refl }, tt);
  ordered = λ i j g h less l r. absurd (let one : j < 1 = slice_get_within choosing.gates j h r in omega (arith, less, one));
  latches = λ j l h. absurd (none-some l h);
  drivers = driven;
  outputs = All-from_recursion (λ (port : Port). port.signal.0 < 18) choosing.outputs (omega arith, tt);
  covers = All-from_recursion IsCoverSound (choice_cover ∷ []) (choice_sound, tt);
  named = refl;
  distinct = names_distinct;
  few = omega arith;
  few_inputs = omega arith;
  few_gates = omega arith;
  few_latches = omega arith;
  few_covers = omega arith;
}
  where
    signal : ℕ → Signal
    signal k = record { 0 = k }

    read_below : All (λ (f : Signal). f.0 < 17) (map signal seventeen)
    read_below = All-from_each (λ (f : Signal). f.0 < 17) (map signal seventeen) (λ f h. let k = Contains-map_from signal seventeen f h in subst (λ (g : Signal). g.0 < 17) k.2 (of_seventeen k.0 k.1))

pub showing_sound : IsSound showing
showing_sound = record {
  inputs = λ i port h. let m = is_at input_port i port h in subst (IsInputOf showing i) m.1 (record { owner = at driver.Input [] i m.0; named = at letter [] i m.0 });
  gates = λ j g h. absurd (none-some g h);
  ordered = λ i j g h less l r. absurd (none-some g l);
  latches = λ j l h. absurd (none-some l h);
  drivers = λ s d h. let m = is_at driver.Input s d h in subst (Drives showing s) m.1 (input_port s, at input_port [] s m.0, refl);
  outputs = All-from_recursion (λ (port : Port). port.signal.0 < 17) showing.outputs (omega arith, tt);
  covers = All-nil IsCoverSound;
  named = refl;
  distinct = letters_distinct;
  few = omega arith;
  few_inputs = omega arith;
  few_gates = omega arith;
  few_latches = omega arith;
  few_covers = omega arith;
}

pub chooses_kept : IsEventCircuit chooses
chooses_kept = record { marks = record { each = refl; exactly = λ j l bit h k. absurd (none-some l h) }; each_order = refl; order_once = numbers_distinct; each_class = refl }

pub shows_kept : IsEventCircuit shows
shows_kept = record { marks = record { each = refl; exactly = λ j l bit h k. absurd (none-some l h) }; each_order = refl; order_once = numbers_distinct; each_class = refl }

abbrev pub left_circuit : Circuit ℕ
left_circuit = circuit_of choosing

abbrev pub right_circuit : Circuit ℕ
right_circuit = circuit_of showing

-- no latch is there
pub left_none : (name : List ℕ) (u next : ℕ) → IsLatch left_circuit name u next → ⊥
left_none name u next latch = each_latch (λ m v to. ⊥) left_circuit.equations tt name u next latch

pub right_none : (name : List ℕ) (u next : ℕ) → IsLatch right_circuit name u next → ⊥
right_none name u next latch = each_latch (λ m v to. ⊥) right_circuit.equations tt name u next latch

pub both_none : (name : List ℕ) (u next : Either ℕ ℕ) → IsLatch both_chosen.circuit name u next → ⊥
both_none name u next latch = each_latch (λ m v to. ⊥) both_chosen.circuit.equations tt name u next latch

-- each input has its place as its number, in either circuit
abbrev input_at : ℕ → Named ℕ
input_at k = record { name = letter k; place = k }

abbrev inputs : List (Named ℕ)
inputs = map input_at seventeen

pub numbered : (k : ℕ) → k < 17 → StandsBeside inputs seventeen k k
numbered k l = at_beside inputs seventeen k k (input_at k) (at input_at [] k l) (at (λ i. i) [] k l)

pub own_number : (p i : ℕ) → StandsBeside inputs seventeen p i → (p ≡ i) × (i < 17)
own_number p i h =
    let b = beside_at inputs seventeen p i h in
    let n = is_at input_at b.0 b.1 b.2 in
    let m = is_at (λ j. j) b.0 i b.4 in
    (sym b.3 ∙ (sym (ap (λ (x : Named ℕ). x.place) n.1) ∙ m.1), subst (λ j. j < 17) m.1 m.0)

pub shared : AreNumbered left_circuit right_circuit seventeen seventeen
shared = record {
  left_once = λ p q i h k. once p q i h k;
  right_once = λ p q i h k. once p q i h k;
  shared = λ p q i h k. let n = beside_is_input inputs seventeen p i h in (n.0, n.1, subst (λ z. Contains inputs (record { name = n.0; place = z })) (once p q i h k) n.1);
}
  where
    once : (p q i : ℕ) → StandsBeside inputs seventeen p i → StandsBeside inputs seventeen q i → p ≡ q
    once p q i h k = (own_number p i h).0 ∙ sym (own_number q i k).0
