-- What is visited in one cycle weighs no more than the design, also where latches lie on cycles.
use Rattle.std.proofs.Common.{◌≡◌, ℕ, ◌<◌, ◌≤◌, List, Option, None, ap, subst, arith}
use Rattle.std.specs.Prelude.{Bool}
use Rattle.std.specs.List.{Contains, AllPairs, sum_by}
use Rattle.circuit_theory.specs.Circuit.{Circuit, Started}
use Rattle.circuit_theory.specs.Sizes.{WeighsAt}
use Rattle.circuit_theory.proofs.Lists.{Contains-map_from}
use Rattle.blif_read.specs.declared.design.BlifModel.{BlifModel}
use Rattle.blif_read.specs.Design.{circuit_of_design}
use Rattle.flat_net.specs.View.{NetView, circuit_of}
use Rattle.flatten.specs.DesignFaults.{IsClocked, IsFlatOf}
use Rattle.circuit_laws.specs.reset_laws.Weight.{PlaceInCycle, ResetVisits, WeighedInCycle}
use Rattle.circuit_laws.specs.start_laws.Known.{restarted}
use Rattle.reset_form.specs.reset_unfold.Places.{in_cycle, starts_of}
use Rattle.cycle_search.specs.Outputs.{IsOutputUpTo, IsTooLargeIn}
use Rattle.restart.specs.Behind.{begun}
use Rattle.restart.proofs.Begun.{begun_starts, begun_circuit}
use Rattle.job_base.specs.sec_files.Formats.{Blif}
use Rattle.job_base.specs.sec_files.Loading.{Loads}
use Rattle.job_base.proofs.sec_files.Texts.{text_net}
use Rattle.pair_texts.specs.design_rows.Small.{Small}
use Rattle.pair_texts.proofs.design_rows.Spelling.{Spells, net_is_small}
use Rattle.premise_rows.proofs.block_premises.NetWeights.{circuit_weight, cycle_weighs}
use Rattle.premise_rows.proofs.block_premises.ResetBounds.{shifted}

-- distinct places of one cycle weigh no more than this
abbrev pub CycleIsLight : Circuit ℕ → ℕ → Type 0
CycleIsLight c weight =
    (xs : List (WeighedInCycle ℕ)) → AllPairs (λ x y. (x.place ≡ y.place) → (x.cycle ≡ y.cycle) → ⊥) xs →
    ((x : WeighedInCycle ℕ) → Contains xs x → (x.cycle ≡ 0) × WeighsAt c x.place x.weight) → sum_by (λ x. x.weight) xs ≤ weight

-- the net of a text weighs no more than the design
pub text_light : (text : List ℕ) (models : List BlifModel) (s : Small) → Spells text models s → (weight : ℕ) → circuit_weight (circuit_of_design models None) ≡ weight → (net : NetView) → Loads text net → CycleIsLight (circuit_of net) weight
text_light text models s p weight is net l xs apart each =
    let flat : IsFlatOf models net = subst (λ (ms : List BlifModel). IsFlatOf ms net) p.models_are (text_net text net l Blif p.format) in
    let none : net.clock ≡ None = (net_is_small text models s p net l).unclocked in
    let h = cycle_weighs (circuit_of_design models net.clock) net (IsClocked (circuit_of_design models net.clock) net.clock) flat.origin flat.signal flat.sound flat.circuit xs apart each in
    let own : circuit_weight (circuit_of_design models net.clock) ≡ circuit_weight (circuit_of_design models None) = ap (λ (c : Option (List ℕ)). circuit_weight (circuit_of_design models c)) none in
    omega (arith, h, own, is)

-- other initial values count nothing
same_weight : (starts : List (Started ℕ)) (c : Circuit ℕ) {p w : ℕ} → WeighsAt (restarted starts c) p w → WeighsAt c p w
same_weight starts c (WeighsAt.input h) = WeighsAt.input h
same_weight starts c (WeighsAt.latch h) = WeighsAt.latch h
same_weight starts c (WeighsAt.gate h) = WeighsAt.gate h

pub begun_light : (n : NetView) (known : List (Option Bool)) (weight : ℕ) → CycleIsLight (circuit_of n) weight → CycleIsLight (circuit_of (begun n known)) weight
begun_light n known weight light xs apart each =
    light xs apart (λ x h. ((each x h).0, same_weight (begun_starts n known) (circuit_of n) (subst (λ (c : Circuit ℕ). WeighsAt c x.place x.weight) (begun_circuit n known) (each x h).1)))

-- unfoldings from the outputs in cycle 0 stay there
stays : (c : Circuit ℕ) (n : NetView) (sides : List (ℕ × ℕ)) → ((p : ℕ × ℕ) → Contains sides p → IsOutputUpTo n 0 p) → (y : WeighedInCycle ℕ) →
    ((start : PlaceInCycle ℕ) × Contains (starts_of sides) start × ResetVisits c start.place start.cycle y.place y.cycle) → y.cycle ≡ 0
stays c n sides are y (start, among, visits) =
    let p = Contains-map_from in_cycle sides start among in
    let side = are p.0 p.1 in
    let cycle : p.0.0 ≡ start.cycle = ap (λ (z : PlaceInCycle ℕ). z.cycle) p.2 in
    let low = (shifted c start.place start.cycle visits).0 in
    omega (arith, side.0, cycle, low)

pub not_too_large : (n : NetView) (weight : ℕ) → CycleIsLight (circuit_of n) weight → weight ≤ 2000000 → IsTooLargeIn n 0 → ⊥
not_too_large n weight light few (sides, are, over) =
    let sum = light over.places over.distinct (λ y k. (stays (circuit_of n) n sides are y (over.met y k), over.weighed y k)) in
    let big : 2000000 < sum_by (λ (z : WeighedInCycle ℕ). z.weight) over.places = over.total in
    omega (arith, sum, few, big)
