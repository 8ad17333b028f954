-- What the enables visit was counted.
use Rattle.std.proofs.Common.{◌≡◌, ◌∙◌, ℕ, ◌+◌, List, [], ◌∷◌, slice_get, Some, refl, sym, subst, arith, inl, inr}
use Rattle.std.specs.Prelude.{◌⊎◌, ◌==◌, if◌then◌else◌, codes}
use Rattle.std.specs.List.{Contains}
use Rattle.std.proofs.lemmas.List.Elements.{All-from_recursion}
use Rattle.std.proofs.lemmas.Option.{none-some}
use Rattle.circuit_theory.specs.EventSizes.{Start}
use Rattle.circuit_theory.specs.EventTotals.{AreStarts}
use Rattle.circuit_theory.specs.Joined.{Either, Left, Right}
use Rattle.circuit_theory.proofs.Lists.{Contains-cases, Contains-head, Contains-tail, only}
use Rattle.circuit_laws.specs.reset_laws.class_extension.Sides.{AreStartsOfBoth, moved_start}
use Rattle.base_tables.specs.Table.{AreDistinct}
use Rattle.event_nodes.specs.Nodes.{GrowsEvents}
use Rattle.event_nodes.specs.Visited.{HasCounted}
use Rattle.event_form.specs.Asked.{IsPairOf}
use Rattle.event_form.specs.event_agreement.pair_events.Counted.{HaveCounted}
use Rattle.event_form.specs.event_agreement.pair_events.View.{IsWithinLimits}
use Rattle.event_form.specs.event_agreement.pair_events.Within.{AreTotalsWithin, IsCountedOnce}
use Rattle.event_form.specs.event_findings.unshown_pairs.class_events.Made.{AreEnablesCounted}
use Rattle.event_form.proofs.event_agreement.pair_events.Within.{is_within}
use Rattle.event_form.proofs.event_findings.unshown_pairs.class_events.Telling.{separated_stay}
use Rattle.call_rows.specs.circuit_samples.event_samples.Samples.{load_cover, load_not_cover, same_cover, not_cover}
use Rattle.call_rows.proofs.circuit_samples.event_samples.Opened.{holds_load, loads_load, holds_not, loads_not}
use Rattle.premise_rows.specs.event_apart_premises.Enables.{enable_start, enable_count, with_enables, EnablesAreCounted}
use Rattle.premise_rows.specs.event_pair_premises.Comparable.{CanBeCompared}
use Rattle.premise_rows.specs.event_pair_premises.Differing.{at_root}
use Rattle.premise_rows.specs.event_pair_premises.Held.{loads_a, loads_not_a, both_held, held_pair}
use Rattle.premise_rows.specs.event_pair_premises.HeldCompared.{with_classes, held_compared, IsToldApart}
use Rattle.premise_rows.proofs.block_premises.TurningNets.{each}
use Rattle.premise_rows.proofs.event_apart_premises.EnableSide as side
use Rattle.premise_rows.proofs.event_pair_premises.Differing.{root_kept}
use Rattle.premise_rows.proofs.event_pair_premises.HeldCompared.{can_be_compared}
use Rattle.premise_rows.proofs.event_pair_premises.HeldPair.{classes, depths, left_depths, right_depths, left_latch, right_latch, load_sound, load_not_sound, same_sound, not_sound, order}
use Rattle.premise_rows.proofs.event_pair_premises.HeldSide as held

left_counted : HasCounted loads_a [] (enable_start ∷ []) enable_count
left_counted = side.has_counted load_cover same_cover (λ p q h. held.reading load_cover same_cover load_sound same_sound refl refl holds_load loads_load h) (held.latch_is load_cover same_cover load_sound same_sound refl refl holds_load loads_load) refl

right_counted : HasCounted loads_not_a [] (enable_start ∷ []) enable_count
right_counted = side.has_counted load_not_cover not_cover (λ p q h. held.reading load_not_cover not_cover load_not_sound not_sound refl refl holds_not loads_not h) (held.latch_is load_not_cover not_cover load_not_sound not_sound refl refl holds_not loads_not) refl

counted : HaveCounted with_enables (enable_start ∷ []) (enable_start ∷ [])
counted = record {
  left_counted = left_counted;
  right_counted = right_counted;
  left_nodes = side.nodes_made load_cover same_cover (λ p q h. held.reading load_cover same_cover load_sound same_sound refl refl holds_load loads_load h) (held.latch_is load_cover same_cover load_sound same_sound refl refl holds_load loads_load) refl;
  right_nodes = side.nodes_made load_not_cover not_cover (λ p q h. held.reading load_not_cover not_cover load_not_sound not_sound refl refl holds_not loads_not h) (held.latch_is load_not_cover not_cover load_not_sound not_sound refl refl holds_not loads_not) refl;
  only = λ k n class h. absurd (none-some (n, class) h);
}

counted_once : AreDistinct enable_count.places
counted_once i j p h k = sym (place i p h) ∙ place j p k
  where
    -- n stands first, and each other signal behind its number
    number_of : ℕ → ℕ
    number_of q = if q == 3 then 0 else q + 1

    place : (i : ℕ) (p : ℕ × ℕ) → slice_get enable_count.places i ≡ Some p → number_of p.1 ≡ i
    place = each (λ i (p : ℕ × ℕ). number_of p.1 ≡ i) enable_count.places (refl, (refl, (refl, (refl, tt))))

once : IsCountedOnce with_enables
once = record { left = counted_once; right = counted_once }

within : IsWithinLimits with_enables
within = record { starts = record { left = enable_start ∷ []; right = enable_start ∷ []; counted = counted }; left = left_counted.weighed; right = right_counted.weighed; nodes = omega arith }

first : CanBeCompared with_enables held_compared
first = record {
  kept = can_be_compared.first.kept;
  events = record { classes = classes; number = refl; depths = depths; left_depths = left_depths; right_depths = right_depths };
  pairs = All-from_recursion (IsPairOf with_enables) (held_pair ∷ []) (record { left = omega arith; right = omega arith }, tt);
  compared = can_be_compared.first.compared;
  within = within;
}

stays : GrowsEvents at_root at_root
stays = record { graph = ([], refl); children = ([], refl); places = ([], refl) }

separated : IsToldApart with_enables
separated = separated_stay with_classes with_enables _ root_kept refl refl refl stays can_be_compared.separated

totals : AreTotalsWithin loads_a loads_not_a (enable_start ∷ []) (enable_start ∷ [])
totals = is_within with_enables (enable_start ∷ []) (enable_start ∷ []) first.kept once within counted

-- the starts of both enables side by side
abbrev left_start : Start (Either ℕ ℕ)
left_start = record { place = Left 3; left_out = Some (Left 2) }

abbrev right_start : Start (Either ℕ ℕ)
right_start = record { place = Right 3; left_out = Some (Right 2) }

abbrev starts : List (Start (Either ℕ ℕ))
starts = left_start ∷ right_start ∷ []

are_starts : AreStarts both_held order [] starts
are_starts = record { enables = starts; each = ((refl, (codes "q", left_latch)), ((refl, (codes "q", right_latch)), tt)); are = refl }

of_both : AreStartsOfBoth starts (enable_start ∷ []) (enable_start ∷ [])
of_both = record {
  left = λ x h. subst (λ (z : Start ℕ). Contains starts (moved_start Left z)) (only enable_start x h) (Contains-head left_start (right_start ∷ []));
  right = λ x h. subst (λ (z : Start ℕ). Contains starts (moved_start Right z)) (only enable_start x h) (Contains-tail left_start right_start (right_start ∷ []) (Contains-head right_start []));
  all = λ y h. from y (Contains-cases left_start y (right_start ∷ []) h);
}
  where
    Moved : Start (Either ℕ ℕ) → Type 0
    Moved y = ((x : Start ℕ) × Contains (enable_start ∷ []) x × (y ≡ moved_start Left x)) ⊎ ((x : Start ℕ) × Contains (enable_start ∷ []) x × (y ≡ moved_start Right x))

    from : (y : Start (Either ℕ ℕ)) → (left_start ≡ y) ⊎ Contains (right_start ∷ []) y → Moved y
    from y (inl same) = inl (enable_start, Contains-head enable_start [], sym same)
    from y (inr h) = inr (enable_start, Contains-head enable_start [], sym (only right_start y h))

all_enables : AreEnablesCounted with_enables
all_enables = record {
  classes = classes;
  few = omega arith;
  within = record {
    starts = starts;
    are = are_starts;
    nodes = totals.few;
    lefts = enable_start ∷ [];
    rights = enable_start ∷ [];
    both = of_both;
    left = totals.left;
    left_is = totals.left_is;
    left_small = totals.left_small;
    right = totals.right;
    right_is = totals.right_is;
    right_small = totals.right_small;
  };
  limits = within;
  starts = starts;
  are = are_starts;
  lefts = enable_start ∷ [];
  rights = enable_start ∷ [];
  both = of_both;
  counted = counted;
}

pub are_counted : EnablesAreCounted
are_counted = record { first = first; separated = separated; once = once; counted = counted; all_enables = all_enables; totals = totals }
