-- What comparing the pair behind enabled latches asks for is met.
use Rattle.std.proofs.Common.{◌≡◌, ℕ, ◌<◌, false, List, [], ◌∷◌, refl, subst, arith, inl, inr}
use Rattle.std.specs.Prelude.{◌⊎◌, codes}
use Rattle.std.specs.List.{Contains}
use Rattle.std.proofs.lemmas.List.Elements.{All-from_recursion}
use Rattle.std.proofs.lemmas.Option.{none-some}
use Rattle.circuit_theory.specs.EventFrames.{AreNodeVariables, IsClassTree, IsEnableTree, IsSeparationFromAlways, frame_of}
use Rattle.circuit_theory.specs.Frame.{NodeBefore}
use Rattle.circuit_theory.specs.Joined.{Left, Right}
use Rattle.circuit_theory.specs.Query.{HasLeaf, HasLeafIn, Variable}
use Rattle.circuit_theory.specs.Tree.{Tree}
use Rattle.circuit_laws.proofs.JoinedParts.{joined_same}
use Rattle.circuit_theory.proofs.Lists.{Contains-head, Contains-tail}
use Rattle.base_tables.proofs.Appended.{distinct-push}
use Rattle.sec_base.specs.declared.basics.PairAnswer.TheVariants as answer
use Rattle.sec_setup.specs.declared.ports.pairs.SignalPair.{SignalPair}
use Rattle.flat_net.specs.View.{circuit_of}
use Rattle.event_nodes.specs.Nodes.{GrowsEvents}
use Rattle.obligations.specs.declared.outcome.verdict.PairResult.{PairResult}
use Rattle.event_form.proofs.event_findings.unshown_pairs.class_events.Begin.{begins}
use Rattle.event_form.specs.Asked.{IsPairOf}
use Rattle.event_form.specs.event_agreement.pair_events.View.{IsEvents, IsWithinLimits}
use Rattle.event_form.specs.event_findings.Compared.{AreCompared}
use Rattle.event_form.specs.event_findings.event_witness.Sequences.{HasInputsBelow}
use Rattle.event_form.proofs.event_findings.unshown_pairs.class_events.Telling.{separated_stay}
use Rattle.call_rows.proofs.circuit_samples.Each.{each_at, each_pair}
use Rattle.call_rows.proofs.circuit_samples.event_samples.HoldCells.{hold_enable, hold_enabled, hold_leaf, hold_next, hold_tree, enable_care, no_care_tree}
use Rattle.call_rows.specs.circuit_samples.event_samples.Samples.{load_cover}
use Rattle.premise_rows.specs.event_pair_premises.Comparable.{CanBeCompared}
use Rattle.premise_rows.specs.event_pair_premises.Held.{loads_a, loads_not_a, both_held, at_load, held_pair, held_result}
use Rattle.premise_rows.specs.event_pair_premises.HeldCompared.{with_classes, held_compared, IsToldApart, HeldPairCanBeCompared}
use Rattle.premise_rows.proofs.block_premises.TurningNets.{one_name}
use Rattle.premise_rows.proofs.event_pair_premises.Differing.{root_kept}
use Rattle.premise_rows.proofs.event_pair_premises.Held.{meet_premises}
use Rattle.premise_rows.proofs.event_pair_premises.HeldPair.{kept, numbered, depths, classes, order, left_depths, right_depths, left_y_depth, right_y_depth, left_below, right_below, single, number_once, all_hold, left_q, left_latch}

abbrev root_variable : ℕ → Variable (List ℕ)
root_variable i = record { input = i; at = [] }

abbrev two : List (Variable (List ℕ))
two = root_variable 0 ∷ root_variable 1 ∷ []

pub events : IsEvents with_classes
events = record { classes = classes; number = refl; depths = depths; left_depths = left_depths; right_depths = right_depths }

pub left_named : HasInputsBelow (circuit_of loads_a.net) loads_a.order 2 4
left_named q k i visits h = left_below q i h

right_named : HasInputsBelow (circuit_of loads_not_a.net) loads_not_a.order 2 4
right_named q k i visits h = right_below q i h

compared : AreCompared loads_a loads_not_a held_compared
compared = record {
  depths_are = (record { left = 1; right = 1; left_is = left_y_depth; right_is = right_y_depth; greater = refl }, tt);
  numbers = numbered;
  left_named = All-from_recursion (λ (p : SignalPair). HasInputsBelow (circuit_of loads_a.net) loads_a.order 2 p.left.0) (held_pair ∷ []) (left_named, tt);
  right_named = All-from_recursion (λ (p : SignalPair). HasInputsBelow (circuit_of loads_not_a.net) loads_not_a.order 2 p.right.0) (held_pair ∷ []) (right_named, tt);
  distinct = distinct-push (codes "e" ∷ []) (codes "a") (one_name (codes "e")) refl;
}

pub within : IsWithinLimits with_classes
within = record { starts = record { left = []; right = []; counted = begins with_classes refl refl refl }; left = record { sum = refl; small = omega arith; few = omega arith }; right = record { sum = refl; small = omega arith; few = omega arith }; nodes = omega arith }

first : CanBeCompared with_classes held_compared
first = record {
  kept = record { left_sound = kept.left_sound; right_sound = kept.right_sound; left = kept.left; right = kept.right; events = root_kept };
  events = events;
  pairs = All-from_recursion (IsPairOf with_classes) (held_pair ∷ []) (record { left = omega arith; right = omega arith }, tt);
  compared = compared;
  within = within;
}

-- the enable of A's latch reads e and a at the root
q_tree : IsEnableTree both_held (Left 2) (hold_tree load_cover 0 1 false [])
q_tree = IsEnableTree.own {name = codes "q"} {next = Left 3} left_latch (hold_enabled both_held joined_same single number_once (codes "q") (Left 2) (Left 3) left_latch left_q) (hold_next both_held joined_same single number_once (codes "q") (Left 2) (Left 3) left_latch left_q false [])

q_leaf : (tree : Tree (List ℕ)) → IsEnableTree both_held (Left 2) tree → (x : Variable (List ℕ)) → HasLeaf x tree → Contains two x
q_leaf tree is x stands = go (hold_leaf both_held joined_same single number_once (codes "q") (Left 2) (Left 3) left_latch left_q tree is x stands)
  where
    go : (root_variable 0 ≡ x) ⊎ (root_variable 1 ≡ x) → Contains two x
    go (inl d) = subst (Contains two) d (Contains-head (root_variable 0) (root_variable 1 ∷ []))
    go (inr d) = subst (Contains two) d (Contains-tail (root_variable 0) (root_variable 1) (root_variable 1 ∷ []) (Contains-head (root_variable 1) []))

abbrev Found : Variable (List ℕ) → Type 0
Found x = (tree : Tree (List ℕ)) × IsClassTree both_held (Left 2) (Left 2) tree × HasLeaf x tree

two_are : AreNodeVariables (IsClassTree both_held (Left 2) (Left 2)) two
two_are = record {
  in_order = each_pair NodeBefore two ((inr (refl, inr (refl, omega arith)), tt), (tt, tt));
  exactly = λ x. (
    λ h. each_at Found two ((hold_tree load_cover 0 1 false [], inl (inl q_tree), HasLeaf.inside (HasLeafIn.first HasLeaf.leaf)), ((hold_tree load_cover 0 1 false [], inl (inl q_tree), HasLeaf.inside (HasLeafIn.later (HasLeafIn.first HasLeaf.leaf))), tt)) x h,
    λ f. back x f.0 f.1 f.2,
  );
}
  where
    back : (x : Variable (List ℕ)) (tree : Tree (List ℕ)) → IsClassTree both_held (Left 2) (Left 2) tree → HasLeaf x tree → Contains two x
    back x tree (inl (inl h)) stands = q_leaf tree h x stands
    back x tree (inl (inr h)) stands = q_leaf tree h x stands
    back x tree (inr (inl h)) stands = absurd (no_care_tree both_held joined_same single number_once all_hold (Left 2) tree h)
    back x tree (inr (inr h)) stands = absurd (no_care_tree both_held joined_same single number_once all_hold (Left 2) tree h)

pub from_always : IsSeparationFromAlways both_held order 1 (Left 2) two (false ∷ false ∷ [])
from_always = record {
  lower = omega arith;
  founder_is = record { before = []; after = Right 2 ∷ []; split = refl; class_is = refl; first = λ u h. absurd (omega (arith, h.1)) };
  are_variables = two_are;
  each = refl;
  care = enable_care both_held joined_same single number_once all_hold (frame_of two (false ∷ false ∷ [])) (Left 2);
  off = hold_enable both_held joined_same single number_once (codes "q") (Left 2) (Left 3) left_latch left_q (frame_of two (false ∷ false ∷ [])) [];
}

pub separated : IsToldApart with_classes
separated = record {
  few = omega arith;
  names = λ k d h. let z : k ≡ 0 = omega (arith, h) in rw z (record { high = omega arith; low = λ t e. absurd (none-some t e) });
  classes = classes;
  apart = record {
    long = refl;
    each = λ low high less most.
        let l : low ≡ 0 = omega (arith, less, most) in
        let h : high ≡ 1 = omega (arith, less, most) in
        rw (l, h) (_, refl, record { within = All-from_recursion (λ v. v < 2) (0 ∷ 1 ∷ []) (omega arith, (omega arith, tt)); separates = (refl, refl, refl, from_always); least = λ few. (0, refl, λ m below. absurd (omega (arith, below))) });
  };
}

pub grows : GrowsEvents with_classes.events at_load
grows = record { graph = (_, refl); children = (_, refl); places = (_, refl) }

pub can_be_compared : HeldPairCanBeCompared
can_be_compared = record {
  first = first;
  separated = separated;
  grows = grows;
  separated_later = separated_stay with_classes (record with_classes { events = at_load }) _ root_kept refl refl refl grows separated;
  found = λ conflicts. record { pairs_fit = (meet_premises.fits conflicts, tt); verdict_is = All-from_recursion (λ (r : PairResult). r.answer ≡ answer.Equal) (held_result ∷ []) (refl, tt) };
}
