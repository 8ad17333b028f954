-- Two circuits whose pairs are compared under an assumption.
use Rattle.std.proofs.Common.{◌≡◌, ◌∙◌, ℕ, Bool, List, length, map, sym, ap, subst, inl, inr}
use Rattle.std.specs.Prelude.{◌⊎◌}
use Rattle.std.specs.List.{Contains}
use Rattle.circuit_theory.specs.Circuit.{Named}
use Rattle.circuit_theory.specs.Depth.{LatchesHaveDepths}
use Rattle.circuit_theory.specs.Interface.{AreNumbersOf}
use Rattle.circuit_theory.specs.Run.{IsEnabled}
use Rattle.circuit_theory.specs.Tree.{AreNumbered}
use Rattle.circuit_theory.proofs.Lists.{Contains-map_from, map-map}
use Rattle.circuit_laws.proofs.LawProofs.{numbers_are_shared}
use Rattle.circuit_laws.proofs.event_laws.SideParts.{sides_are_parts_in_nets}
use Rattle.flat_net.specs.View.{NetView, circuit_of, named, ports_of}
use Rattle.flat_net.proofs.Nets.{sound_is_net, sound_names}
use Rattle.sec_setup.specs.ports.Pairs.{NamedPair, places_of}
use Rattle.sec_setup.specs.Cuts.{columns_of}
use Rattle.obligations.specs.declared.outcome.verdict.LimitAt.{LimitAt}
use Rattle.obligations.specs.declared.outcome.verdict.LimitAt.TheVariants as limit_at
use Rattle.obligations.specs.declared.outcome.verdict.Outcome.{Outcome}
use Rattle.obligations.specs.declared.outcome.verdict.Verdict.TheVariants as verdict
use Rattle.plain_check.proofs.under_base.compare_base.CutPairs.{one_output, pair_listed}
use Rattle.edbf_unfold.specs.class_queries.Enables.{both_of}
use Rattle.edbf_unfold.specs.class_queries.Laws.{AreKept}
use Rattle.assume_laws.specs.Assume.{Assumption}
use Rattle.event_under.specs.Laws.{AreAllPairs}
use Rattle.event_setup.specs.event_meaning.event_names.event_fits.Circuits.{AreNets}
use Rattle.event_setup.specs.event_meaning.event_names.event_fits.Fitting.{class_limit, IsUnrecovered, IsUnclassed}
use Rattle.event_setup.specs.event_meaning.event_names.event_fits.Named.{latch_names}
use Rattle.event_setup.specs.event_meaning.event_meaning_under.Fitted.{EventOutcomeFitsUnder, IsComparedByPairsUnder}
use Rattle.event_setup.proofs.event_meaning.event_meaning_under.Bare.{bare, bare_kept}

-- the pairs are compared where the verdict is no limit
pub compared_under : (c : Assumption) (weight : ℕ) (meeting : ℕ → Bool) (a b : NetView) (expose : Bool) (conflicts : ℕ) (o : Outcome) → EventOutcomeFitsUnder c weight meeting a b expose conflicts o →
    ((at : LimitAt) → o.verdict ≡ verdict.Limit at → ⊥) → IsComparedByPairsUnder c weight meeting a b expose conflicts o
compared_under c weight meeting a b expose conflicts o fits never = go fits.rest
  where
    go : IsUnrecovered a b conflicts o ⊎ (IsUnclassed a b expose conflicts o ⊎ IsComparedByPairsUnder c weight meeting a b expose conflicts o) → IsComparedByPairsUnder c weight meeting a b expose conflicts o
    go (inl k) = absurd (never (limit_at.Recover k.side k.name k.proof) k.verdict_is)
    go (inr (inl k)) = absurd (never (class_limit (latch_names k.left.net) (latch_names k.right.net) k.latch k.other k.proof) k.verdict_is)
    go (inr (inr k)) = k

-- the numbers of a net's inputs are those of its circuit's
circuit_numbers : (n : NetView) (columns : List (List ℕ)) (own others : List ℕ) → AreNumbersOf (ports_of n).inputs columns own others → AreNumbersOf (map (λ (i : Named ℕ). i.name) (circuit_of n).inputs) columns own others
circuit_numbers n columns own others numbers = subst (λ (words : List (List ℕ)). AreNumbersOf words columns own others) (sym (map-map (λ (i : Named ℕ). i.name) named n.inputs)) numbers

module _ (c : Assumption) (weight : ℕ) (meeting : ℕ → Bool) (a b : NetView) (expose : Bool) (conflicts : ℕ) (o : Outcome) (k : IsComparedByPairsUnder c weight meeting a b expose conflicts o) where
  pub kept : AreKept k.left k.right bare
  kept = let is = k.reached.circuits in record { left_sound = is.left_ready.sound; right_sound = is.right_ready.sound; left = is.left_ready.marked; right = is.right_ready.marked; events = bare_kept }

  pub deep : LatchesHaveDepths (both_of k.left k.right).circuit (IsEnabled (both_of k.left k.right).circuit)
  deep =
      let is = k.reached.circuits in
      (sides_are_parts_in_nets (circuit_of k.left.net) (circuit_of k.right.net) (length k.left.net.drivers) (length k.right.net.drivers) (sound_is_net k.left.net is.left_ready.sound) (sound_is_net k.right.net is.right_ready.sound)).4 is.left_ready.depths
      is.right_ready.depths

  pub numbers : AreNumbered (circuit_of k.left.net) (circuit_of k.right.net) k.left.order k.right.order
  numbers =
      let is = k.reached.circuits in
      numbers_are_shared (circuit_of k.left.net) (circuit_of k.right.net) (columns_of a b o.exposed) k.left.order k.right.order
      (circuit_numbers k.left.net (columns_of a b o.exposed) k.left.order k.right.order is.left_columns.numbers)
      (circuit_numbers k.right.net (columns_of a b o.exposed) k.right.order k.left.order is.right_columns.numbers)

  -- each pair of the circuits is compared
  pub all_pairs : AreNets a b → AreAllPairs o.exposed (circuit_of a) (circuit_of b) k.compared.pairs.now
  all_pairs nets p q is_pair =
      let x = pair_listed o.exposed (circuit_of a) (circuit_of b) (sound_is_net a nets.left).single (sound_is_net b nets.right).single (sound_names a nets.left) (sound_names b nets.right) (one_output b nets.right_distinct) p q is_pair in
      let y = Contains-map_from places_of k.compared.pairs.now x.0 (subst (λ (xs : List (NamedPair ℕ ℕ)). Contains xs x.0) (sym k.listed) x.1) in
      (y.0, y.1, ap (λ (z : NamedPair ℕ ℕ). z.left) y.2 ∙ x.2, ap (λ (z : NamedPair ℕ ℕ). z.right) y.2 ∙ x.3)
