-- What can be done with the three texts.
use Rattle.std.proofs.Common.{ℕ, true, List, [], ◌∷◌, refl, sym, subst, inl, inr}
use Rattle.std.specs.Prelude.{◌⊎◌, codes}
use Rattle.std.specs.List.{Contains}
use Rattle.circuit_theory.proofs.Lists.{Contains-tail}
use Rattle.assume_laws.specs.declared.assume_shape.shape.ShapeFault.{ShapeFault}
use Rattle.premise_rows.specs.event_assume_rows.assume_rows.SameInputs.{same, same_design, small_same}
use Rattle.premise_rows.proofs.event_assume_rows.assume_rows.Meeting.{ones_meet}
use Rattle.premise_rows.proofs.event_assume_rows.assume_rows.Shape.{no_fault, weighs_few}
use Rattle.premise_rows.proofs.event_assume_rows.assume_rows.Spelled.{same_spells}
use Rattle.pair_texts.specs.design_rows.Small.{IsSmall}
use Rattle.pair_texts.proofs.design_rows.Spelling.{accepted, net_is_small}
use Rattle.job_check.specs.check_meaning.event_meaning.Heavy.{IsTooLargeForEvents}
use Rattle.plain_check.specs.under_base.Met.{shared_by}
use Rattle.assume_queries.specs.assume_sequences.assume_taken.Taken.{IsFirstFault}
use Rattle.premise_rows.proofs.event_premises.Comparing.{comparable_events}
use Rattle.premise_rows.proofs.event_premises.LoadExamples.{no_cycles}
use Rattle.premise_rows.proofs.event_premises.Nets.{accepted_text, flat_of, ports_match, shared_kept}
use Rattle.job_check.specs.check_meaning.event_texts.Texts.{AreEventComparable}
use Rattle.flat_net.specs.View.{NetView}
use Rattle.flatten.specs.DesignFaults.{IsFlatOf}
use Rattle.sec_base.specs.declared.settings.Settings.{Settings}
use Rattle.job_base.specs.sec_files.Loading.{Loads}
use Rattle.premise_rows.specs.event_assume_rows.Loads.{loading, first_load, and_load, loads_first, loads_and, LoadsMeet}
use Rattle.premise_rows.proofs.event_assume_rows.Loads.{not_too_large}
use Rattle.premise_rows.proofs.event_assume_rows.Spelled.{and_passes, and_rising, and_spells, first_passes, first_rising, first_spells, loads_acyclic, loads_ports, loads_shallow, one_output}

left_flat : (a : NetView) → Loads loads_first a → IsFlatOf (loading first_load) a
left_flat a l = flat_of loads_first (loading first_load) first_spells.format first_spells.models_are a l

right_flat : (b : NetView) → Loads loads_and b → IsFlatOf (loading and_load) b
right_flat b l = flat_of loads_and (loading and_load) and_spells.format and_spells.models_are b l

small : (c : NetView) → Loads same c → IsSmall small_same c
small = net_is_small same same_design small_same same_spells

module _ (settings : Settings) where
  comparable : AreEventComparable loads_first loads_and settings
  comparable =
      comparable_events loads_first loads_and settings (accepted_text loads_first (loading first_load) first_spells) (accepted_text loads_and (loading and_load) and_spells)
      (λ a la. loads_shallow first_load first_passes a (left_flat a la))
      (λ b lb. loads_shallow and_load and_passes b (right_flat b lb))
      (λ a b la lb. ports_match (codes "e" ∷ codes "a" ∷ codes "b" ∷ []) (codes "q" ∷ []) (λ own others. refl) a b (loads_ports first_load a (left_flat a la)) (loads_ports and_load b (right_flat b lb)))
      (λ a b la lb. no_cycles settings.expose a b (loads_acyclic first_load first_passes first_rising a (left_flat a la)) (loads_acyclic and_load and_passes and_rising b (right_flat b lb)))

  module _ (a b c : NetView) (la : Loads loads_first a) (lb : Loads loads_and b) (lc : Loads same c) where
    -- the inputs of the assumption are shared
    shared : (name : List ℕ) → Contains (codes "a" ∷ codes "b" ∷ []) name → Contains (shared_by a b) name
    shared name has =
        subst (λ (ns : List (List ℕ)). Contains ns name)
        (sym (shared_kept (codes "e" ∷ codes "a" ∷ codes "b" ∷ []) (codes "q" ∷ []) (λ own others. refl) a b (loads_ports first_load a (left_flat a la)) (loads_ports and_load b (right_flat b lb))))
        (Contains-tail (codes "e") name (codes "a" ∷ codes "b" ∷ []) has)

    none : (f : ShapeFault) → IsFirstFault (shared_by a b) c f ⊎ IsTooLargeForEvents a b c settings f → ⊥
    none f (inl h) = no_fault (shared_by a b) shared c (small c lc) f h
    none f (inr h) =
        not_too_large a b (loads_shallow first_load first_passes a (left_flat a la)) (loads_shallow and_load and_passes b (right_flat b lb))
        (loads_acyclic first_load first_passes first_rising a (left_flat a la)) (loads_acyclic and_load and_passes and_rising b (right_flat b lb)) (one_output a (loads_ports first_load a (left_flat a la))) settings c
        (λ met. weighs_few c (small c lc) met.assumed.shape.output met.assumed.shape.outputs met.assumed.weight met.assumed.weighs) f h

pub loads_meet : LoadsMeet
loads_meet settings = record {
  comparable = comparable settings;
  accepted = accepted same same_design small_same same_spells;
  fits = λ a b c la lb lc f refused. none settings a b c la lb lc f refused.1;
  met = λ a b c la lb lc by refused. refused.1.never (λ i. true) (ones_meet c lc (shared_by a b) refused.1.assumed);
}
