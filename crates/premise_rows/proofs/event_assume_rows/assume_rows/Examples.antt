-- What can be done with the three texts.
use Rattle.std.proofs.Common.{◌≡◌, ℕ, Bool, List, false, true, refl, sym, subst, arith, inl, inr}
use Rattle.std.specs.Prelude.{◌⊎◌}
use Rattle.std.specs.List.{Contains}
use Rattle.assume_laws.specs.declared.assume_shape.shape.ShapeFault.{ShapeFault}
use Rattle.assume_queries.specs.assume_sequences.assume_taken.Taken.{IsFirstFault}
use Rattle.pair_texts.specs.check_texts.Texts.{AreComparable}
use Rattle.sec_base.specs.declared.settings.Settings.{Settings}
use Rattle.plain_check.specs.under_base.Met.{shared_by}
use Rattle.plain_check.specs.under_base.Sizes.{IsTooLargeUnder}
use Rattle.flat_net.specs.View.{NetView}
use Rattle.job_base.specs.sec_files.Loading.{Loads}
use Rattle.pair_texts.specs.design_rows.Designs as design
use Rattle.pair_texts.specs.design_rows.Small.{IsSmall, small_and}
use Rattle.pair_texts.specs.design_rows.Texts.{on_and}
use Rattle.pair_texts.proofs.design_rows.Spelling.{accepted, net_is_small}
use Rattle.pair_texts.proofs.design_rows.SpelledTexts.{on_and_spells}
use Rattle.pair_texts.proofs.check_texts.Comparing.{comparable}
use Rattle.premise_rows.specs.event_assume_rows.assume_rows.SameInputs.{on_or, same, or_design, same_design, small_or, small_same, AndMeetsOr}
use Rattle.premise_rows.proofs.event_assume_rows.assume_rows.Meeting.{ones_meet}
use Rattle.premise_rows.proofs.event_assume_rows.assume_rows.Shape.{no_fault, shared_are}
use Rattle.premise_rows.proofs.event_assume_rows.assume_rows.Spelled.{or_spells, same_spells}
use Rattle.premise_rows.proofs.event_assume_rows.assume_rows.Weights.{not_too_large}

left_small : (a : NetView) → Loads on_and a → IsSmall small_and a
left_small = net_is_small on_and design.on_and small_and on_and_spells

right_small : (b : NetView) → Loads on_or b → IsSmall small_or b
right_small = net_is_small on_or or_design small_or or_spells

small : (c : NetView) → Loads same c → IsSmall small_same c
small = net_is_small same same_design small_same same_spells

module _ (settings : Settings) (settling : settings.reset ≡ false) (a b c : NetView) (la : Loads on_and a) (lb : Loads on_or b) (lc : Loads same c) (f : ShapeFault) where
  none : IsFirstFault (shared_by a b) c f ⊎ IsTooLargeUnder a b c settings f → ⊥
  none (inl h) = no_fault (shared_by a b) (λ name has. subst (λ (ns : List (List ℕ)). Contains ns name) (sym (shared_are a b (left_small a la) (right_small b lb))) has) c (small c lc) f h
  none (inr h) = not_too_large a b c (left_small a la) (right_small b lb) (small c lc) settings f settling h

pub and_meets_or : AndMeetsOr
and_meets_or settings settling = record {
  comparable = subst (λ (reset : Bool). AreComparable on_and on_or settings.expose reset) (sym settling) (comparable on_and on_or design.on_and or_design small_and small_or on_and_spells or_spells (λ own others. refl) refl refl (omega arith) (omega arith) settings.expose);
  accepted = accepted same same_design small_same same_spells;
  fits = λ a b c la lb lc f refused. none settings settling a b c la lb lc f refused.1;
  met = λ a b c la lb lc by refused. refused.1.never (λ i. true) (ones_meet c lc (shared_by a b) refused.1.assumed);
}
