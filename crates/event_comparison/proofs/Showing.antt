-- What differs can be shown once more of the event graph is there.
use Rattle.std.proofs.Common.{◌≡◌, ◌∙◌, ◌<◌, ℕ, List, [], ◌∷◌, ◌++◌, length, get_or, slice_get, Some, Result, Err, sym, subst, arith}
use Rattle.std.specs.List.{Contains}
use Rattle.std.proofs.lemmas.List.Elements.{Contains-append_right}
use Rattle.std.proofs.lemmas.Option.{same_Some, slice_get-get_or, slice_get_within}
use Rattle.circuit_theory.proofs.Lists.{Contains-map, of_at, zip_length}
use Rattle.circuit_theory.specs.EventSizes.{Start}
use Rattle.event_nodes.specs.Nodes.{EventGraphView, IsEventGraph}
use Rattle.event_nodes.proofs.Growing.{grows_refl}
use Rattle.event_form.specs.Functions.{signal_start}
use Rattle.flat_net.proofs.Places.{All-at}
use Rattle.sec_setup.specs.declared.ports.pairs.SignalPair.{SignalPair}
use Rattle.obligations.specs.declared.obligation.Difference.{Difference}
use Rattle.obligations.specs.declared.obligation.Obligation.{Obligation}
use Rattle.obligations.specs.declared.decision.Decided.{Decided}
use Rattle.obligations.specs.declared.verdict.VerdictAt.{VerdictAt}
use Rattle.obligations.specs.declared.verdict.VerdictAt.TheVariants as at
use Rattle.obligations.specs.Decided.{HaveDecided, IsFirst, IsFirstOf}
use Rattle.obligations.specs.Verdict.{IsVerdictAt}
use Rattle.obligations.specs.declared.outcome.verdict.PairResult.{PairResult}
use Rattle.event_form.specs.event_agreement.pair_events.Counted.{HaveCounted}
use Rattle.event_form.specs.event_agreement.pair_events.View.{EventsView, side_of_both}
use Rattle.sec_base.specs.declared.basics.PairAnswer.{PairAnswer}
use Rattle.sec_base.specs.declared.basics.PairAnswer.TheVariants as answer
use Rattle.event_form.specs.Asked.{IsAskedOf, IsLater, IsPairOf}
use Rattle.event_form.specs.Counted.{left_starts, right_starts}
use Rattle.event_form.specs.Refused.{IsRefusedFor}
use Rattle.event_form.specs.declared.error.EventFormError.{EventFormError}
use Rattle.event_form.proofs.Asking.{all_asked_on, later_refl}
use Rattle.event_form.proofs.Counted.{none_counted}
use Rattle.event_form.proofs.Refusing.{all_within, nothing_within, one_within, refused_later}
use Rattle.event_form.specs.event_findings.event_witness.Shown.{IsShowable}
use Rattle.event_form.proofs.event_findings.event_witness.Growing.{differences_later}
use Rattle.event_form.proofs.event_findings.event_witness.Showing.{differences_shown}
use Rattle.event_form.specs.event_findings.unshown_pairs.Reached.{StaysCounted}
use Rattle.event_comparison.specs.Asked.{AreAskedFrom, DiffersFirst, IsFoundAt, StayCounted}
use Rattle.event_comparison.specs.Shown.{OfPair}
use Rattle.event_form.specs.declared.event_findings.pairs.EventPairs.{EventPairs}
use Rattle.class_search.specs.declared.class_separations.apart.Apart.{Apart}

-- the obligation of a pair stands at the pair's place
pub pair_within : (e : EventsView) (aparts : List Apart) (c : EventPairs) (asked : List Obligation) → AreAskedFrom e aparts c asked → (i : ℕ) (o : Obligation) → slice_get asked i ≡ Some o → i < length c.pairs.now
pair_within e aparts c asked from i o at =
    let inside = slice_get_within asked i o at in
    let many = zip_length (IsAskedOf (side_of_both e) e.events c.cut) c.pairs.now asked from.asked in
    omega (arith, inside, many)

-- the pair that is read is that of the difference
module _ (e : EventsView) (aparts : List Apart) (c : EventPairs) (asked : List Obligation) (from : AreAskedFrom e aparts c asked) (d : Difference) (differs : DiffersFirst e.events asked d) where
  pub difference_within : d.pair < length c.pairs.now
  difference_within = pair_within e aparts c asked from d.pair differs.1.obligation differs.1.asked_at

  module _ (read : SignalPair) where
    pub pair_at : slice_get c.pairs.now d.pair ≡ Some (get_or c.pairs.now d.pair read)
    pair_at = slice_get-get_or c.pairs.now d.pair read difference_within

    pub pair_there : Contains c.pairs.now (get_or c.pairs.now d.pair read)
    pair_there = of_at c.pairs.now d.pair (get_or c.pairs.now d.pair read) pair_at

    pub pair_is : IsPairOf e (get_or c.pairs.now d.pair read)
    pair_is = All-at (IsPairOf e) c.pairs.now d.pair (get_or c.pairs.now d.pair read) pair_at from.pairs

    pub of_pair : (P : SignalPair → Type 0) → P (get_or c.pairs.now d.pair read) → OfPair c d P
    of_pair P h q at = subst P (same_Some (get_or c.pairs.now d.pair read) q (sym pair_at ∙ at)) h

-- what differs can be shown
pub can_show : (e : EventsView) (aparts : List Apart) (c : EventPairs) (asked : List Obligation) → IsEventGraph e.events → AreAskedFrom e aparts c asked → (wanted : PairAnswer) (results : List PairResult) (d : Difference) → IsFirstOf e.events.graph asked wanted results d → IsShowable e.events asked d
can_show e aparts c asked is from wanted results d first = differences_shown (side_of_both e) e.events c.cut c.pairs.now asked wanted results d is from.asked first

-- also while the event graph grows
pub can_show_later : (old new : EventsView) (aparts : List Apart) (c : EventPairs) (asked : List Obligation) → IsEventGraph old.events → IsEventGraph new.events → IsLater old new → AreAskedFrom old aparts c asked → (wanted : PairAnswer) (results : List PairResult) (d : Difference) →
    IsFirstOf old.events.graph asked wanted results d → IsShowable new.events asked d
can_show_later old new aparts c asked is then later from wanted results d first =
    differences_shown (side_of_both new) new.events c.cut c.pairs.now asked wanted results d then (all_asked_on old new is then later c.cut c.pairs.now asked from.asked)
    (differences_later (side_of_both old) old.events new.events c.cut c.pairs.now asked wanted results d is later.grows from.asked first)

-- what was counted with one of the pairs stays so with all
pub stay_counted : (old new : EventsView) (pairs : List SignalPair) (p : SignalPair) → Contains pairs p → StaysCounted p old new → StayCounted pairs old new
stay_counted old new pairs p there stays left right k =
    stays (left ++ left_starts pairs) (right ++ right_starts pairs)
    (Contains-append_right left (left_starts pairs) (signal_start p.left.0) (Contains-map (λ (q : SignalPair). signal_start q.left.0) pairs p there))
    (Contains-append_right right (right_starts pairs) (signal_start p.right.0) (Contains-map (λ (q : SignalPair). signal_start q.right.0) pairs p there)) k

-- what is refused for one of the pairs is refused for all
pub refused_for_all : {X Y : Type 0} (e : EventsView) (pairs : List SignalPair) (p : SignalPair) → Contains pairs p → (result : Result X EventFormError) (told : Result Y EventFormError) → ((error : EventFormError) → told ≡ Err error → result ≡ Err error) →
    IsRefusedFor (signal_start p.left.0 ∷ []) (signal_start p.right.0 ∷ []) e result → IsRefusedFor (left_starts pairs) (right_starts pairs) e told
refused_for_all e pairs p there result told same k =
    refused_later e e (later_refl e (grows_refl e.events)) [] [] (signal_start p.left.0 ∷ []) (signal_start p.right.0 ∷ []) (left_starts pairs) (right_starts pairs)
    (nothing_within (left_starts pairs)) (one_within (λ (q : SignalPair). signal_start q.left.0) pairs p there)
    (nothing_within (right_starts pairs)) (one_within (λ (q : SignalPair). signal_start q.right.0) pairs p there) (none_counted e) result told same k

-- what is refused with all of the pairs counted is refused for them
pub refused_again : {X Y : Type 0} (old mid : EventsView) → IsLater old mid → (lefts rights : List (Start ℕ)) → ((left right : List (Start ℕ)) → HaveCounted old left right → HaveCounted mid (left ++ lefts) (right ++ rights)) →
    (result : Result X EventFormError) (told : Result Y EventFormError) → ((error : EventFormError) → told ≡ Err error → result ≡ Err error) → IsRefusedFor lefts rights mid result → IsRefusedFor lefts rights old told
refused_again old mid later lefts rights count result told same k = refused_later old mid later lefts rights lefts rights lefts rights (all_within lefts) (all_within lefts) (all_within rights) (all_within rights) count result told same k

-- what gives the verdict was found
pub found_at : (w : EventGraphView) (conflicts : ℕ) (asked : List Obligation) (d : Decided) → HaveDecided w.graph conflicts asked d → (y : VerdictAt) → IsVerdictAt d.different d.not_shown d.results y → IsFoundAt w asked d.results y
found_at w conflicts asked d have at.Equal i = tt
found_at w conflicts asked d have (at.Different x) i = subst (IsFirst w.graph asked answer.Different d.results) i have.different
found_at w conflicts asked d have (at.Limit place) i = slice_get_within d.results place i.1.result i.1.at
found_at w conflicts asked d have (at.NotShown x) i = subst (IsFirst w.graph asked answer.NotShown d.results) i.2 have.not_shown
