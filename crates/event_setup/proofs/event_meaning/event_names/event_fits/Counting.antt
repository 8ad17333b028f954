-- The class map is made, and all that is counted is within its numbers.
use Rattle.std.proofs.Common.{◌≡◌, ◌∙◌, ◌≤◌, ℕ, max, List, [], ◌∷◌, ◌++◌, map, refl, sym, ap, subst, append_assoc, arith}
use Rattle.std.specs.List.{Contains, fold}
use Rattle.std.proofs.lemmas.List.{map-append}
use Rattle.circuit_theory.specs.declared.Side.{Side}
use Rattle.circuit_theory.specs.declared.Side.TheVariants.{A, B}
use Rattle.circuit_theory.specs.Joined.{Either}
use Rattle.circuit_theory.proofs.Lists.{Contains-head, Contains-tail}
use Rattle.circuit_theory.specs.Classes.{HasClasses, classes_of}
use Rattle.circuit_theory.specs.EventSizes.{Start, IsEventOver}
use Rattle.circuit_theory.specs.EventTotals.{IsNodesOver, IsNodesWithin}
use Rattle.circuit_theory.specs.Frame.{EventSide}
use Rattle.event_form.specs.event_findings.unshown_pairs.class_events.Made.{AreEnablesCounted}
use Rattle.edbf_unfold.specs.class_queries.Enables.{both_of}
use Rattle.edbf_unfold.specs.class_queries.Laws.{AreKept}
use Rattle.event_classes.specs.event_functions.class_totals.Totals.{circuit_at, starts_at}
use Rattle.event_classes.specs.event_functions.Functions.{signal_start}
use Rattle.event_nodes.specs.View.{EventCircuitView, side_of, Enabled}
use Rattle.sec_setup.specs.declared.ports.pairs.SignalPair.{SignalPair}
use Rattle.event_form.specs.event_agreement.pair_events.Counted.{both_starts, left_with, right_with, starts_with, HaveCounted, AreTooMany, IsTooLarge}
use Rattle.event_form.specs.event_agreement.pair_events.View.{EventsView, IsEvents, IsWithinLimits, side_of_both}
use Rattle.event_form.specs.event_agreement.pair_events.View as view
use Rattle.event_form.specs.event_agreement.pair_events.Within.{AreTotalsWithin, IsCountedOnce}
use Rattle.event_form.proofs.event_agreement.pair_events.Within.{is_within}
use Rattle.event_form.specs.Asked.{IsLater}
use Rattle.event_form.specs.Counted.{CountsOn, left_starts, right_starts}
use Rattle.event_form.specs.Stopped.{IsFirstStop, lefts_before, rights_before, lefts_with, rights_with, signal_of}
use Rattle.event_form.proofs.event_findings.unshown_pairs.Occurring.{class_low}
use Rattle.event_setup.specs.event_meaning.event_names.event_fits.Totals.{IsMapMade, IsWithinWith, ReachFewWith, ReachTooManyWith, WeighTooMuchWith, IsNextSignal, PairsReachTooMany, PairsWeighTooMuch}

fold_least : {X : Type 0} (f : X → ℕ) (n bound : ℕ) (xs : List X) → n ≤ bound → ((x : X) → Contains xs x → f x ≤ bound) → fold (λ m x. max m (f x)) n xs ≤ bound
fold_least f n bound [] low each = low
fold_least f n bound (x ∷ xs) low each = fold_least f (max n (f x)) bound xs (let h = each x (Contains-head x xs) in omega (arith, low, h)) (λ y m. each y (Contains-tail x y xs m))

-- the number of classes is one, by whichever order
module _ {P : Type 0} (s : EventSide P) where
  no_more : (one other : HasClasses s) → classes_of s one.order ≤ classes_of s other.order
  no_more one other = fold_least s.class 0 (classes_of s other.order) one.order (omega arith) (λ u h. let l = one.is_order.enabled u h in class_low s other l.name u l.next l.latch)

  same_count : (one other : HasClasses s) → classes_of s one.order ≡ classes_of s other.order
  same_count one other = let low = no_more one other in let high = no_more other one in omega (arith, low, high)

module _ (e : EventsView) (is : IsEvents e) (k : AreEnablesCounted e) (few : e.count ≤ 500) where
  pub count_is : classes_of (side_of_both e) k.classes.order ≡ e.count
  count_is = same_count (side_of_both e) k.classes is.classes ∙ is.number

  abbrev pub map_made : IsMapMade e.left e.right
  map_made = record {
    map = k.classes;
    latches = k.few;
    few = subst (λ n. n ≤ 500) (sym count_is) few;
    starts = k.starts;
    are = k.are;
    lefts = k.lefts;
    rights = k.rights;
    both = k.both;
  }

  -- what was counted since is within, too
  counted_within : (f : EventsView) → IsLater e f → AreKept f.left f.right f.events → IsCountedOnce f → IsWithinLimits f → (lefts rights : List SignalPair) → HaveCounted f (k.lefts ++ left_starts lefts) (k.rights ++ right_starts rights) → IsWithinWith e.left e.right map_made lefts rights
  counted_within f later kept once within lefts rights counted =
      subst (λ (b : EventCircuitView). AreTotalsWithin e.left b (k.lefts ++ left_starts lefts) (k.rights ++ right_starts rights)) later.right
      (subst (λ (a : EventCircuitView). AreTotalsWithin a f.right (k.lefts ++ left_starts lefts) (k.rights ++ right_starts rights)) later.left
      (is_within f (k.lefts ++ left_starts lefts) (k.rights ++ right_starts rights) kept once within counted))

  pub pairs_within : (f : EventsView) → IsLater e f → AreKept f.left f.right f.events → IsCountedOnce f → IsWithinLimits f → (pairs : List SignalPair) → CountsOn pairs e f → IsWithinWith e.left e.right map_made pairs pairs
  pairs_within f later kept once within pairs counts = counted_within f later kept once within pairs pairs (counts k.lefts k.rights k.counted)

  -- one signal more
  one_more : (f : SignalPair → Start ℕ) (xs : List (Start ℕ)) (before : List SignalPair) (p : SignalPair) → (xs ++ map f before) ++ f p ∷ [] ≡ xs ++ map f (before ++ p ∷ [])
  one_more f xs before p = append_assoc xs (map f before) (f p ∷ []) ∙ ap (λ (ys : List (Start ℕ)). xs ++ ys) (sym (map-append f before (p ∷ [])))

  more_lefts : (side : Side) (before : List SignalPair) (p : SignalPair) → left_with side (signal_of side p) (k.lefts ++ left_starts (lefts_before side before p)) ≡ k.lefts ++ left_starts (lefts_with side before p)
  more_lefts A before p = one_more (λ (q : SignalPair). signal_start q.left.0) k.lefts before p
  more_lefts B before p = refl

  more_rights : (side : Side) (before : List SignalPair) (p : SignalPair) → right_with side (signal_of side p) (k.rights ++ right_starts (rights_before side before p)) ≡ k.rights ++ right_starts (rights_with side before p)
  more_rights A before p = refl
  more_rights B before p = one_more (λ (q : SignalPair). signal_start q.right.0) k.rights before p

  more_starts : (side : Side) (before : List SignalPair) (p : SignalPair) → starts_with side (signal_of side p) (k.lefts ++ left_starts (lefts_before side before p)) (k.rights ++ right_starts (rights_before side before p))
      ≡ starts_at side (k.lefts ++ left_starts (lefts_with side before p)) (k.rights ++ right_starts (rights_with side before p))
  more_starts A before p = more_lefts A before p
  more_starts B before p = more_rights B before p

  circuit_later : (side : Side) (f : EventsView) → IsLater e f → view.circuit_at side f ≡ circuit_at side e.left e.right
  circuit_later A f later = later.left
  circuit_later B f later = later.right

  both_later : (f : EventsView) → IsLater e f → side_of_both f ≡ both_of e.left e.right
  both_later f later = λ i. both_of (later.left i) (later.right i)

  module _ (pairs : List SignalPair) (side : Side) (n : IsFirstStop pairs e side) where
    abbrev lefts : List (Start ℕ)
    lefts = k.lefts ++ left_starts (lefts_before side n.before n.pair)

    abbrev rights : List (Start ℕ)
    rights = k.rights ++ right_starts (rights_before side n.before n.pair)

    counted : HaveCounted n.at lefts rights
    counted = n.reached.counted k.lefts k.rights k.counted

    abbrev next_signal : IsNextSignal e.left e.right map_made pairs side
    next_signal = record {
      before = n.before;
      pair = n.pair;
      after = n.after;
      split = n.split;
      within = counted_within n.at n.reached.later n.reached.kept n.reached.once n.reached.within (lefts_before side n.before n.pair) (rights_before side n.before n.pair) counted;
    }

    -- with it too many event nodes are reached
    too_many : AreTooMany side (signal_of side n.pair) n.at → ReachTooManyWith e.left e.right map_made (lefts_with side n.before n.pair) (rights_with side n.before n.pair)
    too_many h =
        subst (λ (s : EventSide (Either ℕ ℕ)). IsNodesOver s (both_starts (k.lefts ++ left_starts (lefts_with side n.before n.pair)) (k.rights ++ right_starts (rights_with side n.before n.pair))) 10000) (both_later n.at n.reached.later)
        (subst (λ (ys : List (Start ℕ)). IsNodesOver (side_of_both n.at) (both_starts (k.lefts ++ left_starts (lefts_with side n.before n.pair)) ys) 10000) (more_rights side n.before n.pair)
        (subst (λ (xs : List (Start ℕ)). IsNodesOver (side_of_both n.at) (both_starts xs (right_with side (signal_of side n.pair) rights)) 10000) (more_lefts side n.before n.pair) (h lefts rights counted)))

    few_enough : IsTooLarge side (signal_of side n.pair) n.at → ReachFewWith e.left e.right map_made (lefts_with side n.before n.pair) (rights_with side n.before n.pair)
    few_enough h =
        subst (λ (s : EventSide (Either ℕ ℕ)). IsNodesWithin s (both_starts (k.lefts ++ left_starts (lefts_with side n.before n.pair)) (k.rights ++ right_starts (rights_with side n.before n.pair))) 10000) (both_later n.at n.reached.later)
        (subst (λ (ys : List (Start ℕ)). IsNodesWithin (side_of_both n.at) (both_starts (k.lefts ++ left_starts (lefts_with side n.before n.pair)) ys) 10000) (more_rights side n.before n.pair)
        (subst (λ (xs : List (Start ℕ)). IsNodesWithin (side_of_both n.at) (both_starts xs (right_with side (signal_of side n.pair) rights)) 10000) (more_lefts side n.before n.pair) (h.within lefts rights counted)))

    too_large : IsTooLarge side (signal_of side n.pair) n.at → WeighTooMuchWith side e.left e.right map_made (lefts_with side n.before n.pair) (rights_with side n.before n.pair)
    too_large h =
        subst (λ (c : EventCircuitView). IsEventOver (side_of c) (Enabled c) (starts_at side (k.lefts ++ left_starts (lefts_with side n.before n.pair)) (k.rights ++ right_starts (rights_with side n.before n.pair))) 2000000) (circuit_later side n.at n.reached.later)
        (subst (λ (xs : List (Start ℕ)). IsEventOver (side_of (view.circuit_at side n.at)) (Enabled (view.circuit_at side n.at)) xs 2000000) (more_starts side n.before n.pair) (h.over lefts rights counted))

    -- so the pairs are refused there
    pub refused_many : AreTooMany side (signal_of side n.pair) n.at → PairsReachTooMany e.left e.right map_made pairs
    refused_many h = (side, next_signal, too_many h)

    pub refused_large : IsTooLarge side (signal_of side n.pair) n.at → PairsWeighTooMuch side e.left e.right map_made pairs
    refused_large h = (next_signal, few_enough h, too_large h)
