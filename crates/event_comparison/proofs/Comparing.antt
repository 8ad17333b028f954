-- What is compared stays so while the event graph grows.
use Rattle.std.proofs.Common.{Bool, List, sym, subst}
use Rattle.std.specs.List.{All}
use Rattle.circuit_theory.proofs.Lists.{All-from_each}
use Rattle.std.proofs.lemmas.List.Elements.{All-contains}
use Rattle.event_nodes.specs.View.{EventCircuitView}
use Rattle.sec_setup.specs.declared.ports.pairs.SignalPair.{SignalPair}
use Rattle.obligations.specs.declared.obligation.Obligation.{Obligation}
use Rattle.event_form.specs.event_agreement.pair_events.View.{EventsView, IsWithinLimits, side_of_both}
use Rattle.event_form.specs.event_findings.unshown_pairs.class_events.Separated.{AreSeparated}
use Rattle.class_search.specs.declared.class_separations.apart.Apart.{Apart}
use Rattle.event_form.specs.Asked.{AreAsked, IsLater, IsPairOf}
use Rattle.event_form.specs.Counted.{CountsOn}
use Rattle.event_form.proofs.Asking.{pair_on, side_same}
use Rattle.event_comparison.specs.Agreement.{CircuitsAgree}
use Rattle.event_comparison.specs.Asked.{AreAskedFrom, StayCounted}
use Rattle.event_form.specs.event_findings.Compared.{AreCompared}
use Rattle.event_form.specs.declared.event_findings.pairs.EventPairs.{EventPairs}
use Rattle.event_comparison.proofs.Asked.{depths_long}

pub compared_later : (old new : EventsView) → IsLater old new → (c : EventPairs) → AreCompared old.left old.right c → AreCompared new.left new.right c
compared_later old new later c h = subst (λ (b : EventCircuitView). AreCompared new.left b c) (sym later.right) (subst (λ (a : EventCircuitView). AreCompared a old.right c) (sym later.left) h)

pub agree_later : (old new : EventsView) → IsLater old new → (pairs : List SignalPair) → CircuitsAgree old.left old.right pairs → CircuitsAgree new.left new.right pairs
agree_later old new later pairs h = subst (λ (b : EventCircuitView). CircuitsAgree new.left b pairs) (sym later.right) (subst (λ (a : EventCircuitView). CircuitsAgree a old.right pairs) (sym later.left) h)

-- what was asked over the event graph as it was, of the circuits as they are
pub asked_before : (old new : EventsView) → IsLater old new → (cut : Bool) (pairs : List SignalPair) (asked : List Obligation) → AreAsked (side_of_both old) old.events cut pairs asked → AreAsked (side_of_both new) old.events cut pairs asked
asked_before old new later cut pairs asked h = subst (λ s. AreAsked s old.events cut pairs asked) (side_same old new later.left later.right) h

pub pairs_later : (old new : EventsView) → IsLater old new → (pairs : List SignalPair) → All (IsPairOf old) pairs → All (IsPairOf new) pairs
pairs_later old new later pairs h = All-from_each (IsPairOf new) pairs (λ p k. pair_on old new later p (All-contains (IsPairOf old) pairs p h k))

-- what is asked, and what the classes are told apart by
pub asked_from : (old new : EventsView) → IsLater old new → (aparts : List Apart) (c : EventPairs) (asked : List Obligation) → AreCompared new.left new.right c → All (IsPairOf old) c.pairs.now → IsWithinLimits new → AreSeparated new aparts →
    AreAsked (side_of_both new) new.events c.cut c.pairs.now asked → AreAskedFrom new aparts c asked
asked_from old new later aparts c asked compared pairs within separated are = record {
  pairs = pairs_later old new later c.pairs.now pairs;
  within = within;
  separated = separated;
  asked = are;
  depths = depths_long new.left new.right (side_of_both new) new.events c.cut c.pairs.now asked c.depths.now are compared.depths_are;
  distinct = compared.distinct;
}

-- what was counted with the pairs stays so
pub counted_on : (old mid new : EventsView) (pairs : List SignalPair) → CountsOn pairs old mid → StayCounted pairs mid new → CountsOn pairs old new
counted_on old mid new pairs count stay left right h = stay left right (count left right h)
