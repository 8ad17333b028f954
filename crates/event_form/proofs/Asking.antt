-- What is asked of a pair, and what was asked while the event graph grows.
use Rattle.std.proofs.Common.{◌≡◌, ◌≢◌, ◌∙◌, ◌+◌, ◌<◌, ℕ, Bool, true, false, List, [], ◌∷◌, ◌++◌, length, map, take, get_or, refl, sym, ap, subst, inl, inr}
use Rattle.std.specs.Prelude.{◌⊎◌, ◌↔◌, ◌&&◌, not}
use Rattle.std.specs.List.{All, Contains}
use Rattle.std.proofs.lemmas.List.{take_more}
use Rattle.std.proofs.lemmas.List.Elements.{All-nil, All-cons, Contains-append_cases, Contains-append_left, Contains-append_right}
use Rattle.circuit_theory.specs.Joined.{Either, Left, Right}
use Rattle.circuit_theory.specs.Run.{IsEnabled}
use Rattle.circuit_theory.proofs.Lists.{Contains-map, Contains-map_from, length-map, zip_push}
use Rattle.circuit_theory.specs.EventFits.{ReachesAlways}
use Rattle.circuit_theory.specs.EventFrames.{IsEventSize}
use Rattle.circuit_theory.specs.Frame.{EventSide, ConeLatches, IsNode}
use Rattle.event_nodes.specs.Nodes.{EventGraphView, IsEventGraph, GrowsEvents, path_of}
use Rattle.event_nodes.specs.View.{EventCircuitView}
use Rattle.event_nodes.proofs.Growing.{grows_trans}
use Rattle.event_nodes.proofs.Lists.{pairs_map}
use Rattle.event_nodes.proofs.OnePath.{one_node}
use Rattle.class_search.specs.event_variables.Order.{IsOnce}
use Rattle.event_form.specs.event_agreement.event_pairs.SignalFunction.{SignalFunction}
use Rattle.event_form.specs.event_agreement.pair_events.Enables.{both_of}
use Rattle.event_form.specs.event_agreement.event_pairs.Functions.{IsEventFunction, AreNodesOf}
use Rattle.event_form.proofs.event_agreement.event_pairs.Growing.{function_later}
use Rattle.event_form.proofs.event_agreement.event_pairs.Unions.{pair_nodes}
use Rattle.event_form.specs.event_agreement.Queries.{AsksEventPair}
use Rattle.event_form.proofs.event_agreement.PairQueries.{queries_later, queries_of_pairs}
use Rattle.sec_setup.specs.declared.ports.pairs.SignalPair.{SignalPair}
use Rattle.obligations.specs.Asked.{AreAsked as AreQueries}
use Rattle.obligations.specs.declared.obligation.Obligation.{Obligation}
use Rattle.obligations.specs.pair_decide.Query.{Query}
use Rattle.obligations.specs.pair_decide.Queries.{IsQuery}
use Rattle.event_form.specs.event_agreement.pair_events.View.{EventsView, side_of_both}
use Rattle.event_form.specs.Asked.{IsAskedOf, AreAsked, IsDecisive, IsLater, HasGraphMore, IsPairOf, IsQueryOf, IsUnion}

-- numbers of two lists, each once
pub union_is : (left right numbers both : List ℕ) → numbers ≡ left ++ right → IsOnce numbers both → IsUnion left right both
union_is left right numbers both is once = record {
  exactly = λ k. (
    λ h. Contains-append_cases left right k (subst (λ (xs : List ℕ). Contains xs k) is ((once.same k).0 h)),
    λ h. (once.same k).1 (subst (λ (xs : List ℕ). Contains xs k) (sym is) (either k h)),
  );
  apart = once.apart;
}
  where
    either : (k : ℕ) → Contains left k ⊎ Contains right k → Contains (left ++ right) k
    either k (inl h) = Contains-append_left left right k h
    either k (inr h) = Contains-append_right left right k h

-- the size of a pair is the number of its nodes
pub size_is : (s : EventSide (Either ℕ ℕ)) (w : EventGraphView) (p q : Either ℕ ℕ) (left right both : List ℕ) → IsEventGraph w → AreNodesOf s (ConeLatches s.circuit p) w.children left → AreNodesOf s (ConeLatches s.circuit q) w.children right → IsUnion left right both → IsEventSize s p q (length both)
size_is s w p q left right both is l r union = record {
  nodes = map (path_of w.children) both;
  distinct = pairs_map (path_of w.children) (λ j k. j ≢ k) (λ m n. m ≢ n) both
      (λ j k hj hk apart same. apart (one_node w.children is.is_tree is.once j k ((nodes.exactly j).0 hj).0 ((nodes.exactly k).0 hk).0 same)) union.apart;
  exactly = λ path. (
    λ h. (let k = Contains-map_from (path_of w.children) both path h in subst (IsNode s (IsEnabled s.circuit) (λ v. ConeLatches s.circuit p v ⊎ ConeLatches s.circuit q v)) k.2 ((nodes.exactly k.0).0 k.1).1),
    λ h. (let k = nodes.made path h in subst (Contains (map (path_of w.children) both)) k.2
        (Contains-map (path_of w.children) both k.0 ((nodes.exactly k.0).1 (k.1, subst (IsNode s (IsEnabled s.circuit) (λ v. ConeLatches s.circuit p v ⊎ ConeLatches s.circuit q v)) (sym k.2) h)))),
  );
  number = length-map (path_of w.children) both;
}
  where
    nodes : AreNodesOf s (λ v. ConeLatches s.circuit p v ⊎ ConeLatches s.circuit q v) w.children both
    nodes = pair_nodes s w.children p q left right both l r union.exactly

-- a difference is decisive where three bits say so
pub decisive_is : (s : EventSide (Either ℕ ℕ)) (cut l r : Bool) (p q : ℕ) → (l ≡ true) ↔ ReachesAlways s (Left p) → (r ≡ true) ↔ ReachesAlways s (Right q) → ((not cut && l && r) ≡ true) ↔ IsDecisive s cut p q
decisive_is s true l r p q left right = ((λ h. absurd (no h)), (λ h. absurd (yes h.0)))
  where
    no : false ≡ true → ⊥
    no e = cc

    yes : true ≡ false → ⊥
    yes e = cc
decisive_is s false false r p q left right = ((λ h. absurd (no h)), (λ h. absurd (no (left.1 h.1))))
  where
    no : false ≡ true → ⊥
    no e = cc
decisive_is s false true false p q left right = ((λ h. absurd (no h)), (λ h. absurd (no (right.1 h.2))))
  where
    no : false ≡ true → ⊥
    no e = cc
decisive_is s false true true p q left right = ((λ h. (refl, left.0 refl, right.0 refl)), (λ h. refl))

-- the circuits and classes are the same
pub side_same : (old new : EventsView) → new.left ≡ old.left → new.right ≡ old.right → side_of_both old ≡ side_of_both new
side_same old new left right = λ i. both_of (sym left i) (sym right i)

pub later_refl : (e : EventsView) → GrowsEvents e.events e.events → IsLater e e
later_refl e grows = record { left = refl; right = refl; count = refl; grows = grows }

pub later_trans : (a b c : EventsView) → IsLater a b → IsLater b c → IsLater a c
later_trans a b c first second = record {
  left = second.left ∙ first.left;
  right = second.right ∙ first.right;
  count = second.count ∙ first.count;
  grows = grows_trans a.events b.events c.events first.grows second.grows;
}

pub more_is_later : (a b : EventsView) → HasGraphMore a b → IsLater a b
more_is_later a b more = record { left = ap (λ (e : EventsView). e.left) more.same; right = ap (λ (e : EventsView). e.right) more.same; count = ap (λ (e : EventsView). e.count) more.same; grows = more.grows }

pub later_by : (old new : EventsView) → new ≡ record old { events = new.events; left_count = new.left_count; right_count = new.right_count } → GrowsEvents old.events new.events → IsLater old new
later_by old new same grows = record { left = ap (λ (e : EventsView). e.left) same; right = ap (λ (e : EventsView). e.right) same; count = ap (λ (e : EventsView). e.count) same; grows = grows }

-- an event function stays one
pub function_on : (old new : EventsView) → IsEventGraph old.events → IsEventGraph new.events → IsLater old new → (p : Either ℕ ℕ) (r : SignalFunction) → IsEventFunction (side_of_both old) old.events p r → IsEventFunction (side_of_both new) new.events p r
function_on old new is then later p r k =
    subst (λ (s : EventSide (Either ℕ ℕ)). IsEventFunction s new.events p r) (side_same old new later.left later.right) (function_later old.events new.events is then later.grows (side_of_both old) p r k)

-- what was asked of a pair stays asked
pub asked_on : (old new : EventsView) → IsEventGraph old.events → IsEventGraph new.events → IsLater old new → (cut : Bool) (p : SignalPair) (o : Obligation) → IsAskedOf (side_of_both old) old.events cut p o → IsAskedOf (side_of_both new) new.events cut p o
asked_on old new is then later cut p o k =
    subst (λ (s : EventSide (Either ℕ ℕ)). IsAskedOf s new.events cut p o) (side_same old new later.left later.right) (record {
      name_is = k.name_is;
      size_is = k.size_is;
      decisive_is = k.decisive_is;
      query = k.query;
      only = k.only;
      asks = queries_later (side_of_both old) old.events new.events (Left p.left.0) (Right p.right.0) k.query is then later.grows k.asks;
    })

-- and so of several
pub all_asked_on : (old new : EventsView) → IsEventGraph old.events → IsEventGraph new.events → IsLater old new → (cut : Bool) (ps : List SignalPair) (os : List Obligation) → AreAsked (side_of_both old) old.events cut ps os → AreAsked (side_of_both new) new.events cut ps os
all_asked_on old new is then later cut [] [] h = h
all_asked_on old new is then later cut [] (o ∷ os) h = absurd h
all_asked_on old new is then later cut (p ∷ ps) [] h = absurd h
all_asked_on old new is then later cut (p ∷ ps) (o ∷ os) h = (asked_on old new is then later cut p o h.0, all_asked_on old new is then later cut ps os h.1)

-- the query of two event functions is that of their pair
pub query_asks : (s : EventSide (Either ℕ ℕ)) (w : EventGraphView) (p q : Either ℕ ℕ) (l r : SignalFunction) (query : Query) → IsEventFunction s w p l → IsEventFunction s w q r → IsQueryOf w l r query → AsksEventPair s w p q query
query_asks s w p q l r query left right is = record {
  left_function = l;
  right_function = r;
  left_is = left;
  right_is = right;
  left = is.left;
  right = is.right;
  care = is.care;
  care_within = is.within;
  vars = is.vars;
}

-- what is asked are queries over the event graph
pub asked_queries : (s : EventSide (Either ℕ ℕ)) (w : EventGraphView) → IsEventGraph w → (cut : Bool) (ps : List SignalPair) (os : List Obligation) → AreAsked s w cut ps os → AreQueries w.graph os
asked_queries s w is cut [] [] h = All-nil (λ (o : Obligation). All (IsQuery w.graph) o.queries)
asked_queries s w is cut [] (o ∷ os) h = absurd h
asked_queries s w is cut (p ∷ ps) [] h = absurd h
asked_queries s w is cut (p ∷ ps) (o ∷ os) h =
    All-cons (λ (o : Obligation). All (IsQuery w.graph) o.queries) o os (let k = h.0 in subst (All (IsQuery w.graph)) (sym k.only) (All-cons (IsQuery w.graph) k.query [] (queries_of_pairs s w (Left p.left.0) (Right p.right.0) k.query is k.asks) (All-nil (IsQuery w.graph)))) (asked_queries s w is cut ps os h.1)

-- what is asked of a pair by its functions
pub obligation_asked : (old new : EventsView) → IsEventGraph old.events → IsEventGraph new.events → HasGraphMore old new → (cut : Bool) (p : SignalPair) (l r : SignalFunction) (query : Query) (left right both : List ℕ) (o : Obligation) →
    IsEventFunction (side_of_both old) old.events (Left p.left.0) l → IsEventFunction (side_of_both old) old.events (Right p.right.0) r → IsQueryOf new.events l r query → left ≡ l.nodes → right ≡ r.nodes → IsUnion left right both → o.name ≡ p.name → o.size ≡ length both →
    o.decisive ≡ (not cut && l.only_always && r.only_always) → o.queries ≡ query ∷ [] → IsAskedOf (side_of_both new) new.events cut p o
obligation_asked old new is then more cut p l r query left right both o on_left on_right asks left_nodes right_nodes union name size decisive only = record {
  name_is = name;
  size_is = subst (IsEventSize (side_of_both new) (Left p.left.0) (Right p.right.0)) (sym size)
      (size_is (side_of_both new) new.events (Left p.left.0) (Right p.right.0) l.nodes r.nodes both then first.nodes second.nodes (subst (λ (xs : List ℕ). IsUnion xs r.nodes both) left_nodes (subst (λ (ys : List ℕ). IsUnion left ys both) right_nodes union)));
  decisive_is = subst (λ (b : Bool). (b ≡ true) ↔ IsDecisive (side_of_both new) cut p.left.0 p.right.0) (sym decisive) (decisive_is (side_of_both new) cut l.only_always r.only_always p.left.0 p.right.0 first.only_is second.only_is);
  query = query;
  only = only;
  asks = query_asks (side_of_both new) new.events (Left p.left.0) (Right p.right.0) l r query first second asks;
}
  where
    first : IsEventFunction (side_of_both new) new.events (Left p.left.0) l
    first = function_on old new is then (more_is_later old new more) (Left p.left.0) l on_left

    second : IsEventFunction (side_of_both new) new.events (Right p.right.0) r
    second = function_on old new is then (more_is_later old new more) (Right p.right.0) r on_right

-- a pair of signals of the circuits stays one
pub pair_on : (old new : EventsView) → IsLater old new → (p : SignalPair) → IsPairOf old p → IsPairOf new p
pair_on old new later p k = record {
  left = subst (λ (e : EventCircuitView). p.left.0 < length e.net.drivers) (sym later.left) k.left;
  right = subst (λ (e : EventCircuitView). p.right.0 < length e.net.drivers) (sym later.right) k.right;
}

-- one pair more is asked about
pub asked_next : (old new : EventsView) → IsEventGraph old.events → IsEventGraph new.events → IsLater old new → (cut : Bool) (pairs : List SignalPair) (i : ℕ) (p : SignalPair) (asked made : List Obligation) (o : Obligation) → i < length pairs → get_or pairs i p ≡ p → made ≡ asked ++ o ∷ [] →
    AreAsked (side_of_both old) old.events cut (take i pairs) asked → IsAskedOf (side_of_both new) new.events cut p o → AreAsked (side_of_both new) new.events cut (take (i + 1) pairs) made
asked_next old new is then later cut pairs i p asked made o inside at same before own =
    subst (AreAsked (side_of_both new) new.events cut (take (i + 1) pairs)) (sym same)
    (subst (λ (ps : List SignalPair). AreAsked (side_of_both new) new.events cut ps (asked ++ o ∷ [])) (sym front)
    (zip_push (IsAskedOf (side_of_both new) new.events cut) (take i pairs) asked p o (all_asked_on old new is then later cut (take i pairs) asked before) own))
  where
    front : take (i + 1) pairs ≡ take i pairs ++ p ∷ []
    front = take_more pairs i p inside ∙ ap (λ (q : SignalPair). take i pairs ++ q ∷ []) at
