-- What is asked of pairs, as it is asked under an assumption, and as it is decided.
use Rattle.std.proofs.Common.{◌≡◌, ℕ, Bool, List, [], ◌∷◌, length, slice_get, Some, Result, Ok, Err, sym, subst, arith}
use Rattle.std.specs.Prelude.{IfOk}
use Rattle.std.specs.List.{All, Contains}
use Rattle.std.proofs.lemmas.List.Elements.{All-nil, All-cons}
use Rattle.std.proofs.lemmas.Option.{slice_get_within}
use Rattle.circuit_theory.specs.Joined.{Either, Left, Right}
use Rattle.circuit_theory.proofs.Lists.{All-from_each, at_of}
use Rattle.circuit_theory.specs.Frame.{EventSide}
use Rattle.flat_net.specs.View.{NetView}
use Rattle.flat_net.proofs.Nets.{some_at}
use Rattle.base_tables.specs.Table.{AreDistinct}
use Rattle.pair_decide.specs.Queries.{IsQuery}
use Rattle.sec_setup.specs.declared.ports.pairs.SignalPair.{SignalPair}
use Rattle.obligations.specs.declared.obligation.Obligation.{Obligation}
use Rattle.obligations.specs.declared.decision.Decided.{Decided}
use Rattle.obligations.specs.declared.verdict.VerdictAt.{VerdictAt}
use Rattle.obligations.specs.declared.verdict.VerdictAt.TheVariants as at
use Rattle.obligations.specs.Asked as graph_level
use Rattle.obligations.specs.Decided.{HaveDecided, IsFirst}
use Rattle.obligations.specs.Verdict.{IsVerdictAt}
use Rattle.sec_base.specs.declared.basics.PairAnswer.TheVariants as answer
use Rattle.event_nodes.specs.Nodes.{EventGraphView, IsEventGraph}
use Rattle.event_nodes.specs.View.{EventCircuitView}
use Rattle.event_form.proofs.event_agreement.PairQueries.{is_query, within}
use Rattle.event_form.specs.event_agreement.pair_events.Enables.{both_of}
use Rattle.event_form.specs.event_agreement.pair_events.Laws.{AreKept}
use Rattle.event_form.specs.event_agreement.pair_events.View.{EventsView, side_of_both}
use Rattle.event_nodes.specs.event_variables.ranked_nodes.Ranks.{AreRanked}
use Rattle.event_form.specs.Asked.{AreAsked, IsAskedOf}
use Rattle.event_form.specs.declared.event_findings.pairs.EventPairs.{EventPairs}
use Rattle.assume_queries.specs.assume_sequences.Assumed.{IsAssumedBy}
use Rattle.assume_queries.specs.declared.assume_sequences.premise.Premise.{Premise}
use Rattle.assume_laws.specs.assume_shape.Shape.{assumption_of}
use Rattle.event_under.specs.Asked.{AreAskedUnder, IsAskedUnder}
use Rattle.event_under.specs.Places.{IsLightAtNodes}
use Rattle.event_under.specs.declared.event_asked_under.asked.EventQuestions.{EventQuestions}
use Rattle.event_under.specs.event_asked_under.Questions.{IsOneOver, named_at}
use Rattle.event_under.specs.event_under_form.event_under_verdicts.Shown.{AreQuestions, IsFoundUnder}
use Rattle.event_under.specs.event_under_form.Asked.{AreAskedAssumed}

-- each asks one query over the event graph
one_over : (s : EventSide (Either ℕ ℕ)) (w : EventGraphView) (cut : Bool) (p : SignalPair) (o : Obligation) → IsEventGraph w → IsAskedOf s w cut p o → IsOneOver w o
one_over s w cut p o is k =
    let q : IsQuery w.graph k.query = is_query s w (Left p.left.0) (Right p.right.0) k.query is k.asks in
    record {
      query = k.query;
      only = k.only;
      left = q.left;
      right = q.right;
      care = q.care;
      vars = record { within = within s w (Left p.left.0) (Right p.right.0) k.query is k.asks; ordered = k.asks.vars.ordered };
    }

pub ones_over : (s : EventSide (Either ℕ ℕ)) (w : EventGraphView) (cut : Bool) → IsEventGraph w → (pairs : List SignalPair) (asked : List Obligation) → AreAsked s w cut pairs asked → All (IsOneOver w) asked
ones_over s w cut is [] [] are = All-nil (IsOneOver w)
ones_over s w cut is [] (o ∷ asked) are = absurd are
ones_over s w cut is (p ∷ pairs) [] are = absurd are
ones_over s w cut is (p ∷ pairs) (o ∷ asked) are = All-cons (IsOneOver w) o asked (one_over s w cut p o is are.0) (ones_over s w cut is pairs asked are.1)

-- what is asked under the assumption are queries over the graph of their own
pub are_queries : (e : EventsView) (c : EventPairs) (asked : List Obligation) (x : EventQuestions) → AreQuestions e c asked x → graph_level.AreAsked x.aig x.asked.items
are_queries e c asked x q = All-from_each (λ (u : Obligation). All (IsQuery x.aig) u.queries) x.asked.items each
  where
    one : (u : Obligation) (i : ℕ) → slice_get x.asked.items i ≡ Some u → All (IsQuery x.aig) u.queries
    one u i here =
        let inside = slice_get_within x.asked.items i u here in
        let under = q.under.each_under in
        let plain = q.under.each_asked in
        let p = some_at c.pairs.now i (omega (arith, inside, under)) in
        let o = some_at asked i (omega (arith, inside, under, plain)) in
        let k : IsAskedUnder q.assumption (side_of_both e) e.events x.aig (named_at e.events.children x) c.cut p.0 o.0 u = q.under.are i p.0 o.0 u p.1 o.1 here in
        subst (All (IsQuery x.aig)) (sym k.only) (All-cons (IsQuery x.aig) k.query [] k.asks.asked (All-nil (IsQuery x.aig)))

    each : (u : Obligation) → Contains x.asked.items u → All (IsQuery x.aig) u.queries
    each u h = let i = at_of x.asked.items u h in one u i.0 i.1

-- what gives the verdict was found
pub found_at : (x : EventQuestions) (conflicts : ℕ) (d : Decided) → HaveDecided x.aig conflicts x.asked.items d → (y : VerdictAt) → IsVerdictAt d.different d.not_shown d.results y → IsFoundUnder x d.results y
found_at x conflicts d have at.Equal i = tt
found_at x conflicts d have (at.Different z) i = subst (IsFirst x.aig x.asked.items answer.Different d.results) i have.different
found_at x conflicts d have (at.Limit place) i = slice_get_within d.results place i.1.result i.1.at
found_at x conflicts d have (at.NotShown z) i = subst (IsFirst x.aig x.asked.items answer.NotShown d.results) i.2 have.not_shown

-- what holds of a result by what holds of it
pub if_all : {X E : Type 0} (r : Result X E) (P Q R S T : X → Type 0) → ((x : X) → P x → Q x → R x → S x → T x) → IfOk r P → IfOk r Q → IfOk r R → IfOk r S → IfOk r T
if_all (Ok x) P Q R S T to p q r s = to x p q r s
if_all (Err e) P Q R S T to p q r s = tt

-- what is asked over an event graph under each assumption of the premise
abbrev AskedOver : EventPairs → Premise → List Obligation → EventQuestions → EventGraphView → Type 0
AskedOver c p asked x w =
    ((n : NetView) (inputs : List ℕ) (output size : ℕ) → IsAssumedBy p (length c.names.now) n inputs output size → (a b : EventCircuitView) (cut : Bool) (pairs : List SignalPair) → AreKept a b w → AreAsked (both_of a b) w cut pairs asked →
    AreAskedUnder (assumption_of n inputs output) (both_of a b) w x.aig (named_at w.children x) cut pairs asked x.asked.items)
    × AreDistinct (named_at w.children x) × AreRanked w.children x.ranked
    × ((a b : EventCircuitView) (cut : Bool) (pairs : List SignalPair) → AreKept a b w → AreAsked (both_of a b) w cut pairs asked → IsLightAtNodes p.weight (both_of a b) pairs)

-- over that of the circuits it is asked of their pairs
pub asked_assumed : (e : EventsView) (c : EventPairs) (p : Premise) (asked : List Obligation) → AreKept e.left e.right e.events → AreAsked (side_of_both e) e.events c.cut c.pairs.now asked → (w : EventGraphView) → w ≡ e.events → (x : EventQuestions) → AskedOver c p asked x w → AreAskedAssumed e c p asked x
asked_assumed e c p asked kept are w same x over =
    let h : AskedOver c p asked x e.events = subst (AskedOver c p asked x) same over in
    record {
      under = λ n inputs output size is. h.0 n inputs output size is e.left e.right c.cut c.pairs.now kept are;
      distinct = h.1;
      ranked = h.2;
      light = h.3 e.left e.right c.cut c.pairs.now kept are;
    }
