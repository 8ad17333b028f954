-- What is asked over the event graph, with an assumption and then with its sides, is what is asked under the assumption.
use Rattle.std.proofs.Common.{◌≡◌, ◌∙◌, ℕ, ◌*◌, ◌<◌, Bool, List, [], ◌∷◌, ◌++◌, length, get_or, slice_get, Some, refl, sym, ap, subst, arith}
use Rattle.std.specs.List.{All, AllZip}
use Rattle.std.proofs.lemmas.List.{append-nil}
use Rattle.std.proofs.lemmas.List.Elements.{All-nil, All-cons, All-head, All-tail}
use Rattle.std.proofs.lemmas.Option.{same_Some}
use Rattle.circuit_theory.specs.Joined.{Left, Right}
use Rattle.circuit_theory.proofs.Lists.{All-from_each, at_of, length-map, zip_length, zip_right}
use Rattle.flat_net.proofs.Places.{All-at}
use Rattle.aig.specs.declared.node.Lit.{Lit}
use Rattle.aig.specs.declared.node.Node.{Node}
use Rattle.aig.specs.Graph.{IsGraph, Grows}
use Rattle.aig.proofs.Growth.{Grows-length}
use Rattle.aig.specs.graph_copy.graph_clone.Twins.{AreTwins}
use Rattle.pair_decide.specs.declared.query.Query.{Query}
use Rattle.cbf_unfold.specs.unfold_places.Reach.{Adds}
use Rattle.cbf_unfold.proofs.unfold_places.Zips.{zip_left}
use Rattle.obligations.specs.declared.obligation.Obligation.{Obligation}
use Rattle.obligations.specs.Asked.{queries_of}
use Rattle.sec_setup.specs.declared.ports.pairs.SignalPair.{SignalPair}
use Rattle.assume_laws.specs.Assume.{Assumption}
use Rattle.assume_queries.specs.declared.assume_answers.order.VariableOrder.TheVariants as order
use Rattle.assume_queries.specs.assume_answers.Order.{AreOrdered}
use Rattle.assume_queries.specs.assume_answers.Under.{IsUnder, IsObligationUnder}
use Rattle.edbf_unfold.specs.class_queries.Enables.{both_of}
use Rattle.edbf_unfold.specs.class_queries.Laws.{AreKept}
use Rattle.event_nodes.specs.Nodes.{EventGraphView, IsEventGraph}
use Rattle.event_nodes.specs.View.{EventCircuitView}
use Rattle.event_nodes.specs.event_variables.Variables.{variables_of}
use Rattle.event_form.proofs.event_agreement.PairQueries.{are_variables}
use Rattle.event_form.specs.Asked.{IsAskedOf, AreAsked}
use Rattle.event_under.specs.Asked.{IsAskedUnder, AreAskedUnder}
use Rattle.event_under.proofs.Leaves.{side_variables}
use Rattle.event_nodes.specs.event_variables.ranked_nodes.Ranks.{AreRanked}
use Rattle.event_nodes.specs.declared.event_variables.ranked_nodes.ranks.RankedNodes.{RankedNodes}
use Rattle.event_under.specs.event_asked_under.Questions.{IsOneOver}
use Rattle.event_nodes.specs.event_variables.ranked_nodes.Named.{ranked_in, named_ranks}
use Rattle.event_under.specs.event_asked_under.Sides.{HasOneWithin, HasOneCare, AreAligned, IsWithSides, AreWithSides}
use Rattle.event_under.proofs.event_asked_under.Meaning.{asks_under}
use Rattle.event_under.proofs.event_asked_under.Tables.{HaveRanks, AreApart}
use Rattle.event_under.proofs.event_asked_under.Variables.{all_in_cycles}

-- places of nodes are their own
pub ranks_have : (children : List (ℕ × ℕ)) (r : RankedNodes) → AreRanked children r → HaveRanks r.ranks.items (length children)
ranks_have children r k n inside = let t = k.there n inside in (t.0, t.1)

pub ranks_apart : (children : List (ℕ × ℕ)) (r : RankedNodes) → AreRanked children r → AreApart r.ranks.items (length children)
ranks_apart children r k m n i inside also at_m at_n =
    let t = k.there m inside in
    let u = k.there n also in
    let first : t.0 ≡ i = same_Some t.0 i (sym t.1 ∙ at_m) in
    let second : u.0 ≡ i = same_Some u.0 i (sym u.1 ∙ at_n) in
    same_Some m n (sym t.2 ∙ (ap (slice_get r.nodes) (first ∙ sym second) ∙ u.2))

-- the same list with nothing behind
pub adds_itself : (xs : List (ℕ × ℕ)) → Adds (λ p. Unit {0}) xs xs
adds_itself xs = record { more = []; is = sym (append-nil xs); each = All-nil (λ p. Unit {0}) }

zip_single : {X Y : Type 0} (R : X → Y → Type 0) (x : X) (ys : List Y) → AllZip R (x ∷ []) ys → (y : Y) × (ys ≡ y ∷ []) × R x y
zip_single R x [] h = absurd h
zip_single R x (y ∷ []) h = (y, refl, h.0)
zip_single R x (y ∷ z ∷ ys) h = absurd h.1

-- the one query of an obligation under the assumption
pub one_query : (c : Assumption) (g : List Node) (table : List (ℕ × ℕ)) (o u : Obligation) → IsObligationUnder order.Cycles c g table o u → (q : Query) → o.queries ≡ q ∷ [] → (r : Query) × (u.queries ≡ r ∷ []) × IsUnder order.Cycles c g table q r
one_query c g table o u k q only = zip_single (IsUnder order.Cycles c g table) q u.queries (subst (λ (qs : List Query). AllZip (IsUnder order.Cycles c g table) qs u.queries) only k.queries)

-- what is asked over the event graph is in the order of cycles
module _ (w : EventGraphView) (is : IsEventGraph w) (r : RankedNodes) (k : AreRanked w.children r) where
  abbrev start : List (ℕ × ℕ)
  start = ranked_in r.ranks.items w.places

  abbrev Ordered : Query → Type 0
  Ordered q = AreOrdered order.Cycles (ranked_in r.ranks.items w.places) q.vars

  one_ordered : (o : Obligation) (one : IsOneOver w o) → Ordered one.query
  one_ordered o one = record {
    within = λ i d inside. let low = one.vars.within i d inside in let same = length-map {Y = ℕ × ℕ} (λ (q : ℕ × ℕ). (q.0, get_or r.ranks.items q.1 0)) w.places in omega (arith, low, same);
    ordered = all_in_cycles w is r k start (adds_itself start) one.query.vars one.vars;
  }

  pub all_ordered : (asked : List Obligation) → All (IsOneOver w) asked → All Ordered (queries_of asked)
  all_ordered [] all = All-nil Ordered
  all_ordered (o ∷ asked) all =
      let one = All-head (IsOneOver w) o asked all in
      subst (λ (qs : List Query). All Ordered (qs ++ queries_of asked)) (sym one.only) (All-cons Ordered one.query (queries_of asked) (one_ordered o one) (all_ordered asked (All-tail (IsOneOver w) o asked all)))

-- the literals of all nodes are of the graph
pub lits_within : (own f g : List Node) (lits : List Lit) → AreTwins own f lits → Grows f g → All (λ (l : Lit). l.0 < 2 * length g) lits
lits_within own f g lits twins grows = All-from_each (λ (l : Lit). l.0 < 2 * length g) lits (λ l h. let i = at_of lits l h in let low = (twins i.0 l i.1).within in let more = Grows-length f g grows in omega (arith, low, more))

-- both kinds of obligations are aligned
pub are_aligned : (c : Assumption) (w : EventGraphView) (g : List Node) (table : List (ℕ × ℕ)) (lits : List Lit) → length lits ≡ length w.graph → (asked under : List Obligation) → All (IsOneOver w) asked → AllZip (IsObligationUnder order.Cycles c g table) asked under →
    AreAligned (length lits) (length g) asked under
are_aligned c w g table lits long asked under all zip = record {
  each = sym (zip_length (IsObligationUnder order.Cycles c g table) asked under zip);
  asked_ones = λ i o at. one i o at;
  under_ones = λ i u at. care i u at;
}
  where
    one : (i : ℕ) (o : Obligation) → slice_get asked i ≡ Some o → HasOneWithin (length lits) o
    one i o at =
        let k = All-at (IsOneOver w) asked i o at all in
        record { query = k.query; only = k.only; left = omega (arith, k.left, long); right = omega (arith, k.right, long); care = omega (arith, k.care, long) }

    care : (i : ℕ) (u : Obligation) → slice_get under i ≡ Some u → HasOneCare (length g) u
    care i u at =
        let o = zip_left (IsObligationUnder order.Cycles c g table) asked under zip i u at in
        let k = All-at (IsOneOver w) asked i o.0 o.1 all in
        let r = one_query c g table o.0 u o.2 k.query k.only in
        record { query = r.0; only = r.1; care = r.2.within }

module _ (c : Assumption) (a b : EventCircuitView) (w : EventGraphView) (kept : AreKept a b w) (ranked : RankedNodes) (k : AreRanked w.children ranked) (table : List (ℕ × ℕ)) (adds : Adds (λ p. Unit {0}) (ranked_in ranked.ranks.items w.places) table) (f g h : List Node)
    (lits : List Lit) (graph : IsGraph h) (first : Grows f g) (second : Grows g h) (twins : AreTwins w.graph f lits) (long : length lits ≡ length w.graph) where
  abbrev places : List (ℕ × List ℕ)
  places = named_ranks w.children ranked.nodes table

  one_asked : (cut : Bool) (p : SignalPair) (o u t : Obligation) → IsAskedOf (both_of a b) w cut p o → IsObligationUnder order.Cycles c g table o u → IsWithSides lits h o u t → IsAskedUnder c (both_of a b) w h places cut p o t
  one_asked cut p o u t plain under sides =
      let r = one_query c g table o u under plain.query plain.only in
      let x = sides.queries plain.query r.0 plain.only r.1 in
      let asks = plain.asks in
      record {
        plain = plain;
        name_is = sides.name_is ∙ under.name_is;
        size_is = sides.size_is ∙ under.size_is;
        decisive_is = sides.decisive_is ∙ under.decisive_is;
        query = x.0;
        only = x.1;
        asks = asks_under c (both_of a b) w kept.events ranked k table adds (Left p.left.0) (Right p.right.0) plain.query asks f g h lits graph first second twins long r.0 x.0 r.2 x.2
            (side_variables a b w kept (Left p.left.0) (Right p.right.0) asks.left_is.tree asks.right_is.tree asks.left_is.unfolds asks.right_is.unfolds (variables_of w plain.query.vars)
            (are_variables (both_of a b) w (Left p.left.0) (Right p.right.0) plain.query kept.events asks));
      }

  pub all_asked : (cut : Bool) (pairs : List SignalPair) (asked under made : List Obligation) → AreAsked (both_of a b) w cut pairs asked → AllZip (IsObligationUnder order.Cycles c g table) asked under → AreWithSides lits h asked under made →
      AreAskedUnder c (both_of a b) w h places cut pairs asked made
  all_asked cut pairs asked under made are zip sides = record {
    each_asked = sym (zip_length (IsAskedOf (both_of a b) w cut) pairs asked are);
    each_under = sides.each ∙ sym (zip_length (IsAskedOf (both_of a b) w cut) pairs asked are);
    are = λ i p o t at_p at_o at_t.
        let y = zip_right (IsAskedOf (both_of a b) w cut) pairs asked are i p at_p in
        let same : y.0 ≡ o = same_Some y.0 o (sym y.1 ∙ at_o) in
        let plain : IsAskedOf (both_of a b) w cut p o = subst (IsAskedOf (both_of a b) w cut p) same y.2 in
        let u = zip_right (IsObligationUnder order.Cycles c g table) asked under zip i o at_o in
        let z = sides.are i o u.0 at_o u.1 in
        let one : z.0 ≡ t = same_Some z.0 t (sym z.1 ∙ at_t) in
        one_asked cut p o u.0 t plain u.2 (subst (IsWithSides lits h o u.0) one z.2);
  }
