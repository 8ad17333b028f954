-- Differences while the event graph grows.
use Rattle.std.proofs.Common.{◌≡◌, ◌∙◌, ℕ, Bool, List, slice_get, Some, sym, subst}
use Rattle.circuit_theory.specs.Joined.{Either, Left, Right}
use Rattle.circuit_theory.specs.Frame.{EventSide}
use Rattle.sec_base.specs.declared.basics.PairAnswer.{PairAnswer}
use Rattle.aig.specs.declared.node.Node.{Node}
use Rattle.aig.specs.Graph.{Grows}
use Rattle.aig.specs.Values.{value}
use Rattle.aig.proofs.Meaning.{value-grows}
use Rattle.event_nodes.specs.Nodes.{EventGraphView, IsEventGraph, GrowsEvents}
use Rattle.event_form.proofs.event_agreement.PairQueries.{is_query}
use Rattle.sec_setup.specs.declared.ports.pairs.SignalPair.{SignalPair}
use Rattle.event_form.specs.Difference.{Difference}
use Rattle.event_form.specs.Obligation.{Obligation}
use Rattle.event_form.specs.Decided.{IsFirstOf}
use Rattle.event_form.specs.Found.{IsDifferenceOf}
use Rattle.obligations.specs.declared.outcome.verdict.PairResult.{PairResult}
use Rattle.obligations.specs.outcome.pair_decide.Query.{Query}
use Rattle.obligations.specs.outcome.pair_decide.Answers.{IsDifference}
use Rattle.obligations.specs.outcome.pair_decide.Queries.{IsQuery, IsSame, IsLeast, Distinguishes, numbered}
use Rattle.event_form.specs.Asked.{AreAsked, IsAskedOf}
use Rattle.event_form.specs.event_findings.event_witness.Laws.{DifferencesGrow}
use Rattle.event_form.proofs.event_findings.event_witness.Differing.{only_query}
use Rattle.event_form.proofs.event_findings.event_witness.Showing.{zip_back}

-- a query over a graph, and a greater graph
module _ (g h : List Node) (grows : Grows g h) (q : Query) (is : IsQuery g q) where
  left_same : (a : ℕ → Bool) → value h a q.left.0 ≡ value g a q.left.0
  left_same a = value-grows g h grows a q.left.0 is.left

  right_same : (a : ℕ → Bool) → value h a q.right.0 ≡ value g a q.right.0
  right_same a = value-grows g h grows a q.right.0 is.right

  care_same : (a : ℕ → Bool) → value h a q.care.0 ≡ value g a q.care.0
  care_same a = value-grows g h grows a q.care.0 is.care

  same_later : IsSame g q → IsSame h q
  same_later same a care = left_same a ∙ (same a (sym (care_same a) ∙ care) ∙ sym (right_same a))

  told_later : (a : ℕ → Bool) → Distinguishes g q a → Distinguishes h q a
  told_later a d = record { care = care_same a ∙ d.care; differ = λ e. d.differ (sym (left_same a) ∙ (e ∙ right_same a)) }

  told_before : (a : ℕ → Bool) → Distinguishes h q a → Distinguishes g q a
  told_before a d = record { care = sym (care_same a) ∙ d.care; differ = λ e. d.differ (left_same a ∙ (e ∙ sym (right_same a))) }

  least_later : (number : ℕ) → IsLeast g q number → IsLeast h q number
  least_later number k = record { in_range = k.in_range; distinguishes = told_later (numbered q number) k.distinguishes; least = λ m below d. k.least m below (told_before (numbered q m) d) }

  difference_later : (bits : List Bool) → IsDifference g q bits → IsDifference h q bits
  difference_later bits d = record { apart = d.apart; each = d.each; distinguishes = told_later _ d.distinguishes; least = λ few. (let n = d.least few in (n.0, n.1, least_later n.0 n.2)) }

module _ (s : EventSide (Either ℕ ℕ)) (w x : EventGraphView) (cut : Bool) (is : IsEventGraph w) (grows : GrowsEvents w x) where
  differs_later : (p : SignalPair) (o : Obligation) (place : ℕ) (bits : List Bool) → IsAskedOf s w cut p o → IsDifferenceOf w.graph o.queries place bits → IsDifferenceOf x.graph o.queries place bits
  differs_later p o place bits k d = record {
    query = d.query;
    first = record { at = d.first.at; earlier = λ i r below at. same_later w.graph x.graph grows.graph r (own i r at) (d.first.earlier i r below at) };
    differs = difference_later w.graph x.graph grows.graph d.query (own place d.query d.first.at) bits d.differs;
  }
    where
      own : (i : ℕ) (r : Query) → slice_get o.queries i ≡ Some r → IsQuery w.graph r
      own i r at = subst (IsQuery w.graph) (sym (only_query k.query o.queries i r k.only at)) (is_query s w (Left p.left.0) (Right p.right.0) k.query is k.asks)

  first_later : (pairs : List SignalPair) (asked : List Obligation) (wanted : PairAnswer) (results : List PairResult) (d : Difference) → AreAsked s w cut pairs asked → IsFirstOf w.graph asked wanted results d → IsFirstOf x.graph asked wanted results d
  first_later pairs asked wanted results d are first =
      let pair = zip_back (IsAskedOf s w cut) pairs asked are d.pair first.obligation first.asked_at in
      record {
        obligation = first.obligation;
        result = first.result;
        asked_at = first.asked_at;
        result_at = first.result_at;
        answered = first.answered;
        earlier = first.earlier;
        differs = differs_later pair.0 first.obligation d.query d.bits pair.1 first.differs;
      }

pub differences_later : DifferencesGrow
differences_later s w x cut pairs asked wanted results d is grows are first = first_later s w x cut is grows pairs asked wanted results d are first
