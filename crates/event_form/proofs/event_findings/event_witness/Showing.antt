-- What differs can be shown.
use Rattle.std.proofs.Common.{◌≡◌, ◌<◌, ℕ, zero, suc, Bool, List, [], ◌∷◌, length, slice_get, Some, Result, Ok, Err, sym, subst, arith}
use Rattle.std.specs.Prelude.{IfOk}
use Rattle.std.specs.List.{All, AllZip}
use Rattle.std.proofs.lemmas.Option.{same_Some, slice_get_within}
use Rattle.circuit_theory.specs.Joined.{Either, Left, Right}
use Rattle.circuit_theory.specs.Frame.{EventSide}
use Rattle.sec_base.specs.declared.basics.PairAnswer.{PairAnswer}
use Rattle.event_nodes.specs.Nodes.{EventGraphView, IsEventGraph}
use Rattle.event_form.proofs.event_agreement.PairQueries.{is_query, within}
use Rattle.sec_setup.specs.declared.ports.pairs.SignalPair.{SignalPair}
use Rattle.event_form.specs.Difference.{Difference}
use Rattle.event_form.specs.Obligation.{Obligation}
use Rattle.event_form.specs.Decided.{IsFirstOf}
use Rattle.obligations.specs.declared.outcome.verdict.PairResult.{PairResult}
use Rattle.obligations.specs.outcome.pair_decide.Query.{Query}
use Rattle.obligations.specs.outcome.pair_decide.Queries.{IsQuery}
use Rattle.event_form.specs.Asked.{AreAsked, IsAskedOf}
use Rattle.event_form.specs.event_findings.event_witness.Laws.{DifferencesCanBeShown}
use Rattle.event_form.specs.event_findings.event_witness.Shown.{IsShowable}
use Rattle.event_form.proofs.event_findings.event_witness.Differing.{only_query}

-- what holds of a result that was made
pub if_ok : {X E : Type 0} (r : Result X E) (P Q : X → Type 0) → ((x : X) → P x → Q x) → IfOk r P → IfOk r Q
if_ok (Ok x) P Q to h = to x h
if_ok (Err e) P Q to h = tt

-- what an element of the second list is of one of the first
pub zip_back : {X Y : Type 0} (R : X → Y → Type 0) (xs : List X) (ys : List Y) → AllZip R xs ys → (i : ℕ) (y : Y) → slice_get ys i ≡ Some y → (x : X) × R x y
zip_back R [] [] all i y here = absurd (let inside = slice_get_within [] i y here in omega (arith, inside))
zip_back R [] (z ∷ ys) all i y here = absurd all
zip_back R (x ∷ xs) [] all i y here = absurd all
zip_back R (x ∷ xs) (z ∷ ys) all zero y here = (x, subst (R x) (same_Some z y here) all.0)
zip_back R (x ∷ xs) (z ∷ ys) all (suc i) y here = zip_back R xs ys all.1 i y here

module _ (s : EventSide (Either ℕ ℕ)) (w : EventGraphView) (cut : Bool) (pairs : List SignalPair) (asked : List Obligation) (is : IsEventGraph w) (are : AreAsked s w cut pairs asked) where
  showable : (wanted : PairAnswer) (results : List PairResult) (d : Difference) → IsFirstOf w.graph asked wanted results d → IsShowable w asked d
  showable wanted results d first =
      let pair = zip_back (IsAskedOf s w cut) pairs asked are d.pair first.obligation first.asked_at in
      let k : IsAskedOf s w cut pair.0 first.obligation = pair.1 in
      let same : first.differs.query ≡ k.query = only_query k.query first.obligation.queries d.query first.differs.query k.only first.differs.first.at in
      record {
        obligation = first.obligation;
        query = first.differs.query;
        at = record { asked_at = first.asked_at; query_at = first.differs.first.at };
        is_query = subst (IsQuery w.graph) (sym same) (is_query s w (Left pair.0.left.0) (Right pair.0.right.0) k.query is k.asks);
        within = subst (λ (q : Query). All (λ v. v < length w.places) q.vars) (sym same) (within s w (Left pair.0.left.0) (Right pair.0.right.0) k.query is k.asks);
        each = first.differs.differs.each;
      }

pub differences_shown : DifferencesCanBeShown
differences_shown s w cut pairs asked wanted results d is are first = showable s w cut pairs asked is are wanted results d first
