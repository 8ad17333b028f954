-- A pair that isn't at the limit is answered by whether its event functions differ under the assumption.
use Rattle.std.proofs.Common.{◌≡◌, ◌≢◌, ◌∙◌, ℕ, Bool, List, slice_get, Option, Some, sym, ap, subst}
use Rattle.std.specs.Prelude.{◌↔◌}
use Rattle.circuit_theory.specs.Joined.{Left, Right}
use Rattle.circuit_theory.specs.EventFrames.{event_pair}
use Rattle.circuit_theory.proofs.Lists.{zip_right}
use Rattle.sec_base.specs.declared.basics.PairAnswer.{PairAnswer}
use Rattle.sec_base.specs.declared.basics.PairAnswer.TheVariants as answer
use Rattle.pair_decide.specs.declared.query.Proof.{Proof}
use Rattle.obligations.proofs.Fits as asking
use Rattle.obligations.specs.declared.outcome.verdict.PairResult.{PairResult}
use Rattle.edbf_unfold.specs.class_queries.Enables.{both_of}
use Rattle.event_nodes.specs.View.{EventCircuitView}
use Rattle.assume_laws.specs.Assume.{Assumption, under}
use Rattle.assume_laws.specs.Sequences.{HaveDifferentEventsUnder}
use Rattle.event_under.specs.Answers.{AnswerFitsUnder, PairFitsUnder}
use Rattle.event_setup.specs.event_meaning.event_names.event_fits.Asked.{IsDecisive}
use Rattle.event_setup.specs.event_meaning.event_names.event_fits.Circuits.{IsReadyCircuit}
use Rattle.event_setup.specs.event_meaning.event_meaning_under.Laws.{AnswersAreExactUnder}
use Rattle.event_setup.proofs.event_meaning.OneTree.{one_tree}

module _ (c : Assumption) (a b : EventCircuitView) (left_ready : IsReadyCircuit a) (right_ready : IsReadyCircuit b) where
  abbrev Differ : ℕ → ℕ → Type 0
  Differ p q = HaveDifferentEventsUnder c (both_of a b) (Left p) (Right q)

  abbrev Exact : Bool → ℕ → ℕ → PairAnswer → Type 0
  Exact open_latches p q x =
      ((x ≡ answer.Equal) ↔ (Differ p q → ⊥)) × ((x ≡ answer.Different) ↔ (IsDecisive (both_of a b) open_latches p q × Differ p q))
      × ((x ≡ answer.NotShown) ↔ ((IsDecisive (both_of a b) open_latches p q → ⊥) × Differ p q))

  exact : (open_latches : Bool) (conflicts p q : ℕ) (x : PairAnswer) (proof : Option Proof) → AnswerFitsUnder c (both_of a b) open_latches conflicts p q x proof → x ≢ answer.Limit → Exact open_latches p q x
  exact open_latches conflicts p q x proof h not_limit = asking.exact (under c (event_pair (both_of a b) (Left p) (Right q))) (one_tree a b left_ready right_ready (Left p)) (one_tree a b left_ready right_ready (Right q)) (IsDecisive (both_of a b) open_latches p q) conflicts x proof h not_limit

pub answers_exact : AnswersAreExactUnder
answers_exact c weight meeting a b expose conflicts o k i p r pair_at result_at not_limit =
    let found = zip_right (PairFitsUnder c (both_of k.left k.right) k.compared.cut conflicts) k.compared.pairs.now k.found.pairs k.fits.pairs_fit i p pair_at in
    let same : found.0 ≡ r = same_some (sym found.1 ∙ (ap (λ (rs : List PairResult). slice_get rs i) (sym k.pairs) ∙ result_at)) in
    let fits = subst (PairFitsUnder c (both_of k.left k.right) k.compared.cut conflicts p) same found.2 in
    subst (λ open_latches. Exact c k.left k.right k.reached.circuits.left_ready k.reached.circuits.right_ready open_latches p.left.0 p.right.0 r.answer) k.cut
    (exact c k.left k.right k.reached.circuits.left_ready k.reached.circuits.right_ready k.compared.cut conflicts p.left.0 p.right.0 r.answer r.proof fits.answer_is not_limit)
  where
    same_some : {X : Type 0} {x y : X} → Some x ≡ Some y → x ≡ y
    same_some q = cc
