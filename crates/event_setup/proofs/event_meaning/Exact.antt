-- A pair that isn't at the limit is answered by whether its event functions differ.
use Rattle.std.proofs.Common.{◌≡◌, ◌≢◌, ◌∙◌, ℕ, Bool, List, slice_get, Option, Some, sym, ap, subst}
use Rattle.std.specs.Prelude.{◌↔◌}
use Rattle.circuit_theory.specs.Joined.{Left, Right}
use Rattle.circuit_theory.proofs.Lists.{zip_right}
use Rattle.circuit_theory.specs.EventFrames.{HaveDifferentEvents, event_pair}
use Rattle.sec_base.specs.declared.basics.PairAnswer.{PairAnswer}
use Rattle.sec_base.specs.declared.basics.PairAnswer.TheVariants as answer
use Rattle.pair_decide.specs.declared.query.Proof.{Proof}
use Rattle.obligations.proofs.Fits as asking
use Rattle.obligations.specs.declared.outcome.verdict.PairResult.{PairResult}
use Rattle.edbf_unfold.specs.class_queries.Enables.{both_of}
use Rattle.event_setup.specs.event_meaning.event_names.event_fits.Answers.{AnswerFits, PairFits}
use Rattle.event_setup.specs.event_meaning.event_names.event_fits.Asked.{IsDecisive}
use Rattle.event_nodes.specs.View.{EventCircuitView}
use Rattle.event_setup.specs.event_meaning.event_names.event_fits.Circuits.{IsReadyCircuit}
use Rattle.event_setup.specs.event_meaning.Laws.{AnswersAreExact}
use Rattle.event_setup.proofs.event_meaning.OneTree.{one_tree}

module _ (a b : EventCircuitView) (left_ready : IsReadyCircuit a) (right_ready : IsReadyCircuit b) where
  abbrev Differ : ℕ → ℕ → Type 0
  Differ p q = HaveDifferentEvents (both_of a b) (Left p) (Right q)

  abbrev Exact : Bool → ℕ → ℕ → PairAnswer → Type 0
  Exact open_latches p q x =
      ((x ≡ answer.Equal) ↔ (Differ p q → ⊥)) × ((x ≡ answer.Different) ↔ (IsDecisive (both_of a b) open_latches p q × Differ p q))
      × ((x ≡ answer.NotShown) ↔ ((IsDecisive (both_of a b) open_latches p q → ⊥) × Differ p q))

  exact : (open_latches : Bool) (conflicts p q : ℕ) (x : PairAnswer) (proof : Option Proof) → AnswerFits (both_of a b) open_latches conflicts p q x proof → x ≢ answer.Limit → Exact open_latches p q x
  exact open_latches conflicts p q x proof h not_limit = asking.exact (event_pair (both_of a b) (Left p) (Right q)) (one_tree a b left_ready right_ready (Left p)) (one_tree a b left_ready right_ready (Right q)) (IsDecisive (both_of a b) open_latches p q) conflicts x proof h not_limit

pub answers_exact : AnswersAreExact
answers_exact a b expose conflicts o nets c i p r pair_at result_at not_limit =
    let found = zip_right (PairFits (both_of c.left c.right) c.compared.cut conflicts) c.compared.pairs.now c.found.pairs c.fits.pairs_fit i p pair_at in
    let same : found.0 ≡ r = same_some (sym found.1 ∙ (ap (λ (rs : List PairResult). slice_get rs i) (sym c.pairs) ∙ result_at)) in
    let fits = subst (PairFits (both_of c.left c.right) c.compared.cut conflicts p) same found.2 in
    subst (λ open_latches. Exact c.left c.right c.reached.circuits.left_ready c.reached.circuits.right_ready open_latches p.left.0 p.right.0 r.answer) c.cut
    (exact c.left c.right c.reached.circuits.left_ready c.reached.circuits.right_ready c.compared.cut conflicts p.left.0 p.right.0 r.answer r.proof fits.answer_is not_limit)
  where
    same_some : {X : Type 0} {x y : X} → Some x ≡ Some y → x ≡ y
    same_some q = cc
