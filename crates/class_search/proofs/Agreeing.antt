-- Enables that agree, while the graph grows.
use Rattle.std.proofs.Common.{◌≡◌, ◌∙◌, ◌+◌, ◌<◌, ◌≤◌, ℕ, List, slice_get, Some, sym, ap, subst, arith, inl, inr}
use Rattle.std.specs.Prelude.{◌⊎◌}
use Rattle.std.proofs.lemmas.Bool.{cases_lt}
use Rattle.event_nodes.proofs.event_variables.flat_net.Places.{one_at}
use Rattle.event_nodes.specs.event_variables.aig.Values.{value}
use Rattle.event_nodes.proofs.event_variables.aig.Growth.{Grows-length, IsAndOf-grows}
use Rattle.event_nodes.proofs.event_variables.aig.Meaning.{value-grows}
use Rattle.event_nodes.specs.Nodes.{EventGraphView, GrowsEvents}
use Rattle.pair_decide.specs.declared.query.Query.{Query}
use Rattle.pair_decide.specs.declared.query.SameBy.{SameBy}
use Rattle.pair_decide.specs.declared.query.SameBy.TheVariants as same_by
use Rattle.pair_decide.specs.declared.query.Decision.TheVariants as answer
use Rattle.pair_decide.specs.Answers.{Decides}
use Rattle.pair_decide.specs.Queries.{IsSame}
use Rattle.class_search.specs.declared.compare.Enable.{Enable}
use Rattle.class_search.specs.declared.compare.Compared.{Compared}
use Rattle.class_search.specs.Comparing.{IsReadyEnable, IsComparison}
use Rattle.class_search.specs.Fitting.{AreSameEnables}

-- what an answer that they are the same says
same_of : (w : EventGraphView) (q : Query) (conflicts : ℕ) (by : SameBy) → Decides w.graph q conflicts (answer.Same by) → IsSame w.graph q
same_of w q conflicts same_by.Literal h = h.1
same_of w q conflicts same_by.Table h = h.1
same_of w q conflicts (same_by.Refuted proof) h = h.1

pub compared_same : (w : EventGraphView) (x y : Enable) (conflicts : ℕ) (r : Compared) (by : SameBy) → IsComparison w x y conflicts r → r.decision ≡ answer.Same by → AreSameEnables w x y
compared_same w x y conflicts r by k is = record {
  care = k.query.care.0;
  both = k.both;
  within = k.within;
  same = λ a holds. sym (ap (λ l. value w.graph a l.0) k.left) ∙ (same_of w k.query conflicts by (subst (Decides w.graph k.query conflicts) is k.decided) a holds ∙ ap (λ l. value w.graph a l.0) k.right);
}

-- they go on to agree
pub same_later : (w v : EventGraphView) → GrowsEvents w v → (x y : Enable) → IsReadyEnable w x → IsReadyEnable w y → AreSameEnables w x y → AreSameEnables v x y
same_later w v grows x y ready_x ready_y k = record {
  care = k.care;
  both = IsAndOf-grows w.graph v.graph grows.graph x.care.0 y.care.0 k.care k.both;
  within = let more = Grows-length w.graph v.graph grows.graph in omega (arith, k.within, more);
  same = λ a holds. value-grows w.graph v.graph grows.graph a x.value.0 ready_x.value_within
      ∙ (k.same a (sym (value-grows w.graph v.graph grows.graph a k.care k.within) ∙ holds) ∙ sym (value-grows w.graph v.graph grows.graph a y.value.0 ready_y.value_within));
}

-- the first members agree, and one member more
pub same_next : (w v : EventGraphView) → GrowsEvents w v → (members : List Enable) (latch : Enable) → ((i : ℕ) (x : Enable) → slice_get members i ≡ Some x → IsReadyEnable w x) → IsReadyEnable w latch → (at : ℕ) (own : Enable) → slice_get members at ≡ Some own →
    ((i : ℕ) (x : Enable) → i < at → slice_get members i ≡ Some x → AreSameEnables w x latch) → AreSameEnables v own latch → (i : ℕ) (x : Enable) → i < at + 1 → slice_get members i ≡ Some x → AreSameEnables v x latch
same_next w v grows members latch ready ready_latch at own here before agrees i x below at_i = go (cases_lt i at)
  where
    go : (i < at) ⊎ (at ≤ i) → AreSameEnables v x latch
    go (inl l) = same_later w v grows x latch (ready i x at_i) ready_latch (before i x l at_i)
    go (inr l) = let last : i ≡ at = omega (arith, l, below) in subst (λ (y : Enable). AreSameEnables v y latch) (one_at members at own x here (subst (λ (m : ℕ). slice_get members m ≡ Some x) last at_i)) agrees
