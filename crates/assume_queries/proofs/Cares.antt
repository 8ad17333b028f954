-- A care over a graph that has grown before it, and behind it.
use Rattle.std.proofs.Common.{◌≡◌, ℕ, ◌*◌, ◌<◌, Bool, true, List, length, sym, ◌∙◌, arith}
use Rattle.std.specs.List.{All, Contains}
use Rattle.std.proofs.lemmas.List.Elements.{All-contains}
use Rattle.circuit_theory.proofs.Lists.{All-from_each}
use Rattle.aig.specs.declared.node.Lit.{Lit}
use Rattle.aig.specs.declared.node.Node.{Node}
use Rattle.aig.specs.Graph.{IsGraph, Grows}
use Rattle.aig.specs.Values.{value}
use Rattle.aig.proofs.Growth.{Grows-length}
use Rattle.aig.proofs.Meaning.{value-grows}
use Rattle.aig.proofs.graph_copy.Reaching.{input_back}
use Rattle.assume_queries.specs.Care.{IsConjunction}

-- the literals stand in the graph as it was
pub conjunction_from : (f g h : List Node) → IsGraph g → Grows f g → (lits : List Lit) → All (λ (l : Lit). l.0 < 2 * length f) lits → (x : ℕ) → IsConjunction g lits h x → IsConjunction f lits h x
conjunction_from f g h graph grows lits small x c = record {
  within = c.within;
  worth = λ a. (
    λ e. let all = (c.worth a).0 e in All-from_each (λ (l : Lit). value f a l.0 ≡ true) lits (λ l k. sym (same a l k) ∙ All-contains (λ (l : Lit). value g a l.0 ≡ true) lits l all k),
    λ all. (c.worth a).1 (All-from_each (λ (l : Lit). value g a l.0 ≡ true) lits (λ l k. same a l k ∙ All-contains (λ (l : Lit). value f a l.0 ≡ true) lits l all k)),
  );
  reads = λ k v reached at.
      let r = c.reads k v reached at in
      let old = input_back f g graph.ordered grows r.literal.0 r.node v (All-contains (λ (l : Lit). l.0 < 2 * length f) lits r.literal small r.among) r.reached r.at in
      record { literal = r.literal; node = r.node; among = r.among; reached = old.0; at = old.1 };
}
  where
    same : (a : ℕ → Bool) (l : Lit) → Contains lits l → value g a l.0 ≡ value f a l.0
    same a l k = value-grows f g grows a l.0 (All-contains (λ (l : Lit). l.0 < 2 * length f) lits l small k)

-- and it stays while the graph grows
pub conjunction_later : (f g h : List Node) → IsGraph h → Grows g h → (lits : List Lit) (x : ℕ) → IsConjunction f lits g x → IsConjunction f lits h x
conjunction_later f g h graph grows lits x c = record {
  within = let more = Grows-length g h grows in omega (arith, c.within, more);
  worth = λ a. (λ e. (c.worth a).0 (sym (value-grows g h grows a x c.within) ∙ e), λ all. value-grows g h grows a x c.within ∙ (c.worth a).1 all);
  reads = λ k v reached at. let old = input_back g h graph.ordered grows x k v c.within reached at in c.reads k v old.0 old.1;
}
