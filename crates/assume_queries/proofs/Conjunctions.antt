-- The and of none, and of one more.
use Rattle.std.proofs.Common.{◌≡◌, ℕ, ◌*◌, ◌<◌, Bool, true, false, ◌&&◌, List, [], ◌∷◌, ◌++◌, length, refl, sym, ◌∙◌, ap, arith}
use Rattle.std.proofs.lemmas.List.Elements.{All-nil, All-push, All-contains, Contains-append_left, Contains-append_right}
use Rattle.std.proofs.lemmas.Option.{slice_get_within}
use Rattle.circuit_theory.proofs.Lists.{Contains-head, All-from_each}
use Rattle.aig.specs.declared.node.Lit.{Lit}
use Rattle.aig.specs.declared.node.Node.{Node}
use Rattle.aig.specs.declared.node.Node.TheVariants.{Constant}
use Rattle.aig.specs.Graph.{IsGraph, Grows}
use Rattle.aig.specs.Rules.{IsAndOf}
use Rattle.aig.specs.Values.{value}
use Rattle.aig.proofs.CoverMeaning.{value-one}
use Rattle.aig.proofs.Growth.{Grows-trans}
use Rattle.aig.proofs.Meaning.{value-grows}
use Rattle.aig.proofs.graph_copy.Reaching.{input_back, reads_constant, reads_and}
use Rattle.assume_queries.specs.Care.{IsReadByOne, IsConjunction}

pub conjunction_none : (g : List Node) → IsGraph g → IsConjunction g [] g 1
conjunction_none g graph = record {
  within = let some = slice_get_within g 0 Constant graph.constant in omega (arith, some);
  worth = λ a. (λ e. All-nil (λ (l : Lit). value g a l.0 ≡ true), λ h. value-one g graph a);
  reads = reads_constant g graph (IsReadByOne g []) 1 (omega arith);
}

both_true : (x y : Bool) → (x && y) ≡ true → (x ≡ true) × (y ≡ true)
both_true true y e = (refl, e)
both_true false y e = absurd (let h : false ≡ true = e in cc)

and_true : (x y : Bool) → x ≡ true → y ≡ true → (x && y) ≡ true
and_true x y e f = ap (λ (b : Bool). b && y) e ∙ f

more_read : (g : List Node) (lits : List Lit) (l : Lit) (v : ℕ) → IsReadByOne g lits v → IsReadByOne g (lits ++ l ∷ []) v
more_read g lits l v r = record { literal = r.literal; node = r.node; among = Contains-append_left lits (l ∷ []) r.literal r.among; reached = r.reached; at = r.at }

-- f is the graph of the literals, g has the and of the first ones, and h that of one more
pub conjunction_more : (f g h : List Node) → IsGraph h → Grows f g → Grows g h → (lits : List Lit) (l : Lit) (x y : ℕ) → l.0 < 2 * length f → IsConjunction f lits g x → IsAndOf h x l.0 y → y < 2 * length h →
    ((a : ℕ → Bool) → value h a y ≡ (value g a x && value g a l.0)) → IsConjunction f (lits ++ l ∷ []) h y
conjunction_more f g h graph before grows lits l x y small c is within made = record {
  within = within;
  worth = λ a. (
    λ e.
        let both = both_true (value g a x) (value g a l.0) (sym (made a) ∙ e) in
        All-push (λ (m : Lit). value f a m.0 ≡ true) lits l ((c.worth a).0 both.0) (sym (value-grows f g before a l.0 small) ∙ both.1),
    λ all.
        let first : value g a x ≡ true = (c.worth a).1 (All-from_each (λ (m : Lit). value f a m.0 ≡ true) lits (λ m k. All-contains (λ (m : Lit). value f a m.0 ≡ true) (lits ++ l ∷ []) m all (Contains-append_left lits (l ∷ []) m k))) in
        let last : value f a l.0 ≡ true = All-contains (λ (m : Lit). value f a m.0 ≡ true) (lits ++ l ∷ []) l all (Contains-append_right lits (l ∷ []) l (Contains-head l [])) in
        made a ∙ and_true (value g a x) (value g a l.0) first (value-grows f g before a l.0 small ∙ last),
  );
  reads = reads_and h graph (IsReadByOne f (lits ++ l ∷ [])) x l.0 y is
      (λ k v reached at. let old = input_back g h graph.ordered grows x k v c.within reached at in more_read f lits l v (c.reads k v old.0 old.1))
      (λ k v reached at.
      let old = input_back f h graph.ordered (Grows-trans f g h before grows) l.0 k v small reached at in
      record { literal = l; node = k; among = Contains-append_right lits (l ∷ []) l (Contains-head l []); reached = old.0; at = old.1 });
}
