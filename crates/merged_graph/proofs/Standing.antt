-- Literals go on to stand for nodes while the other graph grows, and after a sweep.
use Rattle.std.proofs.Common.{◌≡◌, ◌∙◌, ◌*◌, ◌/◌, ◌%◌, ◌<◌, ◌≤◌, ◌==◌, if◌then◌else◌, ℕ, not, List, get_or, length, slice_get, take, Some, sym, ap, subst, arith, inl, inr}
use Rattle.std.specs.Prelude.{◌⊎◌}
use Rattle.std.specs.List.{All}
use Rattle.std.proofs.Math.Bool.{not-not}
use Rattle.std.proofs.lemmas.Option.{slice_get-get_or, slice_get_within}
use Rattle.std.proofs.lemmas.List.{length-append}
use Rattle.circuit_theory.proofs.Lists.{All-from_each, at_of}
use Rattle.base_tables.proofs.TableLemmas.{slice_get-take}
use Rattle.aig.specs.declared.node.Lit.{Lit}
use Rattle.aig.specs.declared.node.Node.{Node}
use Rattle.aig.specs.Graph.{Grows, flip}
use Rattle.aig.specs.Values.{value}
use Rattle.aig.proofs.Literals.{parity, flip-even, flip-within}
use Rattle.aig.proofs.Meaning.{value-grows, value-flip}
use Rattle.swept_queries.specs.declared.sweep.graph.Swept.{Swept}
use Rattle.swept_queries.specs.node_agreement.Agreeing.{Agree}
use Rattle.swept_queries.specs.node_agreement.Standing.{StandsFor, AreStandIns, plainly, signed_lit}
use Rattle.swept_queries.specs.sweep.Swept.{IsSwept}
use Rattle.merged_graph.specs.declared.merged.MergedGraph.{MergedGraph}
use Rattle.merged_graph.specs.Merged.{IsMerged}

-- of a graph that has grown
pub later : (g h : List Node) (m : MergedGraph) → Grows g h → IsMerged g m → IsMerged h m
later g h m grows is = record {
  few = omega (arith, is.few, longer);
  stand = λ n y at. let s = is.stand n y at in let w = slice_get_within m.lits n y at in record { within = s.within; same = λ a. s.same a ∙ sym (value-grows g h grows a (2 * n) (omega (arith, w, is.few))) };
}
  where
    longer : length g ≤ length h
    longer = omega (arith, ap length grows.1, length-append g grows.0)

-- all of these are literals of the graph
pub lits_within : (g h : List Node) (lits : List Lit) → AreStandIns g h lits → All (λ (l : Lit). l.0 < 2 * length h) lits
lits_within g h lits are = All-from_each (λ (l : Lit). l.0 < 2 * length h) lits (λ l k. let at = at_of lits l k in (are at.0 l at.1).within)

-- what stands for a literal stands for its node, with the literal's sign
pub back : (g h : List Node) (r x : ℕ) → StandsFor plainly g h r x → (y : ℕ) → y ≡ signed_lit x r → StandsFor plainly g h (2 * (r / 2)) y
back g h r x s y is = by (parity r)
  where
    by : (r % 2 ≡ 0) ⊎ (r % 2 ≡ 1) → StandsFor plainly g h (2 * (r / 2)) y
    by (inl even) =
        let e : y ≡ x = is ∙ ap (λ (p : ℕ). if p == 0 then x else flip x) even in
        let node : r ≡ 2 * (r / 2) = omega arith in
        subst (λ (z : ℕ). StandsFor plainly g h (2 * (r / 2)) z) (sym e) (subst (λ (z : ℕ). StandsFor plainly g h z x) node s)
    by (inr odd) =
        let e : y ≡ flip x = is ∙ ap (λ (p : ℕ). if p == 0 then x else flip x) odd in
        let even : (2 * (r / 2)) % 2 ≡ 0 = omega arith in
        let node : flip (2 * (r / 2)) ≡ r = flip-even (2 * (r / 2)) even ∙ (omega arith) in
        record {
          within = subst (λ (z : ℕ). z < 2 * length h) (sym e) (flip-within x (length h) s.within);
          same = λ a. ap (value h a) e ∙ (value-flip h a x ∙ (ap not (s.same a ∙ (sym (ap (value g a) node) ∙ value-flip g a (2 * (r / 2)))) ∙ not-not (value g a (2 * (r / 2)))));
        }

-- what agrees with it stands for the same
pub stands_too : (g h : List Node) (r x y : ℕ) → x < 2 * length h → Agree h x y → StandsFor plainly g h r y → StandsFor plainly g h r x
stands_too g h r x y within agree s = record { within = within; same = λ a. agree a ∙ s.same a }

-- so are the first of them
pub front_within : (g h : List Node) (lits : List Lit) → AreStandIns g h lits → (n : ℕ) → All (λ (l : Lit). l.0 < 2 * length h) (take n lits)
front_within g h lits are n =
    All-from_each (λ (l : Lit). l.0 < 2 * length h) (take n lits) (λ l k. let at = at_of (take n lits) l k in (are at.0 l (slice_get-take n lits at.0 l at.1).1).within)

-- after a sweep
pub swept_stand : (g h : List Node) (lits : List Lit) (s : Swept) → AreStandIns g h lits → IsSwept h lits s → AreStandIns g s.aig s.lits
swept_stand g h lits s are is n y at =
    let inside : n < length lits = omega (arith, slice_get_within s.lits n y at, is.each) in
    let x : Lit = get_or lits n y in
    let here : slice_get lits n ≡ Some x = slice_get-get_or lits n y inside in
    record { within = is.within n y at; same = λ a. is.values n x y here at a ∙ (are n x here).same a }
