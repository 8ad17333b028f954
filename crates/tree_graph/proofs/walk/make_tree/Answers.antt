use Rattle.std.proofs.Common.{◌≡◌, ◌∙◌, ℕ, ◌<◌, List, [], ◌∷◌, ◌++◌, length, Option, Some, None, refl, ap, subst, arith}
use Rattle.std.specs.Prelude.{◌↔◌, IsSome}
use Rattle.std.specs.List.{Contains}
use Rattle.std.proofs.lemmas.Result.{IfOk-weaker}
use Rattle.std.proofs.lemmas.Option.{none-some}
use Rattle.std.proofs.lemmas.Bool.{false≢true}
use Rattle.circuit_theory.specs.Tree.{Tree}
use Rattle.circuit_theory.proofs.Lists.{at_of}
use Rattle.aig.specs.declared.node.Lit.{Lit}
use Rattle.aig.specs.Builds.{Builds}
use Rattle.tree_graph.specs.Making.{Makes}
use Rattle.tree_graph.specs.Rooted.{IsTreeOf}
use Rattle.tree_graph.proofs.Built.{tree_built}
use Rattle.tree_graph.proofs.Waiting.{last_tree, waits_on, waits_none, waits_root}
use Rattle.tree_graph.proofs.walk.make_tree.Goals as goal

some_is : (r : Option (ℕ × ℕ)) → ((x : ℕ × ℕ) → r ≡ Some x → ⊥) → IsSome r → ⊥
some_is None never h = absurd (false≢true h)
some_is (Some x) never h = never x refl

-- nothing is left where nothing can be taken
no_items : (r : Option (ℕ × ℕ)) (items : List (ℕ × ℕ)) (n : ℕ) → ((x : ℕ × ℕ) → r ≡ Some x → ⊥) → (IsSome r ↔ 0 < n) → length items ≡ n → items ≡ []
no_items r [] n never some e = refl
no_items r (x ∷ xs) n never some e = absurd (some_is r never (some.1 (omega (arith, e))))

pub loop-init : goal.loop-init
loop-init c =
    let s = c.args.side.now in
    record {
      few = c.requires.few;
      known = λ p x m. absurd (let at = at_of [] (p, x) (subst (λ (es : List ((ℕ × ℕ) × Lit)). Contains es (p, x)) c.new-memo.ensures m) in none-some (p, x) at.1);
      waiting = waits_root s.net.now s.order.now c.args.places.now c.keeps.ensures.sound (0, s.root.0) c.args.aig.now c.requires.tree.tree c.requires.tree.is_tree c.push.new.stack.items (c.in_ok-push.ensures ∙ ap (λ (ps : List (ℕ × ℕ)). ps ++ (0, s.root.0) ∷ []) c.new-stack.ensures.items);
    }

pub visit-requires-clause-tree : goal.visit-requires-clause-tree
visit-requires-clause-tree c =
    let s = c.args.side.now in
    last_tree s.net.now s.order.now c.args.places.now (0, s.root.0) c.args.aig.now c.loop.aig c.loop.stack.items c.pop.new.self.items c.in-Some.place c.in-Some.ensures.items c.loop.invariant.waiting

pub loop-preserved : goal.loop-preserved
loop-preserved c =
    let s = c.args.side.now in
    record {
      few = c.visit.ensures.few;
      known = c.in_ok-visit.ensures.known;
      waiting = waits_on s.net.now s.order.now c.args.places.now (0, s.root.0) c.args.aig.now c.loop.aig c.visit.new.aig c.loop.stack.items c.pop.new.self.items c.visit.new.stack.items c.in-Some.place c.in-Some.ensures.items c.loop.invariant.waiting c.in_ok-visit.ensures.visited;
    }

pub returns-in_default-clause-made : goal.returns-in_default-clause-made
returns-in_default-clause-made c =
    let s = c.args.side.now in
    let none : c.loop.stack.items ≡ [] = no_items c.pop.result c.loop.stack.items _ c.in_default.not-Some c.pop.ensures.variant (omega (arith, c.loop.stack.ok.0)) in
    IfOk-weaker c.found.result (λ x. (t : Tree ℕ) (y : ℕ) → IsTreeOf s t → Builds c.loop.aig c.args.places.now t y → y ≡ x.0) (λ x. (t : Tree ℕ) → IsTreeOf s t → Makes c.args.places.now c.args.aig.now t c.loop.aig x.0)
    (λ x one t is.
    let made = waits_none s.net.now s.order.now c.args.places.now (0, s.root.0) c.args.aig.now c.loop.aig c.loop.stack.items none c.loop.invariant.waiting t is in
    subst (λ (y : ℕ). Makes c.args.places.now c.args.aig.now t c.loop.aig y) (one t made.0 is (tree_built c.args.places.now c.args.aig.now c.loop.aig t made.0 made.1)) made.1) c.found.ensures.made
