use Rattle.std.proofs.Common.{◌≡◌, ◌∙◌, ℕ, ◌*◌, ◌<◌, Bool, ◌&&◌, List, length, None, sym, ap, subst}
use Rattle.std.proofs.lemmas.Result.{IfOk-weaker}
use Rattle.std.specs.Prelude.{option_map}
use Rattle.aig.specs.declared.node.Lit.{Lit}
use Rattle.aig.specs.declared.node.Node.{Node}
use Rattle.aig.specs.Graph.{IsGraph, IsAbove, IsLitOf, Grows}
use Rattle.aig.specs.Values.{value}
use Rattle.aig.specs.Rules.{simple_and, IsAndOf}
use Rattle.aig.proofs.CoverMeaning.{value-and}
use Rattle.aig.proofs.Insert.{and_node-above, simple_and-none, simple_and-within, simple_and-is, and_node-is, with_and-is, with_and-made, value-and_grown, lit-within}
use Rattle.aig.proofs.graph.Aig.and.Goals as goal

pub insert-requires-clause-above : goal.insert-requires-clause-above
insert-requires-clause-above c =
    let none : simple_and c.args.l.0 c.args.r.0 ≡ None = sym c.simple_and.ensures ∙ ap (option_map (λ (x : Lit). x.0)) c.in-None.is in
    let g : List Node = c.self.inside.nodes in
    let left : c.args.l.0 < 2 * length g = subst (λ (k : List Node). c.args.l.0 < 2 * length k) (sym c.self.view_is) c.requires.left in
    let right : c.args.r.0 < 2 * length g = subst (λ (k : List Node). c.args.r.0 < 2 * length k) (sym c.self.view_is) c.requires.right in
    subst (λ (node : Node). IsAbove (length g) node) (sym c.and_node.ensures) (and_node-above (length g) c.args.l.0 c.args.r.0 (simple_and-none c.args.l.0 c.args.r.0 none) left right)

pub returns-in-Some-clause-within : goal.returns-in-Some-clause-within
returns-in-Some-clause-within c = simple_and-within (length c.args.self.now) c.args.l.0 c.args.r.0 c.in-Some.x.0 (sym c.in-Some.ensures) c.requires.left c.requires.right

pub returns-in-Some-clause-value : goal.returns-in-Some-clause-value
returns-in-Some-clause-value c = λ a.
    value-and c.args.self.now (subst IsGraph c.self.view_is c.self.invariant.0) a c.args.l.0 c.args.r.0 c.in-Some.x.0 (simple_and-is c.args.self.now c.args.l.0 c.args.r.0 c.in-Some.x.0 (sym c.in-Some.ensures))

pub returns-in-None-clause-here : goal.returns-in-None-clause-here
returns-in-None-clause-here c =
    let none : simple_and c.args.l.0 c.args.r.0 ≡ None = sym c.simple_and.ensures ∙ ap (option_map (λ (x : Lit). x.0)) c.in-None.is in
    let h : List Node = c.insert.new.nodes in
    IfOk-weaker c.insert.result (λ x. IsLitOf h c.and_node.result x.0) (λ x. IsAndOf h c.args.l.0 c.args.r.0 x.0)
    (λ x here. and_node-is h c.args.l.0 c.args.r.0 x.0 none (subst (λ (node : Node). IsLitOf h node x.0) c.and_node.ensures here)) c.insert.ensures.here

pub returns-in-None-clause-within : goal.returns-in-None-clause-within
returns-in-None-clause-within c =
    let h : List Node = c.insert.new.nodes in
    IfOk-weaker c.insert.result (λ x. IsLitOf h c.and_node.result x.0) (λ x. x.0 < 2 * length h) (λ x here. lit-within h c.and_node.result x.0 here) c.insert.ensures.here

pub returns-in-None-clause-value : goal.returns-in-None-clause-value
returns-in-None-clause-value c =
    let g : List Node = c.args.self.now in
    let h : List Node = c.insert.new.nodes in
    let grows : Grows g h = subst (λ (k : List Node). Grows k h) c.self.view_is c.insert.ensures.grows in
    IfOk-weaker c.insert.result (λ x. IsAndOf h c.args.l.0 c.args.r.0 x.0) (λ x. (a : ℕ → Bool) → value h a x.0 ≡ value g a c.args.l.0 && value g a c.args.r.0)
    (λ x here a. value-and_grown g h c.insert.ensures.graph grows c.args.l.0 c.args.r.0 x.0 c.requires.left c.requires.right here a) (returns-in-None-clause-here c)

pub returns-in-None-clause-grows : goal.returns-in-None-clause-grows
returns-in-None-clause-grows c = subst (λ (k : List Node). Grows k c.insert.new.nodes) c.self.view_is c.insert.ensures.grows

pub returns-in-Some-clause-made : goal.returns-in-Some-clause-made
returns-in-Some-clause-made c = with_and-is c.args.self.now c.args.l.0 c.args.r.0 c.in-Some.x.0 (sym c.in-Some.ensures)

pub returns-in-None-clause-made : goal.returns-in-None-clause-made
returns-in-None-clause-made c =
    let none : simple_and c.args.l.0 c.args.r.0 ≡ None = sym c.simple_and.ensures ∙ ap (option_map (λ (x : Lit). x.0)) c.in-None.is in
    let g : List Node = c.args.self.now in
    let h : List Node = c.insert.new.nodes in
    with_and-made c.insert.result g c.self.inside.nodes h c.and_node.result c.args.l.0 c.args.r.0 none c.self.view_is c.and_node.ensures c.insert.ensures.made
