use Rattle.std.proofs.Common.{◌≡◌, ◌∙◌, ℕ, Option, Some, None, sym, ap, subst, length, refl}
use Rattle.std.specs.Prelude.{option_map, IfOk}
use Rattle.aig.specs.declared.node.Lit.{Lit}
use Rattle.aig.specs.Rules.{place_lit}
use Rattle.aig.proofs.Insert.{place_lit-within}
use Rattle.aig.specs.Making.{MakesPlace}
use Rattle.tree_graph.proofs.covers.make_place.Goals as goal

pub make_and-requires-clause-right : goal.make_and-requires-clause-right
make_and-requires-clause-right c =
    let some : place_lit c.args.place c.args.fanin.0 ≡ Some c.in-Some.l.0 = sym c.place_lit.ensures ∙ ap (option_map (λ (x : Lit). x.0)) c.in-Some.is in
    place_lit-within c.args.place c.args.fanin.0 c.in-Some.l.0 (length c.args.aig.now) some c.requires.fanin

pub returns-in-None-clause-made : goal.returns-in-None-clause-made
returns-in-None-clause-made c =
    let none : place_lit c.args.place c.args.fanin.0 ≡ None = sym c.place_lit.ensures ∙ ap (option_map (λ (x : Lit). x.0)) c.in-None.is in
    subst (λ (o : Option ℕ). MakesPlace c.args.aig.now c.args.from.0 o c.args.aig.now c.args.from.0) (sym none) (refl, refl)

pub returns-in-Some-clause-made : goal.returns-in-Some-clause-made
returns-in-Some-clause-made c =
    let some : place_lit c.args.place c.args.fanin.0 ≡ Some c.in-Some.l.0 = sym c.place_lit.ensures ∙ ap (option_map (λ (x : Lit). x.0)) c.in-Some.is in
    subst (λ (o : Option ℕ). IfOk c.make_and.result (λ x. MakesPlace c.args.aig.now c.args.from.0 o c.make_and.new.aig x.0)) (sym some) c.make_and.ensures.made
