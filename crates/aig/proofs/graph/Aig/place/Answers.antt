use Rattle.std.proofs.Common.{◌≡◌, ◌∙◌, ℕ, Option, Some, None, refl, sym, ap, subst, length}
use Rattle.std.specs.Prelude.{option_map, IfOk}
use Rattle.aig.specs.declared.node.Lit.{Lit}
use Rattle.aig.specs.Making.{MakesPlace}
use Rattle.aig.specs.Rules.{place_lit, IsPlaceOf}
use Rattle.aig.proofs.Insert.{place_lit-within}
use Rattle.aig.proofs.Making.{and_made}
use Rattle.aig.proofs.graph.Aig.place.Goals as goal

pub and-requires-clause-right : goal.and-requires-clause-right
and-requires-clause-right c =
    let some : place_lit c.args.place c.args.fanin.0 ≡ Some c.in-Some.l.0 = sym c.place_lit.ensures ∙ ap (option_map (λ (x : Lit). x.0)) c.in-Some.is in
    place_lit-within c.args.place c.args.fanin.0 c.in-Some.l.0 (length c.args.self.now) some c.requires.fanin

pub returns-in-Some-clause-here : goal.returns-in-Some-clause-here
returns-in-Some-clause-here c =
    let some : place_lit c.args.place c.args.fanin.0 ≡ Some c.in-Some.l.0 = sym c.place_lit.ensures ∙ ap (option_map (λ (x : Lit). x.0)) c.in-Some.is in
    subst (λ (o : Option ℕ). IfOk c.and.result (λ x. IsPlaceOf c.and.new.self c.args.from.0 o x.0)) (sym some) c.and.ensures.here

pub returns-in-None-clause-made : goal.returns-in-None-clause-made
returns-in-None-clause-made c =
    let none : place_lit c.args.place c.args.fanin.0 ≡ None = sym c.place_lit.ensures ∙ ap (option_map (λ (x : Lit). x.0)) c.in-None.is in
    subst (λ (o : Option ℕ). MakesPlace c.args.self.now c.args.from.0 o c.args.self.now c.args.from.0) (sym none) (refl, refl)

pub returns-in-Some-clause-made : goal.returns-in-Some-clause-made
returns-in-Some-clause-made c =
    let some : place_lit c.args.place c.args.fanin.0 ≡ Some c.in-Some.l.0 = sym c.place_lit.ensures ∙ ap (option_map (λ (x : Lit). x.0)) c.in-Some.is in
    subst (λ (o : Option ℕ). IfOk c.and.result (λ x. MakesPlace c.args.self.now c.args.from.0 o c.and.new.self x.0)) (sym some)
    (and_made c.args.self.now c.and.new.self c.args.from.0 c.in-Some.l.0 c.and.result c.and.ensures.here c.and.ensures.made)
