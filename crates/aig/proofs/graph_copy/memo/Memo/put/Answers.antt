-- A place that wasn't met goes last, and so does its literal.
use Rattle.std.proofs.Common.{◌≡◌, ◌∙◌, ℕ, List, [], ◌∷◌, ◌++◌, map, sym, ap, subst, Contains}
use Rattle.std.specs.List.{zip}
use Rattle.aig.specs.declared.node.Lit.{Lit}
use Rattle.aig.proofs.graph_copy.Entries.{new_place, zip_push}
use Rattle.aig.proofs.graph_copy.memo.Memo.put.Goals as goal

pub put-requires : goal.put-requires
put-requires c =
    new_place c.self.inside.places c.self.inside.lits.items c.self.invariant c.args.place (subst (λ (es : List ((ℕ × ℕ) × Lit)). Contains (map (λ e. e.0) es) c.args.place → ⊥) (sym c.self.view_is) c.requires)

pub returns-clause-ok : goal.returns-clause-ok
returns-clause-ok c =
    let places : c.put.new.self ≡ c.self.inside.places ++ c.args.place ∷ [] = c.in_ok-put.ensures.ok in
    let lits : c.put_last.new.lits.items ≡ c.self.inside.lits.items ++ c.args.lit ∷ [] = c.put_last.ensures ∙ ap (λ (xs : List Lit). xs ++ c.args.lit ∷ []) c.reserve.ensures.items in
    ap (λ (ps : List (ℕ × ℕ)). zip ps c.put_last.new.lits.items) places ∙ ap (zip (c.self.inside.places ++ c.args.place ∷ [])) lits ∙ zip_push c.self.inside.places c.self.inside.lits.items c.args.place c.args.lit c.self.invariant ∙ ap (λ (es : List ((ℕ × ℕ) × Lit)). es ++ (c.args.place, c.args.lit) ∷ []) c.self.view_is
