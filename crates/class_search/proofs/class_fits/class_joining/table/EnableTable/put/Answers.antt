-- A new key goes last, and so does its class.
use Rattle.std.proofs.Common.{◌≡◌, ◌∙◌, ℕ, List, [], ◌∷◌, ◌++◌, map, sym, ap, subst, Contains}
use Rattle.std.specs.List.{zip}
use Rattle.aig.proofs.graph_copy.Entries.{new_place, zip_push}
use Rattle.class_search.proofs.class_fits.class_joining.table.EnableTable.put.Goals as goal

pub put-requires : goal.put-requires
put-requires c =
    new_place c.self.inside.enables c.self.inside.classes.items c.self.invariant (c.args.enable.0, c.args.care.0) (subst (λ (es : List ((ℕ × ℕ) × ℕ)). Contains (map (λ e. e.0) es) (c.args.enable.0, c.args.care.0) → ⊥) (sym c.self.view_is) c.requires)

pub returns-clause-ok : goal.returns-clause-ok
returns-clause-ok c =
    let enables : c.put.new.self ≡ c.self.inside.enables ++ (c.args.enable.0, c.args.care.0) ∷ [] = c.in_ok-put.ensures.ok in
    let classes : c.put_last.new.classes.items ≡ c.self.inside.classes.items ++ c.args.class ∷ [] = c.put_last.ensures ∙ ap (λ (xs : List ℕ). xs ++ c.args.class ∷ []) c.reserve.ensures.items in
    ap (λ (ps : List (ℕ × ℕ)). zip ps c.put_last.new.classes.items) enables ∙ ap (zip (c.self.inside.enables ++ (c.args.enable.0, c.args.care.0) ∷ [])) classes ∙ zip_push c.self.inside.enables c.self.inside.classes.items (c.args.enable.0, c.args.care.0) c.args.class c.self.invariant ∙ ap (λ (es : List ((ℕ × ℕ) × ℕ)). es ++ ((c.args.enable.0, c.args.care.0), c.args.class) ∷ []) c.self.view_is
