use Rattle.std.proofs.Common.{◌≡◌, ◌+◌, ℕ, List, [], ◌∷◌, ◌++◌, length, ap, sym, ◌∙◌, subst, arith}
use Rattle.clause_base.specs.Literals.{Literal}
use Rattle.clause_watch.specs.Flat.{pieces, IsFlat}
use Rattle.clause_watch.proofs.Pieces.{pieces_push, flat_push}
use Rattle.clause_watch.proofs.clause_db.ClauseDb.push.Goals as goal

pub invariant_of-self-in-Ok : goal.invariant_of-self-in-Ok
invariant_of-self-in-Ok c =
    let size : c.len.result + length c.args.clause.now ≡ length c.self.inside.literals.items + length c.args.clause.now = omega (arith, c.len.ensures, c.self.inside.literals.ok.0) in
    let whole = flat_push c.self.inside.literals.items c.args.clause.now (c.len.result + length c.args.clause.now) c.self.inside.starts.items c.self.invariant c.requires size in
    subst (λ (s : List ℕ). IsFlat c.extend_from_slice.new.self.items s) (sym c.in_ok-push.ensures.items)
    (subst (λ (ls : List Literal). IsFlat ls (c.self.inside.starts.items ++ (c.len.result + length c.args.clause.now) ∷ [])) (sym c.in-Ok.ensures.items) whole)

pub returns-in-Ok-clause-ok : goal.returns-in-Ok-clause-ok
returns-in-Ok-clause-ok c =
    let size : c.len.result + length c.args.clause.now ≡ length c.self.inside.literals.items + length c.args.clause.now = omega (arith, c.len.ensures, c.self.inside.literals.ok.0) in
    let end = c.len.result + length c.args.clause.now in
    let grown : pieces c.extend_from_slice.new.self.items c.push.new.self.items ≡ pieces (c.self.inside.literals.items ++ c.args.clause.now) (c.self.inside.starts.items ++ end ∷ []) =
    ap (λ (ls : List Literal). pieces ls c.push.new.self.items) c.in-Ok.ensures.items ∙ ap (λ (s : List ℕ). pieces (c.self.inside.literals.items ++ c.args.clause.now) s) c.in_ok-push.ensures.items in
    grown ∙ (pieces_push c.self.inside.literals.items c.args.clause.now end c.self.inside.starts.items c.self.invariant.cut size ∙ ap (λ (x : List (List Literal)). x ++ c.args.clause.now ∷ []) c.self.view_is)

pub invariant_of-self : goal.invariant_of-self
invariant_of-self c = subst (λ (s : List ℕ). IsFlat c.self.inside.literals.items s) (sym c.in_err-push.ensures.items) c.self.invariant
