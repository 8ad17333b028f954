use Rattle.std.proofs.Common.{ℕ, ◌+◌, ◌∙◌, List, [], ◌∷◌, Contains, subst, sym}
use Rattle.std.proofs.lemmas.List.Elements.{Contains-append_left, Contains-append_right}
use Rattle.clause_base.proofs.Members.{Contains-head}
use Rattle.proof_check.proofs.Marking.{reached_signed}
use Rattle.proof_check.proofs.marks.Marks.reach.Goals as goal

pub returns-in_ok-push-clause-marking : goal.returns-in_ok-push-clause-marking
returns-in_ok-push-clause-marking c =
    let e = c.in_ok-grow.ensures in
    let kept : (v : ℕ) → Contains c.args.self.now.touched.items v → Contains c.push.new.self.items v = (λ v h. subst (λ (t : List ℕ). Contains t v) (sym c.in_ok-push.ensures.items) (Contains-append_left c.grow.new.self.touched.items (c.args.variable ∷ []) v (subst (λ (t : List ℕ). Contains t v) (sym e.touched) h))) in
    record { small = e.small; listed = λ i s at. kept (i + 1) (c.requires.marking.listed i s (sym (e.same i) ∙ at)) }

pub returns-in_ok-push-clause-roomier : goal.returns-in_ok-push-clause-roomier
returns-in_ok-push-clause-roomier c =
    let e = c.in_ok-grow.ensures in
    record { same = e.same; longer = e.longer; kept = (λ v h. subst (λ (t : List ℕ). Contains t v) (sym c.in_ok-push.ensures.items) (Contains-append_left c.grow.new.self.touched.items (c.args.variable ∷ []) v (subst (λ (t : List ℕ). Contains t v) (sym e.touched) h))) }

pub returns-else-is_none-clause-marking : goal.returns-else-is_none-clause-marking
returns-else-is_none-clause-marking c =
    let e = c.in_ok-grow.ensures in
    let kept : (v : ℕ) → Contains c.args.self.now.touched.items v → Contains c.grow.new.self.touched.items v = (λ v h. subst (λ (t : List ℕ). Contains t v) (sym e.touched) h) in
    record { small = e.small; listed = λ i s at. kept (i + 1) (c.requires.marking.listed i s (sym (e.same i) ∙ at)) }

pub returns-else-is_none-clause-roomier : goal.returns-else-is_none-clause-roomier
returns-else-is_none-clause-roomier c =
    let e = c.in_ok-grow.ensures in
    record { same = e.same; longer = e.longer; kept = (λ v h. subst (λ (t : List ℕ). Contains t v) (sym e.touched) h) }

pub returns-in_ok-push-clause-reached : goal.returns-in_ok-push-clause-reached
returns-in_ok-push-clause-reached c =
    let v = c.args.variable in
    (c.in_ok-grow.ensures.size, subst (λ (t : List ℕ). Contains t v) (sym c.in_ok-push.ensures.items) (Contains-append_right c.grow.new.self.touched.items (v ∷ []) v (Contains-head v [])))

pub returns-else-is_none-clause-reached : goal.returns-else-is_none-clause-reached
returns-else-is_none-clause-reached c =
    let e = c.in_ok-grow.ensures in
    (e.size, reached_signed c.args.self.now.signs.items c.grow.new.self.signs.items c.args.self.now.touched.items c.grow.new.self.touched.items c.args.variable c.sign.result c.requires.marking c.requires.above e.same e.touched c.sign.ensures c.if-is_none.ensures)
