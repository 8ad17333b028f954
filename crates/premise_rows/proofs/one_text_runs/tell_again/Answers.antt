use Rattle.std.specs.Prelude.{IsSome}
use Rattle.std.proofs.Common.{ℕ, List, [], ◌∷◌, ◌∙◌, Option, refl, sym, subst}
use Rattle.std.proofs.lemmas.List.Elements.{All-nil, All-cons, All-weaker}
use Rattle.base_shelves.specs.MemShelf.{IsServing}
use Rattle.premise_rows.proofs.one_text_runs.tell_again.Goals as goal

pub returns : goal.returns
returns g c =
    let shelf = c.put.new.self in
    let path = c.in_ok-from_str.field-0 in
    let told = c.put.ensures.fails ∙ (c.new-shelf.ensures.fails ∙ c.new.ensures) in
    let held = subst (λ (o : Option (List ℕ)). IsSome o) (sym c.in_ok-put.ensures.here) refl in
    let serves : IsServing shelf path = subst (λ (p : List ℕ). IsServing shelf p) (sym c.in_ok-from_str.ensures) (held, told) in
    c.run_job-2.ensures.served (All-weaker (IsServing shelf) (IsServing c.run_job.new.shelf) c.run_job.ensures.keeps.1 (path ∷ []) (All-cons (IsServing shelf) path [] serves (All-nil (IsServing shelf))))
