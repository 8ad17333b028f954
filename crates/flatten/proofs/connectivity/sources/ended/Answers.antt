use Rattle.std.proofs.Common.{◌≡◌, ◌∙◌, ◌∷◌, ◌++◌, [], ℕ, Bool, List, Option, Some, None, if◌then◌else◌, get_or, take, map, sym, ap}
use Rattle.std.proofs.lemmas.List.{take_all, map_more}
use Rattle.flatten.specs.connectivity.Steps.{net_at}
use Rattle.flatten.proofs.connectivity.sources.ended.Goals as goal
use Rattle.flatten.proofs.connectivity.sources.ended.Goals.{then-is_some, else-is_some}

pub returns : goal.returns
returns c = c.loop-place.invariant ∙ ap (map (net_at c.args.froms.now)) (take_all c.loop-place.place-index c.args.at.now c.loop-place-test.false)

pub loop-place-preserved : goal.loop-place-preserved
loop-place-preserved c =
    let froms = c.args.froms.now in
    let at = c.args.at.now in
    let i = c.loop-place.place-index in
    let m : ℕ = get_or at i 0 in
    let is : c.if-is_some.push ≡ net_at froms m =
    elim c.if-is_some.branch [
      | then-is_some w ↦ w.push-is ∙ ap (λ (b : Bool). if b then None else Some m) (sym w.if-is_some.true ∙ c.is_some.ensures)
      | else-is_some w ↦ w.push-is ∙ ap (λ (b : Bool). if b then None else Some m) (sym w.if-is_some.false ∙ c.is_some.ensures)
    ] in
    c.in_ok-push.ensures.items ∙ ap (λ (z : List (Option ℕ)). z ++ c.if-is_some.push ∷ []) c.loop-place.invariant ∙ ap (λ (o : Option ℕ). map (net_at froms) (take i at) ++ o ∷ []) is
    ∙ sym (map_more (net_at froms) at i 0 c.loop-place-test.true)
