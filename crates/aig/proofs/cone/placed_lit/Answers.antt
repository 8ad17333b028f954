use Rattle.std.proofs.Common.{◌≡◌, ℕ, ◌+◌, ◌*◌, ◌/◌, ◌%◌, ◌<◌, ◌≤◌, slice_get, Some, Contains, arith, ap, sym, subst, ◌∙◌}
use Rattle.std.proofs.lemmas.Option.{slice_get_within, get_or_from_slice_get}
use Rattle.aig.proofs.Parts.{search-found, search-missed, place-below}
use Rattle.aig.proofs.cone.placed_lit.Goals as goal

pub overflow_cast-result : goal.overflow_cast-result
overflow_cast-result c =
    let at = search-found c.args.cone.now c.requires.increasing c.node.result c.in-Ok.k c.in-Ok.ensures.position ∙ ap Some c.node.ensures in
    let low : c.in-Ok.k ≤ c.args.l.0 / 2 = place-below c.args.cone.now c.requires.increasing c.in-Ok.k (c.args.l.0 / 2) at in
    omega (arith, low, c.requires.few c.in-Ok.k 0 (slice_get_within c.args.cone.now c.in-Ok.k (c.args.l.0 / 2) at), get_or_from_slice_get c.args.cone.now c.in-Ok.k (c.args.l.0 / 2) 0 at)

pub overflow_mul-result : goal.overflow_mul-result
overflow_mul-result c =
    let at = search-found c.args.cone.now c.requires.increasing c.node.result c.in-Ok.k c.in-Ok.ensures.position ∙ ap Some c.node.ensures in
    let low : c.in-Ok.k ≤ c.args.l.0 / 2 = place-below c.args.cone.now c.requires.increasing c.in-Ok.k (c.args.l.0 / 2) at in
    omega (arith, low, c.requires.few c.in-Ok.k 0 (slice_get_within c.args.cone.now c.in-Ok.k (c.args.l.0 / 2) at), get_or_from_slice_get c.args.cone.now c.in-Ok.k (c.args.l.0 / 2) 0 at)

pub overflow_add-result : goal.overflow_add-result
overflow_add-result c =
    let at = search-found c.args.cone.now c.requires.increasing c.node.result c.in-Ok.k c.in-Ok.ensures.position ∙ ap Some c.node.ensures in
    let low : c.in-Ok.k ≤ c.args.l.0 / 2 = place-below c.args.cone.now c.requires.increasing c.in-Ok.k (c.args.l.0 / 2) at in
    omega (arith, low, c.requires.few c.in-Ok.k 0 (slice_get_within c.args.cone.now c.in-Ok.k (c.args.l.0 / 2) at), get_or_from_slice_get c.args.cone.now c.in-Ok.k (c.args.l.0 / 2) 0 at)

sign-of : (k s : ℕ) → s < 2 → (2 * k + s) % 2 ≡ s
sign-of k s h = omega arith

half-of : (k s : ℕ) → s < 2 → (2 * k + s) / 2 ≡ k
half-of k s h = omega arith

pub returns-in-Ok : goal.returns-in-Ok
returns-in-Ok c =
    let at = search-found c.args.cone.now c.requires.increasing c.node.result c.in-Ok.k c.in-Ok.ensures.position ∙ ap Some c.node.ensures in
    let small : c.args.l.0 % 2 < 2 = omega arith in
    (sign-of c.in-Ok.k (c.args.l.0 % 2) small, ap (slice_get c.args.cone.now) (half-of c.in-Ok.k (c.args.l.0 % 2) small) ∙ at)

pub returns-in-Err : goal.returns-in-Err
returns-in-Err c = absurd (search-missed c.args.cone.now c.requires.increasing c.node.result c.in-Err.field-0 c.in-Err.ensures.position (subst (Contains c.args.cone.now) (sym c.node.ensures) c.requires.there))
