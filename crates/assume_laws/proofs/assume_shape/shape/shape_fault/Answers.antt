-- No latch, one output, and the first foreign input or none.
use Rattle.std.proofs.Common.{◌≡◌, ◌≤◌, ◌∙◌, ℕ, List, [], ◌∷◌, length, get_or, slice_get, Some, refl, ap, arith}
use Rattle.std.proofs.lemmas.Option.{get_or_from_slice_get}
use Rattle.sec_setup.specs.ports.flat_net.Port.{Port}
use Rattle.assume_laws.proofs.assume_shape.shape.shape_fault.Goals as goal

nothing : {X : Type 0} (xs : List X) → length xs ≤ 0 → xs ≡ []
nothing [] h = refl
nothing (x ∷ xs) h = absurd (omega arith)

single : {X : Type 0} (xs : List X) → length xs ≡ 1 → (x : X) × (xs ≡ x ∷ [])
single [] h = absurd (omega arith)
single (x ∷ []) h = (x, refl)
single (x ∷ y ∷ xs) h = absurd (omega arith)

same_port : (xs ys : List Port) (i : ℕ) (x y : Port) → ys ≡ xs → slice_get xs i ≡ Some y → get_or ys i x ≡ y
same_port xs ys i x y e at = ap (λ (l : List Port). get_or l i x) e ∙ get_or_from_slice_get xs i y x at

pub returns-in-Some : goal.returns-in-Some
returns-in-Some c =
    let n = c.args.c.now in
    let found = c.in-Some.ensures.found in (
      nothing n.latches (omega (arith, ap length c.latches.ensures, c.if-latches-gt0.false)),
      omega (arith, ap length c.outputs-count.ensures, c.if-count-ne1.false),
      (c.in-Some.i, found, c.in_ok-name-2.ensures ∙ ap (λ (p : Port). p.name) (same_port n.inputs c.inputs.result.now c.in-Some.i c.index-inputs-i.result found.port c.inputs.ensures found.at)),
    )

pub returns : goal.returns
returns c =
    let n = c.args.c.now in
    let one = single n.outputs (omega (arith, ap length c.outputs-count.ensures, c.if-count-ne1.false)) in
    record { latches = nothing n.latches (omega (arith, ap length c.latches.ensures, c.if-latches-gt0.false)); output = one.0; outputs = one.1; inputs = c.in_default.ensures.none }
