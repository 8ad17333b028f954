-- The input's number.
use Rattle.std.proofs.Common.{◌≡◌, ◌∙◌, ◌+◌, ◌^◌, ◌<◌, ℕ, Bool, List, length, get_or, slice_get, Some, sym, ap, subst, arith}
use Rattle.std.proofs.lemmas.List.Elements.{All-get_or}
use Rattle.std.proofs.lemmas.Option.{slice_get_within, slice_get-get_or}
use Rattle.circuit_theory.specs.Joined.{Either}
use Rattle.flat_net.specs.declared.parts.Driver.TheVariants as driver
use Rattle.aig.specs.declared.node.Lit.{Lit}
use Rattle.aig.specs.Values.{value}
use Rattle.circuit_laws.specs.signal_laws.Ties.{side_at}
use Rattle.signal_refine.specs.Places.{size_of}
use Rattle.signal_refine.specs.Frames.{IsReadBy}
use Rattle.signal_refine.proofs.Parts.{IsAt, spot_is_at}
use Rattle.signal_refine.proofs.Results.{ok_map}
use Rattle.signal_refine.proofs.Sources.{input_value}
use Rattle.signal_refine.proofs.leaves.input_literal.Goals as goal

pub bounds-as_slice-i : goal.bounds-as_slice-i
bounds-as_slice-i c =
    let at = spot_is_at c.args.cycle.now c.args.aig.now c.requires.fit c.keeps.ensures.sound c.keeps-2.ensures.sound c.args.place c.args.spot.now c.requires.spot in
    let port = at.part.sound.drivers c.args.spot.now.signal.0 (driver.Input c.args.i) c.requires.drives in
    let inside = slice_get_within c.args.spot.now.net.now.inputs c.args.i port.0 port.1 in
    omega (arith, inside, at.part.long, ap length c.as_slice.ensures)

pub input-requires-clause-small : goal.input-requires-clause-small
input-requires-clause-small c =
    let at = spot_is_at c.args.cycle.now c.args.aig.now c.requires.fit c.keeps.ensures.sound c.keeps-2.ensures.sound c.args.place c.args.spot.now c.requires.spot in
    let port = at.part.sound.drivers c.args.spot.now.signal.0 (driver.Input c.args.i) c.requires.drives in
    let inside = slice_get_within c.args.spot.now.net.now.inputs c.args.i port.0 port.1 in
    subst (λ (l : List ℕ). c.args.cycle.now.inputs + get_or l c.args.i 0 + 1 < 2 ^ 32) (sym c.as_slice.ensures)
    (All-get_or (λ (k : ℕ). c.args.cycle.now.inputs + k + 1 < 2 ^ 32) c.args.spot.now.numbers.now c.args.i 0 (omega (arith, inside, at.part.long)) at.small)

pub returns-clause-value : goal.returns-clause-value
returns-clause-value c =
    let w = c.args.cycle.now in
    let at = spot_is_at w c.args.aig.now c.requires.fit c.keeps.ensures.sound c.keeps-2.ensures.sound c.args.place c.args.spot.now c.requires.spot in
    let port = at.part.sound.drivers c.args.spot.now.signal.0 (driver.Input c.args.i) c.requires.drives in
    let inside = slice_get_within c.args.spot.now.net.now.inputs c.args.i port.0 port.1 in
    let number = get_or c.as_slice.result.now c.args.i 0 in
    let stands : slice_get c.args.spot.now.numbers.now c.args.i ≡ Some number =
    ap (λ (l : List ℕ). slice_get l c.args.i) (sym c.as_slice.ensures) ∙ slice_get-get_or c.as_slice.result.now c.args.i 0 (omega (arith, inside, at.part.long, ap length c.as_slice.ensures)) in
    ok_map (λ (x : Lit). (a : ℕ → Bool) → value c.input.new.self a x.0 ≡ a (w.inputs + number))
    (λ (x : Lit). (a : ℕ → Bool) (v : Either ℕ ℕ → Bool) → IsReadBy w c.args.aig.now a v → value c.input.new.self a x.0 ≡ v (side_at (size_of w.nets) c.args.place)) c.input.result
    (λ x h a v reading. h a ∙ input_value w c.args.place c.args.spot.now at c.args.i number c.requires.drives stands c.args.aig.now a v reading) c.input.ensures.value
