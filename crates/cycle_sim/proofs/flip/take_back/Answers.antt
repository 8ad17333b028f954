use Rattle.std.proofs.Common.{◌≡◌, ◌<◌, List, Some, slice_get, length, get_or, set, false, refl, subst, ap, arith}
use Rattle.std.proofs.lemmas.Option.{slice_get_read}
use Rattle.flat_net.specs.declared.parts.Gate.{Gate}
use Rattle.flat_net.proofs.Places.{one_at}
use Rattle.cycle_sim.proofs.Lists.{gate_within}
use Rattle.cycle_sim.proofs.flip.take_back.Goals as goal

pub bounds-values-out : goal.bounds-values-out
bounds-values-out c =
    let inside : c.args.place < length c.gates.result.now = omega (arith, c.requires.place, ap length c.gates.ensures) in
    let at = slice_get_read c.gates.result.now (length c.gates.result.now) c.args.place c.index-gates-place.result refl inside c.index-gates-place.is in
    let here : slice_get c.args.net.now.gates c.args.place ≡ Some c.index-gates-place.result = subst (λ (z : List Gate). slice_get z c.args.place ≡ Some c.index-gates-place.result) c.gates.ensures at in
    let w = gate_within c.args.net.now c.keeps.ensures.sound c.args.place c.index-gates-place.result here in
    omega (arith, w, c.requires.values)

pub bounds-tried-out : goal.bounds-tried-out
bounds-tried-out c =
    let inside : c.args.place < length c.gates.result.now = omega (arith, c.requires.place, ap length c.gates.ensures) in
    let at = slice_get_read c.gates.result.now (length c.gates.result.now) c.args.place c.index-gates-place.result refl inside c.index-gates-place.is in
    let here : slice_get c.args.net.now.gates c.args.place ≡ Some c.index-gates-place.result = subst (λ (z : List Gate). slice_get z c.args.place ≡ Some c.index-gates-place.result) c.gates.ensures at in
    let w = gate_within c.args.net.now c.keeps.ensures.sound c.args.place c.index-gates-place.result here in
    omega (arith, w, c.requires.tried)

pub returns : goal.returns
returns c = λ g h.
    let inside : c.args.place < length c.gates.result.now = omega (arith, c.requires.place, ap length c.gates.ensures) in
    let at = slice_get_read c.gates.result.now (length c.gates.result.now) c.args.place c.index-gates-place.result refl inside c.index-gates-place.is in
    let here : slice_get c.args.net.now.gates c.args.place ≡ Some c.index-gates-place.result = subst (λ (z : List Gate). slice_get z c.args.place ≡ Some c.index-gates-place.result) c.gates.ensures at in
    ap (λ (z : Gate). set c.args.tried.now z.out.0 (get_or c.args.values.now z.out.0 false)) (one_at c.args.net.now.gates c.args.place c.index-gates-place.result g here h)
