use Rattle.std.proofs.Common.{◌≡◌, ◌<◌, List, Some, slice_get, map, length, get_or, set, false, refl, subst, ap, arith}
use Rattle.std.specs.Prelude.{IfSome}
use Rattle.std.proofs.lemmas.Option.{slice_get_read}
use Rattle.circuit_theory.specs.Cover.{cover_value}
use Rattle.flat_net.specs.declared.parts.Gate.{Gate}
use Rattle.flat_net.specs.View.{cover_of}
use Rattle.flat_net.proofs.Places.{one_at}
use Rattle.cycle_sim.proofs.Lists.{gate_within}
use Rattle.cycle_sim.proofs.flip.put_gate.Goals as goal

pub bounds-values-gate : goal.bounds-values-gate
bounds-values-gate c =
    let inside : c.args.place < length c.gates.result.now = omega (arith, c.requires.place, ap length c.gates.ensures) in
    let at = slice_get_read c.gates.result.now (length c.gates.result.now) c.args.place c.index-gates-place.result refl inside c.index-gates-place.is in
    let here : slice_get c.args.net.now.gates c.args.place ≡ Some c.index-gates-place.result = subst (λ (z : List Gate). slice_get z c.args.place ≡ Some c.index-gates-place.result) c.gates.ensures at in
    let w = gate_within c.args.net.now c.keeps.ensures.sound c.args.place c.index-gates-place.result here in
    omega (arith, w, c.requires.values)

pub returns : goal.returns
returns c = λ g h.
    let inside : c.args.place < length c.gates.result.now = omega (arith, c.requires.place, ap length c.gates.ensures) in
    let at = slice_get_read c.gates.result.now (length c.gates.result.now) c.args.place c.index-gates-place.result refl inside c.index-gates-place.is in
    let here : slice_get c.args.net.now.gates c.args.place ≡ Some c.index-gates-place.result = subst (λ (z : List Gate). slice_get z c.args.place ≡ Some c.index-gates-place.result) c.gates.ensures at in
    let value : c.eval_gate-value.result ≡ cover_value (cover_of c.args.net.now.covers c.index-gates-place.result) (map (λ f. get_or c.args.values.now f.0 false) c.index-gates-place.result.fanins) =
    subst (λ o. IfSome o (λ (g : Gate). c.eval_gate-value.result ≡ cover_value (cover_of c.args.net.now.covers g) (map (λ f. get_or c.args.values.now f.0 false) g.fanins))) here c.eval_gate-value.ensures in
    subst (λ (z : Gate). set c.args.values.now c.index-gates-place.result.out.0 c.eval_gate-value.result ≡ set c.args.values.now z.out.0 (cover_value (cover_of c.args.net.now.covers z) (map (λ f. get_or c.args.values.now f.0 false) z.fanins)))
    (one_at c.args.net.now.gates c.args.place c.index-gates-place.result g here h) (ap (set c.args.values.now c.index-gates-place.result.out.0) value)
