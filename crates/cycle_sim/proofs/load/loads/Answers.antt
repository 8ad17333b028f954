use Rattle.std.specs.Bool.{beq}
use Rattle.std.proofs.Common.{◌≡◌, ◌<◌, ◌↔◌, Bool, true, false, not, List, Some, slice_get, length, get_or, set, refl, subst, sym, ap, arith, ◌∙◌}
use Rattle.std.proofs.lemmas.List.{length-set}
use Rattle.std.proofs.lemmas.Option.{slice_get_within, slice_get_read, get_or_from_slice_get}
use Rattle.circuit_theory.specs.Run.{Loads}
use Rattle.circuit_laws.proofs.NetLaws.{net_can_put}
use Rattle.flat_net.specs.declared.parts.LatchAt.{LatchAt}
use Rattle.flat_net.specs.View.{circuit_of}
use Rattle.flat_net.proofs.Places.{one_at}
use Rattle.flat_net.proofs.Nets.{latch_stands, sound_is_net}
use Rattle.cycle_sim.specs.Steps.{AreInputsRight, AreLatchesRight, AreAsideRight}
use Rattle.cycle_sim.proofs.Turned.{loads_is, inputs_turned, latches_turned, aside_turned, told}
use Rattle.cycle_sim.proofs.SomeGates.{data_right, own_back}
use Rattle.cycle_sim.proofs.load.loads.Goals as goal

pub bounds-values-own : goal.bounds-values-own
bounds-values-own c =
    let inside : c.args.latch < length c.latches.result.now = omega (arith, c.requires.latch, ap length c.latches.ensures) in
    let at = slice_get_read c.latches.result.now (length c.latches.result.now) c.args.latch c.index-latches-latch.result refl inside c.index-latches-latch.is in
    let here : slice_get c.args.net.now.latches c.args.latch ≡ Some c.index-latches-latch.result = subst (λ (z : List LatchAt). slice_get z c.args.latch ≡ Some c.index-latches-latch.result) c.latches.ensures at in
    let m = slice_get_within c.args.net.now.drivers c.index-latches-latch.result.out.0 _ (c.keeps.ensures.sound.latches c.args.latch c.index-latches-latch.result here).owner in
    omega (arith, m, c.requires.values)

pub bounds-tried-own : goal.bounds-tried-own
bounds-tried-own c =
    let inside : c.args.latch < length c.latches.result.now = omega (arith, c.requires.latch, ap length c.latches.ensures) in
    let at = slice_get_read c.latches.result.now (length c.latches.result.now) c.args.latch c.index-latches-latch.result refl inside c.index-latches-latch.is in
    let here : slice_get c.args.net.now.latches c.args.latch ≡ Some c.index-latches-latch.result = subst (λ (z : List LatchAt). slice_get z c.args.latch ≡ Some c.index-latches-latch.result) c.latches.ensures at in
    let m = slice_get_within c.args.net.now.drivers c.index-latches-latch.result.out.0 _ (c.keeps.ensures.sound.latches c.args.latch c.index-latches-latch.result here).owner in
    omega (arith, m, c.requires.values, ap length c.requires.tried)

pub put_some-requires-clause-values : goal.put_some-requires-clause-values
put_some-requires-clause-values c = omega (arith, c.requires.values, ap length c.requires.tried, length-set {A = Bool})

pub bounds-tried-next : goal.bounds-tried-next
bounds-tried-next c =
    let inside : c.args.latch < length c.latches.result.now = omega (arith, c.requires.latch, ap length c.latches.ensures) in
    let at = slice_get_read c.latches.result.now (length c.latches.result.now) c.args.latch c.index-latches-latch.result refl inside c.index-latches-latch.is in
    let here : slice_get c.args.net.now.latches c.args.latch ≡ Some c.index-latches-latch.result = subst (λ (z : List LatchAt). slice_get z c.args.latch ≡ Some c.index-latches-latch.result) c.latches.ensures at in
    let m = (c.keeps.ensures.sound.latches c.args.latch c.index-latches-latch.result here).within in
    omega (arith, m, c.requires.values, ap length c.requires.tried, c.put_some.ensures.size, length-set {A = Bool})

pub bounds-values-next : goal.bounds-values-next
bounds-values-next c =
    let inside : c.args.latch < length c.latches.result.now = omega (arith, c.requires.latch, ap length c.latches.ensures) in
    let at = slice_get_read c.latches.result.now (length c.latches.result.now) c.args.latch c.index-latches-latch.result refl inside c.index-latches-latch.is in
    let here : slice_get c.args.net.now.latches c.args.latch ≡ Some c.index-latches-latch.result = subst (λ (z : List LatchAt). slice_get z c.args.latch ≡ Some c.index-latches-latch.result) c.latches.ensures at in
    let m = (c.keeps.ensures.sound.latches c.args.latch c.index-latches-latch.result here).within in
    omega (arith, m, c.requires.values)

pub bounds-values-own-2 : goal.bounds-values-own-2
bounds-values-own-2 c =
    let inside : c.args.latch < length c.latches.result.now = omega (arith, c.requires.latch, ap length c.latches.ensures) in
    let at = slice_get_read c.latches.result.now (length c.latches.result.now) c.args.latch c.index-latches-latch.result refl inside c.index-latches-latch.is in
    let here : slice_get c.args.net.now.latches c.args.latch ≡ Some c.index-latches-latch.result = subst (λ (z : List LatchAt). slice_get z c.args.latch ≡ Some c.index-latches-latch.result) c.latches.ensures at in
    let m = slice_get_within c.args.net.now.drivers c.index-latches-latch.result.out.0 _ (c.keeps.ensures.sound.latches c.args.latch c.index-latches-latch.result here).owner in
    omega (arith, m, c.requires.values)

pub bounds-tried-own-2 : goal.bounds-tried-own-2
bounds-tried-own-2 c =
    let inside : c.args.latch < length c.latches.result.now = omega (arith, c.requires.latch, ap length c.latches.ensures) in
    let at = slice_get_read c.latches.result.now (length c.latches.result.now) c.args.latch c.index-latches-latch.result refl inside c.index-latches-latch.is in
    let here : slice_get c.args.net.now.latches c.args.latch ≡ Some c.index-latches-latch.result = subst (λ (z : List LatchAt). slice_get z c.args.latch ≡ Some c.index-latches-latch.result) c.latches.ensures at in
    let m = slice_get_within c.args.net.now.drivers c.index-latches-latch.result.out.0 _ (c.keeps.ensures.sound.latches c.args.latch c.index-latches-latch.result here).owner in
    omega (arith, m, c.requires.values, ap length c.requires.tried, c.put_some.ensures.size, length-set {A = Bool})

pub returns-clause-same : goal.returns-clause-same
returns-clause-same c =
    let inside : c.args.latch < length c.latches.result.now = omega (arith, c.requires.latch, ap length c.latches.ensures) in
    let at = slice_get_read c.latches.result.now (length c.latches.result.now) c.args.latch c.index-latches-latch.result refl inside c.index-latches-latch.is in
    let here : slice_get c.args.net.now.latches c.args.latch ≡ Some c.index-latches-latch.result = subst (λ (z : List LatchAt). slice_get z c.args.latch ≡ Some c.index-latches-latch.result) c.latches.ensures at in
    let own = slice_get_within c.args.net.now.drivers c.index-latches-latch.result.out.0 _ (c.keeps.ensures.sound.latches c.args.latch c.index-latches-latch.result here).owner in
    let turned : set c.args.tried.now c.index-latches-latch.result.out.0 _ ≡ set c.args.values.now c.index-latches-latch.result.out.0 _ = ap (λ (z : List Bool). set z c.index-latches-latch.result.out.0 (not (get_or c.args.values.now c.index-latches-latch.result.out.0 false))) c.requires.tried in
    c.put_back.ensures.back (own_back c.args.net.now c.args.gates.now c.args.values.now _ c.put_some.new.values c.index-latches-latch.result.out.0 (not (get_or c.args.values.now c.index-latches-latch.result.out.0 false)) (omega (arith, own, c.requires.values))
    (omega (arith, ap length c.requires.tried, c.put_some.ensures.size, length-set {A = Bool})) turned c.put_some.ensures.others) ∙ sym c.requires.tried

pub returns-clause-loads : goal.returns-clause-loads
returns-clause-loads c = λ v l meets have h.
    let inside : c.args.latch < length c.latches.result.now = omega (arith, c.requires.latch, ap length c.latches.ensures) in
    let at = slice_get_read c.latches.result.now (length c.latches.result.now) c.args.latch c.index-latches-latch.result refl inside c.index-latches-latch.is in
    let here : slice_get c.args.net.now.latches c.args.latch ≡ Some c.index-latches-latch.result = subst (λ (z : List LatchAt). slice_get z c.args.latch ≡ Some c.index-latches-latch.result) c.latches.ensures at in
    let kept = c.keeps.ensures.sound.latches c.args.latch c.index-latches-latch.result here in
    let own = slice_get_within c.args.net.now.drivers c.index-latches-latch.result.out.0 _ kept.owner in
    let ext = net_can_put (circuit_of c.args.net.now) (length c.args.net.now.drivers) (sound_is_net c.args.net.now c.keeps.ensures.sound) v c.index-latches-latch.result.name c.index-latches-latch.result.out.0 c.index-latches-latch.result.next.0 (not (v c.index-latches-latch.result.out.0))
    (latch_stands c.args.net.now c.args.latch c.index-latches-latch.result here) meets in
    let bit : Bool = not (get_or c.args.values.now c.index-latches-latch.result.out.0 false) in
    let bit_is : bit ≡ not (v c.index-latches-latch.result.out.0) = ap not (get_or_from_slice_get c.args.values.now c.index-latches-latch.result.out.0 (v c.index-latches-latch.result.out.0) false (have c.index-latches-latch.result.out.0 own)) in
    let inputs = subst (λ (z : List Bool). AreInputsRight c.args.net.now ext.0 (set z c.index-latches-latch.result.out.0 bit)) (sym c.requires.tried)
    (inputs_turned c.args.net.now c.keeps.ensures.sound c.index-latches-latch.result c.args.latch here v ext.0 ext.1 c.args.values.now have c.requires.values bit bit_is) in
    let latches = subst (λ (z : List Bool). AreLatchesRight c.args.net.now ext.0 (set z c.index-latches-latch.result.out.0 bit)) (sym c.requires.tried)
    (latches_turned c.args.net.now c.keeps.ensures.sound c.index-latches-latch.result c.args.latch here v ext.0 ext.1 c.args.values.now have c.requires.values bit bit_is) in
    let aside = subst (λ (z : List Bool). AreAsideRight c.args.net.now c.index-latches-latch.result.out.0 ext.0 (set z c.index-latches-latch.result.out.0 bit)) (sym c.requires.tried)
    (aside_turned c.args.net.now c.keeps.ensures.sound c.index-latches-latch.result c.args.latch here v ext.0 ext.1 c.args.values.now have c.requires.values bit bit_is meets) in
    let cone = c.requires.gates c.index-latches-latch.result here in
    let put = data_right c.args.net.now c.keeps.ensures.sound c.index-latches-latch.result c.args.gates.now cone ext.0 ext.1.meets kept.within c.put_some.new.values
    (c.put_some.ensures.put c.index-latches-latch.result ext.0 cone ext.1.meets inputs latches aside) in
    let right = loads_is c.args.net.now c.keeps.ensures.sound c.index-latches-latch.result.out.0 c.index-latches-latch.result.next.0 kept.within v ext.0 meets ext.1 in
    subst (λ (z : LatchAt). (beq (get_or c.put_some.new.values c.index-latches-latch.result.next.0 false) (get_or c.args.values.now c.index-latches-latch.result.next.0 false) ≡ true) ↔ Loads (circuit_of c.args.net.now) v z.out.0 z.next.0) (one_at c.args.net.now.latches c.args.latch c.index-latches-latch.result l here h)
    (told _ _ _ _ (get_or_from_slice_get c.put_some.new.values c.index-latches-latch.result.next.0 (ext.0 c.index-latches-latch.result.next.0) false put) (get_or_from_slice_get c.args.values.now c.index-latches-latch.result.next.0 (v c.index-latches-latch.result.next.0) false (have c.index-latches-latch.result.next.0 kept.within)) right)
