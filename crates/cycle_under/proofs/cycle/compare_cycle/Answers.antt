-- A's functions stay while B is unfolded and the assumption is put, and a refusal is that of a circuit's outputs in the cycles up to this one.
use Rattle.std.proofs.Common.{◌≡◌, ◌∙◌, ◌+◌, ◌*◌, ◌<◌, List, length, Err, refl, sym, ap, subst, arith, rules}
use Rattle.std.specs.List.{All, Contains}
use Rattle.circuit_theory.specs.declared.Side.TheVariants.{A, B}
use Rattle.circuit_theory.proofs.Lists.{All-from_each}
use Rattle.flat_net.specs.View.{NetView}
use Rattle.aig.proofs.Growth.{Grows-trans}
use Rattle.cbf_unfold.proofs.unfold_places.Lists.{adds_trans}
use Rattle.sec_setup.specs.declared.ports.pairs.SignalPair.{SignalPair}
use Rattle.assume_laws.specs.assume_shape.Shape.{assumption_of}
use Rattle.reset_form.proofs.reset_functions.OwnPairs.{output_within}
use Rattle.reset_form.proofs.reset_unfold.Known.{fits_later}
use Rattle.cycle_search.specs.Outputs.{side_of}
use Rattle.cycle_search.proofs.PairsIn.{own_pairs}
use Rattle.cycle_search.proofs.Sides.{left_refused, right_refused, functions_of, done_of, done_all, fits_as}
use Rattle.cycle_under.specs.Cycles.{ComparedUnder}
use Rattle.cycle_under.proofs.Cares.{care_later, care_as}
use Rattle.cycle_under.proofs.cycle.compare_cycle.Goals as goal

pub unfold_side-requires-clause-signals : goal.unfold_side-requires-clause-signals
unfold_side-requires-clause-signals c =
    let s = c.args.setup.now in
    subst (λ (n : NetView). All (λ (x : SignalPair). side_of A x < length n.drivers) c.as_slice-pairs.result.now) (sym c.requires.before.left_net)
    (All-from_each (λ (x : SignalPair). side_of A x < length s.left.now.drivers) c.as_slice-pairs.result.now
    (λ x h. output_within s.left.now c.keeps.ensures.sound x.left.0 ((own_pairs s c.requires.setup).left x (subst (λ (l : List SignalPair). Contains l x) c.as_slice-pairs.ensures h))))

pub unfold_side-requires-2-clause-signals : goal.unfold_side-requires-2-clause-signals
unfold_side-requires-2-clause-signals c =
    let s = c.args.setup.now in
    subst (λ (n : NetView). All (λ (x : SignalPair). side_of B x < length n.drivers) c.as_slice-pairs.result.now) (sym c.requires.before.right_net)
    (All-from_each (λ (x : SignalPair). side_of B x < length s.right.now.drivers) c.as_slice-pairs.result.now
    (λ x h. output_within s.right.now c.keeps-2.ensures.sound x.right.0 ((own_pairs s c.requires.setup).right x (subst (λ (l : List SignalPair). Contains l x) c.as_slice-pairs.ensures h))))

pub unfold_side-requires-2-clause-fits : goal.unfold_side-requires-2-clause-fits
unfold_side-requires-2-clause-fits c =
    let f = c.args.unfolded.now.functions in
    fits_later c.args.unfolded.now.right f.aig c.unfold_side.new.aig f.places c.unfold_side.new.places c.unfold_side.ensures.later.grows c.unfold_side.ensures.later.adds c.requires.before.right_fits

pub returns-in_err-left-clause-compared : goal.returns-in_err-left-clause-compared
returns-in_err-left-clause-compared c =
    let e = c.in_err-left.field-0.0 in
    let same : c.from_residual.result ≡ Err e = search rules in
    subst (ComparedUnder c.args.setup.now c.args.bases c.args.premise.now c.args.cycle c.args.conflicts) (sym same)
    (left_refused c.args.setup.now c.requires.setup c.args.bases c.args.cycle c.args.conflicts c.args.unfolded.now.left.net c.requires.before.left_net c.as_slice-pairs.result.now c.as_slice-pairs.ensures c.args.unfolded.now.left.done c.requires.before.left_done e c.in_err-left.ensures.refused)

pub returns-in_err-right-clause-compared : goal.returns-in_err-right-clause-compared
returns-in_err-right-clause-compared c =
    let e = c.in_err-right.field-0.0 in
    let same : c.from_residual-in_err-right.result ≡ Err e = search rules in
    subst (ComparedUnder c.args.setup.now c.args.bases c.args.premise.now c.args.cycle c.args.conflicts) (sym same)
    (right_refused c.args.setup.now c.requires.setup c.args.bases c.args.cycle c.args.conflicts c.args.unfolded.now.right.net c.requires.before.right_net c.as_slice-pairs.result.now c.as_slice-pairs.ensures c.args.unfolded.now.right.done c.requires.before.right_done e c.in_err-right.ensures.refused)

pub care_with-requires-clause-care : goal.care_with-requires-clause-care
care_with-requires-clause-care c =
    λ n inputs output size function assumption.
    let f = c.args.unfolded.now.functions in
    let one = c.unfold_side.ensures.later in
    let two = c.unfold_side-2.ensures.later in
    care_later f.places c.unfold_side-2.new.places (adds_trans (λ p. Unit {0}) f.places c.unfold_side.new.places c.unfold_side-2.new.places one.adds two.adds) (assumption_of n inputs output) f.aig c.unfold_side-2.new.aig c.args.cycle
    c.args.unfolded.now.care c.keeps-3.ensures.graph (Grows-trans f.aig c.unfold_side.new.aig c.unfold_side-2.new.aig one.grows two.grows) (c.requires.before.care n inputs output size function assumption)

pub functions_apart-requires : goal.functions_apart-requires
functions_apart-requires c =
    let one = c.unfold_side.ensures.later in
    let two = c.unfold_side-2.ensures.later in
    let before = c.requires.before in
    let pairs = c.as_slice-pairs.result.now in
    let l = c.unfold_side.new.unfolder in
    let r = c.unfold_side-2.new.unfolder in
    let g = c.unfold_side-2.new.aig in
    let places = c.unfold_side-2.new.places in
    let h = c.care_with.new.aig in
    let more = c.care_with.new.places in
    let grows = c.in_ok-care.ensures.grows in
    let adds = c.in_ok-care.ensures.adds in
    let w = c.args.premise.now.weight in
    let next : w * (c.args.cycle + 1) ≡ w * c.args.cycle + w = grind arith in
    record {
      left_literals = c.in_ok-left.ensures.literals;
      right_literals = c.in_ok-right.ensures.literals;
      left_done = done_of A c.args.cycle pairs c.args.unfolded.now.left.done l.done c.in_ok-left.ensures.done;
      right_done = done_of B c.args.cycle pairs c.args.unfolded.now.right.done r.done c.in_ok-right.ensures.done;
      left_fits = fits_later l g h places more grows adds (fits_later l c.unfold_side.new.aig g c.unfold_side.new.places places two.grows two.adds c.in_ok-left.ensures.fits);
      right_fits = fits_later r g h places more grows adds c.in_ok-right.ensures.fits;
      entries = omega (arith, before.entries, one.entries, two.entries, c.in_ok-care.ensures.entries, next, c.requires.light.light, c.in_ok-left.ensures.fits.small, c.in_ok-right.ensures.fits.small);
    }

pub decide_cycle-requires-clause-functions : goal.decide_cycle-requires-clause-functions
decide_cycle-requires-clause-functions c =
    let s = c.args.setup.now in
    let b = c.args.bases in
    let before = c.requires.before in
    let one = c.unfold_side.ensures.later in
    let two = c.unfold_side-2.ensures.later in
    let found = c.in_ok-sides.sides in
    functions_of s b c.functions_apart.new.functions c.args.cycle c.unfold_side.new.unfolder c.unfold_side-2.new.unfolder c.care_with.new.aig c.care_with.new.places c.as_slice-pairs.result.now found found.left.items found.right.items
    c.in_ok-sides.ensures.apart (one.net ∙ before.left_net) (one.order ∙ before.left_order) (one.base ∙ before.left_base) (two.net ∙ before.right_net) (two.order ∙ before.right_order) (two.base ∙ before.right_base)
    c.functions_apart.ensures.same_aig c.functions_apart.ensures.same_places c.as_slice-pairs.ensures refl refl

pub decide_cycle-requires-clause-cared : goal.decide_cycle-requires-clause-cared
decide_cycle-requires-clause-cared c =
    let w = c.requires.premise in (
      assumption_of w.net w.inputs w.output,
      care_as (assumption_of w.net w.inputs w.output) c.care_with.new.aig c.functions_apart.new.functions.aig c.care_with.new.places c.functions_apart.new.functions.places (c.args.cycle + 1) c.in_ok-care.care c.functions_apart.ensures.same_aig
          c.functions_apart.ensures.same_places (c.in_ok-care.ensures.care w.net w.inputs w.output w.size w.function w.assumption),
    )

pub returns-clause-compared : goal.returns-clause-compared
returns-clause-compared c =
    λ n inputs output size function assumption.
    c.in_ok-found.ensures (assumption_of n inputs output)
    (care_as (assumption_of n inputs output) c.care_with.new.aig c.functions_apart.new.functions.aig c.care_with.new.places c.functions_apart.new.functions.places (c.args.cycle + 1) c.in_ok-care.care c.functions_apart.ensures.same_aig
    c.functions_apart.ensures.same_places (c.in_ok-care.ensures.care n inputs output size function assumption))

pub returns-clause-after : goal.returns-clause-after
returns-clause-after c =
    let s = c.args.setup.now in
    let u = c.args.unfolded.now in
    let before = c.requires.before in
    let one = c.unfold_side.ensures.later in
    let two = c.unfold_side-2.ensures.later in
    let g = c.unfold_side-2.new.aig in
    let places = c.unfold_side-2.new.places in
    let h = c.care_with.new.aig in
    let more = c.care_with.new.places in
    let grows = c.in_ok-care.ensures.grows in
    let adds = c.in_ok-care.ensures.adds in
    let w = c.args.premise.now.weight in
    let next : w * (c.args.cycle + 1) ≡ w * c.args.cycle + w = grind arith in
    let f = c.functions_apart.new.functions in
    let same = c.functions_apart.ensures in
    let few = ap length same.same_aig in
    let short = ap length same.same_places in
    record {
      left_net = one.net ∙ before.left_net;
      left_order = one.order ∙ before.left_order;
      left_base = one.base ∙ before.left_base;
      right_net = two.net ∙ before.right_net;
      right_order = two.order ∙ before.right_order;
      right_base = two.base ∙ before.right_base;
      left_fits =
          fits_as c.unfold_side.new.unfolder h f.aig more f.places same.same_aig same.same_places
          (fits_later c.unfold_side.new.unfolder g h places more grows adds (fits_later c.unfold_side.new.unfolder c.unfold_side.new.aig g c.unfold_side.new.places places two.grows two.adds c.in_ok-left.ensures.fits));
      right_fits = fits_as c.unfold_side-2.new.unfolder h f.aig more f.places same.same_aig same.same_places (fits_later c.unfold_side-2.new.unfolder g h places more grows adds c.in_ok-right.ensures.fits);
      left_done = done_all A c.args.cycle s.pairs c.as_slice-pairs.result.now c.as_slice-pairs.ensures u.left.done c.unfold_side.new.unfolder.done before.left_done c.in_ok-left.ensures.done;
      right_done = done_all B c.args.cycle s.pairs c.as_slice-pairs.result.now c.as_slice-pairs.ensures u.right.done c.unfold_side-2.new.unfolder.done before.right_done c.in_ok-right.ensures.done;
      care = λ n inputs output size function assumption. care_as (assumption_of n inputs output) h f.aig more f.places (c.args.cycle + 1) c.in_ok-care.care same.same_aig same.same_places (c.in_ok-care.ensures.care n inputs output size function assumption);
      nodes = omega (arith, before.nodes, one.nodes, two.nodes, c.in_ok-care.ensures.nodes, next, few);
      entries = omega (arith, before.entries, one.entries, two.entries, c.in_ok-care.ensures.entries, next, short);
    }
