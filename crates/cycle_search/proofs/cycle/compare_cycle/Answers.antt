-- A's functions stay while B is unfolded, and a refusal is that of a circuit's outputs in the cycles up to this one.
use Rattle.std.proofs.Common.{◌≡◌, ◌∙◌, ◌<◌, List, length, Err, sym, ap, subst, arith, rules}
use Rattle.std.specs.List.{All, AllZip, Contains}
use Rattle.circuit_theory.specs.declared.Side.TheVariants.{A, B}
use Rattle.circuit_theory.proofs.Lists.{All-from_each}
use Rattle.flat_net.specs.View.{NetView}
use Rattle.aig.specs.declared.node.Node.{Node}
use Rattle.sec_setup.specs.declared.ports.pairs.SignalPair.{SignalPair}
use Rattle.reset_form.proofs.reset_functions.OwnPairs.{output_within}
use Rattle.reset_form.proofs.reset_unfold.Known.{fits_later}
use Rattle.merged_graph.specs.Merged.{IsMerged}
use Rattle.merged_graph.proofs.Standing.{later}
use Rattle.cycle_search.specs.Outputs.{side_of, IsLiteralIn}
use Rattle.cycle_search.specs.Cycles.{Compared}
use Rattle.cycle_search.proofs.PairsIn.{own_pairs}
use Rattle.cycle_search.proofs.Sides.{left_refused, right_refused, functions_of, done_of, done_all, fits_as}
use Rattle.cycle_search.proofs.cycle.compare_cycle.Goals as goal

pub unfold_side-requires-clause-signals : goal.unfold_side-requires-clause-signals
unfold_side-requires-clause-signals c =
    let s = c.args.setup.now in
    subst (λ (n : NetView). All (λ (x : SignalPair). side_of A x < length n.drivers) c.as_slice.result.now) (sym c.requires.before.left_net)
    (All-from_each (λ (x : SignalPair). side_of A x < length s.left.now.drivers) c.as_slice.result.now
    (λ x h. output_within s.left.now c.keeps.ensures.sound x.left.0 ((own_pairs s c.requires.setup).left x (subst (λ (l : List SignalPair). Contains l x) c.as_slice.ensures h))))

pub unfold_side-requires-2-clause-signals : goal.unfold_side-requires-2-clause-signals
unfold_side-requires-2-clause-signals c =
    let s = c.args.setup.now in
    subst (λ (n : NetView). All (λ (x : SignalPair). side_of B x < length n.drivers) c.as_slice-2.result.now) (sym c.requires.before.right_net)
    (All-from_each (λ (x : SignalPair). side_of B x < length s.right.now.drivers) c.as_slice-2.result.now
    (λ x h. output_within s.right.now c.keeps-2.ensures.sound x.right.0 ((own_pairs s c.requires.setup).right x (subst (λ (l : List SignalPair). Contains l x) c.as_slice-2.ensures h))))

pub unfold_side-requires-2-clause-fits : goal.unfold_side-requires-2-clause-fits
unfold_side-requires-2-clause-fits c =
    let f = c.args.unfolded.now.functions in
    fits_later c.args.unfolded.now.right f.aig c.unfold_side.new.aig f.places c.unfold_side.new.places c.unfold_side.ensures.later.grows c.unfold_side.ensures.later.adds c.requires.before.right_fits

pub returns-in_err-left-clause-compared : goal.returns-in_err-left-clause-compared
returns-in_err-left-clause-compared c =
    let e = c.in_err-left.field-0.0 in
    let same : c.from_residual.result ≡ Err e = search rules in
    subst (Compared c.args.setup.now c.args.bases c.args.cycle c.args.conflicts) (sym same)
    (left_refused c.args.setup.now c.requires.setup c.args.bases c.args.cycle c.args.conflicts c.args.unfolded.now.left.net c.requires.before.left_net c.as_slice.result.now c.as_slice.ensures c.args.unfolded.now.left.done c.requires.before.left_done e c.in_err-left.ensures.refused)

pub returns-in_err-right-clause-compared : goal.returns-in_err-right-clause-compared
returns-in_err-right-clause-compared c =
    let e = c.in_err-right.field-0.0 in
    let same : c.from_residual-in_err-right.result ≡ Err e = search rules in
    subst (Compared c.args.setup.now c.args.bases c.args.cycle c.args.conflicts) (sym same)
    (right_refused c.args.setup.now c.requires.setup c.args.bases c.args.cycle c.args.conflicts c.args.unfolded.now.right.net c.requires.before.right_net c.as_slice-2.result.now c.as_slice-2.ensures c.args.unfolded.now.right.done c.requires.before.right_done e c.in_err-right.ensures.refused)

pub functions_apart-requires : goal.functions_apart-requires
functions_apart-requires c =
    let one = c.unfold_side.ensures.later in
    let two = c.unfold_side-2.ensures.later in
    let before = c.requires.before in
    let pairs = c.as_slice-3.result.now in
    let same = c.as_slice.ensures ∙ sym c.as_slice-3.ensures in
    let same_b = c.as_slice-2.ensures ∙ sym c.as_slice-3.ensures in
    let l = c.unfold_side.new.unfolder in
    let r = c.unfold_side-2.new.unfolder in
    record {
      left_literals = subst (λ (ps : List SignalPair). AllZip (IsLiteralIn l.memo A c.args.cycle) ps c.in_ok-left.left.items) same c.in_ok-left.ensures.literals;
      right_literals = subst (λ (ps : List SignalPair). AllZip (IsLiteralIn r.memo B c.args.cycle) ps c.in_ok-right.right.items) same_b c.in_ok-right.ensures.literals;
      left_done = subst (λ (ps : List SignalPair). All (λ (x : SignalPair). Contains l.done (c.args.cycle, side_of A x)) ps) same (done_of A c.args.cycle c.as_slice.result.now c.args.unfolded.now.left.done l.done c.in_ok-left.ensures.done);
      right_done = subst (λ (ps : List SignalPair). All (λ (x : SignalPair). Contains r.done (c.args.cycle, side_of B x)) ps) same_b (done_of B c.args.cycle c.as_slice-2.result.now c.args.unfolded.now.right.done r.done c.in_ok-right.ensures.done);
      left_fits = fits_later l c.unfold_side.new.aig c.unfold_side-2.new.aig c.unfold_side.new.places c.unfold_side-2.new.places two.grows two.adds c.in_ok-left.ensures.fits;
      right_fits = c.in_ok-right.ensures.fits;
      entries = omega (arith, before.entries, one.entries, two.entries, one.small, two.small, c.in_ok-left.ensures.fits.small, c.in_ok-right.ensures.fits.small);
    }

pub decide_cycle-requires-clause-functions : goal.decide_cycle-requires-clause-functions
decide_cycle-requires-clause-functions c =
    let s = c.args.setup.now in
    let b = c.args.bases in
    let before = c.requires.before in
    let one = c.unfold_side.ensures.later in
    let two = c.unfold_side-2.ensures.later in
    functions_of s b c.functions_apart.new.functions c.args.cycle c.unfold_side.new.unfolder c.unfold_side-2.new.unfolder c.unfold_side-2.new.aig c.unfold_side-2.new.places c.as_slice-3.result.now c.in_ok-sides.sides
    c.as_slice-left.result.now c.as_slice-right.result.now c.in_ok-sides.ensures.apart (one.net ∙ before.left_net) (one.order ∙ before.left_order) (one.base ∙ before.left_base) (two.net ∙ before.right_net) (two.order ∙ before.right_order)
    (two.base ∙ before.right_base) c.functions_apart.ensures.same_aig c.functions_apart.ensures.same_places c.as_slice-3.ensures c.as_slice-left.ensures.value c.as_slice-right.ensures.value

pub merge-requires-clause-merged : goal.merge-requires-clause-merged
merge-requires-clause-merged c =
    let f = c.args.unfolded.now.functions in
    let m = c.args.unfolded.now.merged in
    subst (λ (g : List Node). IsMerged g m) (sym c.functions_apart.ensures.same_aig)
    (later c.unfold_side.new.aig c.unfold_side-2.new.aig m c.unfold_side-2.ensures.later.grows (later f.aig c.unfold_side.new.aig m c.unfold_side.ensures.later.grows c.requires.before.merged))

pub returns-clause-after : goal.returns-clause-after
returns-clause-after c =
    let s = c.args.setup.now in
    let u = c.args.unfolded.now in
    let before = c.requires.before in
    let one = c.unfold_side.ensures.later in
    let two = c.unfold_side-2.ensures.later in
    let h = c.functions_apart.new.functions in
    let same = c.functions_apart.ensures in
    let nodes = ap length same.same_aig in
    let entries = ap length same.same_places in
    record {
      left_net = one.net ∙ before.left_net;
      left_order = one.order ∙ before.left_order;
      left_base = one.base ∙ before.left_base;
      right_net = two.net ∙ before.right_net;
      right_order = two.order ∙ before.right_order;
      right_base = two.base ∙ before.right_base;
      left_fits =
          fits_as c.unfold_side.new.unfolder c.unfold_side-2.new.aig h.aig c.unfold_side-2.new.places h.places same.same_aig same.same_places
          (fits_later c.unfold_side.new.unfolder c.unfold_side.new.aig c.unfold_side-2.new.aig c.unfold_side.new.places c.unfold_side-2.new.places two.grows two.adds c.in_ok-left.ensures.fits);
      right_fits = fits_as c.unfold_side-2.new.unfolder c.unfold_side-2.new.aig h.aig c.unfold_side-2.new.places h.places same.same_aig same.same_places c.in_ok-right.ensures.fits;
      left_done = done_all A c.args.cycle s.pairs c.as_slice.result.now c.as_slice.ensures u.left.done c.unfold_side.new.unfolder.done before.left_done c.in_ok-left.ensures.done;
      right_done = done_all B c.args.cycle s.pairs c.as_slice-2.result.now c.as_slice-2.ensures u.right.done c.unfold_side-2.new.unfolder.done before.right_done c.in_ok-right.ensures.done;
      merged = c.in_ok-merge.ensures;
      nodes = omega (arith, before.nodes, one.nodes, two.nodes, nodes);
      entries = omega (arith, before.entries, one.entries, two.entries, entries);
    }
