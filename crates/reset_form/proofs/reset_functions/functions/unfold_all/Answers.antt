-- Signal after signal the functions stay, and the weight is that of all signals so far.
use Rattle.std.proofs.Common.{ℕ, List, ◌+◌, ◌<◌, length, take, get_or, sym, subst, arith, rules}
use Rattle.std.specs.Prelude.{◌↔◌}
use Rattle.std.specs.List.{AllZip, Contains}
use Rattle.std.proofs.lemmas.List.{take_all}
use Rattle.std.proofs.lemmas.List.Elements.{All-get_or}
use Rattle.flat_net.specs.View.{NetView, circuit_of}
use Rattle.circuit_laws.specs.reset_laws.Weight.{IsResetWeight}
use Rattle.cbf_unfold.specs.declared.unfold_places.signal_function.Unfolded.{Unfolded}
use Rattle.aig.proofs.Growth.{Grows-trans}
use Rattle.cbf_unfold.proofs.unfold_places.Lists.{adds_trans}
use Rattle.cbf_unfold.proofs.unfold_places.Zips.{zip_more_left}
use Rattle.reset_form.specs.reset_unfold.Places.{starts_of}
use Rattle.reset_form.proofs.reset_unfold.Going.{later_none, later_trans}
use Rattle.reset_form.specs.reset_functions.Pairs.{AreCyclesOf, IsAmong}
use Rattle.reset_form.proofs.reset_functions.Growing.{all_later, cycles_of, among_none, among_next, over_among}
use Rattle.reset_form.proofs.reset_functions.functions.unfold_all.Goals as goal

pub loop-top-init : goal.loop-top-init
loop-top-init c =
    let fits = c.requires.fits in
    record {
      fits = fits;
      later = later_none c.args.unfolder.now c.args.aig.now c.args.places.now (omega (arith, fits.small, fits.limit));
      done = among_none c.args.unfolder.now.done c.args.tops.now c.requires.none;
      unfolded = search rules;
    }

pub unfold_cycles-requires-clause-signal : goal.unfold_cycles-requires-clause-signal
unfold_cycles-requires-clause-signal c =
    subst (λ (n : NetView). (get_or c.args.tops.now c.loop-top.top-index (0, 0)).1 < length n.drivers) (sym c.loop-top.invariant.later.net)
    (All-get_or (λ (p : ℕ × ℕ). p.1 < length c.args.unfolder.now.net.drivers) c.args.tops.now c.loop-top.top-index (0, 0) c.loop-top-test.true c.requires.signals)

pub unfold_cycles-requires-clause-nodes : goal.unfold_cycles-requires-clause-nodes
unfold_cycles-requires-clause-nodes c = omega (arith, c.requires.nodes, c.loop-top.invariant.later.nodes)

pub unfold_cycles-requires-clause-entries : goal.unfold_cycles-requires-clause-entries
unfold_cycles-requires-clause-entries c = omega (arith, c.requires.entries, c.loop-top.invariant.later.entries)

pub returns-in_err-cycles-clause-over : goal.returns-in_err-cycles-clause-over
returns-in_err-cycles-clause-over c = λ e.
    over_among c.args.tops.now c.loop-top.top-index (0, 0) c.loop-top-test.true c.loop-top.unfolder c.args.unfolder.now.net c.loop-top.invariant.later.net c.loop-top.invariant.done (c.unfold_cycles.ensures.over (search rules))

pub returns-in_err-cycles-clause-grows : goal.returns-in_err-cycles-clause-grows
returns-in_err-cycles-clause-grows c = Grows-trans c.args.aig.now c.loop-top.aig c.unfold_cycles.new.aig c.loop-top.invariant.later.grows c.unfold_cycles.ensures.later.grows

pub returns-in_err-cycles-clause-adds : goal.returns-in_err-cycles-clause-adds
returns-in_err-cycles-clause-adds c = adds_trans (λ (p : ℕ × ℕ). Unit {0}) c.args.places.now c.loop-top.places c.unfold_cycles.new.places c.loop-top.invariant.later.adds c.unfold_cycles.ensures.later.adds

pub returns-in_err-push-clause-grows : goal.returns-in_err-push-clause-grows
returns-in_err-push-clause-grows c = Grows-trans c.args.aig.now c.loop-top.aig c.unfold_cycles.new.aig c.loop-top.invariant.later.grows c.unfold_cycles.ensures.later.grows

pub returns-in_err-push-clause-adds : goal.returns-in_err-push-clause-adds
returns-in_err-push-clause-adds c = adds_trans (λ (p : ℕ × ℕ). Unit {0}) c.args.places.now c.loop-top.places c.unfold_cycles.new.places c.loop-top.invariant.later.adds c.unfold_cycles.ensures.later.adds

pub loop-top-preserved : goal.loop-top-preserved
loop-top-preserved c =
    let u = c.args.unfolder.now in
    let v = c.loop-top.unfolder in
    let i = c.loop-top.top-index in
    let g = c.unfold_cycles.new.aig in
    let places = c.unfold_cycles.new.places in
    let later = c.unfold_cycles.ensures.later in
    let Of : ℕ × ℕ → List Unfolded → Type 0 = AreCyclesOf u.net u.order u.base g places in
    record {
      fits = c.in_ok-cycles.ensures.fits;
      later = later_trans u v c.unfold_cycles.new.unfolder c.args.aig.now c.loop-top.aig g c.args.places.now c.loop-top.places places c.loop-top.invariant.later later;
      done = among_next c.args.tops.now i (0, 0) c.loop-top-test.true v.done c.unfold_cycles.new.unfolder.done c.loop-top.invariant.done c.in_ok-cycles.ensures.done;
      unfolded =
          subst (λ (us : List (List Unfolded)). AllZip Of (take (i + 1) c.args.tops.now) us) (sym {A = List (List Unfolded)} c.in_ok-push.ensures.items)
          (zip_more_left Of c.args.tops.now c.loop-top.all.items i (0, 0) c.in_ok-cycles.cycles c.loop-top-test.true
          (all_later u.net u.order u.base c.loop-top.aig g c.loop-top.places places later.grows later.adds (take i c.args.tops.now) c.loop-top.all.items c.loop-top.invariant.unfolded)
          (cycles_of u v g places (get_or c.args.tops.now i (0, 0)) c.in_ok-cycles.cycles c.loop-top.invariant.later.net c.loop-top.invariant.later.order c.loop-top.invariant.later.base c.in_ok-cycles.ensures.unfolded));
    }

pub returns-clause-unfolded : goal.returns-clause-unfolded
returns-clause-unfolded c =
    subst (λ (ts : List (ℕ × ℕ)). AllZip (AreCyclesOf c.args.unfolder.now.net c.args.unfolder.now.order c.args.unfolder.now.base c.loop-top.aig c.loop-top.places) ts c.loop-top.all.items)
    (take_all c.loop-top.top-index c.args.tops.now c.loop-top-test.false) c.loop-top.invariant.unfolded

pub returns-clause-light : goal.returns-clause-light
returns-clause-light c =
    let fits = c.loop-top.invariant.fits in (
      c.loop-top.unfolder.done,
      subst (λ (ts : List (ℕ × ℕ)). (p : ℕ × ℕ) → Contains c.loop-top.unfolder.done p ↔ IsAmong ts p) (take_all c.loop-top.top-index c.args.tops.now c.loop-top-test.false) c.loop-top.invariant.done,
      c.loop-top.unfolder.weight,
      subst (λ (n : NetView). IsResetWeight (circuit_of n) (starts_of c.loop-top.unfolder.done) c.loop-top.unfolder.weight) c.loop-top.invariant.later.net fits.weighs,
      fits.small,
    )
