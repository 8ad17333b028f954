-- Pair after pair the functions stay, and what is unfolded are those of all pairs so far.
use Rattle.std.proofs.Common.{◌≡◌, ◌∙◌, ℕ, List, [], ◌∷◌, ◌++◌, ◌+◌, ◌<◌, length, take, slice_get, Some, refl, sym, ap, subst, arith, rules}
use Rattle.std.specs.List.{AllZip, Contains}
use Rattle.std.proofs.lemmas.List.{take_all}
use Rattle.std.proofs.lemmas.List.Elements.{All-contains}
use Rattle.circuit_theory.proofs.Lists.{zip_push, of_at}
use Rattle.circuit_laws.specs.reset_laws.Weight.{IsResetOver}
use Rattle.flat_net.specs.View.{NetView, circuit_of}
use Rattle.aig.specs.declared.node.Lit.{Lit}
use Rattle.cbf_unfold.proofs.shift_variables.Assignments.{take_next}
use Rattle.cbf_unfold.proofs.shift_variables.Reading.{item_at}
use Rattle.sec_setup.specs.declared.ports.pairs.SignalPair.{SignalPair}
use Rattle.reset_form.specs.reset_unfold.Places.{starts_of}
use Rattle.reset_form.proofs.reset_unfold.Going.{later_none, later_trans}
use Rattle.cycle_search.specs.Outputs.{side_of, IsLiteralIn, HasDoneIn}
use Rattle.cycle_search.proofs.Growing.{literals_later, done_first, done_more, over_more}
use Rattle.cycle_search.proofs.outputs.unfold_signals.Goals as goal

pub loop-pair-init : goal.loop-pair-init
loop-pair-init c =
    let fits = c.requires.fits in
    record {
      fits = fits;
      later = later_none c.args.unfolder.now c.args.aig.now c.args.places.now (omega (arith, fits.small, fits.limit));
      done = done_first c.args.side c.args.cycle c.args.pairs.now c.args.unfolder.now.done;
      literals = search rules;
    }

pub literal_at-requires-clause-signal : goal.literal_at-requires-clause-signal
literal_at-requires-clause-signal c =
    let pairs = c.args.pairs.now in
    let i = c.loop-pair.pair-index in
    let x : SignalPair = c.pair-item.result in
    let at : slice_get pairs i ≡ Some x = item_at pairs pairs i x refl c.loop-pair-test.true c.pair-item.is in
    let low = All-contains (λ (y : SignalPair). side_of c.args.side y < length c.args.unfolder.now.net.drivers) pairs x c.requires.signals (of_at pairs i x at) in
    subst (λ (n : NetView). c.side_of.result < length n.drivers) (sym c.loop-pair.invariant.later.net) (omega (arith, low, c.side_of.ensures))

pub literal_at-requires-clause-fits : goal.literal_at-requires-clause-fits
literal_at-requires-clause-fits c = c.loop-pair.invariant.fits

pub literal_at-requires-clause-nodes : goal.literal_at-requires-clause-nodes
literal_at-requires-clause-nodes c = omega (arith, c.requires.nodes, c.loop-pair.invariant.later.nodes, c.loop-pair.invariant.fits.small)

pub literal_at-requires-clause-entries : goal.literal_at-requires-clause-entries
literal_at-requires-clause-entries c = omega (arith, c.requires.entries, c.loop-pair.invariant.later.entries, c.loop-pair.invariant.fits.small)

pub returns-in_err-one-clause-over : goal.returns-in_err-one-clause-over
returns-in_err-one-clause-over c = λ e.
    let pairs = c.args.pairs.now in
    let i = c.loop-pair.pair-index in
    let x : SignalPair = c.pair-item.result in
    let at : slice_get pairs i ≡ Some x = item_at pairs pairs i x refl c.loop-pair-test.true c.pair-item.is in
    let v = c.loop-pair.unfolder in
    over_more c.args.side c.args.cycle pairs i x at c.args.unfolder.now.net v.net c.loop-pair.invariant.later.net c.args.unfolder.now.done v.done c.loop-pair.invariant.done
    (subst (λ (s : ℕ). IsResetOver (circuit_of v.net) (starts_of (v.done ++ (c.args.cycle, s) ∷ [])) 2000000) c.side_of.ensures (c.literal_at.ensures.over (search rules)))

pub returns-in_err-one-clause-later : goal.returns-in_err-one-clause-later
returns-in_err-one-clause-later c = later_trans c.args.unfolder.now c.loop-pair.unfolder c.literal_at.new.self c.args.aig.now c.loop-pair.aig c.literal_at.new.aig c.args.places.now c.loop-pair.places c.literal_at.new.places c.loop-pair.invariant.later c.literal_at.ensures.later

pub returns-in_err-push-clause-later : goal.returns-in_err-push-clause-later
returns-in_err-push-clause-later c = later_trans c.args.unfolder.now c.loop-pair.unfolder c.literal_at.new.self c.args.aig.now c.loop-pair.aig c.literal_at.new.aig c.args.places.now c.loop-pair.places c.literal_at.new.places c.loop-pair.invariant.later c.literal_at.ensures.later

pub loop-pair-preserved : goal.loop-pair-preserved
loop-pair-preserved c =
    let pairs = c.args.pairs.now in
    let i = c.loop-pair.pair-index in
    let x : SignalPair = c.pair-item.result in
    let at : slice_get pairs i ≡ Some x = item_at pairs pairs i x refl c.loop-pair-test.true c.pair-item.is in
    let u = c.args.unfolder.now in
    let v = c.loop-pair.unfolder in
    let w = c.literal_at.new.self in
    let g = c.literal_at.new.aig in
    let places = c.literal_at.new.places in
    let later = c.literal_at.ensures.later in
    let before = c.loop-pair.invariant.later in
    let made = c.in_ok-one.one in
    let side = c.args.side in
    let cycle = c.args.cycle in
    let Of : SignalPair → Lit → Type 0 = IsLiteralIn w.memo side cycle in
    let here : Of x made = subst (λ (s : ℕ). Contains w.memo ((cycle, s), made)) c.side_of.ensures c.in_ok-one.ensures.here in
    record {
      fits = c.in_ok-one.ensures.fits;
      later = later_trans u v w c.args.aig.now c.loop-pair.aig g c.args.places.now c.loop-pair.places places before later;
      done = done_more side cycle pairs i x at u.done v.done w.done c.loop-pair.invariant.done (c.in_ok-one.ensures.done ∙ ap (λ (s : ℕ). v.done ++ (cycle, s) ∷ []) c.side_of.ensures);
      literals =
          subst (λ (xs : List Lit). AllZip Of (take (i + 1) pairs) xs) (sym {A = List Lit} c.in_ok-push.ensures.items)
          (subst (λ (ps : List SignalPair). AllZip Of ps (c.loop-pair.all.items ++ made ∷ [])) (sym (take_next pairs i x at))
          (zip_push Of (take i pairs) c.loop-pair.all.items x made (literals_later v.memo w.memo later.memo side cycle (take i pairs) c.loop-pair.all.items c.loop-pair.invariant.literals) here));
    }

pub returns-clause-literals : goal.returns-clause-literals
returns-clause-literals c =
    subst (λ (ps : List SignalPair). AllZip (IsLiteralIn c.loop-pair.unfolder.memo c.args.side c.args.cycle) ps c.loop-pair.all.items)
    (take_all c.loop-pair.pair-index c.args.pairs.now c.loop-pair-test.false) c.loop-pair.invariant.literals

pub returns-clause-done : goal.returns-clause-done
returns-clause-done c =
    subst (λ (ps : List SignalPair). HasDoneIn c.args.side ps c.args.cycle c.args.unfolder.now.done c.loop-pair.unfolder.done)
    (take_all c.loop-pair.pair-index c.args.pairs.now c.loop-pair-test.false) c.loop-pair.invariant.done
