-- An unfolder that has unfolded nothing unfolds the signals of the pairs.
use Rattle.std.proofs.Common.{◌≡◌, ◌∙◌, ◌<◌, ◌++◌, ℕ, List, length, map, refl, sym, ap, subst, arith, IfErr}
use Rattle.std.specs.Prelude.{OnOk}
use Rattle.std.specs.List.{All, AllZip}
use Rattle.std.proofs.lemmas.Result.{IfOk-weaker}
use Rattle.aig.proofs.Growth.{Grows-refl}
use Rattle.circuit_theory.specs.declared.Side.{Side}
use Rattle.circuit_theory.proofs.Lists.{map-map}
use Rattle.flat_net.specs.declared.signals.Signal.{Signal}
use Rattle.flat_net.specs.View.{NetView}
use Rattle.cbf_unfold.specs.declared.unfold_places.signal_function.Unfolded.{Unfolded}
use Rattle.cbf_unfold.proofs.unfold_places.Lists.{adds_none}
use Rattle.sec_setup.specs.declared.ports.pairs.SignalPair.{SignalPair}
use Rattle.plain_asked.specs.Pairs.{IsFunctionOf, AreLight, IsRefusalOf, side_signals, signal_of}
use Rattle.plain_asked.proofs.Growing.{numbers_of, light_when, within_from, zip_from_map}
use Rattle.plain_asked.proofs.functions.unfold_side.Goals as goal

numbers : (side : Side) (pairs : List SignalPair) (signals given : List Signal) → given ≡ signals → signals ≡ map (λ (p : SignalPair). signal_of side p) pairs → numbers_of given ≡ side_signals side pairs
numbers side pairs signals given e are = ap numbers_of (e ∙ are) ∙ map-map (λ (s : Signal). s.0) (λ (p : SignalPair). signal_of side p) pairs

pub functions_of-requires : goal.functions_of-requires
functions_of-requires c = record {
  signals = subst (λ (n : NetView). All (λ (s : Signal). s.0 < length n.drivers) c.as_slice-given.result.now) (sym c.in_ok-unfolder.ensures.net)
      (within_from c.as_slice-given.result.now (side_signals c.args.side c.args.pairs.now) _ (numbers c.args.side c.args.pairs.now c.in_ok-signals.signals.items c.as_slice-given.result.now c.as_slice-given.ensures.value c.in_ok-signals.ensures) c.requires.signals);
  fits = c.in_ok-unfolder.ensures.fits c.args.aig.now c.args.places.now;
  nodes = omega (arith, c.requires.nodes);
  entries = omega (arith, c.requires.entries);
}

pub returns-in_err-signals-clause-grows : goal.returns-in_err-signals-clause-grows
returns-in_err-signals-clause-grows c = Grows-refl c.args.aig.now

pub returns-in_err-signals-clause-adds : goal.returns-in_err-signals-clause-adds
returns-in_err-signals-clause-adds c = adds_none (λ (p : ℕ × ℕ). Unit {0}) c.args.places.now c.args.places.now refl

pub returns-in_err-unfolder-clause-grows : goal.returns-in_err-unfolder-clause-grows
returns-in_err-unfolder-clause-grows c = Grows-refl c.args.aig.now

pub returns-in_err-unfolder-clause-adds : goal.returns-in_err-unfolder-clause-adds
returns-in_err-unfolder-clause-adds c = adds_none (λ (p : ℕ × ℕ). Unit {0}) c.args.places.now c.args.places.now refl

pub returns-clause-unfolded : goal.returns-clause-unfolded
returns-clause-unfolded c =
    let n = c.args.net.now in
    let order = c.args.order.now in
    let w = c.functions_of.new.unfolder in
    let g = c.functions_of.new.aig in
    let places = c.functions_of.new.places in
    let later = c.functions_of.ensures.later in
    let side = c.args.side in
    let pairs = c.args.pairs.now in
    IfOk-weaker c.functions_of.result (λ us. AllZip (λ (s : Signal) (u : Unfolded). IsFunctionOf w.net w.order g places s.0 u) c.as_slice-given.result.now us.items) (λ us. AllZip (λ (p : SignalPair) (u : Unfolded). IsFunctionOf n order g places (signal_of side p).0 u) pairs us.items)
    (λ us h. zip_from_map (λ (p : SignalPair). signal_of side p) (λ (s : Signal) (u : Unfolded). IsFunctionOf n order g places s.0 u) pairs us.items
    (subst (λ (m : NetView). AllZip (λ (s : Signal) (u : Unfolded). IsFunctionOf m order g places s.0 u) (map (λ (p : SignalPair). signal_of side p) pairs) us.items) (later.net ∙ c.in_ok-unfolder.ensures.net)
    (subst (λ (o : List ℕ). AllZip (λ (s : Signal) (u : Unfolded). IsFunctionOf w.net o g places s.0 u) (map (λ (p : SignalPair). signal_of side p) pairs) us.items) (later.order ∙ c.in_ok-unfolder.ensures.order)
    (subst (λ (ss : List Signal). AllZip (λ (s : Signal) (u : Unfolded). IsFunctionOf w.net w.order g places s.0 u) ss us.items) (c.as_slice-given.ensures.value ∙ c.in_ok-signals.ensures) h)))) c.functions_of.ensures.unfolded

pub returns-clause-light : goal.returns-clause-light
returns-clause-light c =
    subst (λ (l : List ℕ). OnOk c.functions_of.result (AreLight c.args.net.now l)) (numbers c.args.side c.args.pairs.now c.in_ok-signals.signals.items c.as_slice-given.result.now c.as_slice-given.ensures.value c.in_ok-signals.ensures)
    (light_when c.args.net.now c.in_ok-unfolder.unfolder.done c.as_slice-given.result.now c.functions_of.new.unfolder c.functions_of.new.aig c.functions_of.new.places c.functions_of.result c.in_ok-unfolder.ensures.none (c.functions_of.ensures.later.net ∙ c.in_ok-unfolder.ensures.net) c.functions_of.ensures.done c.functions_of.ensures.fits)

pub returns-clause-refused : goal.returns-clause-refused
returns-clause-refused c =
    subst (λ (l : List ℕ). IfErr c.functions_of.result (IsRefusalOf c.args.side c.args.net.now l)) (numbers c.args.side c.args.pairs.now c.in_ok-signals.signals.items c.as_slice-given.result.now c.as_slice-given.ensures.value c.in_ok-signals.ensures)
    (subst (λ (n : NetView). IfErr c.functions_of.result (IsRefusalOf c.args.side n (numbers_of c.as_slice-given.result.now))) c.in_ok-unfolder.ensures.net
    (subst (λ (d : List ℕ). IfErr c.functions_of.result (IsRefusalOf c.args.side c.in_ok-unfolder.unfolder.net (d ++ numbers_of c.as_slice-given.result.now))) c.in_ok-unfolder.ensures.none c.functions_of.ensures.refused))

pub returns-clause-grows : goal.returns-clause-grows
returns-clause-grows c = c.functions_of.ensures.later.grows

pub returns-clause-adds : goal.returns-clause-adds
returns-clause-adds c = c.functions_of.ensures.later.adds

pub returns-clause-nodes : goal.returns-clause-nodes
returns-clause-nodes c =
    let later = c.functions_of.ensures.later in
    let fits = c.in_ok-unfolder.ensures.fits c.args.aig.now c.args.places.now in
    omega (arith, later.nodes, later.small, later.cap, fits.limit)

pub returns-clause-entries : goal.returns-clause-entries
returns-clause-entries c =
    let later = c.functions_of.ensures.later in
    let fits = c.in_ok-unfolder.ensures.fits c.args.aig.now c.args.places.now in
    omega (arith, later.entries, later.small, later.cap, fits.limit)
