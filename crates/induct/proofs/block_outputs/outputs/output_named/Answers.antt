-- The table has the name, at the place of the output of that name.
use Rattle.std.proofs.Common.{◌≡◌, ◌<◌, ◌∙◌, List, ℕ, length, get_or, slice_get, Some, sym, ap, subst}
use Rattle.std.proofs.lemmas.Option.{slice_get-get_or}
use Rattle.flat_net.specs.declared.parts.Port.{Port}
use Rattle.flat_net.proofs.Places.{All-at}
use Rattle.sec_setup.proofs.ports.Paired.{names_of, place_named-at, port_within}
use Rattle.induct.proofs.block_outputs.outputs.output_named.Goals as goal

pub unreachable-requires : goal.unreachable-requires
unreachable-requires c = c.in_default.ensures.absent c.requires.there

pub bounds-outputs-place : goal.bounds-outputs-place
bounds-outputs-place c =
    let ports = c.args.net.now.outputs in
    let within = port_within ports c.in-Some.place c.args.name.now (ap (λ (ns : List (List ℕ)). slice_get ns c.in-Some.place) (sym c.requires.names) ∙ c.in-Some.ensures.here) in
    subst (λ (ps : List Port). c.in-Some.place < length ps) (sym c.outputs.ensures) within

pub returns-clause-named : goal.returns-clause-named
returns-clause-named c =
    let ports = c.args.net.now.outputs in
    let place = c.in-Some.place in
    let name : slice_get (names_of ports) place ≡ Some c.args.name.now = ap (λ (ns : List (List ℕ)). slice_get ns place) (sym c.requires.names) ∙ c.in-Some.ensures.here in
    let within : place < length ports = port_within ports place c.args.name.now name in
    let other : Port = get_or c.outputs.result.now place c.index-outputs-place.result in
    let here : slice_get ports place ≡ Some other =
    ap (λ (ps : List Port). slice_get ps place) (sym c.outputs.ensures) ∙ slice_get-get_or c.outputs.result.now place c.index-outputs-place.result (subst (λ (ps : List Port). place < length ps) (sym c.outputs.ensures) within) in
    place_named-at ports c.args.name.now place other c.requires.net.distinct name here

pub returns-clause-signal : goal.returns-clause-signal
returns-clause-signal c =
    let n = c.args.net.now in
    let place = c.in-Some.place in
    let name : slice_get (names_of n.outputs) place ≡ Some c.args.name.now = ap (λ (ns : List (List ℕ)). slice_get ns place) (sym c.requires.names) ∙ c.in-Some.ensures.here in
    let within : place < length n.outputs = port_within n.outputs place c.args.name.now name in
    let other : Port = get_or c.outputs.result.now place c.index-outputs-place.result in
    let here : slice_get n.outputs place ≡ Some other =
    ap (λ (ps : List Port). slice_get ps place) (sym c.outputs.ensures) ∙ slice_get-get_or c.outputs.result.now place c.index-outputs-place.result (subst (λ (ps : List Port). place < length ps) (sym c.outputs.ensures) within) in
    All-at (λ (p : Port). p.signal.0 < length n.drivers) n.outputs place other here c.keeps.ensures.sound.outputs
