-- The table has the output's name, at the place of B's output of that name.
use Rattle.std.proofs.Common.{◌≡◌, ◌<◌, ◌∙◌, List, ℕ, length, get_or, slice_get, Some, refl, sym, ap, subst}
use Rattle.std.specs.List.{Contains}
use Rattle.std.proofs.lemmas.Option.{slice_get-get_or}
use Rattle.flat_net.specs.declared.parts.Port.{Port}
use Rattle.witness_report.specs.declared.witness.PairName.TheVariants as pair_name
use Rattle.sec_setup.proofs.ports.Paired.{names_of, place_named-at, port_within}
use Rattle.sec_setup.proofs.ports.pairs.output_pair.Goals as goal

pub unreachable-requires : goal.unreachable-requires
unreachable-requires c = c.in_default.ensures.absent (subst (λ (name : List ℕ). Contains c.args.names.now name) (sym c.as_slice.ensures) c.requires.there)

pub bounds-outputs-place : goal.bounds-outputs-place
bounds-outputs-place c =
    let b = c.args.b.now in
    let within = port_within b.outputs c.in-Some.place c.as_slice.result.now (ap (λ (ns : List (List ℕ)). slice_get ns c.in-Some.place) (sym c.requires.names) ∙ c.in-Some.ensures.here) in
    subst (λ (ports : List Port). c.in-Some.place < length ports) (sym c.outputs.ensures) within

pub returns : goal.returns
returns c =
    let b = c.args.b.now in
    let place = c.in-Some.place in
    let port = c.args.output.now in
    let name : slice_get (names_of b.outputs) place ≡ Some port.name = ap (λ (ns : List (List ℕ)). slice_get ns place) (sym c.requires.names) ∙ (c.in-Some.ensures.here ∙ ap Some c.as_slice.ensures) in
    let within : place < length b.outputs = port_within b.outputs place port.name name in
    let other : Port = get_or c.outputs.result.now place c.index-outputs-place.result in
    let here : slice_get b.outputs place ≡ Some other =
    ap (λ (ports : List Port). slice_get ports place) (sym c.outputs.ensures)
    ∙ slice_get-get_or c.outputs.result.now place c.index-outputs-place.result (subst (λ (ports : List Port). place < length ports) (sym c.outputs.ensures) within) in
    record {
      name_is = ap (λ (n : List ℕ). pair_name.Output n) c.in_ok-copy.ensures;
      left_is = refl;
      right_is = place_named-at b.outputs port.name place other c.requires.right.distinct name here;
    }
