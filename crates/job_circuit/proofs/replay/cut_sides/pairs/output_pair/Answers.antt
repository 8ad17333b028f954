-- The table has the output's name, at the place of B's output of that name.
use Rattle.std.proofs.Common.{◌≡◌, ◌∙◌, List, ℕ, slice_get, Some, refl, sym, ap, subst}
use Rattle.std.specs.List.{Contains}
use Rattle.flat_net.proofs.Nets.{some_at}
use Rattle.witness_report.specs.declared.witness.PairName.TheVariants as pair_name
use Rattle.sec_setup.proofs.ports.Paired.{place_named-at, port_within}
use Rattle.job_circuit.proofs.replay.cut_sides.pairs.output_pair.Goals as goal

pub unreachable-requires : goal.unreachable-requires
unreachable-requires c = c.in_default.ensures.absent (subst (λ (name : List ℕ). Contains c.args.names.now name) (sym c.as_slice.ensures) c.requires.there)

pub returns : goal.returns
returns c =
    let b = c.args.b.now in
    let place = c.in-Some.right in
    let port = c.args.output.now in
    let name : slice_get _ place ≡ Some port.name = ap (λ (ns : List (List ℕ)). slice_get ns place) (sym c.requires.names) ∙ (c.in-Some.ensures.here ∙ ap Some c.as_slice.ensures) in
    let other = some_at b.outputs place (port_within b.outputs place port.name name) in
    record {
      name_is = ap (λ (n : List ℕ). pair_name.Output n) c.in_ok-copy.ensures;
      left_is = refl;
      other = other.0;
      right_at = other.1;
      right_is = place_named-at b.outputs port.name place other.0 c.requires.distinct name other.1;
    }
