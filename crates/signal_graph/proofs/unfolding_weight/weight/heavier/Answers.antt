use Rattle.std.proofs.Common.{◌≡◌, ◌+◌, ◌<◌, ◌≤◌, max, List, Some, length, slice_get, subst, ap, refl, arith}
use Rattle.std.specs.Prelude.{IfSome, IfNone}
use Rattle.std.proofs.lemmas.Option.{slice_get_within, slice_get_read}
use Rattle.signal_graph.specs.inner_cone.flat_net.Signal.{Signal}
use Rattle.signal_graph.specs.inner_cone.flat_net.Gate.{Gate}
use Rattle.signal_graph.specs.inner_cone.flat_net.Driver.TheVariants as driver
use Rattle.signal_graph.proofs.unfolding_weight.Weights.{gate_weighs}
use Rattle.signal_graph.proofs.unfolding_weight.weight.heavier.Goals as goal

pub bounds-gates-j : goal.bounds-gates-j
bounds-gates-j c =
    let g = c.keeps.ensures.sound.drivers c.args.s.0 (driver.Gate c.in-Gate.j) c.in-Gate.ensures in
    omega (arith, slice_get_within c.args.net.now.gates c.in-Gate.j g.0 g.1, ap length c.gates.ensures)

pub cover-requires : goal.cover-requires
cover-requires c =
    let g = c.keeps.ensures.sound.drivers c.args.s.0 (driver.Gate c.in-Gate.j) c.in-Gate.ensures in
    let l : c.in-Gate.j < length c.gates.result.now = omega (arith, slice_get_within c.args.net.now.gates c.in-Gate.j g.0 g.1, ap length c.gates.ensures) in
    let at = slice_get_read c.gates.result.now (length c.gates.result.now) c.in-Gate.j c.index-gates-j.result refl l c.index-gates-j.is in
    let here = subst (λ (z : List Gate). slice_get z c.in-Gate.j ≡ Some c.index-gates-j.result) c.gates.ensures at in
    let kept = c.keeps.ensures.sound.gates c.in-Gate.j c.index-gates-j.result here in
    slice_get_within c.args.net.now.covers c.index-gates-j.result.cover kept.cover kept.covered

pub returns-in-Gate-clause-sum : goal.returns-in-Gate-clause-sum
returns-in-Gate-clause-sum c =
    let g = c.keeps.ensures.sound.drivers c.args.s.0 (driver.Gate c.in-Gate.j) c.in-Gate.ensures in
    let l : c.in-Gate.j < length c.gates.result.now = omega (arith, slice_get_within c.args.net.now.gates c.in-Gate.j g.0 g.1, ap length c.gates.ensures) in
    let at = slice_get_read c.gates.result.now (length c.gates.result.now) c.in-Gate.j c.index-gates-j.result refl l c.index-gates-j.is in
    let here = subst (λ (z : List Gate). slice_get z c.in-Gate.j ≡ Some c.index-gates-j.result) c.gates.ensures at in
    let rows : c.max-rows.result ≡ max 1 (length c.cover.result.now.rows) = omega (arith, c.max-rows.ensures, ap length c.rows.ensures) in
    let weight = gate_weighs c.args.net.now c.args.s.0 c.in-Gate.j c.index-gates-j.result c.cover.result.now c.max-rows.result (length c.as_slice-fanins.result.now + 1) c.in-Gate.ensures here c.cover.ensures
    rows (ap (λ (z : List Signal). length z + 1) c.as_slice-fanins.ensures) in
    subst (λ z. IfSome c.added_to.result (λ sum. (sum ≡ c.args.total + z) × (sum ≤ c.args.cap))) weight c.added_to.ensures.sum

pub returns-in-Gate-clause-over : goal.returns-in-Gate-clause-over
returns-in-Gate-clause-over c =
    let g = c.keeps.ensures.sound.drivers c.args.s.0 (driver.Gate c.in-Gate.j) c.in-Gate.ensures in
    let l : c.in-Gate.j < length c.gates.result.now = omega (arith, slice_get_within c.args.net.now.gates c.in-Gate.j g.0 g.1, ap length c.gates.ensures) in
    let at = slice_get_read c.gates.result.now (length c.gates.result.now) c.in-Gate.j c.index-gates-j.result refl l c.index-gates-j.is in
    let here = subst (λ (z : List Gate). slice_get z c.in-Gate.j ≡ Some c.index-gates-j.result) c.gates.ensures at in
    let rows : c.max-rows.result ≡ max 1 (length c.cover.result.now.rows) = omega (arith, c.max-rows.ensures, ap length c.rows.ensures) in
    let weight = gate_weighs c.args.net.now c.args.s.0 c.in-Gate.j c.index-gates-j.result c.cover.result.now c.max-rows.result (length c.as_slice-fanins.result.now + 1) c.in-Gate.ensures here c.cover.ensures
    rows (ap (λ (z : List Signal). length z + 1) c.as_slice-fanins.ensures) in
    subst (λ z. IfNone c.added_to.result (c.args.cap < c.args.total + z)) weight c.added_to.ensures.over
