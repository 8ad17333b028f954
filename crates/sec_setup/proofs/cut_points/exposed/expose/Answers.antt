use Rattle.std.proofs.Common.{◌≡◌, ◌<◌, ◌∙◌, ℕ, List, length, sym, ap, subst}
use Rattle.std.specs.List.{All}
use Rattle.std.proofs.lemmas.List.{length-map}
use Rattle.circuit_theory.specs.declared.Side.{Side}
use Rattle.circuit_theory.specs.declared.Side.TheVariants.{A, B}
use Rattle.latch_graph.specs.flat_net.View.{circuit_of}
use Rattle.latch_graph.specs.flat_net.Cut.{exposed_names}
use Rattle.latch_graph.specs.Graph.{GraphView}
use Rattle.sec_setup.specs.declared.cut_points.expose_pick.error.PickError.{PickError}
use Rattle.sec_setup.specs.declared.cut_points.expose_pick.error.PickError.TheVariants as pick_error
use Rattle.sec_setup.specs.cut_points.Common.{common_names}
use Rattle.sec_setup.specs.declared.cut_points.expose_pick.pairs.LatchPair.{LatchPair}
use Rattle.latch_graph.specs.minimal_cut.Chosen.{at_places}
use Rattle.sec_setup.specs.cut_points.expose_pick.Pairs.{lefts, rights}
use Rattle.sec_setup.specs.cut_points.expose_pick.Refused.{Refuses}
use Rattle.sec_setup.proofs.cut_points.Exposures.{right_once, left_common, right_common, left_free, exposed}
use Rattle.sec_setup.proofs.cut_points.ToldCycles.{told_cycle, tells_left, tells_right}
use Rattle.sec_setup.proofs.cut_points.exposed.expose.Goals as goal

pub pick-requires-clause-right_once : goal.pick-requires-clause-right_once
pick-requires-clause-right_once c =
    right_once c.args.a.now c.args.b.now c.args.left.now c.args.right.now c.requires.left_graph c.requires.right_graph c.in_ok-common.common c.in_ok-common.ensures

pub exposure_at-requires-clause-places : goal.exposure_at-requires-clause-places
exposure_at-requires-clause-places c =
    let common = c.in_ok-common.common in
    subst (λ (ks : List ℕ). All (λ k. k < length c.as_slice.result.now) ks) (sym c.as_slice-in-Ok.ensures)
    (subst (λ (n : ℕ). All (λ k. k < n) c.in-Ok.places) (length-map common (λ (p : LatchPair). p.left) ∙ sym (ap length c.as_slice.ensures)) c.in-Ok.ensures.minimal.within)

pub returns-in-Ok : goal.returns-in-Ok
returns-in-Ok c = λ mode in_a in_b.
    let pairs = c.as_slice.ensures in
    let places = c.as_slice-in-Ok.ensures in
    let made = c.in_ok-exposure_at-in-Ok.ensures in
    exposed c.args.a.now c.args.b.now c.args.left.now c.args.right.now c.requires.left_graph c.requires.right_graph c.in_ok-common.common c.in_ok-common.ensures mode in_a in_b c.in-Ok.places c.in-Ok.ensures.minimal
    c.chosen_is_minimal_cut.ensures c.in-Ok.ensures.left_paired c.in-Ok.ensures.right_paired c.in_ok-exposure_at-in-Ok.field-0
    (made.left ∙ ap (λ (ps : List LatchPair). at_places (lefts ps) c.as_slice-in-Ok.result.now) pairs ∙ ap (at_places (lefts c.in_ok-common.common)) places)
    (made.right ∙ ap (λ (ps : List LatchPair). at_places (rights ps) c.as_slice-in-Ok.result.now) pairs ∙ ap (at_places (rights c.in_ok-common.common)) places)
    (made.names ∙ ap (λ (ps : List LatchPair). exposed_names c.args.a.now (at_places (lefts ps) c.as_slice-in-Ok.result.now)) pairs
    ∙ ap (λ (ks : List ℕ). exposed_names c.args.a.now (at_places (lefts c.in_ok-common.common) ks)) places)

-- what an error refuses, where it is a cycle of this circuit
refuses : (ga gb : GraphView) (left right : List ℕ) (error : PickError) (side side' : Side) (ids : List ℕ) → error ≡ pick_error.Unpaired side ids → side ≡ side' → Refuses ga gb left right error →
    Refuses ga gb left right (pick_error.Unpaired side' ids)
refuses ga gb left right error side side' ids is same refused =
    subst (Refuses ga gb left right) (is ∙ ap (λ (s : Side). pick_error.Unpaired s ids) same) refused

pub returns-in-Err-Unpaired-A-default : goal.returns-in-Err-Unpaired-A-default
returns-in-Err-Unpaired-A-default c = λ mode in_a in_b.
    let a = c.args.a.now in
    let b = c.args.b.now in
    let ga = c.args.left.now in
    let gb = c.args.right.now in
    let pairs = c.in_ok-common.common in
    let arm = c.in-Err-Unpaired-A-default in
    let refused = refuses ga gb (lefts pairs) (rights pairs) arm.field-0 arm.field-0-0 A arm.cycle arm.field-0-is arm.field-0-0-is arm.ensures.unpaired in
    tells_left mode a b c.as_slice-in-Err-Unpaired-A-default.result.now c.unpaired.result c.unpaired.ensures
    (λ names is.
    told_cycle mode a ga in_a (lefts pairs) arm.cycle refused (common_names (circuit_of a) (circuit_of b)) names
    (left_common a b ga gb c.requires.left_graph c.requires.right_graph pairs c.in_ok-common.ensures) (is ∙ ap (exposed_names a) c.as_slice-in-Err-Unpaired-A-default.ensures))

pub returns-in-Err-Unpaired-B-default : goal.returns-in-Err-Unpaired-B-default
returns-in-Err-Unpaired-B-default c = λ mode in_a in_b.
    let a = c.args.a.now in
    let b = c.args.b.now in
    let ga = c.args.left.now in
    let gb = c.args.right.now in
    let pairs = c.in_ok-common.common in
    let arm = c.in-Err-Unpaired-B-default in
    let refused = refuses ga gb (lefts pairs) (rights pairs) arm.field-0 arm.field-0-0 B arm.cycle arm.field-0-is arm.field-0-0-is arm.ensures.unpaired in
    tells_right mode a b c.as_slice-in-Err-Unpaired-B-default.result.now c.unpaired-in-Err-Unpaired-B-default.result c.unpaired-in-Err-Unpaired-B-default.ensures
    (left_free a b ga gb c.requires.left_graph c.requires.right_graph pairs c.in_ok-common.ensures mode in_a refused.0)
    (λ names is.
    told_cycle mode b gb in_b (rights pairs) arm.cycle refused.1 (common_names (circuit_of a) (circuit_of b)) names
    (right_common a b ga gb c.requires.left_graph c.requires.right_graph pairs c.in_ok-common.ensures) (is ∙ ap (exposed_names b) c.as_slice-in-Err-Unpaired-B-default.ensures))
