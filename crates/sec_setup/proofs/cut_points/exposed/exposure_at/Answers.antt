use Rattle.std.proofs.Common.{◌≡◌, ◌<◌, ◌∙◌, ℕ, length, take, sym, ap, subst, arith}
use Rattle.std.proofs.Math.Seq.{take-length}
use Rattle.std.proofs.lemmas.List.{take_all}
use Rattle.std.specs.List.{All}
use Rattle.latch_graph.specs.flat_net.Cut.{exposed_names}
use Rattle.latch_graph.specs.minimal_cut.Chosen.{at_places}
use Rattle.sec_setup.specs.cut_points.expose_pick.Pairs.{lefts, rights}
use Rattle.sec_setup.proofs.cut_points.Exposures.{lefts_within}
use Rattle.sec_setup.proofs.cut_points.exposed.exposure_at.Goals as goal

pub names_at-requires : goal.names_at-requires
names_at-requires c =
    let n = length c.args.a.now.latches in
    let end : c.loop-place.place-index ≡ length c.args.places.now = omega arith in
    let all : take c.loop-place.place-index c.args.places.now ≡ c.args.places.now = ap (λ (i : ℕ). take i c.args.places.now) end ∙ take-length c.args.places.now in
    let left = c.as_slice.ensures ∙ c.loop-place.invariant.left ∙ ap (at_places (lefts c.args.common.now)) all in
    subst (All (λ (j : ℕ). j < n)) (sym left) (lefts_within n c.args.common.now c.requires.common c.args.places.now c.requires.places)

pub returns-clause-left : goal.returns-clause-left
returns-clause-left c = c.loop-place.invariant.left ∙ ap (at_places (lefts c.args.common.now)) (take_all c.loop-place.place-index c.args.places.now c.loop-place-test.false)

pub returns-clause-right : goal.returns-clause-right
returns-clause-right c = c.loop-place.invariant.right ∙ ap (at_places (rights c.args.common.now)) (take_all c.loop-place.place-index c.args.places.now c.loop-place-test.false)

pub returns-clause-names : goal.returns-clause-names
returns-clause-names c =
    let all = take_all c.loop-place.place-index c.args.places.now c.loop-place-test.false in
    c.in_ok-names.ensures ∙ ap (exposed_names c.args.a.now) (c.as_slice.ensures ∙ c.loop-place.invariant.left ∙ ap (at_places (lefts c.args.common.now)) all)
