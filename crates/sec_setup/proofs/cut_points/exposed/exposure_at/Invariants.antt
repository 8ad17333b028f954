use Rattle.std.proofs.Common.{◌≡◌, take}
use Rattle.latch_graph.specs.minimal_cut.Chosen.{at_places}
use Rattle.sec_setup.specs.cut_points.expose_pick.Pairs.{lefts, rights}
use Rattle.sec_setup.proofs.cut_points.exposed.exposure_at.Given as goal

abbrev pub invariant-loop-place : goal.invariant-loop-place
invariant-loop-place l = record {
  left : l.left ≡ at_places (lefts l.common) (take l.place-index l.places);
  right : l.right ≡ at_places (rights l.common) (take l.place-index l.places);
}
