-- The places of the cone.
use Rattle.std.proofs.Common.{◌≡◌, ℕ, List}
use Rattle.std.proofs.lemmas.Result.{IfOk-weaker}
use Rattle.latch_kinds.specs.declared.unate_enable.support.LatchCone.{LatchCone}
use Rattle.latch_kinds.specs.unate_enable.Cones.{IsConeOfLatch, places_of}
use Rattle.latch_kinds.proofs.unate_enable.Cones.{inputs_within, latches_within}
use Rattle.latch_kinds.proofs.unate_enable.recovery.places_among.Goals as goal

pub places-requires : goal.places-requires
places-requires c = record {
  inputs = inputs_within c.args.net.now c.keeps.ensures.sound c.args.latch c.args.signals.now c.requires.reached c.in_ok-cone.cone c.in_ok-cone.ensures;
  latches = latches_within c.args.net.now c.keeps.ensures.sound c.args.latch c.args.signals.now c.requires.reached c.in_ok-cone.cone c.in_ok-cone.ensures;
}

pub returns : goal.returns
returns c =
    IfOk-weaker c.places.result (λ (l : List ℕ). l ≡ places_of c.args.net.now c.in_ok-cone.cone)
    (λ (l : List ℕ). (cone : LatchCone) × IsConeOfLatch c.args.net.now c.args.latch cone × (l ≡ places_of c.args.net.now cone))
    (λ l e. (c.in_ok-cone.cone, c.in_ok-cone.ensures, e)) c.places.ensures
