-- The gate's cover has a column for each fan-in, and its fan-ins are in range.
use Rattle.std.proofs.Common.{◌≡◌, ◌<◌, ◌∙◌, sym, ap, subst, length, map, slice_index_or, None}
use Rattle.std.specs.Prelude.{IfSome, All}
use Rattle.sec_base.specs.Cover.{IsCoverSound}
use Rattle.flat_net.specs.declared.signals.Signal.{Signal}
use Rattle.flat_net.specs.View.{cover_of}
use Rattle.flat_net.proofs.Places.{All-at, cover_of-is, cover_within, cover_fits, fanins_within}
use Rattle.circuit_laws.specs.start_laws.Known.{cover_three}
use Rattle.restart.proofs.cycle.gate_three.Goals as goal

pub cover-cover-requires : goal.cover-cover-requires
cover-cover-requires c = cover_within _ c.keeps.ensures.sound _ _ c.gate_of-gate.ensures

pub cover_three-requires-clause-width : goal.cover_three-requires-clause-width
cover_three-requires-clause-width c = cover_fits _ c.keeps.ensures.sound _ _ c.gate_of-gate.ensures _ c.cover-cover.ensures ∙ sym (ap length c.as_slice.ensures)

pub cover_three-requires-clause-sound : goal.cover_three-requires-clause-sound
cover_three-requires-clause-sound c = All-at IsCoverSound _ _ _ c.cover-cover.ensures c.keeps.ensures.sound.covers

pub cover_three-requires-clause-within : goal.cover_three-requires-clause-within
cover_three-requires-clause-within c =
    subst (λ fs. All (λ f. f.0 < length c.args.values.now) fs) (sym c.as_slice.ensures)
    (subst (λ size. All (λ f. f.0 < size) c.gate_of-gate.result.now.fanins) (sym c.requires.values) (fanins_within _ c.keeps.ensures.sound _ _ c.gate_of-gate.ensures))

pub returns : goal.returns
returns c =
    let bit = λ (f : Signal). slice_index_or c.args.values.now f.0 None in
    let covers = c.args.net.now.covers in
    let value : c.cover_three.result ≡ cover_three (cover_of covers c.gate_of-gate.result.now) (map bit c.gate_of-gate.result.now.fanins) =
    c.cover_three.ensures ∙ ap (λ fs. cover_three c.cover-cover.result.now (map bit fs)) c.as_slice.ensures
    ∙ ap (λ k. cover_three k (map bit c.gate_of-gate.result.now.fanins)) (sym (cover_of-is covers c.gate_of-gate.result.now _ c.cover-cover.ensures)) in
    subst (λ o. IfSome o (λ g. c.cover_three.result ≡ cover_three (cover_of covers g) (map bit g.fanins))) (sym c.gate_of-gate.ensures) value
