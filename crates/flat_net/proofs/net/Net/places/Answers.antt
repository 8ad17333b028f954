-- One latch more: it is exposed, or it stays.
use Rattle.std.proofs.Common.{◌≡◌, ◌∙◌, ◌+◌, ◌<◌, ◌++◌, ◌∷◌, [], true, false, List, length, take, slice_get, Some, refl, sym, ap, subst, arith}
use Rattle.std.proofs.lemmas.Option.{slice_get_read, slice_get_within}
use Rattle.std.specs.List.{filter}
use Rattle.base_tables.specs.Table.{is_among}
use Rattle.flat_net.specs.Cut.{stays, IsPlaceOf}
use Rattle.flat_net.specs.declared.parts.LatchAt.{LatchAt}
use Rattle.flat_net.proofs.PlaceLists.{PlacesSoFar, places_input, places_latch}
use Rattle.flat_net.proofs.net.Net.places.Goals as goal
use Rattle.flat_net.proofs.net.Net.places.Goals.{in-Some, in-None}

pub overflow_add-place : goal.overflow_add-place
overflow_add-place c =
    let below : c.in-Some.k < length c.args.names.now = slice_get_within _ _ _ c.in-Some.ensures.here in
    let inputs = ap length c.inputs.ensures in
    omega (arith, below, inputs, c.requires)

pub overflow_add-left : goal.overflow_add-left
overflow_add-left c =
    let latches : length c.latches-latch-items.result.now ≡ length c.args.self.now.latches = ap length c.latches-latch-items.ensures in
    omega (arith, c.loop-latch.invariant.low, c.loop-latch-test.true, latches, c.keeps.ensures.sound.few_latches, c.keeps.ensures.sound.few)

pub loop-latch-preserved : goal.loop-latch-preserved
loop-latch-preserved c =
    let names = c.args.names.now in
    let latches = c.latches-latch-items.result.now in
    let i = c.loop-latch.latch-index in
    let l = c.latch-item.result in
    let here : slice_get latches i ≡ Some l = slice_get_read latches (length latches) i l refl c.loop-latch-test.true c.latch-item.is in
    elim c.match-find.branch [
      | in-Some w ↦
          let at : slice_get names w.in-Some.k ≡ Some l.name = w.in-Some.ensures.here ∙ ap Some c.as_slice.ensures in
          let among : is_among names l.name ≡ true = ap (is_among names) (sym c.as_slice.ensures) ∙ sym w.in-Some.ensures.found in
          subst (λ left. PlacesSoFar names (length c.inputs.result.now) latches (i + 1) left c.push.new.self.items) (sym w.left-is)
          (places_input names (length c.inputs.result.now) latches i c.loop-latch.left c.loop-latch.places.items l w.in-Some.k _ c.loop-latch.invariant here at among
          (c.in_ok-push.ensures.items ∙ ap (λ d. c.loop-latch.places.items ++ d ∷ []) w.place-is))
      | in-None w ↦
          let among : is_among names l.name ≡ false = ap (is_among names) (sym c.as_slice.ensures) ∙ sym w.in-None.ensures.found in
          subst (λ left. PlacesSoFar names (length c.inputs.result.now) latches (i + 1) left c.push.new.self.items) (sym w.left-is)
          (places_latch names (length c.inputs.result.now) latches i c.loop-latch.left c.loop-latch.places.items l _ c.loop-latch.invariant here among
          (c.in_ok-push.ensures.items ∙ ap (λ d. c.loop-latch.places.items ++ d ∷ []) w.place-is))
    ]

pub returns : goal.returns
returns c = λ j l h.
    let names = c.args.names.now in
    let latches = c.latches-latch-items.ensures in
    let at : slice_get c.latches-latch-items.result.now j ≡ Some l = ap (λ ls. slice_get ls j) latches ∙ h in
    let within : j < length c.latches-latch-items.result.now = slice_get_within _ j l at in
    let below : j < c.loop-latch.latch-index = omega (arith, within, c.loop-latch-test.false) in
    let d = c.loop-latch.invariant.each j l below at in
    let by_inputs : IsPlaceOf names (length c.args.self.now.inputs) (length (filter (stays names) (take j c.latches-latch-items.result.now))) l.name d.0 =
    subst (λ k. IsPlaceOf names k (length (filter (stays names) (take j c.latches-latch-items.result.now))) l.name d.0) (ap length c.inputs.ensures) d.2 in
    (d.0, d.1, subst (λ (ls : List LatchAt). IsPlaceOf names (length c.args.self.now.inputs) (length (filter (stays names) (take j ls))) l.name d.0) latches by_inputs)
