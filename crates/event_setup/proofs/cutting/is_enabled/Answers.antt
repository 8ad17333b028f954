-- The latch of the name is the latch, and has its bit.
use Rattle.std.proofs.Common.{◌≡◌, false, length, get_or, Some, ap, arith}
use Rattle.std.specs.Prelude.{slice_get}
use Rattle.std.proofs.lemmas.Option.{slice_get-get_or, slice_get_within}
use Rattle.event_setup.proofs.Bits.{has_bit, latch_found, no_latch_absent}
use Rattle.event_setup.proofs.cutting.is_enabled.Goals as goal

pub unreachable-requires : goal.unreachable-requires
unreachable-requires c = no_latch_absent c.args.net.now c.args.latch.now c.as_slice.result.now c.requires.stands c.as_slice.ensures c.in_default.ensures.absent

pub returns : goal.returns
returns c =
    let n = c.args.net.now in
    let l = c.args.latch.now in
    let j = c.in-Some.position in
    let found = latch_found n c.keeps.ensures.sound l j c.as_slice.result.now c.requires.stands c.as_slice.ensures c.in-Some.ensures.here in
    let w = slice_get_within n.latches j l found in
    let bits = c.as_slice-2.result.now in
    let here : slice_get c.args.enabled.now j ≡ Some (get_or bits j false) = rw (← c.as_slice-2.ensures) (slice_get-get_or bits j false (omega (arith, w, c.requires.marked.each, ap length c.as_slice-2.ensures))) in
    has_bit n c.args.enabled.now c.requires.marked j l (get_or bits j false) found here
