-- Where a pair reaches class 0 alone, the sequence of a difference makes it differ in all runs, and meets the assumption.
use Rattle.std.proofs.Common.{length, max}
use Rattle.circuit_laws.proofs.event_laws.EventWindows.{event_witness_makes_differ_in_nets}
use Rattle.circuit_laws.proofs.event_laws.SideParts.{sides_are_parts_in_nets}
use Rattle.flat_net.specs.View.{circuit_of}
use Rattle.flat_net.proofs.Nets.{sound_is_net}
use Rattle.circuit_theory.specs.EventFrames.{frame_of}
use Rattle.circuit_theory.specs.Frame.{bits_as_shifts}
use Rattle.circuit_theory.specs.Sequence.{sequence_rows}
use Rattle.edbf_unfold.specs.class_queries.Enables.{both_of, class_map}
use Rattle.edbf_unfold.proofs.class_queries.Meaning.{numbered}
use Rattle.assume_laws.specs.Sequences.{filled_frame}
use Rattle.assume_laws.proofs.Filled.{event_difference_is_witness_under}
use Rattle.event_under.specs.Laws.{AlwaysDifferencesShowUnder}

pub always_show : AlwaysDifferencesShowUnder
always_show c a b w p q count d e asked sides variables bits meeting kept classes depths numbers difference inputs row left_depth right_depth left_always right_always =
    let ca = circuit_of a.net in
    let cb = circuit_of b.net in
    let na = sound_is_net a.net kept.left_sound in
    let nb = sound_is_net b.net kept.right_sound in
    let parts = sides_are_parts_in_nets ca cb (length a.net.drivers) (length b.net.drivers) na nb in
    let rows = sequence_rows (max d e) (bits_as_shifts (filled_frame sides variables meeting bits)) count in
    let both = event_difference_is_witness_under c (both_of a b) p q count d e asked sides variables bits meeting difference inputs row (parts.2 p d left_depth) (parts.3 q e right_depth) left_always right_always in (
      event_witness_makes_differ_in_nets ca cb (length a.net.drivers) (length b.net.drivers) a.order b.order (class_map a b) na nb numbers (numbered a kept.left) (numbered b kept.right) classes depths p q count
          rows (max d e) (asked.left (frame_of variables bits)) (asked.right (frame_of variables bits)) both.0,
      both.1,
    )
