-- The rows of the frame, and the meeting row between them.
use Rattle.std.proofs.Common.{◌≡◌, ◌∙◌, ℕ, Bool, List, length, Result, Ok, Err, ap}
use Rattle.std.specs.Prelude.{IfOk}
use Rattle.circuit_theory.specs.Query.{same_shift}
use Rattle.circuit_theory.specs.Sequence.{sequence_rows}
use Rattle.circuit_theory.specs.EventFrames.{frame_of}
use Rattle.circuit_theory.specs.Frame.{bits_as_shifts}
use Rattle.event_nodes.specs.event_variables.Variables.{variables_of}
use Rattle.cbf_unfold.specs.shift_variables.Variables as shift
use Rattle.assume_laws.specs.Sequences.{filled, filled_frame}
use Rattle.assume_queries.specs.assume_sequences.Filled.{bit_of}
use Rattle.event_under.proofs.event_shown_under.Shifts.{filled_same}
use Rattle.event_under.proofs.event_shown_under.rows.rows_under.Goals as goal

if_ok : {X E : Type 0} (r : Result X E) (P Q : X → Type 0) → ((x : X) → P x → Q x) → IfOk r P → IfOk r Q
if_ok (Ok x) P Q f h = f x h
if_ok (Err e) P Q f h = tt

pub returns : goal.returns
returns c =
    let w = c.args.events.now in
    let sides = c.args.sides.now in
    let made = c.args.made.now.events in
    let vars = c.args.made.now.vars.items in
    let last = c.args.last in
    let meeting = c.args.meeting.now in
    let count = length meeting in
    let table = c.in_ok-shifts.shifts.table in
    let numbers = c.in_ok-shifts.shifts.vars.items in
    let frame = frame_of (variables_of made vars) c.args.bits.now in
    let x = bits_as_shifts frame in
    let rows : c.in_ok-rows.rows ≡ sequence_rows last x count =
    c.in_ok-rows.ensures
    ∙ (ap (λ (vs : List ℕ). sequence_rows last (bits_as_shifts (frame_of (variables_of made vs) c.args.bits.now)) c.len.result) c.as_slice.ensures.value ∙ ap (λ (n : ℕ). sequence_rows last x n) c.len.ensures) in
    let same = filled_same w sides table numbers c.in_ok-steps.steps.items (bit_of meeting) frame c.in_ok-steps.ensures (c.in_ok-shifts.ensures.shifts ∙ c.as_slice-2.ensures.value) in
    if_ok c.fill_shifts.result (λ told. (n : ℕ) (y : ℕ → ℕ → Bool) → c.in_ok-rows.rows ≡ sequence_rows n y count → told ≡ sequence_rows n (filled same_shift (shift.variables_of table c.as_slice-3.result.now) (bit_of meeting) y) count)
    (λ told. told ≡ sequence_rows last (bits_as_shifts (filled_frame (variables_of w sides) (variables_of made vars) (bit_of meeting) c.args.bits.now)) count)
    (λ told h. h last x rows
    ∙ (ap (λ (vs : List ℕ). sequence_rows last (filled same_shift (shift.variables_of table vs) (bit_of meeting) x) count) c.as_slice-3.ensures.value ∙ ap (λ (f : ℕ → ℕ → Bool). sequence_rows last f count) same))
    c.fill_shifts.ensures
