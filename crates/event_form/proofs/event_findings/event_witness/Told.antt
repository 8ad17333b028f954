-- The rows of a sequence, as they are told.
use Rattle.std.proofs.Common.{◌≡◌, ◌∙◌, ℕ, zero, suc, Bool, List, length, refl, ap, subst, sym}
use Rattle.std.specs.List.{All}
use Rattle.std.proofs.lemmas.List.Elements.{All-nil, All-cons}
use Rattle.circuit_theory.specs.Sequence.{sequence_row, sequence_rows, sequence_rows_from}
use Rattle.circuit_theory.specs.EventFrames.{frame_of}
use Rattle.circuit_theory.specs.Frame.{bits_as_shifts}
use Rattle.event_nodes.specs.Nodes.{EventGraphView}
use Rattle.event_nodes.specs.event_variables.Variables.{variables_of}

row_long : (last : ℕ) (a : ℕ → ℕ → Bool) (cycle first count : ℕ) → length (sequence_row last a cycle first count) ≡ count
row_long last a cycle first zero = refl
row_long last a cycle first (suc count) = ap suc (row_long last a cycle (suc first) count)

rows_long : (last : ℕ) (a : ℕ → ℕ → Bool) (count cycle n : ℕ) → All (λ (row : List Bool). length row ≡ count) (sequence_rows_from last a count cycle n)
rows_long last a count cycle zero = All-nil (λ (row : List Bool). length row ≡ count)
rows_long last a count cycle (suc n) = All-cons (λ (row : List Bool). length row ≡ count) (sequence_row last a cycle 0 count) (sequence_rows_from last a count (suc cycle) n) (row_long last a cycle 0 count) (rows_long last a count (suc cycle) n)

-- each row has a bit for each name
pub rows_fit : (last count : ℕ) (a : ℕ → ℕ → Bool) (rows : List (List Bool)) (size : ℕ) → rows ≡ sequence_rows last a count → count ≡ size → All (λ (row : List Bool). length row ≡ size) rows
rows_fit last count a rows size is same =
    subst (λ (rs : List (List Bool)). All (λ (row : List Bool). length row ≡ size) rs) (sym is)
    (subst (λ k. All (λ (row : List Bool). length row ≡ k) (sequence_rows last a count)) same (rows_long last a count 0 (suc last)))

-- the rows of equal frames
pub rows_told : (last : ℕ) (v w : EventGraphView) (us vs : List ℕ) (bs cs : List Bool) (m n : ℕ) → v ≡ w → us ≡ vs → bs ≡ cs → m ≡ n → sequence_rows last (bits_as_shifts (frame_of (variables_of v us) bs)) m ≡ sequence_rows last (bits_as_shifts (frame_of (variables_of w vs) cs)) n
rows_told last v w us vs bs cs m n graph vars bits count =
    ap (λ (x : EventGraphView). sequence_rows last (bits_as_shifts (frame_of (variables_of x us) bs)) m) graph
    ∙ (ap (λ (xs : List ℕ). sequence_rows last (bits_as_shifts (frame_of (variables_of w xs) bs)) m) vars
    ∙ (ap (λ (xs : List Bool). sequence_rows last (bits_as_shifts (frame_of (variables_of w vs) xs)) m) bits ∙ ap (λ k. sequence_rows last (bits_as_shifts (frame_of (variables_of w vs) cs)) k) count))
