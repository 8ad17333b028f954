-- A text of a stimulus has more bytes than rows.
use Rattle.std.proofs.Common.{◌≡◌, ◌+◌, ◌<◌, ◌≤◌, ℕ, Bool, List, [], ◌∷◌, ◌++◌, length, ap, arith, inl, inr, ◌⊎◌, length-append}
use Rattle.std.specs.List.{flat_map}
use Rattle.witness_report.specs.Text.{header_line, row_text, row_line, stimulus_text}
use Rattle.witness_report.specs.Form.{IsForm}

-- each row is a line
length-rows : (rows : List (List Bool)) → length rows ≤ length (flat_map row_line rows)
length-rows [] = omega arith
length-rows (row ∷ rows) =
    let line : length (row_line row) ≡ length (row_text row) + 1 = length-append (row_text row) (10 ∷ []) in
    let all : length (row_line row ++ flat_map row_line rows) ≡ length (row_line row) + length (flat_map row_line rows) = length-append (row_line row) (flat_map row_line rows) in
    let rest = length-rows rows in
    omega (arith, line, all, rest)

length-stimulus : (names : List (List ℕ)) (rows : List (List Bool)) → length rows < length (stimulus_text names rows)
unfolding stimulus_text
length-stimulus names rows =
    let all : length ((header_line names ++ 10 ∷ []) ++ flat_map row_line rows) ≡ length (header_line names ++ 10 ∷ []) + length (flat_map row_line rows) = length-append (header_line names ++ 10 ∷ []) (flat_map row_line rows) in
    let header : length (header_line names ++ 10 ∷ []) ≡ length (header_line names) + 1 = length-append (header_line names) (10 ∷ []) in
    let lines = length-rows rows in
    omega (arith, all, header, lines)

-- so a text that is read has no more rows than bytes
pub few_rows : (text : List ℕ) (names : List (List ℕ)) (rows : List (List Bool)) → IsForm text names rows → length rows ≤ length text
few_rows text names rows form = go form.spelled
  where
    go : (text ≡ stimulus_text names rows) ⊎ (text ++ 10 ∷ [] ≡ stimulus_text names rows) → length rows ≤ length text
    go (inl e) = let size = ap length e in omega (arith, size, length-stimulus names rows)
    go (inr e) = let size = ap length e in omega (arith, size, length-append text (10 ∷ []), length-stimulus names rows)
