-- A text writes no more names than it has bytes.
use Rattle.std.proofs.Common.{◌≡◌, ℕ, suc, ◌+◌, ◌*◌, ◌<◌, ◌≤◌, Bool, true, false, not, cond, if◌then◌else◌, List, [], ◌∷◌, ◌++◌, length, length-append, map, refl, ◌∙◌, arith, Some, None, codes, bytes_eq}
use mathlib.Core.List.{reverse_aux}
use Rattle.std.specs.List.{filter, slice_split, onto_first}
use Rattle.std.specs.Io.BufRead.{ends_with_byte}
use Rattle.base_tables.specs.Table.{is_among}
use Rattle.blif_read.specs.declared.blif_lines.line.RawLine.{RawLine}
use Rattle.blif_read.specs.blif_lines.Lines.{TokenLine, is_blank, is_line_feed, is_empty, cut_line, going_on, raw_line, before_line, joined_lines, raw_lines, physical_lines, tokens_of, token_line}
use Rattle.blif_read.specs.declared.head.Head.{Head}
use Rattle.blif_read.specs.declared.head.Head.TheVariants as head
use Rattle.blif_read.specs.declared.design.BlifModel.{BlifModel}
use Rattle.blif_read.specs.declared.design.Statement.{Statement}
use Rattle.blif_read.specs.Heads.{Line, headed, lines_of, args_of, head_of, but_last, last_or_empty}
use Rattle.blif_read.specs.Spelled.{put_line, blocks_of, names_on, with_new, clocks_on, latch_of, subckt_of, pair_of, names_of, control_of, statement_of, statements_of, rows_onto, model_of}
use Rattle.blif_read.specs.Reading.{back_over, spelled}
use Rattle.blif_read.specs.Kept.{names_in_option, names_in_pairs, names_in, names_in_all, names_in_model, written_names}
use Rattle.blif_read.proofs.Each.{Each}
use Rattle.blif_read.proofs.Bytes.{cut_shorter, going_shorter}

-- the bytes of the pieces, and one more for each
cells : List (List ℕ) → ℕ
cells [] = 0
cells (p ∷ ps) = length p + 1 + cells ps

onto_cells : (x : ℕ) (ps : List (List ℕ)) → 0 < length ps → cells (onto_first x ps) ≡ suc (cells ps)
unfolding cells
onto_cells x [] h = absurd (omega arith)
onto_cells x (p ∷ ps) h = omega arith

some_pieces : (p : ℕ → Bool) (xs : List ℕ) → 0 < length (slice_split p xs)
some_pieces p [] = omega arith
some_pieces p (x ∷ xs) = go (p x) (slice_split p xs)
  where
    go : (b : Bool) (ps : List (List ℕ)) → 0 < length (cond b ([] ∷ ps) (onto_first x ps))
    go true ps = omega arith
    go false [] = omega arith
    go false (q ∷ ps) = omega arith

split_cells_at : (p : ℕ → Bool) (x : ℕ) (xs : List ℕ) → cells (slice_split p xs) ≡ length xs + 1 → (b : Bool) → cells (cond b ([] ∷ slice_split p xs) (onto_first x (slice_split p xs))) ≡ length (x ∷ xs) + 1
unfolding cells
split_cells_at p x xs e true = omega arith
split_cells_at p x xs e false = onto_cells x (slice_split p xs) (some_pieces p xs) ∙ omega arith

split_cells : (p : ℕ → Bool) (xs : List ℕ) → cells (slice_split p xs) ≡ length xs + 1
unfolding cells
split_cells p [] = refl
split_cells p (x ∷ xs) = split_cells_at p x xs (split_cells p xs) (p x)

filter_cells : (ps : List (List ℕ)) → 2 * length (filter (λ t. not (is_empty t)) ps) ≤ cells ps
unfolding cells
filter_cells [] = omega arith
filter_cells ([] ∷ ps) = omega (arith, filter_cells ps)
filter_cells ((x ∷ p) ∷ ps) = omega (arith, filter_cells ps)

tokens_cells : (bytes : List ℕ) → 2 * length (tokens_of bytes) ≤ length bytes + 1
tokens_cells bytes = omega (arith, filter_cells (slice_split is_blank bytes), split_cells is_blank bytes)

raw_cells : List RawLine → ℕ
raw_cells [] = 0
raw_cells (l ∷ ls) = length l.bytes + 1 + raw_cells ls

before_cells : (n : ℕ) (bytes : List ℕ) (lines : List RawLine) → raw_cells (before_line n bytes lines) ≤ length bytes + 1 + raw_cells lines
unfolding raw_cells
before_cells n bytes [] = omega arith
before_cells n bytes (line ∷ lines) = omega (arith, length-append bytes line.bytes)

join_cells_at : (n : ℕ) (body : List ℕ) (rest : List RawLine) (b : Bool) → ends_with_byte 92 body ≡ b → raw_cells (if b then before_line n (going_on body) rest else raw_line n body ∷ rest) ≤ length body + 1 + raw_cells rest
unfolding raw_cells
join_cells_at n body rest true e = omega (arith, before_cells n (going_on body) rest, going_shorter body e)
join_cells_at n body rest false e = omega arith

joined_cells : (n : ℕ) (pieces : List (List ℕ)) → raw_cells (joined_lines n pieces) ≤ cells pieces
unfolding cells raw_cells
joined_cells n [] = omega arith
joined_cells n (piece ∷ pieces) = omega (arith, join_cells_at n (cut_line piece) (joined_lines (n + 1) pieces) (ends_with_byte 92 (cut_line piece)) refl, cut_shorter piece, joined_cells (n + 1) pieces)

-- twice the tokens of a word line
weight : Head → List (List ℕ) → ℕ
weight head.Row args = 0
weight h args = 2 * length args + 2

weights : List Line → ℕ
weights [] = 0
weights (l ∷ ls) = weight l.head l.args + weights ls

head_weight : (h : Head) (t : List ℕ) (ts : List (List ℕ)) → weight h (args_of h (t ∷ ts)) ≤ 2 * length (t ∷ ts)
unfolding weight
head_weight head.Row t ts = omega arith
head_weight h t ts = omega arith

headed_at : (n : ℕ) (tokens : List (List ℕ)) (rest : List TokenLine) (bytes : ℕ) → 2 * length tokens ≤ bytes + 1 →
    weights (map headed (cond (not (is_empty tokens)) (record { number = n; tokens = tokens } ∷ rest) rest)) ≤ bytes + 1 + weights (map headed rest)
unfolding weights
headed_at n [] rest bytes h = omega arith
headed_at n (t ∷ ts) rest bytes h = omega (arith, head_weight (head_of t) t ts)

headed_weights : (raws : List RawLine) → weights (map headed (filter (λ line. not (is_empty line.tokens)) (map token_line raws))) ≤ raw_cells raws
unfolding weights raw_cells
headed_weights [] = omega arith
headed_weights (raw ∷ raws) =
    omega (arith, headed_at raw.number (tokens_of raw.bytes) (filter (λ line. not (is_empty line.tokens)) (map token_line raws)) (length raw.bytes) (tokens_cells raw.bytes), headed_weights raws)

back_weights : (before lines : List Line) → weights (back_over before lines) ≡ weights before + weights lines
unfolding weights
back_weights before [] = omega arith
back_weights before (line ∷ lines) = back_weights (line ∷ before) lines ∙ omega arith

-- the names that a model's lines give, but for its own
given : List (List (List ℕ)) → List Line → ℕ
given rows block = length (names_on head.Inputs block) + length (names_on head.Outputs block) + length (clocks_on block) + length (names_in_all (statements_of rows block))

new_length : (names others : List (List ℕ)) → length (with_new names others) ≤ length names + length others
new_length names [] = omega arith
new_length names (name ∷ others) = go (is_among names name) (λ ns. new_length ns others)
  where
    go : (b : Bool) → ((ns : List (List ℕ)) → length (with_new ns others) ≤ length ns + length others) →
        length (with_new (if b then names else names ++ name ∷ []) others) ≤ length names + length (name ∷ others)
    go true later = omega (arith, later names)
    go false later = omega (arith, later (names ++ name ∷ []), length-append names (name ∷ []))

all_length : (xs ys : List Statement) → length (names_in_all (xs ++ ys)) ≡ length (names_in_all xs) + length (names_in_all ys)
all_length [] ys = omega arith
all_length (x ∷ xs) ys =
    length-append (names_in x) (names_in_all (xs ++ ys)) ∙ omega (arith, all_length xs ys, length-append (names_in x) (names_in_all xs))

but_last_length : (names : List (List ℕ)) → length (but_last names) ≤ length names
but_last_length [] = omega arith
but_last_length (t ∷ []) = omega arith
but_last_length (t ∷ u ∷ ts) = omega (arith, but_last_length (u ∷ ts))

control_length : (control : List ℕ) → length (names_in_option (control_of control)) ≤ 1
control_length control = go (bytes_eq control (codes "NIL"))
  where
    go : (b : Bool) → length (names_in_option (if b then None else Some control)) ≤ 1
    go true = omega arith
    go false = omega arith

latch_length : (line : ℕ) (args : List (List ℕ)) → length (names_in (latch_of line args)) ≤ 2 * length args + 2
latch_length line [] = omega arith
latch_length line (i ∷ []) = omega arith
latch_length line (i ∷ o ∷ []) = omega arith
latch_length line (i ∷ o ∷ s ∷ []) = omega arith
latch_length line (i ∷ o ∷ k ∷ c ∷ []) = omega (arith, control_length c)
latch_length line (i ∷ o ∷ k ∷ c ∷ s ∷ []) = omega (arith, control_length c)
latch_length line (i ∷ o ∷ k ∷ c ∷ s ∷ x ∷ rest) = omega arith

pairs_length : (tokens : List (List ℕ)) → length (names_in_pairs (map pair_of tokens)) ≤ 2 * length tokens
pairs_length [] = omega arith
pairs_length (t ∷ ts) = omega (arith, pairs_length ts)

subckt_length : (line : ℕ) (args : List (List ℕ)) → length (names_in (subckt_of line args)) ≤ 2 * length args + 2
subckt_length line [] = omega arith
subckt_length line (t ∷ ts) = omega (arith, pairs_length ts)

one_length : (s : Statement) → length (names_in_all (s ∷ [])) ≡ length (names_in s)
one_length s = length-append (names_in s) [] ∙ omega arith

statement_length : (h : Head) (line : Line) (rows : List (List (List ℕ))) → length (names_in_all (statement_of h line rows)) ≤ weight h line.args
unfolding weight
statement_length head.Names line rows =
    omega (arith, one_length (names_of line rows), length-append (but_last line.args) (last_or_empty line.args ∷ []), but_last_length line.args)
statement_length head.Latch line rows = omega (arith, one_length (latch_of line.number line.args), latch_length line.number line.args)
statement_length head.Subckt line rows = omega (arith, one_length (subckt_of line.number line.args), subckt_length line.number line.args)
statement_length h line rows = omega arith

-- one line more gives no more names than its weight
given_more : (h : Head) (number : ℕ) (word : List ℕ) (args : List (List ℕ)) (rows : List (List (List ℕ))) (block : List Line) →
    let line : Line = record { number = number; head = h; word = word; args = args } in
    given rows (line ∷ block) ≤ weight h args + given (rows_onto h line rows) block
unfolding given weight
given_more head.Inputs number word args rows block =
    let line : Line = record { number = number; head = head.Inputs; word = word; args = args } in
    omega (arith, length-append (names_on head.Inputs block) args, all_length (statements_of (rows_onto head.Inputs line rows) block) (statement_of head.Inputs line rows), statement_length head.Inputs line rows)
given_more head.Outputs number word args rows block =
    let line : Line = record { number = number; head = head.Outputs; word = word; args = args } in
    omega (arith, length-append (names_on head.Outputs block) args, all_length (statements_of (rows_onto head.Outputs line rows) block) (statement_of head.Outputs line rows), statement_length head.Outputs line rows)
given_more head.Clock number word args rows block =
    let line : Line = record { number = number; head = head.Clock; word = word; args = args } in
    omega (arith, new_length (clocks_on block) args, all_length (statements_of (rows_onto head.Clock line rows) block) (statement_of head.Clock line rows), statement_length head.Clock line rows)
given_more h number word args rows block =
    let line : Line = record { number = number; head = h; word = word; args = args } in
    omega (arith, all_length (statements_of (rows_onto h line rows) block) (statement_of h line rows), statement_length h line rows)

-- a model's lines give no more names than their weight, its own among them
Fits : List Line → Type 0
Fits block = (rows : List (List (List ℕ))) → 1 + given rows block ≤ weights block

put_fits : (h : Head) (number : ℕ) (word : List ℕ) (args : List (List ℕ)) (blocks : List (List Line)) → Each Fits blocks →
    Each Fits (put_line h (record { number = number; head = h; word = word; args = args }) blocks)
unfolding Fits given weight weights
put_fits head.Model number word args blocks a = ((λ rows. omega arith), a)
put_fits h number word args [] a = tt
put_fits h number word args (block ∷ blocks) a =
    let line : Line = record { number = number; head = h; word = word; args = args } in
    ((λ rows. omega (arith, given_more h number word args rows block, a.0 (rows_onto h line rows))), a.1)

blocks_fit : (lines : List Line) → Each Fits (blocks_of lines)
blocks_fit [] = tt
blocks_fit (line ∷ earlier) = put_fits line.head line.number line.word line.args (blocks_of earlier) (blocks_fit earlier)

total : List (List Line) → ℕ
total [] = 0
total (b ∷ bs) = weights b + total bs

put_total : (h : Head) (number : ℕ) (word : List ℕ) (args : List (List ℕ)) (blocks : List (List Line)) →
    total (put_line h (record { number = number; head = h; word = word; args = args }) blocks) ≤ weight h args + total blocks
unfolding total weight weights
put_total head.Model number word args blocks = omega arith
put_total h number word args [] = omega arith
put_total h number word args (block ∷ blocks) = omega arith

blocks_total : (lines : List Line) → total (blocks_of lines) ≤ weights lines
unfolding total weights
blocks_total [] = omega arith
blocks_total (line ∷ earlier) = omega (arith, put_total line.head line.number line.word line.args (blocks_of earlier), blocks_total earlier)

model_length : (block : List Line) → length (names_in_model (model_of block)) ≡ 1 + given [] block
unfolding given
model_length block =
    let m : BlifModel = model_of block in
    omega (arith, length-append m.inputs (m.outputs ++ (m.clocks ++ names_in_all m.statements)), length-append m.outputs (m.clocks ++ names_in_all m.statements), length-append m.clocks (names_in_all m.statements))

written_total : (blocks : List (List Line)) → Each Fits blocks → length (written_names (map model_of blocks)) ≤ total blocks
unfolding total Fits
written_total [] a = omega arith
written_total (block ∷ blocks) a =
    omega (arith, length-append (names_in_model (model_of block)) (written_names (map model_of blocks)), model_length block, a.0 [], written_total blocks a.1)

written_aux : (xs ys : List BlifModel) → length (written_names (reverse_aux xs ys)) ≡ length (written_names xs) + length (written_names ys)
written_aux [] ys = omega arith
written_aux (x ∷ xs) ys =
    written_aux xs (x ∷ ys) ∙ omega (arith, length-append (names_in_model x) (written_names ys), length-append (names_in_model x) (written_names xs))

even_weight : (h : Head) (args : List (List ℕ)) → (k : ℕ) × (weight h args ≡ 2 * k)
unfolding weight
even_weight head.Row args = (0, refl)
even_weight h args = (length args + 1, omega arith)

even_weights : (lines : List Line) → (k : ℕ) × (weights lines ≡ 2 * k)
unfolding weights
even_weights [] = (0, refl)
even_weights (l ∷ ls) = let one = even_weight l.head l.args in let more = even_weights ls in (one.0 + more.0, omega (arith, one.1, more.1))

-- a text of at most 2^24 bytes writes at most as many names
pub spelled_few : (text : List ℕ) → length text ≤ 16777216 → length (written_names (spelled text)) ≤ 16777216
unfolding weights raw_cells cells
spelled_few text short =
    let lines : List Line = back_over [] (lines_of text) in
    let even = even_weights lines in
    omega (
      arith,
      written_aux (map model_of (blocks_of lines)) [],
      written_total (blocks_of lines) (blocks_fit lines),
      blocks_total lines,
      even.1,
      back_weights [] (lines_of text),
      headed_weights (raw_lines text),
      joined_cells 1 (physical_lines text),
      split_cells is_line_feed text,
    )
