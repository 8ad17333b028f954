-- No name of a text holds `#`, and each cover has a column for each fan-in.
use Rattle.std.proofs.Common.{◌≡◌, ℕ, ◌+◌, ◌-◌, ◌<◌, Bool, true, false, not, if◌then◌else◌, List, [], ◌∷◌, ◌++◌, length, length-take, map, take, refl, ◌∙◌, ap, arith, Some, None, eq-eqb, codes, bytes_eq}
use Rattle.std.specs.List.{filter, slice_split, list_all, before_first, position_or_len, suffix_len}
use Rattle.std.specs.Io.BufRead.{strip_last, ends_with_byte}
use Rattle.std.proofs.lemmas.List.{get_or-take}
use Rattle.std.proofs.lemmas.List.Sums.{fails_before_first}
use Rattle.base_tables.specs.Table.{is_among}
use Rattle.blif_read.specs.declared.blif_lines.line.RawLine.{RawLine}
use Rattle.blif_read.specs.blif_lines.Lines.{TokenLine, is_blank, is_hash, is_empty, cut_line, going_on, raw_line, before_line, join_line, joined_lines, raw_lines, physical_lines, tokens_of, token_line}
use Rattle.blif_read.specs.declared.head.Head.{Head}
use Rattle.blif_read.specs.declared.head.Head.TheVariants as head
use Rattle.blif_read.specs.declared.design.BlifModel.{BlifModel}
use Rattle.blif_read.specs.declared.design.Statement.{Statement}
use Rattle.blif_read.specs.Heads.{Line, line_of, headed, lines_of, args_of, but_last, last_or_empty, same_head}
use Rattle.blif_read.specs.Spelled.{put_line, blocks_of, names_on, with_new, clocks_on, latch_of, subckt_of, pair_of, control_of, is_equals, statement_of, statements_of, rows_onto, model_of}
use Rattle.blif_read.specs.Reading.{back_over, spelled}
use Rattle.blif_read.specs.Kept.{names_in_option, names_in_pairs, names_in, names_in_all, names_in_model, written_names, is_plain, cover_fits, covers_fit}
use Rattle.blif_read.proofs.Each.{Each, each_append, each_take, each_drop, each_map, each_filter, each_split, each_reverse, each_all, each_test}

abbrev pub NoHash : List ℕ → Type 0
NoHash bytes = Each (λ b. is_hash b ≡ false) bytes

no_hash_before : (xs : List ℕ) → NoHash (before_first is_hash xs)
no_hash_before xs =
    each_all (λ b. is_hash b ≡ false) (before_first is_hash xs) (λ k d h.
    let within : k < position_or_len is_hash xs = omega (arith, length-take (position_or_len is_hash xs) xs) in
    ap is_hash (get_or-take (position_or_len is_hash xs) xs k d within) ∙ fails_before_first is_hash xs k d within)

no_hash_cut : (piece : List ℕ) → NoHash (cut_line piece)
unfolding cut_line
no_hash_cut piece =
    let line : List ℕ = before_first is_hash (strip_last 13 piece) in
    each_take (λ b. is_hash b ≡ false) (length line - suffix_len is_blank line) line (no_hash_before (strip_last 13 piece))

no_hash_going : (body : List ℕ) → NoHash body → NoHash (going_on body)
unfolding going_on
no_hash_going body a = each_append (λ b. is_hash b ≡ false) (take (length body - 1) body) (32 ∷ []) (each_take (λ b. is_hash b ≡ false) (length body - 1) body a) (refl, tt)

abbrev PlainRaws : List RawLine → Type 0
PlainRaws raws = Each (λ l. NoHash l.bytes) raws

before_plain : (n : ℕ) (bytes : List ℕ) (lines : List RawLine) → NoHash bytes → PlainRaws lines → PlainRaws (before_line n bytes lines)
before_plain n bytes [] a b = (a, tt)
before_plain n bytes (line ∷ lines) a b = (each_append (λ b. is_hash b ≡ false) bytes line.bytes a b.0, b.1)

join_plain : (n : ℕ) (body : List ℕ) (rest : List RawLine) → NoHash body → PlainRaws rest → PlainRaws (join_line n body rest)
join_plain n body rest a b = go (ends_with_byte 92 body)
  where
    go : (ends : Bool) → PlainRaws (if ends then before_line n (going_on body) rest else raw_line n body ∷ rest)
    go true = before_plain n (going_on body) rest (no_hash_going body a) b
    go false = (a, b)

joined_plain : (n : ℕ) (pieces : List (List ℕ)) → PlainRaws (joined_lines n pieces)
joined_plain n [] = tt
joined_plain n (piece ∷ pieces) = join_plain n (cut_line piece) (joined_lines (n + 1) pieces) (no_hash_cut piece) (joined_plain (n + 1) pieces)

abbrev PlainNames : List (List ℕ) → Type 0
PlainNames names = Each NoHash names

tokens_plain : (bytes : List ℕ) → NoHash bytes → PlainNames (tokens_of bytes)
tokens_plain bytes a = each_filter NoHash (λ t. not (is_empty t)) (slice_split is_blank bytes) (each_split (λ b. is_hash b ≡ false) is_blank bytes a)

abbrev PlainLines : List Line → Type 0
PlainLines lines = Each (λ l. PlainNames l.args) lines

args_plain : (h : Head) (tokens : List (List ℕ)) → PlainNames tokens → PlainNames (args_of h tokens)
args_plain head.Row tokens a = a
args_plain h [] a = tt
args_plain h (t ∷ ts) a = a.1

headed_plain : (raws : List RawLine) → PlainRaws raws → PlainLines (map headed (filter (λ line. not (is_empty line.tokens)) (map token_line raws)))
headed_plain raws a =
    each_map (λ line. PlainNames line.tokens) (λ (l : Line). PlainNames l.args) headed (λ line b. args_plain (line_of line.number line.tokens).head line.tokens b)
    (filter (λ line. not (is_empty line.tokens)) (map token_line raws))
    (each_filter (λ line. PlainNames line.tokens) (λ line. not (is_empty line.tokens)) (map token_line raws)
    (each_map (λ (l : RawLine). NoHash l.bytes) (λ (line : TokenLine). PlainNames line.tokens) token_line (λ l b. tokens_plain l.bytes b) raws a))

back_plain : (before lines : List Line) → PlainLines before → PlainLines lines → PlainLines (back_over before lines)
back_plain before [] a b = a
back_plain before (line ∷ lines) a b = back_plain (line ∷ before) lines (b.0, a) b.1

put_plain : (h : Head) (line : Line) (blocks : List (List Line)) → PlainNames line.args → Each PlainLines blocks → Each PlainLines (put_line h line blocks)
put_plain head.Model line blocks a b = ((a, tt), b)
put_plain h line [] a b = tt
put_plain h line (block ∷ blocks) a b = ((a, b.0), b.1)

blocks_plain : (lines : List Line) → PlainLines lines → Each PlainLines (blocks_of lines)
blocks_plain [] a = tt
blocks_plain (line ∷ earlier) a = put_plain line.head line (blocks_of earlier) a.0 (blocks_plain earlier a.1)

names_plain : (h : Head) (block : List Line) → PlainLines block → PlainNames (names_on h block)
names_plain h [] a = tt
names_plain h (line ∷ earlier) a = go (same_head h line.head) (names_plain h earlier a.1)
  where
    go : (b : Bool) → PlainNames (names_on h earlier) → PlainNames (if b then names_on h earlier ++ line.args else names_on h earlier)
    go true rest = each_append NoHash (names_on h earlier) line.args rest a.0
    go false rest = rest

new_plain : (names others : List (List ℕ)) → PlainNames names → PlainNames others → PlainNames (with_new names others)
new_plain names [] a b = a
new_plain names (name ∷ others) a b = new_plain (if is_among names name then names else names ++ name ∷ []) others (go (is_among names name)) b.1
  where
    go : (there : Bool) → PlainNames (if there then names else names ++ name ∷ [])
    go true = a
    go false = each_append NoHash names (name ∷ []) a (b.0, tt)

clocks_plain : (block : List Line) → PlainLines block → PlainNames (clocks_on block)
clocks_plain [] a = tt
clocks_plain (line ∷ earlier) a = go (same_head head.Clock line.head) (clocks_plain earlier a.1)
  where
    go : (b : Bool) → PlainNames (clocks_on earlier) → PlainNames (if b then with_new (clocks_on earlier) line.args else clocks_on earlier)
    go true rest = new_plain (clocks_on earlier) line.args rest a.0
    go false rest = rest

last_plain : (names : List (List ℕ)) → PlainNames names → NoHash (last_or_empty names)
last_plain [] a = tt
last_plain (t ∷ []) a = a.0
last_plain (t ∷ u ∷ ts) a = last_plain (u ∷ ts) a.1

but_last_plain : (names : List (List ℕ)) → PlainNames names → PlainNames (but_last names)
but_last_plain [] a = tt
but_last_plain (t ∷ []) a = tt
but_last_plain (t ∷ u ∷ ts) a = (a.0, but_last_plain (u ∷ ts) a.1)

control_plain : (control : List ℕ) → NoHash control → PlainNames (names_in_option (control_of control))
control_plain control a = go (bytes_eq control (codes "NIL"))
  where
    go : (b : Bool) → PlainNames (names_in_option (if b then None else Some control))
    go true = tt
    go false = (a, tt)

latch_plain : (line : ℕ) (args : List (List ℕ)) → PlainNames args → PlainNames (names_in (latch_of line args))
latch_plain line [] a = (tt, (tt, tt))
latch_plain line (i ∷ []) a = (tt, (tt, tt))
latch_plain line (i ∷ o ∷ []) a = (a.0, (a.1.0, tt))
latch_plain line (i ∷ o ∷ s ∷ []) a = (a.0, (a.1.0, tt))
latch_plain line (i ∷ o ∷ k ∷ c ∷ []) a = (a.0, (a.1.0, control_plain c a.1.1.1.0))
latch_plain line (i ∷ o ∷ k ∷ c ∷ s ∷ []) a = (a.0, (a.1.0, control_plain c a.1.1.1.0))
latch_plain line (i ∷ o ∷ k ∷ c ∷ s ∷ x ∷ rest) a = (tt, (tt, tt))

pairs_plain : (tokens : List (List ℕ)) → PlainNames tokens → PlainNames (names_in_pairs (map pair_of tokens))
pairs_plain [] a = tt
pairs_plain (t ∷ ts) a =
    (each_take (λ b. is_hash b ≡ false) (position_or_len is_equals t) t a.0, (each_drop (λ b. is_hash b ≡ false) (position_or_len is_equals t + 1) t a.0, pairs_plain ts a.1))

subckt_plain : (line : ℕ) (args : List (List ℕ)) → PlainNames args → PlainNames (names_in (subckt_of line args))
subckt_plain line [] a = (tt, tt)
subckt_plain line (t ∷ ts) a = (a.0, pairs_plain ts a.1)

abbrev PlainAll : List Statement → Type 0
PlainAll statements = PlainNames (names_in_all statements)

pub each_left : {X : Type 0} (P : X → Type 0) (xs ys : List X) → Each P (xs ++ ys) → Each P xs
each_left P [] ys a = tt
each_left P (x ∷ xs) ys a = (a.0, each_left P xs ys a.1)

pub each_right : {X : Type 0} (P : X → Type 0) (xs ys : List X) → Each P (xs ++ ys) → Each P ys
each_right P [] ys a = a
each_right P (x ∷ xs) ys a = each_right P xs ys a.1

all_append : (xs ys : List Statement) → PlainAll xs → PlainAll ys → PlainAll (xs ++ ys)
all_append [] ys a b = b
all_append (x ∷ xs) ys a b = each_append NoHash (names_in x) (names_in_all (xs ++ ys)) (each_left NoHash (names_in x) (names_in_all xs) a) (all_append xs ys (each_right NoHash (names_in x) (names_in_all xs) a) b)

statement_plain : (h : Head) (line : Line) (rows : List (List (List ℕ))) → PlainNames line.args → PlainAll (statement_of h line rows)
statement_plain head.Names line rows a =
    each_append NoHash (but_last line.args ++ last_or_empty line.args ∷ []) [] (each_append NoHash (but_last line.args) (last_or_empty line.args ∷ []) (but_last_plain line.args a) (last_plain line.args a, tt)) tt
statement_plain head.Latch line rows a = each_append NoHash (names_in (latch_of line.number line.args)) [] (latch_plain line.number line.args a) tt
statement_plain head.Subckt line rows a = each_append NoHash (names_in (subckt_of line.number line.args)) [] (subckt_plain line.number line.args a) tt
statement_plain h line rows a = tt

statements_plain : (rows : List (List (List ℕ))) (block : List Line) → PlainLines block → PlainAll (statements_of rows block)
statements_plain rows [] a = tt
statements_plain rows (line ∷ earlier) a =
    all_append (statements_of (rows_onto line.head line rows) earlier) (statement_of line.head line rows) (statements_plain (rows_onto line.head line rows) earlier a.1) (statement_plain line.head line rows a.0)

model_plain : (block : List Line) → PlainLines block → PlainNames (names_in_model (model_of block))
model_plain block a =
    let m : BlifModel = model_of block in (
      last_plain (names_on head.Model block) (names_plain head.Model block a),
      each_append NoHash m.inputs (m.outputs ++ (m.clocks ++ names_in_all m.statements)) (names_plain head.Inputs block a)
          (each_append NoHash m.outputs (m.clocks ++ names_in_all m.statements) (names_plain head.Outputs block a)
          (each_append NoHash m.clocks (names_in_all m.statements) (clocks_plain block a) (statements_plain [] block a))),
    )

written_plain : (models : List BlifModel) → Each (λ m. PlainNames (names_in_model m)) models → PlainNames (written_names models)
written_plain [] a = tt
written_plain (m ∷ models) a = each_append NoHash (names_in_model m) (written_names models) a.0 (written_plain models a.1)

name_test : (name : List ℕ) → NoHash name → is_plain name ≡ true
name_test name a = each_test (λ b. is_hash b ≡ false) (λ b. not (is_hash b)) (λ b e. ap not e) name a

-- no name that a text writes holds `#`
pub spelled_plain : (text : List ℕ) → list_all is_plain (written_names (spelled text)) ≡ true
spelled_plain text =
    let lines : PlainLines (lines_of text) = headed_plain (raw_lines text) (joined_plain 1 (physical_lines text)) in
    let blocks = blocks_plain (back_over [] (lines_of text)) (back_plain [] (lines_of text) tt lines) in
    each_test NoHash is_plain name_test (written_names (spelled text))
    (written_plain (spelled text) (each_reverse (λ m. PlainNames (names_in_model m)) (map model_of (blocks_of (back_over [] (lines_of text))))
    (each_map PlainLines (λ m. PlainNames (names_in_model m)) model_of model_plain (blocks_of (back_over [] (lines_of text))) blocks)))

statement_fits : (h : Head) (line : Line) (rows : List (List (List ℕ))) → Each (λ s. cover_fits s ≡ true) (statement_of h line rows)
statement_fits head.Names line rows = (eq-eqb (length (but_last line.args)) (length (but_last line.args)) refl, tt)
statement_fits head.Latch line rows = (latch_fits line.number line.args, tt)
  where
    latch_fits : (n : ℕ) (args : List (List ℕ)) → cover_fits (latch_of n args) ≡ true
    latch_fits n [] = refl
    latch_fits n (i ∷ []) = refl
    latch_fits n (i ∷ o ∷ []) = refl
    latch_fits n (i ∷ o ∷ s ∷ []) = refl
    latch_fits n (i ∷ o ∷ k ∷ c ∷ []) = refl
    latch_fits n (i ∷ o ∷ k ∷ c ∷ s ∷ []) = refl
    latch_fits n (i ∷ o ∷ k ∷ c ∷ s ∷ x ∷ rest) = refl
statement_fits head.Subckt line rows = (refl, tt)
statement_fits h line rows = tt

statements_fit : (rows : List (List (List ℕ))) (block : List Line) → Each (λ s. cover_fits s ≡ true) (statements_of rows block)
statements_fit rows [] = tt
statements_fit rows (line ∷ earlier) =
    each_append (λ s. cover_fits s ≡ true) (statements_of (rows_onto line.head line rows) earlier) (statement_of line.head line rows) (statements_fit (rows_onto line.head line rows) earlier) (statement_fits line.head line rows)

models_fit : (blocks : List (List Line)) → Each (λ m. covers_fit m ≡ true) (map model_of blocks)
models_fit [] = tt
models_fit (block ∷ blocks) = (each_test (λ s. cover_fits s ≡ true) cover_fits (λ s e. e) (statements_of [] block) (statements_fit [] block), models_fit blocks)

-- each cover that a text spells has a column for each fan-in
pub spelled_fit : (text : List ℕ) → list_all covers_fit (spelled text) ≡ true
spelled_fit text =
    each_test (λ m. covers_fit m ≡ true) covers_fit (λ m e. e) (spelled text) (each_reverse (λ m. covers_fit m ≡ true) (map model_of (blocks_of (back_over [] (lines_of text)))) (models_fit (blocks_of (back_over [] (lines_of text)))))
