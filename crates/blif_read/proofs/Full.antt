-- In a text without a faulty line no name is empty.
use Rattle.std.proofs.Common.{◌≡◌, ℕ, ◌<◌, ◌≤◌, nat_le, Bool, true, false, not, cond, if◌then◌else◌, List, [], ◌∷◌, ◌++◌, length, map, refl, ap, arith, Some, None, codes, bytes_eq}
use Rattle.std.specs.List.{list_all, filter, slice_split, before_first, after_first}
use Rattle.std.proofs.lemmas.Bool.{leb-true, le-leb}
use Rattle.base_tables.specs.Table.{is_among}
use Rattle.blif_read.specs.declared.blif_lines.line.RawLine.{RawLine}
use Rattle.blif_read.specs.blif_lines.Lines.{TokenLine, is_empty, is_blank, tokens_of, token_line, raw_lines}
use Rattle.blif_read.specs.declared.head.Head.{Head}
use Rattle.blif_read.specs.declared.head.Head.TheVariants as head
use Rattle.blif_read.specs.declared.error.ReadKind.TheVariants as kind
use Rattle.blif_read.specs.declared.design.BlifModel.{BlifModel}
use Rattle.blif_read.specs.declared.design.Statement.{Statement}
use Rattle.blif_read.specs.Heads.{Line, line_of, headed, lines_of, args_of, rest_of, but_last, last_or_empty, same_head, count_fits}
use Rattle.blif_read.specs.Spelled.{put_line, blocks_of, names_on, with_new, clocks_on, latch_of, subckt_of, pair_of, control_of, is_equals, statement_of, statements_of, rows_onto, model_of}
use Rattle.blif_read.specs.Fault.{fault_of, is_pair, open_model}
use Rattle.blif_read.specs.Reading.{first_fault_after, back_over, spelled}
use Rattle.blif_read.specs.Kept.{names_in_option, names_in_pairs, names_in, names_in_all, names_in_model, written_names}
use Rattle.blif_read.proofs.Each.{Each, each_append, each_map, each_reverse, each_test}
use Rattle.blif_read.proofs.RowFacts.{both_left, both_right}
use Rattle.blif_read.proofs.Distinct.{a_line, word_none, gate_fits, guard_none, not_false, fault_none}
use Rattle.blif_read.proofs.Plain.{each_left, each_right}

abbrev FullNames : List (List ℕ) → Type 0
FullNames names = Each (λ n. is_empty n ≡ false) names

filter_full : (ps : List (List ℕ)) → FullNames (filter (λ t. not (is_empty t)) ps)
filter_full [] = tt
filter_full ([] ∷ ps) = filter_full ps
filter_full ((b ∷ p) ∷ ps) = (refl, filter_full ps)

args_full : (h : Head) (tokens : List (List ℕ)) → FullNames tokens → FullNames (args_of h tokens)
args_full head.Row tokens a = a
args_full h [] a = tt
args_full h (t ∷ ts) a = a.1

headed_at : (n : ℕ) (tokens : List (List ℕ)) (rest : List TokenLine) → FullNames tokens → Each (λ l. FullNames l.args) (map headed rest) →
    Each (λ l. FullNames l.args) (map headed (cond (not (is_empty tokens)) (record { number = n; tokens = tokens } ∷ rest) rest))
headed_at n [] rest a b = b
headed_at n (t ∷ ts) rest a b = (args_full (line_of n (t ∷ ts)).head (t ∷ ts) a, b)

headed_full : (raws : List RawLine) → Each (λ l. FullNames l.args) (map headed (filter (λ line. not (is_empty line.tokens)) (map token_line raws)))
headed_full [] = tt
headed_full (raw ∷ raws) =
    headed_at raw.number (tokens_of raw.bytes) (filter (λ line. not (is_empty line.tokens)) (map token_line raws)) (filter_full (slice_split is_blank raw.bytes)) (headed_full raws)

-- what a line without a fault is
abbrev Sound : Head → List (List ℕ) → Type 0
Sound head.Row args = Unit {0}
Sound head.Unsupported args = Unit {0}
Sound head.Unknown args = Unit {0}
Sound head.Subckt args = (count_fits head.Subckt (length args) ≡ true) × (list_all is_pair (rest_of args) ≡ true)
Sound h args = count_fits h (length args) ≡ true

sound_of : (before : List Line) (h : Head) (number : ℕ) (word : List ℕ) (args : List (List ℕ)) → fault_of before (a_line number h word args) ≡ None → Sound h args
sound_of before head.Row number word args e = tt
sound_of before head.Unsupported number word args e = tt
sound_of before head.Unknown number word args e = tt
sound_of before head.Subckt number word args e =
    let parts = word_none before head.Subckt number word args refl e in
    (gate_fits (is_empty (open_model before)) head.Subckt args parts.0, not_false (list_all is_pair (rest_of args)) (guard_none (not (list_all is_pair (rest_of args))) kind.BadPair parts.1))
sound_of before h number word args e = gate_fits (is_empty (open_model before)) h args (word_none before h number word args refl e).0

record GoodLine (l : Line) : Type 0 where
  full : FullNames l.args
  sound : Sound l.head l.args

good_back : (before lines : List Line) → first_fault_after before lines ≡ None → Each GoodLine before → Each (λ l. FullNames l.args) lines → Each GoodLine (back_over before lines)
good_back before [] e a b = a
good_back before (line ∷ lines) e a b =
    let parts = fault_none line.number (fault_of before line) (first_fault_after (line ∷ before) lines) e in
    good_back (line ∷ before) lines parts.1 (record { full = b.0; sound = sound_of before line.head line.number line.word line.args parts.0 }, a) b.1

-- the lines of a model, and its name
record GoodModel (block : List Line) : Type 0 where
  lines : Each GoodLine block
  name : is_empty (last_or_empty (names_on head.Model block)) ≡ false

model_name : (args : List (List ℕ)) → FullNames args → count_fits head.Model (length args) ≡ true → is_empty (last_or_empty args) ≡ false
model_name [] a e = cc
model_name (n ∷ []) a e = a.0
model_name (n ∷ m ∷ rest) a e = last_full (n ∷ m ∷ rest) a (omega arith)
  where
    last_full : (names : List (List ℕ)) → FullNames names → 0 < length names → is_empty (last_or_empty names) ≡ false
    last_full [] a h = absurd (omega arith)
    last_full (t ∷ []) a h = a.0
    last_full (t ∷ u ∷ ts) a h = last_full (u ∷ ts) a.1 (omega arith)

put_good : (h : Head) (number : ℕ) (word : List ℕ) (args : List (List ℕ)) (blocks : List (List Line)) → GoodLine (a_line number h word args) → Each GoodModel blocks → Each GoodModel (put_line h (a_line number h word args) blocks)
put_good head.Model number word args blocks g a = (record { lines = (g, tt); name = model_name args g.full g.sound }, a)
put_good h number word args [] g a = tt
put_good h number word args (b ∷ bs) g a = (record { lines = (g, a.0.lines); name = a.0.name }, a.1)

blocks_good : (lines : List Line) → Each GoodLine lines → Each GoodModel (blocks_of lines)
blocks_good [] a = tt
blocks_good (line ∷ earlier) a = put_good line.head line.number line.word line.args (blocks_of earlier) a.0 (blocks_good earlier a.1)

names_full : (h : Head) (block : List Line) → Each GoodLine block → FullNames (names_on h block)
names_full h [] a = tt
names_full h (line ∷ earlier) a = go (same_head h line.head) (names_full h earlier a.1)
  where
    go : (b : Bool) → FullNames (names_on h earlier) → FullNames (if b then names_on h earlier ++ line.args else names_on h earlier)
    go true rest = each_append (λ n. is_empty n ≡ false) (names_on h earlier) line.args rest a.0.full
    go false rest = rest

new_full : (names others : List (List ℕ)) → FullNames names → FullNames others → FullNames (with_new names others)
new_full names [] a b = a
new_full names (name ∷ others) a b = new_full (if is_among names name then names else names ++ name ∷ []) others (go (is_among names name)) b.1
  where
    go : (there : Bool) → FullNames (if there then names else names ++ name ∷ [])
    go true = a
    go false = each_append (λ n. is_empty n ≡ false) names (name ∷ []) a (b.0, tt)

clocks_full : (block : List Line) → Each GoodLine block → FullNames (clocks_on block)
clocks_full [] a = tt
clocks_full (line ∷ earlier) a = go (same_head head.Clock line.head) (clocks_full earlier a.1)
  where
    go : (b : Bool) → FullNames (clocks_on earlier) → FullNames (if b then with_new (clocks_on earlier) line.args else clocks_on earlier)
    go true rest = new_full (clocks_on earlier) line.args rest a.0.full
    go false rest = rest

parts_full : (names : List (List ℕ)) → FullNames names → nat_le 1 (length names) ≡ true → FullNames (but_last names ++ last_or_empty names ∷ [])
parts_full [] a e = cc
parts_full (t ∷ []) a e = (a.0, tt)
parts_full (t ∷ u ∷ ts) a e = (a.0, parts_full (u ∷ ts) a.1 (le-leb 1 (length (u ∷ ts)) (omega arith)))

control_full : (control : List ℕ) → is_empty control ≡ false → FullNames (names_in_option (control_of control))
control_full control a = go (bytes_eq control (codes "NIL"))
  where
    go : (b : Bool) → FullNames (names_in_option (if b then None else Some control))
    go true = tt
    go false = (a, tt)

latch_full : (line : ℕ) (args : List (List ℕ)) → FullNames args → count_fits head.Latch (length args) ≡ true → FullNames (names_in (latch_of line args))
latch_full line [] a e = cc
latch_full line (i ∷ []) a e = cc
latch_full line (i ∷ o ∷ []) a e = (a.0, (a.1.0, tt))
latch_full line (i ∷ o ∷ s ∷ []) a e = (a.0, (a.1.0, tt))
latch_full line (i ∷ o ∷ k ∷ c ∷ []) a e = (a.0, (a.1.0, control_full c a.1.1.1.0))
latch_full line (i ∷ o ∷ k ∷ c ∷ s ∷ []) a e = (a.0, (a.1.0, control_full c a.1.1.1.0))
latch_full line (i ∷ o ∷ k ∷ c ∷ s ∷ x ∷ rest) a e =
    let few : length (i ∷ o ∷ k ∷ c ∷ s ∷ x ∷ rest) ≤ 5 = leb-true (length (i ∷ o ∷ k ∷ c ∷ s ∷ x ∷ rest)) 5 (both_right (nat_le 2 (length (i ∷ o ∷ k ∷ c ∷ s ∷ x ∷ rest))) (nat_le (length (i ∷ o ∷ k ∷ c ∷ s ∷ x ∷ rest)) 5) e) in
    absurd (omega arith)

pairs_full : (tokens : List (List ℕ)) → list_all is_pair tokens ≡ true → FullNames (names_in_pairs (map pair_of tokens))
pairs_full [] e = tt
pairs_full (t ∷ ts) e =
    let here = both_left (is_pair t) (list_all is_pair ts) e in (
      not_true (is_empty (before_first is_equals t)) (both_left (not (is_empty (before_first is_equals t))) (not (is_empty (after_first is_equals t))) here),
      (not_true (is_empty (after_first is_equals t)) (both_right (not (is_empty (before_first is_equals t))) (not (is_empty (after_first is_equals t))) here), pairs_full ts (both_right (is_pair t) (list_all is_pair ts) e)),
    )
  where
    not_true : (b : Bool) → not b ≡ true → b ≡ false
    not_true true f = cc
    not_true false f = refl

subckt_full : (line : ℕ) (args : List (List ℕ)) → FullNames args → count_fits head.Subckt (length args) ≡ true → list_all is_pair (rest_of args) ≡ true → FullNames (names_in (subckt_of line args))
subckt_full line [] a e p = cc
subckt_full line (t ∷ ts) a e p = (a.0, pairs_full ts p)

all_append : (xs ys : List Statement) → FullNames (names_in_all xs) → FullNames (names_in_all ys) → FullNames (names_in_all (xs ++ ys))
all_append [] ys a b = b
all_append (x ∷ xs) ys a b =
    each_append (λ n. is_empty n ≡ false) (names_in x) (names_in_all (xs ++ ys)) (each_left (λ n. is_empty n ≡ false) (names_in x) (names_in_all xs) a) (all_append xs ys (each_right (λ n. is_empty n ≡ false) (names_in x) (names_in_all xs) a) b)

statement_full : (h : Head) (number : ℕ) (word : List ℕ) (args : List (List ℕ)) (rows : List (List (List ℕ))) → GoodLine (a_line number h word args) → FullNames (names_in_all (statement_of h (a_line number h word args) rows))
statement_full head.Names number word args rows g = each_append (λ n. is_empty n ≡ false) (but_last args ++ last_or_empty args ∷ []) [] (parts_full args g.full g.sound) tt
statement_full head.Latch number word args rows g = each_append (λ n. is_empty n ≡ false) (names_in (latch_of number args)) [] (latch_full number args g.full g.sound) tt
statement_full head.Subckt number word args rows g = each_append (λ n. is_empty n ≡ false) (names_in (subckt_of number args)) [] (subckt_full number args g.full g.sound.0 g.sound.1) tt
statement_full h number word args rows g = tt

statements_full : (rows : List (List (List ℕ))) (block : List Line) → Each GoodLine block → FullNames (names_in_all (statements_of rows block))
statements_full rows [] a = tt
statements_full rows (line ∷ earlier) a =
    all_append (statements_of (rows_onto line.head line rows) earlier) (statement_of line.head line rows) (statements_full (rows_onto line.head line rows) earlier a.1)
    (statement_full line.head line.number line.word line.args rows a.0)

model_full : (block : List Line) → GoodModel block → FullNames (names_in_model (model_of block))
model_full block g =
    let m : BlifModel = model_of block in (
      g.name,
      each_append (λ n. is_empty n ≡ false) m.inputs (m.outputs ++ (m.clocks ++ names_in_all m.statements)) (names_full head.Inputs block g.lines)
          (each_append (λ n. is_empty n ≡ false) m.outputs (m.clocks ++ names_in_all m.statements) (names_full head.Outputs block g.lines)
          (each_append (λ n. is_empty n ≡ false) m.clocks (names_in_all m.statements) (clocks_full block g.lines) (statements_full [] block g.lines))),
    )

written_full : (models : List BlifModel) → Each (λ m. FullNames (names_in_model m)) models → FullNames (written_names models)
written_full [] a = tt
written_full (m ∷ models) a = each_append (λ n. is_empty n ≡ false) (names_in_model m) (written_names models) a.0 (written_full models a.1)

-- no name of a text without a faulty line is empty
pub spelled_full : (text : List ℕ) → first_fault_after [] (lines_of text) ≡ None → list_all (λ n. not (is_empty n)) (written_names (spelled text)) ≡ true
spelled_full text e =
    let blocks : List (List Line) = blocks_of (back_over [] (lines_of text)) in
    let good = blocks_good (back_over [] (lines_of text)) (good_back [] (lines_of text) e tt (headed_full (raw_lines text))) in
    each_test (λ n. is_empty n ≡ false) (λ n. not (is_empty n)) (λ n h. ap not h) (written_names (spelled text))
    (written_full (spelled text) (each_reverse (λ m. FullNames (names_in_model m)) (map model_of blocks) (each_map GoodModel (λ m. FullNames (names_in_model m)) model_of model_full blocks good)))
