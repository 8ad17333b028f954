-- In a text without a faulty line, models and ports have distinct names.
use Rattle.std.proofs.Common.{◌≡◌, ℕ, suc, Bool, true, false, not, ◌&&◌, ◌||◌, List, [], ◌∷◌, ◌++◌, length, map, reverse, refl, sym, ◌∙◌, ap, arith, Option, Some, None, append_assoc}
use mathlib.Core.List.{reverse_aux}
use Rattle.std.specs.List.{list_any, list_all}
use Rattle.std.proofs.lemmas.List.{append-nil}
use Rattle.std.proofs.lemmas.Bool.{eqb-true}
use Rattle.circuit_theory.specs.Interface.{◌or_else◌}
use Rattle.base_tables.specs.Table.{is_among}
use Rattle.blif_read.specs.blif_lines.Lines.{is_empty}
use Rattle.blif_read.specs.declared.head.Head.{Head}
use Rattle.blif_read.specs.declared.head.Head.TheVariants as head
use Rattle.blif_read.specs.declared.error.ReadKind.{ReadKind}
use Rattle.blif_read.specs.declared.error.ReadKind.TheVariants as kind
use Rattle.blif_read.specs.declared.design.BlifModel.{BlifModel}
use Rattle.blif_read.specs.Heads.{Line, lines_of, count_fits, last_or_empty}
use Rattle.blif_read.specs.Spelled.{put_line, blocks_of, names_on, model_of, models_of}
use Rattle.blif_read.specs.Fault.{guard, gate, own_fault, word_fault, head_fault, fault_of, is_control, is_model_head, is_long, repeats, open_block, open_model, unless_end}
use Rattle.blif_read.specs.Reading.{FaultAt, fault_at, first_fault_after, back_over, spelled}
use Rattle.blif_read.specs.Kept.{ports_distinct, model_names}
use Rattle.blif_read.proofs.Each.{Each, each_map, each_reverse, each_test}

or_left : (a b : Option ReadKind) → (a or_else b) ≡ None → a ≡ None
or_left None b e = refl
or_left (Some k) b e = e

or_right : (a b : Option ReadKind) → (a or_else b) ≡ None → b ≡ None
or_right None b e = e
or_right (Some k) b e = cc

pub guard_none : (b : Bool) (k : ReadKind) → guard b k ≡ None → b ≡ false
guard_none true k e = cc
guard_none false k e = refl

pub not_false : (b : Bool) → not b ≡ false → b ≡ true
not_false true e = refl
not_false false e = cc

repeats_append : (sofar xs ys : List (List ℕ)) → repeats sofar (xs ++ ys) ≡ (repeats sofar xs || repeats (sofar ++ xs) ys)
repeats_append sofar [] ys = ap (λ ns. repeats ns ys) (sym (append-nil sofar))
repeats_append sofar (x ∷ xs) ys =
    ap (λ b. is_among sofar x || b) (repeats_append (sofar ++ x ∷ []) xs ys ∙ ap (λ ns. repeats (sofar ++ x ∷ []) xs || repeats ns ys) (append_assoc sofar (x ∷ []) xs))
    ∙ or_assoc (is_among sofar x) (repeats (sofar ++ x ∷ []) xs) (repeats (sofar ++ x ∷ xs) ys)
  where
    or_assoc : (a b c : Bool) → (a || (b || c)) ≡ ((a || b) || c)
    or_assoc true b c = refl
    or_assoc false b c = refl

-- more names, of which none stood there before
more_distinct : (xs ys : List (List ℕ)) → repeats [] xs ≡ false → repeats xs ys ≡ false → repeats [] (xs ++ ys) ≡ false
more_distinct xs ys a b = repeats_append [] xs ys ∙ ap (λ t. t || repeats xs ys) a ∙ b

open_is : (b : List Line) (bs : List (List Line)) → is_empty (open_block (b ∷ bs)) ≡ false → open_block (b ∷ bs) ≡ b
open_is [] bs e = cc
open_is (line ∷ earlier) bs e = go line.head (line ∷ earlier) e
  where
    go : (h : Head) (block : List Line) → is_empty (unless_end h block) ≡ false → unless_end h block ≡ block
    go head.End block e = cc
    go h block e = refl

record GoodBlock (block : List Line) : Type 0 where
  inputs : repeats [] (names_on head.Inputs block) ≡ false
  outputs : repeats [] (names_on head.Outputs block) ≡ false

abbrev pub a_line : ℕ → Head → List ℕ → List (List ℕ) → Line
a_line number h word args = record { number = number; head = h; word = word; args = args }

-- what a word line without a fault is
gate_open : (none : Bool) (h : Head) (args : List (List ℕ)) → gate none h args ≡ None → is_model_head h ≡ false → none ≡ false
gate_open true h args e m = absurd (wrong (is_model_head h) m (guard_none (true && not (is_model_head h)) kind.NoModel (or_left (guard (true && not (is_model_head h)) kind.NoModel) (guard (not (count_fits h (length args))) kind.BadCount) (or_left (guard (true && not (is_model_head h)) kind.NoModel or_else guard (not (count_fits h (length args))) kind.BadCount) (guard (list_any is_long args) kind.NameTooLong) e))))
  where
    wrong : (b : Bool) → b ≡ false → not b ≡ false → ⊥
    wrong true f g = cc
    wrong false f g = cc
gate_open false h args e m = refl

pub gate_fits : (none : Bool) (h : Head) (args : List (List ℕ)) → gate none h args ≡ None → count_fits h (length args) ≡ true
gate_fits none h args e =
    not_false (count_fits h (length args)) (guard_none (not (count_fits h (length args))) kind.BadCount (or_right (guard (none && not (is_model_head h)) kind.NoModel) (guard (not (count_fits h (length args))) kind.BadCount) (or_left (guard (none && not (is_model_head h)) kind.NoModel or_else guard (not (count_fits h (length args))) kind.BadCount) (guard (list_any is_long args) kind.NameTooLong) e)))

add_inputs : (number : ℕ) (word : List ℕ) (args : List (List ℕ)) (blocks : List (List Line)) → is_empty (open_block blocks) ≡ false → repeats (names_on head.Inputs (open_block blocks)) args ≡ false →
    Each GoodBlock blocks → Each GoodBlock (put_line head.Inputs (a_line number head.Inputs word args) blocks)
add_inputs number word args [] some new a = tt
add_inputs number word args (b ∷ bs) some new a =
    (record { inputs = more_distinct (names_on head.Inputs b) args a.0.inputs (ap (λ block. repeats (names_on head.Inputs block) args) (sym (open_is b bs some)) ∙ new); outputs = a.0.outputs }, a.1)

add_outputs : (number : ℕ) (word : List ℕ) (args : List (List ℕ)) (blocks : List (List Line)) → is_empty (open_block blocks) ≡ false → repeats (names_on head.Outputs (open_block blocks)) args ≡ false →
    Each GoodBlock blocks → Each GoodBlock (put_line head.Outputs (a_line number head.Outputs word args) blocks)
add_outputs number word args [] some new a = tt
add_outputs number word args (b ∷ bs) some new a =
    (record { inputs = a.0.inputs; outputs = more_distinct (names_on head.Outputs b) args a.0.outputs (ap (λ block. repeats (names_on head.Outputs block) args) (sym (open_is b bs some)) ∙ new) }, a.1)

pub word_none : (before : List Line) (h : Head) (number : ℕ) (word : List ℕ) (args : List (List ℕ)) → head_fault before (open_model before) h (a_line number h word args) ≡ word_fault before (open_model before) h args →
    fault_of before (a_line number h word args) ≡ None → (gate (is_empty (open_model before)) h args ≡ None) × (own_fault before (open_model before) h args ≡ None)
unfolding fault_of
word_none before h number word args same e =
    let control : Option ReadKind = guard (list_any is_control word || list_any (list_any is_control) args) kind.ControlByte in
    let f : word_fault before (open_model before) h args ≡ None = sym same ∙ or_right control (head_fault before (open_model before) h (a_line number h word args)) e in
    (or_left (gate (is_empty (open_model before)) h args) (own_fault before (open_model before) h args) f, or_right (gate (is_empty (open_model before)) h args) (own_fault before (open_model before) h args) f)

good_step : (before : List Line) (h : Head) (number : ℕ) (word : List ℕ) (args : List (List ℕ)) → fault_of before (a_line number h word args) ≡ None →
    Each GoodBlock (blocks_of before) → Each GoodBlock (put_line h (a_line number h word args) (blocks_of before))
good_step before head.Model number word args e a = (record { inputs = refl; outputs = refl }, a)
good_step before head.Inputs number word args e a =
    let parts = word_none before head.Inputs number word args refl e in
    add_inputs number word args (blocks_of before) (gate_open (is_empty (open_model before)) head.Inputs args parts.0 refl) (guard_none (repeats (names_on head.Inputs (open_model before)) args) kind.DuplicatePort parts.1) a
good_step before head.Outputs number word args e a =
    let parts = word_none before head.Outputs number word args refl e in
    add_outputs number word args (blocks_of before) (gate_open (is_empty (open_model before)) head.Outputs args parts.0 refl) (guard_none (repeats (names_on head.Outputs (open_model before)) args) kind.DuplicatePort parts.1) a
good_step before h number word args e a = go (blocks_of before) a
  where
    go : (blocks : List (List Line)) → Each GoodBlock blocks → Each GoodBlock (put_line h (a_line number h word args) blocks)
    go [] a = tt
    go (b ∷ bs) a = (record { inputs = a.0.inputs; outputs = a.0.outputs }, a.1)

-- the names of the models are those on their lines, which are distinct
record GoodNames (before : List Line) : Type 0 where
  names : names_on head.Model before ≡ model_names (models_of before)
  distinct : repeats [] (names_on head.Model before) ≡ false

aux_names : (xs ys : List BlifModel) → model_names (reverse_aux xs ys) ≡ model_names (reverse_aux xs []) ++ model_names ys
aux_names [] ys = refl
aux_names (x ∷ xs) ys =
    aux_names xs (x ∷ ys) ∙ sym (append_assoc (model_names (reverse_aux xs [])) (x.name ∷ []) (model_names ys)) ∙ ap (λ ns. ns ++ model_names ys) (sym (aux_names xs (x ∷ [])))

one_name : (args : List (List ℕ)) → count_fits head.Model (length args) ≡ true → args ≡ last_or_empty args ∷ []
one_name [] e = cc
one_name (a ∷ []) e = refl
one_name (a ∷ b ∷ rest) e = let f : suc (suc (length rest)) ≡ 1 = eqb-true (suc (suc (length rest))) 1 e in absurd (omega arith)

names_step : (before : List Line) (h : Head) (number : ℕ) (word : List ℕ) (args : List (List ℕ)) → fault_of before (a_line number h word args) ≡ None →
    GoodNames before → GoodNames (a_line number h word args ∷ before)
names_step before head.Model number word args e g =
    let parts = word_none before head.Model number word args refl e in
    let new = guard_none (repeats (names_on head.Model before) args) kind.DuplicateModel parts.1 in
    record {
      names = ap (λ ns. ns ++ args) g.names ∙ ap (λ ns. model_names (models_of before) ++ ns) (one_name args (gate_fits (is_empty (open_model before)) head.Model args parts.0))
          ∙ sym (aux_names (map model_of (blocks_of before)) (model_of (a_line number head.Model word args ∷ []) ∷ []));
      distinct = more_distinct (names_on head.Model before) args g.distinct new;
    }
names_step before h number word args e g = record { names = g.names ∙ sym (go (blocks_of before)); distinct = g.distinct }
  where
    go : (blocks : List (List Line)) → model_names (reverse (map model_of (put_line h (a_line number h word args) blocks))) ≡ model_names (reverse (map model_of blocks))
    go [] = refl
    go (b ∷ bs) = aux_names (map model_of bs) (model_of (a_line number h word args ∷ b) ∷ []) ∙ sym (aux_names (map model_of bs) (model_of b ∷ []))

pub fault_none : (number : ℕ) (fault : Option ReadKind) (later : Option FaultAt) → fault_at number fault later ≡ None → (fault ≡ None) × (later ≡ None)
fault_none number None later e = (refl, e)
fault_none number (Some k) later e = cc

good_lines : (before lines : List Line) → first_fault_after before lines ≡ None → Each GoodBlock (blocks_of before) → GoodNames before →
    Each GoodBlock (blocks_of (back_over before lines)) × GoodNames (back_over before lines)
good_lines before [] e a g = (a, g)
good_lines before (line ∷ lines) e a g =
    let parts = fault_none line.number (fault_of before line) (first_fault_after (line ∷ before) lines) e in
    good_lines (line ∷ before) lines parts.1 (good_step before line.head line.number line.word line.args parts.0 a) (names_step before line.head line.number line.word line.args parts.0 g)

no_lines : GoodNames []
no_lines = record { names = refl; distinct = refl }

block_ports : (block : List Line) → GoodBlock block → ports_distinct (model_of block) ≡ true
block_ports block g = ap (λ b. not b && not (repeats [] (names_on head.Outputs block))) g.inputs ∙ ap not g.outputs

-- no model of a text without a faulty line writes an input or an output twice
pub spelled_ports : (text : List ℕ) → first_fault_after [] (lines_of text) ≡ None → list_all ports_distinct (spelled text) ≡ true
spelled_ports text e =
    let good = good_lines [] (lines_of text) e tt no_lines in
    let blocks : List (List Line) = blocks_of (back_over [] (lines_of text)) in
    each_test (λ m. ports_distinct m ≡ true) ports_distinct (λ m h. h) (spelled text)
    (each_reverse (λ m. ports_distinct m ≡ true) (map model_of blocks) (each_map GoodBlock (λ m. ports_distinct m ≡ true) model_of block_ports blocks good.0))

-- no two models of such a text have one name
pub spelled_names : (text : List ℕ) → first_fault_after [] (lines_of text) ≡ None → repeats [] (model_names (spelled text)) ≡ false
spelled_names text e =
    let good = good_lines [] (lines_of text) e tt no_lines in
    ap (repeats []) (sym good.1.names) ∙ good.1.distinct
