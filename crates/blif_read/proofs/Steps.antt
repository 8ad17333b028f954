-- The reader's steps, from the tokens of a line on.
use Rattle.std.proofs.Common.{◌≡◌, ℕ, suc, ◌<◌, ◌==◌, Bool, true, false, not, ◌||◌, if◌then◌else◌, List, [], ◌∷◌, ◌++◌, length, map, drop, take, ◌-◌, length-drop, get_or, is_none, is_some, refl, sym, ◌∙◌, ap, subst, Option, Some, None, Result, Err, arith, Bor}
use Rattle.std.specs.List.{list_any}
use Rattle.std.proofs.lemmas.Bool.{eqb-true}
use Rattle.std.proofs.lemmas.List.{take_all}
use Rattle.circuit_theory.specs.Interface.{◌or_else◌}
use Rattle.base_tables.specs.Table.{is_among}
use Rattle.blif_read.specs.blif_lines.Lines.{is_empty}
use Rattle.blif_read.specs.declared.head.Head.{Head}
use Rattle.blif_read.specs.declared.head.Head.TheVariants as head
use Rattle.blif_read.specs.declared.error.ReadKind.{ReadKind}
use Rattle.blif_read.specs.declared.error.ReadKind.TheVariants as kind
use Rattle.blif_read.specs.declared.stop.Stop.{Stop}
use Rattle.blif_read.specs.declared.stop.Stop.TheVariants as stop
use Rattle.blif_read.specs.declared.design.BlifModel.{BlifModel}
use Rattle.blif_read.specs.declared.open_model.OpenModel.{OpenModel}
use Rattle.blif_read.specs.declared.reader.Reader.{Reader}
use Rattle.blif_read.specs.Heads.{Line, line_of, line_at, args_of, head_of, count_fits}
use Rattle.blif_read.specs.Spelled.{names_on, models_of, blocks_of}
use Rattle.blif_read.specs.Fault.{guard, own_fault, fault_of, head_fault, row_line_fault, is_control, open_model, gate, word_fault}
use Rattle.blif_read.specs.State.{TookAnd, TookWord, Means, MeansModels, line_with, is_word}
use Rattle.blif_read.proofs.Behind.{any_behind}
use Rattle.blif_read.proofs.Goes.{begun_model}

not_true : (b : Bool) → true ≡ not b → b ≡ false
not_true true e = cc
not_true false e = refl

abbrev fresh_model : List ℕ → OpenModel
fresh_model name = record { name = name; inputs = []; outputs = []; clocks = []; statements = []; block = None }

-- a model whose name is new begins
pub begun_step : (old : Reader) (mid added : List (List ℕ)) (models : List BlifModel) (o : OpenModel) (own name : List ℕ) (before : List Line) (number : ℕ) (word : List ℕ) (fresh : Bool) →
    Means old before → mid ≡ old.names → models ≡ models_of before → fresh ≡ not (is_among mid name) → fresh ≡ true →
    added ≡ (if is_among mid name then mid else mid ++ name ∷ []) →
    own ≡ name → o ≡ record { name = own; inputs = []; outputs = []; clocks = []; statements = []; block = None } →
    let new : Reader = record { names = added; models = models; current = Some o } in
    (guard (is_among (names_on head.Model before) name || false) kind.DuplicateModel ≡ None) × Means new (line_with number head.Model word (name ∷ []) ∷ before)
begun_step old mid added models o own name before number word fresh m mids closed tells is adds same opens =
    let free : is_among mid name ≡ false = not_true (is_among mid name) (sym is ∙ tells) in
    let names : mid ≡ names_on head.Model before = mids ∙ m.names in
    let free_before : is_among (names_on head.Model before) name ≡ false = ap (λ ns. is_among ns name) (sym names) ∙ free in
    let added_is : added ≡ mid ++ name ∷ [] = adds ∙ ap (λ (b : Bool). if b then mid else mid ++ name ∷ []) free in
    let new : Reader = record { names = added; models = models; current = Some o } in (
      ap (λ b. guard (b || false) kind.DuplicateModel) free_before,
      begun_model new name before number word (added_is ∙ ap (λ ns. ns ++ name ∷ []) names) closed (ap (λ v. Some v) opens ∙ ap (λ n. Some (fresh_model n)) same),
    )

-- one token
pub one_token : (args : List (Bor (List ℕ))) (d : Bor (List ℕ)) → (length args == 1) ≡ true → map (λ a. a.now) args ≡ (get_or args 0 d).now ∷ []
one_token [] d e = cc
one_token (a ∷ []) d e = refl
one_token (a ∷ b ∷ rest) d e = let f : suc (suc (length rest)) ≡ 1 = eqb-true (suc (suc (length rest))) 1 e in absurd (omega arith)

pub no_token : (args : List (Bor (List ℕ))) → (length args == 0) ≡ true → map (λ a. a.now) args ≡ []
no_token [] e = refl
no_token (a ∷ rest) e = let f : suc (length rest) ≡ 0 = eqb-true (suc (length rest)) 0 e in absurd (omega arith)

-- `.model` with its one name
pub known_model : (h : Head) (number : ℕ) (args : List (Bor (List ℕ))) (d : Bor (List ℕ)) (old new : Reader) (result : Result (Unit {0}) Stop) →
    h ≡ head.Model → count_fits h (length args) ≡ true → TookWord head.Model number ((get_or args 0 d).now ∷ []) old new result →
    TookWord h number (map (λ a. a.now) args) old new result
known_model h number args d old new result is fits took =
    let one : map (λ a. a.now) args ≡ (get_or args 0 d).now ∷ [] = one_token args d (ap (λ k. count_fits k (length args)) (sym is) ∙ fits) in
    let P : Head → Type 0 = λ k. TookWord k number (map (λ a. a.now) args) old new result in
    let Q : List (List ℕ) → Type 0 = λ names. TookWord head.Model number names old new result in
    subst P (sym is) (subst Q (sym one) took)

-- `.end` alone
pub known_end : (h : Head) (number : ℕ) (args : List (Bor (List ℕ))) (old new : Reader) (result : Result (Unit {0}) Stop) →
    h ≡ head.End → count_fits h (length args) ≡ true → TookWord head.End number [] old new result → TookWord h number (map (λ a. a.now) args) old new result
known_end h number args old new result is fits took =
    let none : map (λ a. a.now) args ≡ [] = no_token args (ap (λ k. count_fits k (length args)) (sym is) ∙ fits) in
    let P : Head → Type 0 = λ k. TookWord k number (map (λ a. a.now) args) old new result in
    let Q : List (List ℕ) → Type 0 = λ names. TookWord head.End number names old new result in
    subst P (sym is) (subst Q (sym none) took)

none_at : (current : Option OpenModel) (models : List BlifModel) (before : List Line) → MeansModels current models (blocks_of before) → is_none current ≡ is_empty (open_model before)
none_at None models before m = ap (λ block. is_empty block) (sym m.none)
none_at (Some o) models before m = sym (ap (λ block. is_empty block) m.open_is ∙ m.some)

-- no model is open where the state has none
pub none_open : (r : Reader) (before : List Line) → Means r before → is_none r.current ≡ is_empty (open_model before)
none_open r before m = none_at r.current r.models before m.models

-- a word line that nothing stops before its own rules
pub word_taken : (h : Head) (number : ℕ) (args : List (List ℕ)) (old new : Reader) (result : Result (Unit {0}) Stop) →
    gate (is_none old.current) h args ≡ None → TookWord h number args old new result →
    (before : List Line) (word : List ℕ) → Means old before →
    TookAnd (word_fault before (open_model before) h args) (Means new (line_with number h word args ∷ before)) result
word_taken h number args old new result passes took before word m =
    let clear : gate (is_empty (open_model before)) h args ≡ None = ap (λ none. gate none h args) (sym (none_open old before m)) ∙ passes in
    let own : word_fault before (open_model before) h args ≡ own_fault before (open_model before) h args = ap (λ f. f or_else own_fault before (open_model before) h args) clear in
    let P : Option ReadKind → Type 0 = λ f. TookAnd f (Means new (line_with number h word args ∷ before)) result in
    subst P (sym own) (took before word m)

again : (x y : Bool) → (x || (x || y)) ≡ (x || y)
again true y = refl
again false y = refl

control_same : (h : Head) (t : List ℕ) (ts : List (List ℕ)) → (list_any is_control t || list_any (list_any is_control) (args_of h (t ∷ ts))) ≡ list_any (list_any is_control) (t ∷ ts)
control_same head.Row t ts = again (list_any is_control t) (list_any (list_any is_control) ts)
control_same h t ts = refl

-- a line's fault, by its tokens and what it begins with
pub fault_by_head : (before : List Line) (number : ℕ) (t : List ℕ) (ts : List (List ℕ)) (h : Head) (control : Bool) → list_any (list_any is_control) (t ∷ ts) ≡ control →
    fault_of before (line_at number h (t ∷ ts)) ≡ guard control kind.ControlByte or_else head_fault before (open_model before) h (line_at number h (t ∷ ts))
unfolding fault_of
fault_by_head before number t ts h control e =
    ap (λ b. guard b kind.ControlByte or_else head_fault before (open_model before) h (line_at number h (t ∷ ts))) (control_same h t ts ∙ e)

word_head_fault : (before model : List Line) (h : Head) (line : Line) → is_word h ≡ true → head_fault before model h line ≡ word_fault before model h line.args
word_head_fault before model head.Row line e = cc
word_head_fault before model head.Unsupported line e = cc
word_head_fault before model head.Unknown line e = cc
word_head_fault before model h line e = refl

word_args : (h : Head) (t : List ℕ) (ts : List (List ℕ)) → is_word h ≡ true → args_of h (t ∷ ts) ≡ ts
word_args head.Row t ts e = cc
word_args h t ts e = refl

-- a row, from its tokens
pub row_step : (before : List Line) (number : ℕ) (t : List ℕ) (ts : List (List ℕ)) (new : Reader) (result : Result (Unit {0}) Stop) →
    head_of t ≡ head.Row → list_any (list_any is_control) (t ∷ ts) ≡ false →
    TookAnd (row_line_fault (open_model before) (t ∷ ts)) (Means new (line_with number head.Row t (t ∷ ts) ∷ before)) result →
    TookAnd (fault_of before (line_of number (t ∷ ts))) (Means new (line_of number (t ∷ ts) ∷ before)) result
row_step before number t ts new result is clean took =
    let P : Head → Type 0 = λ h. TookAnd (fault_of before (line_at number h (t ∷ ts))) (Means new (line_at number h (t ∷ ts) ∷ before)) result in
    let Q : Option ReadKind → Type 0 = λ f. TookAnd f (Means new (line_at number head.Row (t ∷ ts) ∷ before)) result in
    subst P (sym is) (subst Q (sym (fault_by_head before number t ts head.Row false clean)) took)

-- a word line, from its tokens
pub word_step : (before : List Line) (number : ℕ) (t : List ℕ) (ts : List (List ℕ)) (h : Head) (new : Reader) (result : Result (Unit {0}) Stop) →
    head_of t ≡ h → is_word h ≡ true → list_any (list_any is_control) (t ∷ ts) ≡ false →
    TookAnd (word_fault before (open_model before) h ts) (Means new (line_with number h t ts ∷ before)) result →
    TookAnd (fault_of before (line_of number (t ∷ ts))) (Means new (line_of number (t ∷ ts) ∷ before)) result
word_step before number t ts h new result is known clean took =
    let P : Head → Type 0 = λ k. TookAnd (fault_of before (line_at number k (t ∷ ts))) (Means new (line_at number k (t ∷ ts) ∷ before)) result in
    let A : List (List ℕ) → Type 0 = λ args. TookAnd (word_fault before (open_model before) h args) (Means new (line_with number h t args ∷ before)) result in
    let Q : Option ReadKind → Type 0 = λ f. TookAnd f (Means new (line_at number h (t ∷ ts) ∷ before)) result in
    let fault = fault_by_head before number t ts h false clean ∙ word_head_fault before (open_model before) h (line_at number h (t ∷ ts)) known in
    subst P (sym is) (subst Q (sym fault) (subst A (sym (word_args h t ts known)) took))

-- a first token that is refused
pub head_refused : (before : List Line) (number : ℕ) (t : List ℕ) (ts : List (List ℕ)) (h : Head) (k : ReadKind) →
    head_of t ≡ h → list_any (list_any is_control) (t ∷ ts) ≡ false → head_fault before (open_model before) h (line_at number h (t ∷ ts)) ≡ Some k →
    fault_of before (line_of number (t ∷ ts)) ≡ Some k
head_refused before number t ts h k is clean stops =
    ap (λ v. fault_of before (line_at number v (t ∷ ts))) is ∙ fault_by_head before number t ts h false clean ∙ stops

-- a control byte
pub control_refused : (before : List Line) (number : ℕ) (t : List ℕ) (ts : List (List ℕ)) → list_any (list_any is_control) (t ∷ ts) ≡ true →
    fault_of before (line_of number (t ∷ ts)) ≡ Some kind.ControlByte
control_refused before number t ts dirty = fault_by_head before number t ts (head_of t) true dirty

-- the test for no value
pub none_is : {X : Type 0} (o : Option X) (b : Bool) → is_some o ≡ not b → b ≡ is_none o
none_is None b e = not_false b e
  where
    not_false : (b : Bool) → false ≡ not b → b ≡ true
    not_false true e = refl
    not_false false e = cc
none_is (Some x) b e = not_true b e

clean_tokens : (tokens : List (Bor (List ℕ))) (control : Bool) → list_any (λ t. list_any is_control t.now) tokens ≡ control → list_any (list_any is_control) (map (λ t. t.now) tokens) ≡ control
clean_tokens tokens control e = sym (any_behind (list_any is_control) (λ (t : Bor (List ℕ)). t.now) tokens) ∙ e

-- the steps over tokens behind references
pub take_row_step : (before : List Line) (number : ℕ) (tokens : List (Bor (List ℕ))) (d : Bor (List ℕ)) (new : Reader) (result : Result (Unit {0}) Stop) → 0 < length tokens →
    head_of (get_or tokens 0 d).now ≡ head.Row → list_any (λ t. list_any is_control t.now) tokens ≡ false →
    ((word : List ℕ) → TookAnd (row_line_fault (open_model before) (map (λ t. t.now) tokens)) (Means new (line_with number head.Row word (map (λ t. t.now) tokens) ∷ before)) result) →
    TookAnd (fault_of before (line_of number (map (λ t. t.now) tokens))) (Means new (line_of number (map (λ t. t.now) tokens) ∷ before)) result
take_row_step before number [] d new result some is clean took = absurd (omega arith)
take_row_step before number (t ∷ ts) d new result some is clean took = row_step before number t.now (map (λ t. t.now) ts) new result is (clean_tokens (t ∷ ts) false clean) (took t.now)

pub take_word_step : (before : List Line) (number : ℕ) (tokens rest : List (Bor (List ℕ))) (d : Bor (List ℕ)) (h : Head) (new : Reader) (result : Result (Unit {0}) Stop) → 0 < length tokens →
    head_of (get_or tokens 0 d).now ≡ h → is_word h ≡ true → list_any (λ t. list_any is_control t.now) tokens ≡ false → rest ≡ drop 1 tokens →
    ((word : List ℕ) → TookAnd (word_fault before (open_model before) h (map (λ t. t.now) rest)) (Means new (line_with number h word (map (λ t. t.now) rest) ∷ before)) result) →
    TookAnd (fault_of before (line_of number (map (λ t. t.now) tokens))) (Means new (line_of number (map (λ t. t.now) tokens) ∷ before)) result
take_word_step before number [] rest d h new result some is known clean same took = absurd (omega arith)
take_word_step before number (t ∷ ts) rest d h new result some is known clean same took =
    let P : List (Bor (List ℕ)) → Type 0 = λ args. TookAnd (word_fault before (open_model before) h (map (λ t. t.now) args)) (Means new (line_with number h t.now (map (λ t. t.now) args) ∷ before)) result in
    word_step before number t.now (map (λ t. t.now) ts) h new result is known (clean_tokens (t ∷ ts) false clean) (subst P same (took t.now))

pub take_control : (before : List Line) (number : ℕ) (tokens : List (Bor (List ℕ))) → 0 < length tokens → list_any (λ t. list_any is_control t.now) tokens ≡ true →
    fault_of before (line_of number (map (λ t. t.now) tokens)) ≡ Some kind.ControlByte
take_control before number [] some dirty = absurd (omega arith)
take_control before number (t ∷ ts) some dirty = control_refused before number t.now (map (λ t. t.now) ts) (clean_tokens (t ∷ ts) true dirty)

pub take_unknown : (before : List Line) (number : ℕ) (tokens : List (Bor (List ℕ))) (d : Bor (List ℕ)) → 0 < length tokens →
    head_of (get_or tokens 0 d).now ≡ head.Unknown → list_any (λ t. list_any is_control t.now) tokens ≡ false →
    fault_of before (line_of number (map (λ t. t.now) tokens)) ≡ Some kind.UnknownWord
take_unknown before number [] d some is clean = absurd (omega arith)
take_unknown before number (t ∷ ts) d some is clean = head_refused before number t.now (map (λ t. t.now) ts) head.Unknown kind.UnknownWord is (clean_tokens (t ∷ ts) false clean) refl

pub take_unsupported : (before : List Line) (number : ℕ) (tokens : List (Bor (List ℕ))) (d : Bor (List ℕ)) (word : List ℕ) → 0 < length tokens →
    head_of (get_or tokens 0 d).now ≡ head.Unsupported → list_any (λ t. list_any is_control t.now) tokens ≡ false → word ≡ (get_or tokens 0 d).now →
    fault_of before (line_of number (map (λ t. t.now) tokens)) ≡ Some (kind.Unsupported word)
take_unsupported before number [] d word some is clean same = absurd (omega arith)
take_unsupported before number (t ∷ ts) d word some is clean same =
    head_refused before number t.now (map (λ t. t.now) ts) head.Unsupported (kind.Unsupported word) is (clean_tokens (t ∷ ts) false clean) (ap (λ w. Some (kind.Unsupported w)) (sym same))

-- a refusal of this kind
pub refused : (fault : Option ReadKind) (k : ReadKind) (A : Type 0) (result : Result (Unit {0}) Stop) → result ≡ Err (stop.Fault k) → fault ≡ Some k → TookAnd fault A result
refused fault k A result is stops =
    let P : Result (Unit {0}) Stop → Type 0 = λ r. TookAnd fault A r in
    subst P (sym is) stops

-- all but the first
pub take_rest : {X : Type 0} (xs : List X) → take (length xs - 1) (drop 1 xs) ≡ drop 1 xs
take_rest xs = take_all (length xs - 1) (drop 1 xs) (simp length-drop (omega arith))

pub is_word_unless : (h : Head) → (h ≡ head.Row → ⊥) → (h ≡ head.Unsupported → ⊥) → (h ≡ head.Unknown → ⊥) → is_word h ≡ true
is_word_unless head.Row r s t = absurd (r refl)
is_word_unless head.Unsupported r s t = absurd (s refl)
is_word_unless head.Unknown r s t = absurd (t refl)
is_word_unless h r s t = refl
