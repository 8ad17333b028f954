-- What a subcommand's words give where they have no fault.
use Rattle.std.proofs.Common.{◌≡◌, ◌<◌, ◌&&◌, ◌||◌, not, Bool, cond, true, false, List, [], ◌∷◌, ◌++◌, length, fold, Some, refl, sym, ap, subst, ◌∙◌, arith, true≢false, eqb-true}
use Rattle.std.specs.Prelude.{find, slice_get, option_and_then}
use Rattle.std.specs.List.{list_any}
use Rattle.std.specs.Option.{option_map_or}
use Rattle.std.specs.Str.{bytes_eq}
use Rattle.std.proofs.lemmas.Slice.Eq.{bytes_eq-Decides}
use Rattle.clap.specs.Facts.{explicit_source, parser_of_value}
use Rattle.clap.specs.Kinds.{Kinds, check_kinds, or_else, request_kinds, value_kinds, values_kinds}
use Rattle.clap.specs.Faults.{check_fault, default_fault, defaults_fault, given_default_fault, level_fault, settle_fault, values_fault, walk_fault}
use Rattle.clap.specs.Takes.{is_given}
use Rattle.clap.specs.Walk.{Held, Row, Rule, Text, action_of, arg_by_id, default_rows, finished, first_of, has_row, is_empty, more_values, nothing_held, reading_by, rows_after, settled, walk, walk_from, with_default, with_values}
use Rattle.clap.specs.Simple.{Shape}
use Rattle.clap.specs.declared.parser.matches.ValueSource.{ValueSource}
use Rattle.clap.specs.declared.parser.matches.ValueSource.TheVariants.{DefaultValue}
use Rattle.clap.specs.declared.builder.value_parser.Reading.{Reading}
use Rattle.command_line.proofs.Taken.{else_first, else_next, same_text, EachRule, IsOwn, AreGood, good_values, good_settled, good_walk}

-- a row stays
has_more : (id other : Text) (how : Reading) (s : ValueSource) (values : List Text) (rows : List Row) → has_row id rows ≡ true → has_row id (with_values other how s values rows) ≡ true
has_more id other how s values [] h = absurd (true≢false (sym h))
has_more id other how s values (r ∷ rs) h = by (bytes_eq r.id other) (λ k. has_more id other how s values rs k)
  where
    later : (b : Bool) → (b || has_row id rs) ≡ true → (has_row id rs ≡ true → has_row id (with_values other how s values rs) ≡ true) → (b || has_row id (with_values other how s values rs)) ≡ true
    later true k rest = refl
    later false k rest = rest k

    by : (b : Bool) → (has_row id rs ≡ true → has_row id (with_values other how s values rs) ≡ true) → has_row id (cond b (more_values s values r ++ rs) (r ∷ with_values other how s values rs)) ≡ true
    by true rest = h
    by false rest = later (bytes_eq r.id id) h rest

has_made : (id : Text) (how : Reading) (s : ValueSource) (values : List Text) (rows : List Row) → has_row id (with_values id how s values rows) ≡ true
has_made id how s values [] = ap (λ b. b || false) ((bytes_eq-Decides id id).1 refl)
has_made id how s values (r ∷ rs) = by (bytes_eq r.id id) refl (has_made id how s values rs)
  where
    by : (b : Bool) → bytes_eq r.id id ≡ b → has_row id (with_values id how s values rs) ≡ true → has_row id (cond b (more_values s values r ++ rs) (r ∷ with_values id how s values rs)) ≡ true
    by true e rest = ap (λ b. b || has_row id rs) e
    by false e rest = ap (λ b. b || has_row id (with_values id how s values rs)) e ∙ rest

default_keeps : (id : Text) (rows : List Row) (a : Rule) → has_row id rows ≡ true → has_row id (with_default rows a) ≡ true
default_keeps id rows a h = by (has_row a.id rows)
  where
    given : (vs : List Text) → has_row id (default_rows a.id (reading_by a) vs rows) ≡ true
    given [] = h
    given (v ∷ vs) = has_more id a.id (reading_by a) DefaultValue (v ∷ vs) rows h

    by : (b : Bool) → has_row id (cond b rows (default_rows a.id (reading_by a) a.defaults rows)) ≡ true
    by true = h
    by false = given a.defaults

default_makes : (rows : List Row) (a : Rule) (v : Text) (vs : List Text) → a.defaults ≡ v ∷ vs → has_row a.id (with_default rows a) ≡ true
default_makes rows a v vs is = by (has_row a.id rows) refl
  where
    by : (b : Bool) → has_row a.id rows ≡ b → has_row a.id (cond b rows (default_rows a.id (reading_by a) a.defaults rows)) ≡ true
    by true e = e
    by false e = subst (λ (ds : List Text). has_row a.id (default_rows a.id (reading_by a) ds rows) ≡ true) (sym is) (has_made a.id (reading_by a) DefaultValue (v ∷ vs) rows)

defaults_keep : (id : Text) (xs : List Rule) (rows : List Row) → has_row id rows ≡ true → has_row id (fold with_default rows xs) ≡ true
defaults_keep id [] rows h = h
defaults_keep id (x ∷ xs) rows h = defaults_keep id xs (with_default rows x) (default_keeps id rows x h)

defaults_make : (test : Rule → Bool) (xs : List Rule) (rows : List Row) (a : Rule) (v : Text) (vs : List Text) → find test xs ≡ Some a → a.defaults ≡ v ∷ vs → has_row a.id (fold with_default rows xs) ≡ true
defaults_make test [] rows a v vs h is = absurd (cc)
defaults_make test (x ∷ xs) rows a v vs h is = by (test x) refl (λ later. defaults_make test xs (with_default rows x) a v vs later is)
  where
    by : (b : Bool) → test x ≡ b → (find test xs ≡ Some a → has_row a.id (fold with_default (with_default rows x) xs) ≡ true) → has_row a.id (fold with_default (with_default rows x) xs) ≡ true
    by true e rest =
        let same : Some x ≡ Some a = sym (ap (λ b. cond b (Some x) (find test xs)) e) ∙ h in
        let one : a ≡ x = cc in
        defaults_keep a.id xs (with_default rows x) (subst (λ (y : Rule). has_row a.id (with_default rows y) ≡ true) one (default_makes rows a v vs is))
    by false e rest = rest (sym (ap (λ b. cond b (Some x) (find test xs)) e) ∙ h)

module _ (c : List Rule) where
  good_default : (rows : List Row) (a : Rule) → IsOwn c a → default_fault rows a ≡ [] → AreGood c rows → AreGood c (with_default rows a)
  good_default rows a own e good = by (has_row a.id rows) e
    where
      some : (v : Text) (vs : List Text) → is_empty (v ∷ vs) ≡ true → ⊥
      some v vs h = let none : length (v ∷ vs) ≡ 0 = eqb-true (length (v ∷ vs)) 0 h in omega arith

      fresh : (v : Text) (vs : List Text) → or_else (request_kinds (action_of a)) (values_fault a (v ∷ vs)) ≡ [] → AreGood c (with_values a.id (reading_by a) DefaultValue (v ∷ vs) rows)
      fresh v vs k = good_values c a.id (reading_by a) DefaultValue (v ∷ vs) rows (λ b is. (let same : Some a ≡ Some b = sym own.0 ∙ is in let one : a ≡ b = cc in
          subst (λ (x : Rule). (values_fault x (v ∷ vs) ≡ []) × (0 < length (v ∷ vs))) one (else_next (request_kinds (action_of a)) (values_fault a (v ∷ vs)) k, omega arith))) good

      given : (vs : List Text) → cond (is_empty vs) [] (given_default_fault a vs) ≡ [] → AreGood c (default_rows a.id (reading_by a) vs rows)
      given [] k = good
      given (v ∷ vs) k = test (is_empty (v ∷ vs)) refl k
        where
          test : (b : Bool) → is_empty (v ∷ vs) ≡ b → cond b [] (given_default_fault a (v ∷ vs)) ≡ [] → AreGood c (with_values a.id (reading_by a) DefaultValue (v ∷ vs) rows)
          test true none f = absurd (some v vs none)
          test false none f = fresh v vs f

      by : (b : Bool) → cond (b || is_empty a.defaults) [] (given_default_fault a a.defaults) ≡ [] → AreGood c (cond b rows (default_rows a.id (reading_by a) a.defaults rows))
      by true k = good
      by false k = given a.defaults k

  good_defaults : (xs : List Rule) (rows : List Row) → EachRule (IsOwn c) xs → defaults_fault rows xs ≡ [] → AreGood c rows → AreGood c (fold with_default rows xs)
  unfolding defaults_fault
  good_defaults [] rows own e good = good
  good_defaults (x ∷ xs) rows own e good =
      good_defaults xs (with_default rows x) own.1 (else_next (default_fault rows x) (defaults_fault (with_default rows x) xs) e)
      (good_default rows x own.0 (else_first (default_fault rows x) (defaults_fault (with_default rows x) xs) e) good)

  -- the first value of a row that is there passes the parser of its rule
  pub first_good : (id : Text) (a : Rule) (rows : List Row) → arg_by_id c id ≡ Some a → AreGood c rows → has_row id rows ≡ true → (v : Text) × (first_of id rows ≡ Some v) × (value_kinds a.ignore_case (parser_of_value a.parser) v ≡ [])
  first_good id a [] is good h = absurd (true≢false (sym h))
  first_good id a (r ∷ rs) is good h = by (bytes_eq r.id id) refl h (λ k. first_good id a rs is good.1 k)
    where
      value : (vs : List Text) → r.values ≡ vs → (values_fault a vs ≡ []) × (0 < length vs) → (v : Text) × (slice_get r.values 0 ≡ Some v) × (value_kinds a.ignore_case (parser_of_value a.parser) v ≡ [])
      value [] e k = absurd (omega (arith, k.1))
      value (v ∷ vs) e k = (v, ap (λ (xs : List Text). slice_get xs 0) e, else_first (value_kinds a.ignore_case (parser_of_value a.parser) v) (values_kinds a.ignore_case (parser_of_value a.parser) vs) k.0)

      by : (b : Bool) → bytes_eq r.id id ≡ b → (b || has_row id rs) ≡ true → (has_row id rs ≡ true → (v : Text) × (first_of id rs ≡ Some v) × (value_kinds a.ignore_case (parser_of_value a.parser) v ≡ []))
          → (v : Text) × (first_of id (r ∷ rs) ≡ Some v) × (value_kinds a.ignore_case (parser_of_value a.parser) v ≡ [])
      by true e k rest =
          let found = value r.values refl (good.0 a (ap (arg_by_id c) (same_text r.id id e) ∙ is)) in
          (found.0, ap (λ b. option_and_then (λ (x : Row). slice_get x.values 0) (cond b (Some r) (find (λ x. bytes_eq x.id id) rs))) e ∙ found.1, found.2)
      by false e k rest =
          let found = rest k in
          (found.0, ap (λ b. option_and_then (λ (x : Row). slice_get x.values 0) (cond b (Some r) (find (λ x. bytes_eq x.id id) rs))) e ∙ found.1, found.2)

-- a row is there whose first value is
pub first_has : (id : Text) (rows : List Row) (v : Text) → first_of id rows ≡ Some v → has_row id rows ≡ true
first_has id [] v e = absurd (cc)
first_has id (r ∷ rs) v e = by (bytes_eq r.id id) e (λ k. first_has id rs v k)
  where
    by : (b : Bool) → option_and_then (λ (x : Row). slice_get x.values 0) (cond b (Some r) (find (λ x. bytes_eq x.id id) rs)) ≡ Some v → (first_of id rs ≡ Some v → has_row id rs ≡ true) → (b || has_row id rs) ≡ true
    by true k rest = refl
    by false k rest = rest k

given_has : (id : Text) (rows : List Row) → is_given id rows ≡ true → has_row id rows ≡ true
given_has id [] h = absurd (true≢false (sym h))
given_has id (r ∷ rs) h = by (bytes_eq r.id id) h (λ k. given_has id rs k)
  where
    by : (b : Bool) → option_map_or (λ (x : Row). explicit_source x.source) (cond b (Some r) (find (λ x. bytes_eq x.id id) rs)) false ≡ true → (is_given id rs ≡ true → has_row id rs ≡ true) → (b || has_row id rs) ≡ true
    by true k rest = refl
    by false k rest = rest k

required_given : (test : Rule → Bool) (rows : List Row) (xs : List Rule) (a : Rule) → list_any (λ x. x.required && not (is_given x.id rows)) xs ≡ false → find test xs ≡ Some a → a.required ≡ true → is_given a.id rows ≡ true
required_given test rows [] a none h is = absurd (cc)
required_given test rows (x ∷ xs) a none h is = by (test x) refl (λ later. required_given test rows xs a parts.1 later is)
  where
    none_here : (p q : Bool) → (p || q) ≡ false → (p ≡ false) × (q ≡ false)
    none_here true q k = absurd (true≢false k)
    none_here false q k = (refl, k)

    parts : ((x.required && not (is_given x.id rows)) ≡ false) × (list_any (λ y. y.required && not (is_given y.id rows)) xs ≡ false)
    parts = none_here (x.required && not (is_given x.id rows)) (list_any (λ y. y.required && not (is_given y.id rows)) xs) none

    given : (p q : Bool) → p ≡ true → (p && not q) ≡ false → q ≡ true
    given true true e k = refl
    given true false e k = absurd (true≢false k)
    given false q e k = absurd (true≢false (sym e))

    by : (b : Bool) → test x ≡ b → (find test xs ≡ Some a → is_given a.id rows ≡ true) → is_given a.id rows ≡ true
    by true e rest =
        let same : Some x ≡ Some a = sym (ap (λ b. cond b (Some x) (find test xs)) e) ∙ h in
        let one : x ≡ a = cc in
        given a.required (is_given a.id rows) is (subst (λ (y : Rule). (y.required && not (is_given y.id rows)) ≡ false) one parts.0)
    by false e rest = rest (sym (ap (λ b. cond b (Some x) (find test xs)) e) ∙ h)

third_check : (p q r : Bool) → check_kinds p q r ≡ [] → r ≡ false
third_check true q r e = absurd (cc)
third_check false true r e = absurd (cc)
third_check false false true e = absurd (cc)
third_check false false false e = refl

pub second_check : (p q r : Bool) → check_kinds p q r ≡ [] → q ≡ false
second_check true q r e = absurd (cc)
second_check false true r e = absurd (cc)
second_check false false r e = refl

-- the rows of a subcommand whose words have no fault
pub record IsRead (s : Shape) (rows : List Row) : Type 0 where
  pub good : AreGood s.rules rows
  pub required : (id : Text) (a : Rule) → arg_by_id s.rules id ≡ Some a → a.required ≡ true → has_row a.id rows ≡ true
  pub defaulted : (id : Text) (a : Rule) (v : Text) (vs : List Text) → arg_by_id s.rules id ≡ Some a → a.defaults ≡ v ∷ vs → has_row a.id rows ≡ true

-- what the words leave, and the faults behind the walk
abbrev end_of : Shape → List Text → Held
end_of s words = (walk s.rules [] nothing_held words).held

abbrev settle_at : Shape → List Text → Kinds
settle_at s words = settle_fault s.rules s.args_override_self (end_of s words)

abbrev default_at : Shape → List Text → Kinds
default_at s words = defaults_fault (settled s.rules (end_of s words)).rows s.rules

abbrev check_at : Shape → List Text → Kinds
check_at s words = check_fault s (finished s.rules (end_of s words)) false

pub leaf_read : (s : Shape) → EachRule (IsOwn s.rules) s.rules → s.subcommand_negates_reqs ≡ false → (words : List Text) → level_fault s [] nothing_held words false [] ≡ [] → IsRead s (rows_after s.rules [] words)
leaf_read s own negates words e = record {
  good = good_defaults s.rules s.rules (settled s.rules (end_of s words)).rows own defaults
      (good_settled s.rules s.args_override_self own (end_of s words) settles (good_walk s [] own words (walk_from nothing_held) walks tt));
  required = λ id a is want. given_has a.id (rows_after s.rules [] words) (required_given (λ x. bytes_eq x.id id) (rows_after s.rules [] words) s.rules a lacks is want);
  defaulted = λ id a v vs is some. defaults_make (λ x. bytes_eq x.id id) s.rules (settled s.rules (end_of s words)).rows a v vs is some;
}
  where
    walks : walk_fault s [] (walk_from nothing_held) words ≡ []
    walks = else_first (walk_fault s [] (walk_from nothing_held) words) (or_else [] (or_else (settle_at s words) (or_else (default_at s words) (check_at s words)))) e

    after : or_else (settle_at s words) (or_else (default_at s words) (check_at s words)) ≡ []
    after = else_next (walk_fault s [] (walk_from nothing_held) words) (or_else [] (or_else (settle_at s words) (or_else (default_at s words) (check_at s words)))) e

    settles : (settle_at s words) ≡ []
    settles = else_first (settle_at s words) (or_else (default_at s words) (check_at s words)) after

    defaults : (default_at s words) ≡ []
    defaults = else_first (default_at s words) (check_at s words) (else_next (settle_at s words) (or_else (default_at s words) (check_at s words)) after)

    checks : (check_at s words) ≡ []
    checks = else_next (default_at s words) (check_at s words) (else_next (settle_at s words) (or_else (default_at s words) (check_at s words)) after)

    lacks : list_any (λ x. x.required && not (is_given x.id (rows_after s.rules [] words))) s.rules ≡ false
    lacks = by s.subcommand_negates_reqs negates (third_check (not false && (s.arg_required_else_help && not (list_any (λ r. explicit_source r.source) (rows_after s.rules [] words)))) (not false && s.subcommand_required)
        (not (s.subcommand_negates_reqs && false) && list_any (λ a. a.required && not (is_given a.id (rows_after s.rules [] words))) s.rules) checks)
      where
        by : (b : Bool) → b ≡ false → (not (b && false) && list_any (λ a. a.required && not (is_given a.id (rows_after s.rules [] words))) s.rules) ≡ false → list_any (λ a. a.required && not (is_given a.id (rows_after s.rules [] words))) s.rules ≡ false
        by false n k = k
        by true n k = absurd (true≢false n)
