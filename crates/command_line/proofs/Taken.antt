-- What a level of a parse leaves where it has no fault: each argument's values pass its parser, and there is one at least.
use Rattle.std.proofs.Common.{◌≡◌, ◌<◌, ◌&&◌, not, ℕ, zero, suc, Bool, cond, true, false, List, [], ◌∷◌, ◌++◌, length, drop, fold, Option, Some, None, is_some, if◌then◌else◌, refl, sym, ap, subst, ◌∙◌, arith, codes}
use Rattle.std.specs.Prelude.{⊤, ◌==◌, find, slice_get, nat_lt, encode_utf8}
use Rattle.std.specs.Option.{option_map_or}
use Rattle.std.specs.Str.{bytes_eq, chars}
use Rattle.std.proofs.lemmas.Bool.{lt-ltb}
use Rattle.std.proofs.lemmas.Slice.Eq.{bytes_eq-Decides}
use Rattle.clap.specs.Lexer.{long_of, short_of}
use Rattle.clap.specs.Facts.{parser_of_value, unwrap_or_range}
use Rattle.clap.specs.declared.error.kind.ErrorKind.TheVariants.{InvalidValue, TooFewValues, TooManyValues, WrongNumberOfValues}
use Rattle.clap.specs.Kinds.{Kinds, or_else, range_kinds, value_kinds, values_kinds}
use Rattle.clap.specs.Faults.{action_fault, bundle_fault, bundle_step_fault, flag_word_fault, flags_fault, long_fault, option_fault, other_fault, positional_fault, react_fault, settle_fault, short_fault, step_fault, stray_fault, turn_fault, use_fault, values_fault, walk_fault, word_fault}
use Rattle.clap.specs.Walk.{Held, Names, Outcome, Row, Rule, Step, Text, Waiting, Walk, action_of, after_flag, after_step, arg_by_id, arg_by_index, arg_by_long, arg_by_short, at_row, attached_value, bundle, bundle_met, bundle_step, done, flag_met, has_long, has_short, idle, is_pending, long_met, long_or_other, more_values, most_values, next, option, option_met, option_word, plain, plain_word, positional, reacted, reading_by, refused, settled, settled_rows, short_met, short_or_plain, subcommand, subcommand_met, subcommand_or_other, takes_several, takes_values, to_positional, trailing, used, used_as, used_by_id, value, values_or_missing, waits, walked, walked_from, with_values, without, word_met}
use Rattle.clap.specs.Simple.{Shape}
use Rattle.clap.specs.declared.builder.action.ArgAction.{ArgAction}
use Rattle.clap.specs.declared.builder.action.ArgAction.TheVariants as action
use Rattle.clap.specs.declared.builder.value_parser.Reading.{Reading}
use Rattle.clap.specs.declared.builder.value_parser.ValueParser.{ValueParser}
use Rattle.clap.specs.declared.parser.matches.ValueSource.{ValueSource}
use Rattle.clap.specs.declared.parser.matches.ValueSource.TheVariants.{CommandLine}

-- where there is no kind of either, there is none of each
pub else_first : (a b : Kinds) → or_else a b ≡ [] → a ≡ []
else_first [] b e = refl
else_first (k ∷ ks) b e = e

pub else_next : (a b : Kinds) → or_else a b ≡ [] → b ≡ []
else_next [] b e = e
else_next (k ∷ ks) b e = absurd (cc)

pub same_text : (a b : Text) → bytes_eq a b ≡ true → a ≡ b
same_text a b e = (bytes_eq-Decides a b).0 e

values_append : (i : Bool) (p : ValueParser) (xs ys : List Text) → values_kinds i p xs ≡ [] → values_kinds i p ys ≡ [] → values_kinds i p (xs ++ ys) ≡ []
values_append i p [] ys h k = k
values_append i p (x ∷ xs) ys h k =
    ap (λ ks. or_else ks (values_kinds i p (xs ++ ys))) (else_first (value_kinds i p x) (values_kinds i p xs) h)
    ∙ values_append i p xs ys (else_next (value_kinds i p x) (values_kinds i p xs) h) k

-- each rule of a list
abbrev pub EachRule : (Rule → Type 0) → List Rule → Type 0
EachRule P [] = ⊤
EachRule P (a ∷ rest) = P a × EachRule P rest

pub rule_found : (P : Rule → Type 0) (test : Rule → Bool) (c : List Rule) (a : Rule) → EachRule P c → find test c ≡ Some a → P a
rule_found P test [] a each h = absurd (cc)
rule_found P test (x ∷ xs) a each h = by (test x) refl (λ later. rule_found P test xs a each.1 later)
  where
    by : (b : Bool) → test x ≡ b → (find test xs ≡ Some a → P a) → P a
    by true e rest = (let same : Some x ≡ Some a = sym (ap (λ b. cond b (Some x) (find test xs)) e) ∙ h in let one : x ≡ a = cc in subst P one each.0)
    by false e rest = rest (sym (ap (λ b. cond b (Some x) (find test xs)) e) ∙ h)

-- a use of the argument has a value, whatever it is given, and sets what it is given
abbrev pub HasValue : ArgAction → Rule → Type 0
HasValue action.Set a = 0 < (unwrap_or_range a.range).start_inclusive
HasValue action.Append a = 0 < (unwrap_or_range a.range).start_inclusive
HasValue action.SetTrue a = 0 < length a.missing
HasValue action.SetFalse a = 0 < length a.missing
HasValue action.Count a = ⊥
HasValue action.Help a = ⊤
HasValue action.HelpShort a = ⊤
HasValue action.HelpLong a = ⊤
HasValue action.Version a = ⊤

-- the kinds of no values, where some may be wanted
abbrev range_left : ℕ → ℕ → Kinds
range_left least most = cond (least == most) (cond (least == 0) [] (WrongNumberOfValues ∷ [])) (cond (nat_lt 0 least) (TooFewValues ∷ []) (cond (nat_lt most 0) (TooManyValues ∷ []) []))

module _ (c : List Rule) where
  -- the rule is the one of its id, and its uses have values
  abbrev pub IsOwn : Rule → Type 0
  IsOwn a = (arg_by_id c a.id ≡ Some a) × HasValue (action_of a) a

  -- the values pass the parser of the rule with this id, and there is one
  abbrev pub AreGoodFor : Text → List Text → Type 0
  AreGoodFor id values = (a : Rule) → arg_by_id c id ≡ Some a → (values_fault a values ≡ []) × (0 < length values)

  abbrev pub AreGood : List Row → Type 0
  AreGood [] = ⊤
  AreGood (r ∷ rs) = AreGoodFor r.id r.values × AreGood rs

  good_append : (xs ys : List Row) → AreGood xs → AreGood ys → AreGood (xs ++ ys)
  good_append [] ys h k = k
  good_append (x ∷ xs) ys h k = (h.0, good_append xs ys h.1 k)

  good_at : (id : Text) (change : Row → List Row) (missing rows : List Row) → ((r : Row) → bytes_eq r.id id ≡ true → AreGoodFor r.id r.values → AreGood (change r)) → AreGood missing → AreGood rows → AreGood (at_row id change missing rows)
  good_at id change missing [] keep m h = m
  good_at id change missing (r ∷ rs) keep m h = by (bytes_eq r.id id) refl (good_at id change missing rs keep m h.1)
    where
      by : (b : Bool) → bytes_eq r.id id ≡ b → AreGood (at_row id change missing rs) → AreGood (cond b (change r ++ rs) (r ∷ at_row id change missing rs))
      by true e rest = good_append (change r) rs (keep r e h.0) h.1
      by false e rest = (h.0, rest)

  length_more : (xs ys : List Text) → 0 < length ys → 0 < length (xs ++ ys)
  length_more [] ys h = h
  length_more (x ∷ xs) ys h = omega arith

  pub good_values : (id : Text) (how : Reading) (s : ValueSource) (values : List Text) (rows : List Row) → AreGoodFor id values → AreGood rows → AreGood (with_values id how s values rows)
  good_values id how s values rows new h =
      good_at id (more_values s values) (record { id = id; values = values; count = None; source = Some s; reading = how } ∷ []) rows
      (λ r e old. (
        λ a is. (let mine : arg_by_id c id ≡ Some a = ap (arg_by_id c) (sym (same_text r.id id e)) ∙ is in
            (values_append a.ignore_case (parser_of_value a.parser) r.values values (old a is).0 (new a mine).0, length_more r.values values (new a mine).1)),
        tt,
      )) (new, tt) h

  good_without : (id : Text) (rows : List Row) → AreGood rows → AreGood (without id rows)
  good_without id rows h = good_at id (λ _. []) [] rows (λ r e old. tt) tt h

  -- the values of a use, for which there are enough
  given_some : (a : Rule) (values : List Text) → range_kinds (unwrap_or_range a.range).start_inclusive (most_values a) (length values) ≡ [] → 0 < (unwrap_or_range a.range).start_inclusive → 0 < length (values_or_missing a values)
  given_some a (v ∷ vs) e least = omega arith
  given_some a [] e least =
      let below : nat_lt 0 (unwrap_or_range a.range).start_inclusive ≡ true = lt-ltb 0 (unwrap_or_range a.range).start_inclusive least in
      absurd (let none : range_kinds (unwrap_or_range a.range).start_inclusive (most_values a) 0 ≡ [] = e in let some : Kinds = InvalidValue ∷ [] in
      let kinds : some ≡ [] = sym (ap (λ b. cond (b && (0 == 0)) some (range_left (unwrap_or_range a.range).start_inclusive (most_values a))) below) ∙ none in cc)

  missing_some : (a : Rule) (values : List Text) → 0 < length a.missing → 0 < length (values_or_missing a values)
  missing_some a [] h = h
  missing_some a (v ∷ vs) h = omega arith

  good_used : (again : Bool) (a : Rule) (values : List Text) (rows : List Row) → IsOwn a → use_fault again a values rows ≡ [] → AreGood rows → AreGood (used a values rows)
  good_used again a values rows own e h = by (action_of a) own.1 (else_next (range_kinds (unwrap_or_range a.range).start_inclusive (most_values a) (length values)) (action_fault (action_of a) again a (values_or_missing a values) rows) e)
    where
      enough : range_kinds (unwrap_or_range a.range).start_inclusive (most_values a) (length values) ≡ []
      enough = else_first (range_kinds (unwrap_or_range a.range).start_inclusive (most_values a) (length values)) (action_fault (action_of a) again a (values_or_missing a values) rows) e

      mine : values_fault a (values_or_missing a values) ≡ [] → 0 < length (values_or_missing a values) → AreGoodFor a.id (values_or_missing a values)
      mine passes some b is = (let same : Some a ≡ Some b = sym own.0 ∙ is in let one : a ≡ b = cc in subst (λ (x : Rule). (values_fault x (values_or_missing a values) ≡ []) × (0 < length (values_or_missing a values))) one (passes, some))

      put : values_fault a (values_or_missing a values) ≡ [] → 0 < length (values_or_missing a values) → AreGood (with_values a.id (reading_by a) CommandLine (values_or_missing a values) (without a.id rows))
      put passes some = good_values a.id (reading_by a) CommandLine (values_or_missing a values) (without a.id rows) (mine passes some) (good_without a.id rows h)

      by : (x : ArgAction) → HasValue x a → action_fault x again a (values_or_missing a values) rows ≡ [] → AreGood (used_as x a.id (reading_by a) (values_or_missing a values) rows)
      by action.Set some k = put (else_next _ (values_fault a (values_or_missing a values)) k) (given_some a values enough some)
      by action.SetTrue some k = put (else_next _ (values_fault a (values_or_missing a values)) k) (missing_some a values some)
      by action.SetFalse some k = put (else_next _ (values_fault a (values_or_missing a values)) k) (missing_some a values some)
      by action.Append some k = good_values a.id (reading_by a) CommandLine (values_or_missing a values) rows (mine k (given_some a values enough some)) h
      by action.Count some k = absurd some
      by action.Help some k = h
      by action.HelpShort some k = h
      by action.HelpLong some k = h
      by action.Version some k = h

  module _ (again : Bool) (own : EachRule IsOwn c) where
    pub good_settled : (h : Held) → settle_fault c again h ≡ [] → AreGood h.rows → AreGood (settled c h).rows
    good_settled h e good = by h.pending e
      where
        inner : (p : Text × List Text) (o : Option Rule) → arg_by_id c p.0 ≡ o → option_map_or (λ a. use_fault again a p.1 h.rows) o [] ≡ [] → AreGood (used_by_id o p.1 h.rows)
        inner p None is k = good
        inner p (Some a) is k = good_used again a p.1 h.rows (rule_found IsOwn (λ a. bytes_eq a.id p.0) c a own is) k good

        by : (pending : Option (Text × List Text)) → option_map_or (λ p. option_map_or (λ a. use_fault again a p.1 h.rows) (arg_by_id c p.0) []) pending [] ≡ [] → AreGood (settled_rows c pending h.rows)
        by None k = good
        by (Some p) k = inner p (arg_by_id c p.0) refl k

    good_reacted : (a : Rule) (values : List Text) (h : Held) → IsOwn a → react_fault c again a values h ≡ [] → AreGood h.rows → AreGood (reacted c a values h).rows
    good_reacted a values h mine e good =
        good_used again a values (settled c h).rows mine (else_next (settle_fault c again h) (use_fault again a values (settled c h).rows) e)
        (good_settled h (else_first (settle_fault c again h) (use_fault again a values (settled c h).rows) e) good)

    good_option : (a : Rule) (v : Option Text) (h : Held) → IsOwn a → option_fault c again a v h ≡ [] → AreGood h.rows → AreGood (option_met c a v h).0.rows
    good_option a (Some v) h mine e good = good_reacted a (v ∷ []) h mine e good
    good_option a None h mine e good = good_settled h e good

    good_long : (name : Text) (o : Option Rule) (v : Option Text) (h : Held) → arg_by_long c name ≡ o → long_fault c again o v h ≡ [] → AreGood h.rows → AreGood (long_met c o v h).0.rows
    good_long name None v h is e good = good
    good_long name (Some a) v h is e good = by (takes_values a) refl v e
      where
        mine : IsOwn a
        mine = rule_found IsOwn (λ x. not (is_some x.index) && has_long x name) c a own is

        flag : (w : Option Text) → (if is_some w then TooManyValues ∷ [] else react_fault c again a [] h) ≡ [] → AreGood (flag_met c a w h).0.rows
        flag None k = good_reacted a [] h mine k good
        flag (Some w) k = good

        by : (b : Bool) → takes_values a ≡ b → (w : Option Text) → long_fault c again (Some a) w h ≡ [] → AreGood (long_met c (Some a) w h).0.rows
        by true t w k = subst (λ b. AreGood (if b then option_met c a w h else flag_met c a w h).0.rows) (sym t)
            (good_option a w h mine (sym (ap (λ b. if b then option_fault c again a w h else (if is_some w then TooManyValues ∷ [] else react_fault c again a [] h)) t) ∙ k) good)
        by false t w k = subst (λ b. AreGood (if b then option_met c a w h else flag_met c a w h).0.rows) (sym t)
            (flag w (sym (ap (λ b. if b then option_fault c again a w h else (if is_some w then TooManyValues ∷ [] else react_fault c again a [] h)) t) ∙ k))

    good_short : (x : ℕ) (o : Option Rule) (rest : Text) (h : Held) (go_on : Held → Held × Outcome) (later : Held → Kinds) → arg_by_short c x ≡ o → short_fault c again o rest h later ≡ []
        → ((g : Held) → later g ≡ [] → AreGood g.rows → AreGood (go_on g).0.rows) → AreGood h.rows → AreGood (short_met c o rest h go_on).0.rows
    good_short x None rest h go_on later is e onward good = good
    good_short x (Some a) rest h go_on later is e onward good = by (takes_values a) refl
      where
        mine : IsOwn a
        mine = rule_found IsOwn (λ y. not (is_some y.index) && has_short y x) c a own is

        by : (b : Bool) → takes_values a ≡ b → AreGood (short_met c (Some a) rest h go_on).0.rows
        by true t = subst (λ b. AreGood (cond b (option_met c a (attached_value rest) h) (go_on (reacted c a [] h))).0.rows) (sym t)
            (good_option a (attached_value rest) h mine (sym (ap (λ b. cond b (option_fault c again a (attached_value rest) h) (or_else (react_fault c again a [] h) (later (reacted c a [] h)))) t) ∙ e) good)
        by false t =
            let k : (or_else (react_fault c again a [] h) (later (reacted c a [] h))) ≡ [] = sym (ap (λ b. cond b (option_fault c again a (attached_value rest) h) (or_else (react_fault c again a [] h) (later (reacted c a [] h)))) t) ∙ e in
            subst (λ b. AreGood (cond b (option_met c a (attached_value rest) h) (go_on (reacted c a [] h))).0.rows) (sym t)
            (onward (reacted c a [] h) (else_next (react_fault c again a [] h) (later (reacted c a [] h)) k) (good_reacted a [] h mine (else_first (react_fault c again a [] h) (later (reacted c a [] h)) k) good))

    good_bundle : (k : ℕ) (flags : Text) (skip : ℕ) (so_far : Outcome) (h : Held) → flags_fault c again k flags skip h ≡ [] → AreGood h.rows → AreGood (bundle_met c k flags skip so_far h).0.rows
    unfolding bundle_met flags_fault
    good_bundle zero flags skip so_far h e good = good
    good_bundle (suc k) flags skip so_far h e good = by (slice_get (chars flags) 0) skip e (λ rest n so g free fine. good_bundle k rest n so g free fine)
      where
        by : (o : Option ℕ) (n : ℕ) → bundle_step_fault c again o flags n h (flags_fault c again k) ≡ []
            → ((rest : Text) (n : ℕ) (so : Outcome) (g : Held) → flags_fault c again k rest n g ≡ [] → AreGood g.rows → AreGood (bundle_met c k rest n so g).0.rows)
            → AreGood (bundle_step c o flags n so_far h (bundle_met c k)).0.rows
        by None n f onward = good
        by (Some x) zero f onward =
            let rest : Text = drop (length (encode_utf8 x)) flags in
            good_short x (arg_by_short c x) rest h (bundle_met c k rest 0 done) (flags_fault c again k rest 0) refl f (onward rest 0 done) good
        by (Some x) (suc n) f onward = onward (drop (length (encode_utf8 x)) flags) n so_far h f good

    good_plain : (waiting : Waiting) (word : Text) (h : Held) → AreGood h.rows → AreGood (plain_word c waiting word h).0.rows
    good_plain idle word h good = good
    good_plain positional word h good = good
    good_plain (option id) word h good = by (arg_by_id c id)
      where
        by : (o : Option Rule) → AreGood (option_word o id word h).0.rows
        by None = good
        by (Some a) = good

    good_flag : (waiting : Waiting) (word : Text) (h : Held) (outcome : Outcome) → AreGood h.rows → AreGood (after_flag c waiting word h outcome).0.rows
    good_flag waiting word h done good = good
    good_flag waiting word h (waits id) good = good
    good_flag waiting word h plain good = good_plain waiting word h good
    good_flag waiting word h refused good = good_plain waiting word h good

    good_dashed : (waiting : Waiting) (word : Text) (o : Option (Text × Option Text)) (h : Held) → flag_word_fault c again o word h ≡ [] → AreGood h.rows → AreGood (long_or_other c waiting word o h).0.rows
    good_dashed waiting word (Some p) h e good =
        good_flag waiting word (long_met c (arg_by_long c p.0) p.1 h).0 (long_met c (arg_by_long c p.0) p.1 h).1 (good_long p.0 (arg_by_long c p.0) p.1 h refl e good)
    good_dashed waiting word None h e good = by (short_of word) e
      where
        by : (o : Option Text) → option_map_or (λ flags. bundle_fault c again flags h) o [] ≡ [] → AreGood (short_or_plain c waiting word o h).0.rows
        by None k = good_plain waiting word h good
        by (Some flags) k = good_flag waiting word (bundle c flags h).0 (bundle c flags h).1 (good_bundle (length flags) flags h.skip plain (record h { skip = 0 }) k good)

-- the step names no subcommand
abbrev pub IsOther : Step → Type 0
IsOther (next waiting) = ⊤
IsOther (trailing position) = ⊤
IsOther (subcommand name) = ⊥
IsOther value = ⊤

module _ (c : List Rule) where
  other_plain : (waiting : Waiting) (word : Text) (h : Held) → IsOther (plain_word c waiting word h).1
  other_plain idle word h = tt
  other_plain positional word h = tt
  other_plain (option id) word h = tt

  other_flag : (waiting : Waiting) (word : Text) (h : Held) (outcome : Outcome) → IsOther (after_flag c waiting word h outcome).1
  other_flag waiting word h done = tt
  other_flag waiting word h (waits id) = tt
  other_flag waiting word h plain = other_plain waiting word h
  other_flag waiting word h refused = other_plain waiting word h

  other_dashed : (waiting : Waiting) (word : Text) (o : Option (Text × Option Text)) (h : Held) → IsOther (long_or_other c waiting word o h).1
  other_dashed waiting word (Some p) h = other_flag waiting word (long_met c (arg_by_long c p.0) p.1 h).0 (long_met c (arg_by_long c p.0) p.1 h).1
  other_dashed waiting word None h = by (short_of word)
    where
      by : (o : Option Text) → IsOther (short_or_plain c waiting word o h).1
      by None = other_plain waiting word h
      by (Some flags) = other_flag waiting word (bundle c flags h).0 (bundle c flags h).1

-- where a walk stopped at a subcommand, it isn't the one that asks for help
abbrev pub IsNotHelp : Option (Text × List Text) → Type 0
IsNotHelp None = ⊤
IsNotHelp (Some p) = bytes_eq p.0 (codes "help") ≡ false

-- a subcommand that a step names isn't that one either
abbrev pub NamesNoHelp : Step → Type 0
NamesNoHelp (next waiting) = ⊤
NamesNoHelp (trailing position) = ⊤
NamesNoHelp (subcommand name) = bytes_eq name (codes "help") ≡ false
NamesNoHelp value = ⊤

other_names : (step : Step) → IsOther step → NamesNoHelp step
other_names (next waiting) h = tt
other_names (trailing position) h = tt
other_names (subcommand name) h = absurd h
other_names value h = tt

module _ (s : Shape) (names : Names) where
  module _ (own : EachRule (IsOwn s.rules) s.rules) where
    good_word : (is_trailing : Bool) (waiting : Waiting) (position : ℕ) (word : Text) (h : Held) → word_fault s names is_trailing waiting word h ≡ [] → AreGood s.rules h.rows → AreGood s.rules (word_met s.rules names is_trailing waiting position word h).0.rows
    good_word true waiting position word h e good = good
    good_word false waiting position word h e good = by (subcommand_met names waiting word) e
      where
        by : (o : Option Text) → other_fault s o word h ≡ [] → AreGood s.rules (subcommand_or_other s.rules o waiting position word h).0.rows
        by (Some name) k = good
        by None k = dashes (bytes_eq word (45 ∷ 45 ∷ [])) k
          where
            dashes : (b : Bool) → cond b [] (flag_word_fault s.rules s.args_override_self (long_of word) word h) ≡ [] → AreGood s.rules (cond b (h, trailing position) (long_or_other s.rules waiting word (long_of word) h)).0.rows
            dashes true f = good
            dashes false f = good_dashed s.rules s.args_override_self own waiting word (long_of word) h f good

    good_step : (word : Text) (w : Walk) (h : Held) (step : Step) → step_fault s w.position h step ≡ [] → AreGood s.rules h.rows → AreGood s.rules (after_step s.rules word w h step).held.rows
    good_step word w h (next waiting) e good = good
    good_step word w h (trailing position) e good = good
    good_step word w h (subcommand name) e good = good
    good_step word w h value e good = by (arg_by_index s.rules w.position) e
      where
        by : (o : Option Rule) → option_map_or (λ a. positional_fault s.rules s.args_override_self a h) o (stray_fault s) ≡ [] → AreGood s.rules (to_positional s.rules o word w h).held.rows
        by None k = good
        by (Some a) k = settle (is_pending a h.pending && takes_several a) k
          where
            settle : (b : Bool) → cond b [] (settle_fault s.rules s.args_override_self h) ≡ [] → AreGood s.rules (cond b h (settled s.rules h)).rows
            settle true f = good
            settle false f = good_settled s.rules s.args_override_self own h f good

    good_turn : (w : Walk) (word : Text) → turn_fault s names w word ≡ [] → AreGood s.rules w.held.rows → AreGood s.rules (walked s.rules names w word).held.rows
    unfolding walked
    good_turn w word e good = by w.stopped e
      where
        by : (o : Option (Text × List Text)) → cond (is_some o) [] (or_else (word_fault s names w.is_trailing w.waiting word w.held) (step_fault s w.position (word_met s.rules names w.is_trailing w.waiting w.position word w.held).0 (word_met s.rules names w.is_trailing w.waiting w.position word w.held).1)) ≡ [] → AreGood s.rules (walked_from s.rules names o w word).held.rows
        by (Some p) k = good
        by None k =
            good_step word w (word_met s.rules names w.is_trailing w.waiting w.position word w.held).0 (word_met s.rules names w.is_trailing w.waiting w.position word w.held).1 (else_next (word_fault s names w.is_trailing w.waiting word w.held) (step_fault s w.position (word_met s.rules names w.is_trailing w.waiting w.position word w.held).0 (word_met s.rules names w.is_trailing w.waiting w.position word w.held).1) k)
            (good_word w.is_trailing w.waiting w.position word w.held (else_first (word_fault s names w.is_trailing w.waiting word w.held) (step_fault s w.position (word_met s.rules names w.is_trailing w.waiting w.position word w.held).0 (word_met s.rules names w.is_trailing w.waiting w.position word w.held).1) k) good)

    pub good_walk : (words : List Text) (w : Walk) → walk_fault s names w words ≡ [] → AreGood s.rules w.held.rows → AreGood s.rules (fold (walked s.rules names) w words).held.rows
    unfolding walk_fault
    good_walk [] w e good = good
    good_walk (word ∷ rest) w e good =
        good_walk rest (walked s.rules names w word) (else_next (turn_fault s names w word) (walk_fault s names (walked s.rules names w word) rest) e)
        (good_turn w word (else_first (turn_fault s names w word) (walk_fault s names (walked s.rules names w word) rest) e) good)

  module _ (enabled : s.disable_help_subcommand ≡ false) where
    no_help_word : (is_trailing : Bool) (waiting : Waiting) (position : ℕ) (word : Text) (h : Held) → word_fault s names is_trailing waiting word h ≡ [] → NamesNoHelp (word_met s.rules names is_trailing waiting position word h).1
    no_help_word true waiting position word h e = tt
    no_help_word false waiting position word h e = by (subcommand_met names waiting word) e
      where
        by : (o : Option Text) → other_fault s o word h ≡ [] → NamesNoHelp (subcommand_or_other s.rules o waiting position word h).1
        by (Some name) k = asks (bytes_eq name (codes "help")) refl k
          where
            asks : (b : Bool) → bytes_eq name (codes "help") ≡ b → other_fault s (Some name) word h ≡ [] → bytes_eq name (codes "help") ≡ false
            asks true is f = absurd (cc)
            asks false is f = is
        by None k = dashes (bytes_eq word (45 ∷ 45 ∷ []))
          where
            dashes : (b : Bool) → NamesNoHelp (cond b (h, trailing position) (long_or_other s.rules waiting word (long_of word) h)).1
            dashes true = tt
            dashes false = other_names (long_or_other s.rules waiting word (long_of word) h).1 (other_dashed s.rules waiting word (long_of word) h)

    no_help_step : (word : Text) (w : Walk) (h : Held) (step : Step) → NamesNoHelp step → IsNotHelp w.stopped → IsNotHelp (after_step s.rules word w h step).stopped
    no_help_step word w h (next waiting) names k = k
    no_help_step word w h (trailing position) names k = k
    no_help_step word w h (subcommand name) names k = names
    no_help_step word w h value names k = by (arg_by_index s.rules w.position)
      where
        by : (o : Option Rule) → IsNotHelp (to_positional s.rules o word w h).stopped
        by None = k
        by (Some a) = tt

    no_help_turn : (w : Walk) (word : Text) → turn_fault s names w word ≡ [] → IsNotHelp w.stopped → IsNotHelp (walked s.rules names w word).stopped
    unfolding walked
    no_help_turn w word e not_help = by w.stopped e not_help
      where
        by : (o : Option (Text × List Text)) → cond (is_some o) [] (or_else (word_fault s names w.is_trailing w.waiting word w.held) (step_fault s w.position (word_met s.rules names w.is_trailing w.waiting w.position word w.held).0 (word_met s.rules names w.is_trailing w.waiting w.position word w.held).1)) ≡ [] → IsNotHelp o → IsNotHelp (walked_from s.rules names o w word).stopped
        by (Some p) k n = n
        by None k n =
            no_help_step word w (word_met s.rules names w.is_trailing w.waiting w.position word w.held).0 (word_met s.rules names w.is_trailing w.waiting w.position word w.held).1 (no_help_word w.is_trailing w.waiting w.position word w.held (else_first (word_fault s names w.is_trailing w.waiting word w.held) (step_fault s w.position (word_met s.rules names w.is_trailing w.waiting w.position word w.held).0 (word_met s.rules names w.is_trailing w.waiting w.position word w.held).1) k)) not_help

    -- a walk without a fault doesn't stop at the subcommand for help
    pub no_help_walk : (words : List Text) (w : Walk) → walk_fault s names w words ≡ [] → IsNotHelp w.stopped → IsNotHelp (fold (walked s.rules names) w words).stopped
    unfolding walk_fault
    no_help_walk [] w e not_help = not_help
    no_help_walk (word ∷ rest) w e not_help =
        no_help_walk rest (walked s.rules names w word) (else_next (turn_fault s names w word) (walk_fault s names (walked s.rules names w word) rest) e)
        (no_help_turn w word (else_first (turn_fault s names w word) (walk_fault s names (walked s.rules names w word) rest) e) not_help)
