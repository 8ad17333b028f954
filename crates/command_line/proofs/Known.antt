-- Words that `clap` takes, with a mode that fits, are a job.
use Rattle.std.proofs.Common.{◌≡◌, ℕ, ◌&&◌, ◌||◌, not, Bool, cond, true, false, List, [], ◌∷◌, length, Option, Some, None, is_some, refl, sym, ap, subst, ◌∙◌, arith, true≢false, codes}
use Rattle.std.specs.Prelude.{⊤, ◌==◌, find, option_map, option_and_then, IfSome}
use Rattle.std.specs.List.{list_any}
use Rattle.std.specs.Option.{option_map_or}
use Rattle.std.specs.Str.{bytes_eq}
use Rattle.std.specs.Str.Parse.{digits_value, without_leading_plus}
use Rattle.std.proofs.lemmas.Slice.Eq.{bytes_eq-Decides}
use Rattle.circuit_theory.specs.declared.Mode.{Mode}
use Rattle.circuit_theory.specs.declared.Mode.TheVariants.{Plain, Event}
use Rattle.sec_base.specs.declared.settings.Settings.{Settings}
use Rattle.clap.specs.Facts.{explicit_source}
use Rattle.clap.specs.Takes.{is_given}
use Rattle.clap.specs.Kinds.{Kinds, or_else, value_kinds}
use Rattle.clap.specs.Faults.{check_fault, defaults_fault, entered_fault, fault_of, level_fault, settle_fault, walk_fault}
use Rattle.clap.specs.ValueTests.{accepts}
use Rattle.clap.specs.Walk.{Row, Rule, Text, Walk, answers_to, finished, first_of, nothing_held, rows_after, settled, walk, walk_from}
use Rattle.clap.specs.Simple.{App, Shape, built, built_leaf, entered, help_shape, inherited, label_of, marked_built, names_of, rows_at, subcommand_of, with_leaf_noted}
use Rattle.clap.specs.declared.builder.value_parser.ValueParser.{ValueParser}
use Rattle.command_line.specs.command_words.Command.{sec_app, check_app, graph_app, sim_app, replay_app, settle_app, gen_app, lrat_app, cert_app, induct_app, most_conflicts, most_cycles, any_number}
use Rattle.command_line.specs.Jobs.{begun_in, cert_in, check_in, checked_in, conflicts_in, form_in, gen_in, graph_in, induct_in, is_set, job_of, lrat_in, mode_in, named_mode, number_of, paired_in, replayed_in, replay_in, settle_in, run_in, sim_in, stands_alone, task_in, tied_in, renamed_in}
use Rattle.command_line.specs.Known.{HasFitMode, after_fits, cycles_fit, cycles_given, mode_fits, pair_fits, ties_fit, tied_fits, pairs_fit, replay_fits, replayed_fits, run_fits, sim_fits}
use Rattle.command_line.proofs.Taken.{else_first, else_next, EachRule, IsNotHelp, IsOwn, no_help_walk}
use Rattle.command_line.proofs.Leaves.{IsRead, first_good, first_has, leaf_read, second_check}

-- a number that the parser takes
number_known : (p : ValueParser) (w : Text) → value_kinds false p w ≡ [] → number_of p w ≡ Some (digits_value 10 (without_leading_plus w))
number_known p w e = by (accepts false p w) refl
  where
    by : (b : Bool) → accepts false p w ≡ b → number_of p w ≡ Some (digits_value 10 (without_leading_plus w))
    by true is = rw is refl
    by false is = absurd (let none : value_kinds false p w ≡ [] = e in cc)

some_is : {X : Type 0} {x y : X} → Some x ≡ Some y → x ≡ y
some_is q = cc

both_hold : (b c : Bool) → (b && c) ≡ true → (b ≡ true) × (c ≡ true)
both_hold true c e = (refl, e)
both_hold false c e = absurd (true≢false (sym e))

not_holds : (b : Bool) → not b ≡ true → b ≡ false
not_holds true e = absurd (true≢false (sym e))
not_holds false e = refl

-- a check, or a search whose cycles fit
checked_job : (settles : Bool) (a b : Text) (s : Settings) (assumed cycles : Option Text) → ((w : Text) → cycles ≡ Some w → (value_kinds false most_cycles w ≡ []) × (s.reset ≡ true)) → is_some (checked_in settles a b s assumed cycles) ≡ true
checked_job settles a b s assumed None fits = refl
checked_job settles a b s assumed (Some w) fits = let f = fits w refl in let n = number_known most_cycles w f.0 in rw (f.1, n) refl

-- the same behind the rows of a stimulus, which stands beside `--reset`, and beside an assumption with a number of cycles
begun_job : (settles : Bool) (a b : Text) (s : Settings) (assumed cycles after : Option Text) → ((w : Text) → cycles ≡ Some w → (value_kinds false most_cycles w ≡ []) × (s.reset ≡ true)) →
    (not (is_some after) || (s.reset && (not (is_some assumed) || is_some cycles))) ≡ true → is_some (begun_in settles a b s assumed cycles after) ≡ true
begun_job settles a b s assumed cycles None fits named = checked_job settles a b s assumed cycles fits
begun_job settles a b s (Some c) None (Some z) fits named = absurd (true≢false (sym (both_hold s.reset false named).1))
begun_job settles a b s (Some c) (Some w) (Some z) fits named = let f = fits w refl in let n = number_known most_cycles w f.0 in rw (f.1, n) refl
begun_job settles a b s None None (Some z) fits named = let reset : s.reset ≡ true = (both_hold s.reset true named).0 in rw reset refl
begun_job settles a b s None (Some w) (Some z) fits named = let f = fits w refl in let n = number_known most_cycles w f.0 in rw (f.1, n) refl

-- or the comparison of the outputs of one name, which stands beside none of these
paired_job : (settles : Bool) (a b : Text) (s : Settings) (assumed cycles after pair : Option Text) → is_some (begun_in settles a b s assumed cycles after) ≡ true → (not (is_some pair) || stands_alone settles assumed cycles after) ≡ true →
    is_some (paired_in settles a b s assumed cycles after pair) ≡ true
paired_job settles a b s assumed cycles after None begun fits = begun
paired_job settles a b s assumed cycles after (Some p) begun fits = rw fits refl

-- or that of latches which a file pairs
renamed_job : (settles : Bool) (a b : Text) (s : Settings) (assumed cycles after pair pairs : Option Text) → is_some (paired_in settles a b s assumed cycles after pair) ≡ true →
    (not (is_some pairs) || (s.expose && (stands_alone settles assumed cycles after && not (is_some pair)))) ≡ true → is_some (renamed_in settles a b s assumed cycles after pair pairs) ≡ true
renamed_job settles a b s assumed cycles after pair None paired fits = paired
renamed_job settles a b s assumed cycles after pair (Some p) paired fits = rw fits refl

abbrev settings_of : List Row → ℕ → Mode → Settings
settings_of rows n m = record { mode = m; expose = is_set (codes "expose") rows; conflicts = n; reset = is_set (codes "reset") rows }

-- what stands of each subcommand makes its task
check_job : (rows : List Row) (a b n : Text) → first_of (codes "a") rows ≡ Some a → first_of (codes "b") rows ≡ Some b → first_of (codes "conflicts") rows ≡ Some n → value_kinds false most_conflicts n ≡ [] →
    ((w : Text) → first_of (codes "cycles") rows ≡ Some w → value_kinds false most_cycles w ≡ []) → (is_some (mode_in rows) && (cycles_fit rows && (after_fits rows && (pair_fits rows && pairs_fit rows)))) ≡ true → is_some (check_in rows) ≡ true
check_job rows a b n ea eb en passes few known = by (mode_in rows) refl both.0
  where
    both : (is_some (mode_in rows) ≡ true) × (cycles_fit rows ≡ true) × (after_fits rows ≡ true) × (pair_fits rows ≡ true) × (pairs_fit rows ≡ true)
    both =
        let one = both_hold (is_some (mode_in rows)) (cycles_fit rows && (after_fits rows && (pair_fits rows && pairs_fit rows))) known in
        let two = both_hold (cycles_fit rows) (after_fits rows && (pair_fits rows && pairs_fit rows)) one.1 in
        let three = both_hold (after_fits rows) (pair_fits rows && pairs_fit rows) two.1 in
        let four = both_hold (pair_fits rows) (pairs_fit rows) three.1 in
        (one.0, two.0, three.0, four.0, four.1)

    conflicts : conflicts_in rows ≡ Some (digits_value 10 (without_leading_plus n))
    conflicts = ap (option_and_then (number_of most_conflicts)) en ∙ number_known most_conflicts n passes

    fits : (m : Mode) (w : Text) → first_of (codes "cycles") rows ≡ Some w → (value_kinds false most_cycles w ≡ []) × (is_set (codes "reset") rows ≡ true)
    fits m w e = (few w e, given (first_of (codes "cycles") rows) e both.1)
      where
        given : (o : Option Text) → o ≡ Some w → cycles_given rows o ≡ true → is_set (codes "reset") rows ≡ true
        given None k h = absurd (cc)
        given (Some x) k h = h

    by : (m : Option Mode) → mode_in rows ≡ m → is_some m ≡ true → is_some (check_in rows) ≡ true
    by None e h = absurd (true≢false (sym h))
    by (Some m) e h = rw (ea, eb, e, conflicts)
        (renamed_job (is_set (codes "settles") rows) a b (settings_of rows (digits_value 10 (without_leading_plus n)) m) (first_of (codes "assume") rows) (first_of (codes "cycles") rows) (first_of (codes "after") rows) (first_of (codes "pair") rows) (first_of (codes "pairs") rows)
        (paired_job (is_set (codes "settles") rows) a b (settings_of rows (digits_value 10 (without_leading_plus n)) m) (first_of (codes "assume") rows) (first_of (codes "cycles") rows) (first_of (codes "after") rows) (first_of (codes "pair") rows)
        (begun_job (is_set (codes "settles") rows) a b (settings_of rows (digits_value 10 (without_leading_plus n)) m) (first_of (codes "assume") rows) (first_of (codes "cycles") rows) (first_of (codes "after") rows) (fits m) both.2) both.3) both.4)

graph_job : (rows : List Row) (a : Text) → first_of (codes "a") rows ≡ Some a → is_some (mode_in rows) ≡ true → is_some (graph_in rows) ≡ true
graph_job rows a ea mode = by (mode_in rows) refl mode
  where
    by : (m : Option Mode) → mode_in rows ≡ m → is_some m ≡ true → is_some (graph_in rows) ≡ true
    by None e h = absurd (true≢false (sym h))
    by (Some m) e h = rw (ea, e) refl

run_job : (a s : Text) (mode : Mode) (power : Option Text) (reset : Bool) (after : Option Text) → run_fits reset after ≡ true → is_some (run_in a s mode power reset after) ≡ true
run_job a s mode power reset None h = refl
run_job a s mode power true (Some rows) h = refl
run_job a s mode power false (Some rows) h = h

sim_job : (rows : List Row) (a s : Text) → first_of (codes "a") rows ≡ Some a → first_of (codes "s") rows ≡ Some s → (is_some (mode_in rows) && sim_fits rows) ≡ true → is_some (sim_in rows) ≡ true
sim_job rows a s ea es known = let both = both_hold (is_some (mode_in rows)) (sim_fits rows) known in by (mode_in rows) refl both.0 both.1
  where
    by : (m : Option Mode) → mode_in rows ≡ m → is_some m ≡ true → sim_fits rows ≡ true → is_some (sim_in rows) ≡ true
    by None e h fits = absurd (true≢false (sym h))
    by (Some m) e h fits = rw (ea, es, e) (run_job a s m (first_of (codes "power") rows) (is_set (codes "reset") rows) (first_of (codes "after") rows) fits)

replayed_job : (a b s : Text) (settles reset : Bool) (after : Option Text) (mode : Option Mode) → replayed_fits reset after mode ≡ true → is_some (option_and_then (replayed_in a b s settles reset after) mode) ≡ true
replayed_job a b s settles reset after None h = absurd (true≢false (sym h))
replayed_job a b s settles false None (Some Plain) h = refl
replayed_job a b s settles false (Some rows) (Some Plain) h = h
replayed_job a b s settles true None (Some Plain) h = refl
replayed_job a b s settles true (Some rows) (Some Plain) h = refl
replayed_job a b s settles false None (Some Event) h = refl
replayed_job a b s settles false (Some rows) (Some Event) h = absurd (true≢false (sym h))
replayed_job a b s settles true after (Some Event) h = absurd (true≢false (sym h))

replay_job : (rows : List Row) (a b s : Text) → first_of (codes "a") rows ≡ Some a → first_of (codes "b") rows ≡ Some b → first_of (codes "s") rows ≡ Some s → replay_fits rows ≡ true → is_some (replay_in rows) ≡ true
replay_job rows a b s ea eb es fits = rw (ea, eb, es) (replayed_job a b s (is_set (codes "settles") rows) (is_set (codes "reset") rows) (first_of (codes "after") rows) (named_mode rows) fits)

settle_job : (rows : List Row) (a b s : Text) → first_of (codes "a") rows ≡ Some a → first_of (codes "b") rows ≡ Some b → first_of (codes "s") rows ≡ Some s → is_some (mode_in rows) ≡ true → is_some (settle_in rows) ≡ true
settle_job rows a b s ea eb es mode = by (mode_in rows) refl mode
  where
    by : (m : Option Mode) → mode_in rows ≡ m → is_some m ≡ true → is_some (settle_in rows) ≡ true
    by None e h = absurd (true≢false (sym h))
    by (Some m) e h = rw (ea, eb, es, e) refl

gen_job : (rows : List Row) (n k : Text) → first_of (codes "n") rows ≡ Some n → value_kinds false any_number n ≡ [] → first_of (codes "conflicts") rows ≡ Some k → value_kinds false most_conflicts k ≡ [] → is_some (gen_in rows) ≡ true
gen_job rows n k en seeds ek passes = rw (en, number_known any_number n seeds, conflicts) refl
  where
    conflicts : conflicts_in rows ≡ Some (digits_value 10 (without_leading_plus k))
    conflicts = ap (option_and_then (number_of most_conflicts)) ek ∙ number_known most_conflicts k passes

lrat_job : (rows : List Row) (f l : Text) → first_of (codes "f") rows ≡ Some f → first_of (codes "l") rows ≡ Some l → is_some (lrat_in rows) ≡ true
lrat_job rows f l ef el = rw (ef, el) refl

cert_job : (rows : List Row) (a b pair n : Text) → first_of (codes "a") rows ≡ Some a → first_of (codes "b") rows ≡ Some b → first_of (codes "pair") rows ≡ Some pair → first_of (codes "conflicts") rows ≡ Some n → value_kinds false most_conflicts n ≡ [] → is_some (form_in rows) ≡ true → is_some (cert_in rows) ≡ true
cert_job rows a b pair n ea eb ep en passes form = by (form_in rows) refl form
  where
    conflicts : conflicts_in rows ≡ Some (digits_value 10 (without_leading_plus n))
    conflicts = ap (option_and_then (number_of most_conflicts)) en ∙ number_known most_conflicts n passes

    by : (f : Option Bool) → form_in rows ≡ f → is_some f ≡ true → is_some (cert_in rows) ≡ true
    by None e h = absurd (true≢false (sym h))
    by (Some f) e h = rw (ea, eb, ep, e, conflicts) refl

tied_job : (signals : Bool) (a b : Text) (n : ℕ) (assumed after : Option Text) → ties_fit signals assumed ≡ true → is_some (tied_in signals a b n assumed after) ≡ true
tied_job signals a b n None after h = refl
tied_job false a b n (Some c) after h = h
tied_job true a b n (Some c) None h = refl
tied_job true a b n (Some c) (Some s) h = refl

induct_job : (rows : List Row) (a b n : Text) → first_of (codes "a") rows ≡ Some a → first_of (codes "b") rows ≡ Some b → first_of (codes "conflicts") rows ≡ Some n → value_kinds false most_conflicts n ≡ [] → tied_fits rows ≡ true → is_some (induct_in rows) ≡ true
induct_job rows a b n ea eb en passes fits = rw (ea, eb, conflicts) (tied_job (is_set (codes "signals") rows) a b (digits_value 10 (without_leading_plus n)) (first_of (codes "assume") rows) (first_of (codes "after") rows) fits)
  where
    conflicts : conflicts_in rows ≡ Some (digits_value 10 (without_leading_plus n))
    conflicts = ap (option_and_then (number_of most_conflicts)) en ∙ number_known most_conflicts n passes

-- the subcommands as they are built
abbrev part : Shape → Shape
part s = built_leaf (inherited (with_leaf_noted (marked_built sec_app.top)) s)

-- where a subcommand's words have no fault, and its mode fits, they make a task
abbrev IsJob : Shape → Type 0
IsJob s = (words : List Text) → level_fault s [] nothing_held words false [] ≡ [] → bytes_eq s.name (codes "help") ≡ false → mode_fits s.name (rows_after s.rules [] words) ≡ true → is_some (task_in s.name (rows_after s.rules [] words)) ≡ true

check_own : EachRule (IsOwn (part check_app.top).rules) (part check_app.top).rules
check_own = ((refl, omega arith), ((refl, omega arith), ((refl, omega arith), ((refl, omega arith), ((refl, omega arith), ((refl, omega arith), ((refl, omega arith), ((refl, omega arith), ((refl, omega arith), ((refl, omega arith), ((refl, omega arith), ((refl, omega arith), ((refl, tt), tt)))))))))))))

check_is : IsJob (part check_app.top)
check_is words e help known =
    let c : List Rule = (part check_app.top).rules in
    let rows : List Row = rows_after c [] words in
    let read : IsRead (part check_app.top) rows = leaf_read (part check_app.top) check_own refl words e in
    let a = first_good c (codes "a") _ rows refl read.good (read.required (codes "a") _ refl refl) in
    let b = first_good c (codes "b") _ rows refl read.good (read.required (codes "b") _ refl refl) in
    let n = first_good c (codes "conflicts") _ rows refl read.good (read.defaulted (codes "conflicts") _ (codes "20000") [] refl refl) in
    check_job rows a.0 b.0 n.0 a.1 b.1 n.1 n.2 (λ w h. let k = first_good c (codes "cycles") _ rows refl read.good (first_has (codes "cycles") rows w h) in subst (λ (v : Text). value_kinds false most_cycles v ≡ []) (some_is (sym k.1 ∙ h)) k.2) known

graph_own : EachRule (IsOwn (part graph_app.top).rules) (part graph_app.top).rules
graph_own = ((refl, omega arith), ((refl, omega arith), ((refl, tt), tt)))

graph_is : IsJob (part graph_app.top)
graph_is words e help known =
    let c : List Rule = (part graph_app.top).rules in
    let rows : List Row = rows_after c [] words in
    let read : IsRead (part graph_app.top) rows = leaf_read (part graph_app.top) graph_own refl words e in
    let a = first_good c (codes "a") _ rows refl read.good (read.required (codes "a") _ refl refl) in
    graph_job rows a.0 a.1 known

sim_own : EachRule (IsOwn (part sim_app.top).rules) (part sim_app.top).rules
sim_own = ((refl, omega arith), ((refl, omega arith), ((refl, omega arith), ((refl, omega arith), ((refl, omega arith), ((refl, omega arith), ((refl, tt), tt)))))))

sim_is : IsJob (part sim_app.top)
sim_is words e help known =
    let c : List Rule = (part sim_app.top).rules in
    let rows : List Row = rows_after c [] words in
    let read : IsRead (part sim_app.top) rows = leaf_read (part sim_app.top) sim_own refl words e in
    let a = first_good c (codes "a") _ rows refl read.good (read.required (codes "a") _ refl refl) in
    let s = first_good c (codes "s") _ rows refl read.good (read.required (codes "s") _ refl refl) in
    sim_job rows a.0 s.0 a.1 s.1 known

replay_own : EachRule (IsOwn (part replay_app.top).rules) (part replay_app.top).rules
replay_own = ((refl, omega arith), ((refl, omega arith), ((refl, omega arith), ((refl, omega arith), ((refl, omega arith), ((refl, omega arith), ((refl, omega arith), ((refl, tt), tt))))))))

replay_is : IsJob (part replay_app.top)
replay_is words e help known =
    let c : List Rule = (part replay_app.top).rules in
    let rows : List Row = rows_after c [] words in
    let read : IsRead (part replay_app.top) rows = leaf_read (part replay_app.top) replay_own refl words e in
    let a = first_good c (codes "a") _ rows refl read.good (read.required (codes "a") _ refl refl) in
    let b = first_good c (codes "b") _ rows refl read.good (read.required (codes "b") _ refl refl) in
    let s = first_good c (codes "s") _ rows refl read.good (read.required (codes "s") _ refl refl) in
    replay_job rows a.0 b.0 s.0 a.1 b.1 s.1 known

settle_own : EachRule (IsOwn (part settle_app.top).rules) (part settle_app.top).rules
settle_own = ((refl, omega arith), ((refl, omega arith), ((refl, omega arith), ((refl, omega arith), ((refl, tt), tt)))))

settle_is : IsJob (part settle_app.top)
settle_is words e help known =
    let c : List Rule = (part settle_app.top).rules in
    let rows : List Row = rows_after c [] words in
    let read : IsRead (part settle_app.top) rows = leaf_read (part settle_app.top) settle_own refl words e in
    let a = first_good c (codes "a") _ rows refl read.good (read.required (codes "a") _ refl refl) in
    let b = first_good c (codes "b") _ rows refl read.good (read.required (codes "b") _ refl refl) in
    let s = first_good c (codes "s") _ rows refl read.good (read.required (codes "s") _ refl refl) in
    settle_job rows a.0 b.0 s.0 a.1 b.1 s.1 known

gen_own : EachRule (IsOwn (part gen_app.top).rules) (part gen_app.top).rules
gen_own = ((refl, omega arith), ((refl, omega arith), ((refl, omega arith), ((refl, tt), tt))))

gen_is : IsJob (part gen_app.top)
gen_is words e help known =
    let c : List Rule = (part gen_app.top).rules in
    let rows : List Row = rows_after c [] words in
    let read : IsRead (part gen_app.top) rows = leaf_read (part gen_app.top) gen_own refl words e in
    let n = first_good c (codes "n") _ rows refl read.good (read.required (codes "n") _ refl refl) in
    let k = first_good c (codes "conflicts") _ rows refl read.good (read.defaulted (codes "conflicts") _ (codes "20000") [] refl refl) in
    gen_job rows n.0 k.0 n.1 n.2 k.1 k.2

lrat_own : EachRule (IsOwn (part lrat_app.top).rules) (part lrat_app.top).rules
lrat_own = ((refl, omega arith), ((refl, omega arith), ((refl, tt), tt)))

lrat_is : IsJob (part lrat_app.top)
lrat_is words e help known =
    let c : List Rule = (part lrat_app.top).rules in
    let rows : List Row = rows_after c [] words in
    let read : IsRead (part lrat_app.top) rows = leaf_read (part lrat_app.top) lrat_own refl words e in
    let f = first_good c (codes "f") _ rows refl read.good (read.required (codes "f") _ refl refl) in
    let l = first_good c (codes "l") _ rows refl read.good (read.required (codes "l") _ refl refl) in
    lrat_job rows f.0 l.0 f.1 l.1

cert_own : EachRule (IsOwn (part cert_app.top).rules) (part cert_app.top).rules
cert_own = ((refl, omega arith), ((refl, omega arith), ((refl, omega arith), ((refl, omega arith), ((refl, omega arith), ((refl, tt), tt))))))

cert_is : IsJob (part cert_app.top)
cert_is words e help known =
    let c : List Rule = (part cert_app.top).rules in
    let rows : List Row = rows_after c [] words in
    let read : IsRead (part cert_app.top) rows = leaf_read (part cert_app.top) cert_own refl words e in
    let a = first_good c (codes "a") _ rows refl read.good (read.required (codes "a") _ refl refl) in
    let b = first_good c (codes "b") _ rows refl read.good (read.required (codes "b") _ refl refl) in
    let p = first_good c (codes "pair") _ rows refl read.good (read.required (codes "pair") _ refl refl) in
    let n = first_good c (codes "conflicts") _ rows refl read.good (read.defaulted (codes "conflicts") _ (codes "20000") [] refl refl) in
    cert_job rows a.0 b.0 p.0 n.0 a.1 b.1 p.1 n.1 n.2 known

induct_own : EachRule (IsOwn (part induct_app.top).rules) (part induct_app.top).rules
induct_own = ((refl, omega arith), ((refl, omega arith), ((refl, omega arith), ((refl, omega arith), ((refl, omega arith), ((refl, omega arith), ((refl, tt), tt)))))))

induct_is : IsJob (part induct_app.top)
induct_is words e help known =
    let c : List Rule = (part induct_app.top).rules in
    let rows : List Row = rows_after c [] words in
    let read : IsRead (part induct_app.top) rows = leaf_read (part induct_app.top) induct_own refl words e in
    let a = first_good c (codes "a") _ rows refl read.good (read.required (codes "a") _ refl refl) in
    let b = first_good c (codes "b") _ rows refl read.good (read.required (codes "b") _ refl refl) in
    let n = first_good c (codes "conflicts") _ rows refl read.good (read.defaulted (codes "conflicts") _ (codes "20000") [] refl refl) in
    induct_job rows a.0 b.0 n.0 a.1 b.1 n.1 n.2 known

help_is : IsJob (built_leaf help_shape)
help_is words e help known = absurd (true≢false help)

abbrev EachShape : (Shape → Type 0) → List Shape → Type 0
EachShape P [] = ⊤
EachShape P (s ∷ rest) = P s × EachShape P rest

shape_found : (P : Shape → Type 0) (test : Shape → Bool) (xs : List Shape) (s : Shape) → EachShape P xs → find test xs ≡ Some s → P s
shape_found P test [] s each h = absurd (cc)
shape_found P test (x ∷ xs) s each h = by (test x) refl (λ later. shape_found P test xs s each.1 later)
  where
    by : (b : Bool) → test x ≡ b → (find test xs ≡ Some s → P s) → P s
    by true e rest = (let same : Some x ≡ Some s = sym (ap (λ b. cond b (Some x) (find test xs)) e) ∙ h in let one : x ≡ s = cc in subst P one each.0)
    by false e rest = rest (sym (ap (λ b. cond b (Some x) (find test xs)) e) ∙ h)

-- a subcommand that is named, and isn't `help`, isn't the one for help
abbrev IsNamed : Shape → Type 0
IsNamed s = (name : Text) → answers_to name (label_of s) ≡ true → s.name ≡ name

named_alone : (s : Shape) → s.aliases ≡ [] → IsNamed s
named_alone s none name h = (bytes_eq-Decides s.name name).0 (by (bytes_eq s.name name) (subst (λ (xs : List Text). (bytes_eq s.name name || list_any (λ alias. bytes_eq alias name) xs) ≡ true) none h))
  where
    by : (b : Bool) → (b || false) ≡ true → b ≡ true
    by true k = refl
    by false k = k

find_passes : (test : Shape → Bool) (xs : List Shape) (s : Shape) → find test xs ≡ Some s → test s ≡ true
find_passes test [] s h = absurd (cc)
find_passes test (x ∷ xs) s h = by (test x) refl (λ later. find_passes test xs s later)
  where
    by : (b : Bool) → test x ≡ b → (find test xs ≡ Some s → test s ≡ true) → test s ≡ true
    by true e rest = (let same : Some x ≡ Some s = sym (ap (λ b. cond b (Some x) (find test xs)) e) ∙ h in let one : x ≡ s = cc in subst (λ y. test y ≡ true) one e)
    by false e rest = rest (sym (ap (λ b. cond b (Some x) (find test xs)) e) ∙ h)

subs_jobs : EachShape IsJob (built sec_app).subs
subs_jobs = (check_is, (graph_is, (sim_is, (replay_is, (settle_is, (gen_is, (lrat_is, (cert_is, (induct_is, (help_is, tt))))))))))

subs_named : EachShape IsNamed (built sec_app).subs
subs_named = (named_alone (part check_app.top) refl, (named_alone (part graph_app.top) refl, (named_alone (part sim_app.top) refl, (named_alone (part replay_app.top) refl, (named_alone (part settle_app.top) refl, (named_alone (part gen_app.top) refl, (named_alone (part lrat_app.top) refl, (named_alone (part cert_app.top) refl, (named_alone (part induct_app.top) refl, (named_alone (built_leaf help_shape) refl, tt))))))))))

-- the subcommand at which the walk stopped
stopped_job : (stop : Option (Text × List Text)) → IsNotHelp stop → entered_fault (built sec_app) stop ≡ [] → is_some (entered (built sec_app) stop) ≡ true → IfSome (entered (built sec_app) stop) (λ met. mode_fits met.0 met.1 ≡ true)
    → is_some (option_and_then (λ met. task_in met.0 met.1) (entered (built sec_app) stop)) ≡ true
stopped_job None not_help e some known = absurd (true≢false (sym some))
stopped_job (Some p) not_help e some known = by (find (λ s. answers_to p.0 (label_of s)) (built sec_app).subs) refl e some known
  where
    by : (o : Option Shape) → find (λ s. answers_to p.0 (label_of s)) (built sec_app).subs ≡ o → option_map_or (λ s. level_fault s [] nothing_held p.1 false []) o [] ≡ [] → is_some (option_map (λ s. rows_at s p.1) o) ≡ true
        → IfSome (option_map (λ s. rows_at s p.1) o) (λ met. mode_fits met.0 met.1 ≡ true) → is_some (option_and_then (λ met. task_in met.0 met.1) (option_map (λ s. rows_at s p.1) o)) ≡ true
    by None is k h m = absurd (true≢false (sym h))
    by (Some s) is k h m =
        let test : Shape → Bool = λ x. answers_to p.0 (label_of x) in
        let name : s.name ≡ p.0 = shape_found IsNamed test (built sec_app).subs s subs_named is p.0 (find_passes test (built sec_app).subs s is) in
        shape_found IsJob test (built sec_app).subs s subs_jobs is p.1 k (subst (λ (x : Text). bytes_eq x (codes "help") ≡ false) (sym name) not_help) m

-- the command as it is built, where the walk over the words ends, and the faults behind it
abbrev whole : App
whole = built sec_app

abbrev whole_end : List Text → Walk
whole_end words = walk whole.top.rules (names_of whole) nothing_held words

abbrev whole_settle : List Text → Kinds
whole_settle words = settle_fault whole.top.rules whole.top.args_override_self (whole_end words).held

abbrev whole_default : List Text → Kinds
whole_default words = defaults_fault (settled whole.top.rules (whole_end words).held).rows whole.top.rules

abbrev whole_check : List Text → Kinds
whole_check words = check_fault whole.top (finished whole.top.rules (whole_end words).held) (is_some (entered whole (whole_end words).stopped))

pub taken_job : (words : List Text) → fault_of sec_app words ≡ [] → HasFitMode words → is_some (job_of words) ≡ true
taken_job words e known = ap (λ (ks : Kinds). is_some (cond (length ks == 0) (option_and_then (λ met. task_in met.0 met.1) (subcommand_of sec_app words)) None)) e ∙ stopped_job (whole_end words).stopped not_help below has known
  where
    walks : walk_fault whole.top (names_of whole) (walk_from nothing_held) words ≡ []
    walks = else_first (walk_fault whole.top (names_of whole) (walk_from nothing_held) words) (or_else (entered_fault whole (whole_end words).stopped) (or_else (whole_settle words) (or_else (whole_default words) (whole_check words)))) e

    after : or_else (entered_fault whole (whole_end words).stopped) (or_else (whole_settle words) (or_else (whole_default words) (whole_check words))) ≡ []
    after = else_next (walk_fault whole.top (names_of whole) (walk_from nothing_held) words) (or_else (entered_fault whole (whole_end words).stopped) (or_else (whole_settle words) (or_else (whole_default words) (whole_check words)))) e

    below : entered_fault whole (whole_end words).stopped ≡ []
    below = else_first (entered_fault whole (whole_end words).stopped) (or_else (whole_settle words) (or_else (whole_default words) (whole_check words))) after

    checks : (whole_check words) ≡ []
    checks = else_next (whole_default words) (whole_check words) (else_next (whole_settle words) (or_else (whole_default words) (whole_check words)) (else_next (entered_fault whole (whole_end words).stopped) (or_else (whole_settle words) (or_else (whole_default words) (whole_check words))) after))

    has : is_some (entered whole (whole_end words).stopped) ≡ true
    has = by (is_some (entered whole (whole_end words).stopped)) (second_check (not (is_some (entered whole (whole_end words).stopped)) && (whole.top.arg_required_else_help && not (list_any (λ r. explicit_source r.source) (finished whole.top.rules (whole_end words).held)))) (not (is_some (entered whole (whole_end words).stopped)) && whole.top.subcommand_required)
        (not (whole.top.subcommand_negates_reqs && is_some (entered whole (whole_end words).stopped)) && list_any (λ x. x.required && not (is_given x.id (finished whole.top.rules (whole_end words).held))) whole.top.rules) checks)
      where
        by : (b : Bool) → (not b && true) ≡ false → b ≡ true
        by true k = refl
        by false k = absurd (true≢false k)

    not_help : IsNotHelp (whole_end words).stopped
    not_help = no_help_walk whole.top (names_of whole) refl words (walk_from nothing_held) walks tt
