-- A job of the words allows at most 200,000 conflicts; where runs begin with initial values it cuts no latch open, and its mode is plain.
use Rattle.std.specs.Prelude.{◌==◌, ◌&&◌, ◌||◌, option_and_then, option_map, codes, bytes_eq, IfSome, not, is_some}
use Rattle.std.specs.Str.Parse.{digits_value, without_leading_plus}
use Rattle.clap.specs.Words.{Row, Text, fault_of, first_of, subcommand_of}
use Rattle.clap.specs.ValueTests.{accepts}
use Rattle.std.proofs.Common.{◌≡◌, ℕ, ◌≤◌, length, Bool, true, false, cond, List, refl, sym, ◌∙◌, subst, inl, inr, ◌⊎◌, Option, Some, None}
use Rattle.clap.proofs.ValueTestLemmas.{accepts-Accepts}
use Rattle.circuit_theory.specs.declared.Mode.{Mode}
use Rattle.circuit_theory.specs.declared.Mode.TheVariants.{Plain, Event}
use Rattle.sec_base.specs.declared.settings.Settings.{Settings}
use Rattle.command_line.specs.declared.task.Task.{Task}
use Rattle.command_line.specs.declared.task.Task.TheVariants as task
use Rattle.command_line.specs.command_words.Command.{sec_app, most_conflicts, most_cycles, any_number}
use Rattle.command_line.specs.Jobs.{task_in, check_in, compared_in, checked_in, begun_in, paired_in, stands_alone, graph_in, run_in, sim_in, replayed_in, replay_in, settle_in, gen_in, lrat_in, cert_in, induct_in, form_in, settings_in, conflicts_in, mode_in, named_mode, mode_of, refuses_reset, number_of, is_set, with_word, last_in, inducted_in, tied_in, searched_in, renamed_in}
use Rattle.command_line.specs.Allowed.{IsAllowed, JobsAreAllowed}

some_is : {X : Type 0} {x y : X} → Some x ≡ Some y → x ≡ y
some_is q = cc

-- what was made from something was made from it
and_then_some : {X Y : Type 0} (f : X → Option Y) (o : Option X) (y : Y) → option_and_then f o ≡ Some y → (x : X) × (o ≡ Some x) × (f x ≡ Some y)
and_then_some f None y e = absurd (cc)
and_then_some f (Some x) y e = (x, refl, e)

map_some : {X Y : Type 0} (f : X → Y) (o : Option X) (y : Y) → option_map f o ≡ Some y → (x : X) × (o ≡ Some x) × (f x ≡ y)
map_some f None y e = absurd (cc)
map_some f (Some x) y e = (x, refl, some_is e)

-- a choice gives what one of the two gives
either : {X : Type 0} (b : Bool) (o p : Option X) (x : X) → cond b o p ≡ Some x → (o ≡ Some x) ⊎ (p ≡ Some x)
either true o p x e = inl e
either false o p x e = inr e

where_true : {X : Type 0} (b : Bool) (o : Option X) (x : X) → cond b o None ≡ Some x → (b ≡ true) × (o ≡ Some x)
where_true true o x e = (refl, e)
where_true false o x e = absurd (cc)

few : (rows : List Row) (n : ℕ) → conflicts_in rows ≡ Some n → n ≤ 200000
few rows n e =
    let word = and_then_some (number_of most_conflicts) (first_of (codes "conflicts") rows) n e in
    let number = where_true (accepts false most_conflicts word.0) (Some (digits_value 10 (without_leading_plus word.0))) n word.2 in
    subst (λ (k : ℕ). k ≤ 200000) (some_is number.1) (accepts-Accepts false most_conflicts word.0 number.0).3

abbrev settings_of : List Row → Mode → ℕ → Settings
settings_of rows mode conflicts = record { mode = mode; expose = is_set (codes "expose") rows; conflicts = conflicts; reset = is_set (codes "reset") rows }

-- `--reset` stands beside no `--expose` and no `--settles`
plain_alone : {m : Mode} (reset expose settles : Bool) → reset ≡ true → cond (reset && (expose || settles)) None (Some Plain) ≡ Some m → (expose ≡ false) × (settles ≡ false)
plain_alone true false false is e = (refl, refl)
plain_alone true false true is e = absurd (cc)
plain_alone true true settles is e = absurd (cc)
plain_alone false expose settles is e = absurd (cc)

event_unset : {m : Mode} (reset : Bool) → reset ≡ true → cond (reset && true) None (Some Event) ≡ Some m → ⊥
event_unset true is e = cc
event_unset false is e = cc

alone : (rows : List Row) (m : Mode) → mode_in rows ≡ Some m → is_set (codes "reset") rows ≡ true → (is_set (codes "expose") rows ≡ false) × (is_set (codes "settles") rows ≡ false)
alone rows m e reset =
    let met = and_then_some (λ mode. cond (is_set (codes "reset") rows && refuses_reset rows mode) None (Some mode)) (option_and_then mode_of (first_of (codes "mode") rows)) m e in
    by met.0 met.2
  where
    by : (mode : Mode) → cond (is_set (codes "reset") rows && refuses_reset rows mode) None (Some mode) ≡ Some m → (is_set (codes "expose") rows ≡ false) × (is_set (codes "settles") rows ≡ false)
    by Plain h = plain_alone (is_set (codes "reset") rows) (is_set (codes "expose") rows) (is_set (codes "settles") rows) reset h
    by Event h = absurd (event_unset (is_set (codes "reset") rows) reset h)

-- and no event mode
plain_is : {m : Mode} (b : Bool) → cond b None (Some Plain) ≡ Some m → m ≡ Plain
plain_is true e = absurd (cc)
plain_is false e = cc

plain : (rows : List Row) (m : Mode) → mode_in rows ≡ Some m → is_set (codes "reset") rows ≡ true → m ≡ Plain
plain rows m e reset =
    let met = and_then_some (λ mode. cond (is_set (codes "reset") rows && refuses_reset rows mode) None (Some mode)) (option_and_then mode_of (first_of (codes "mode") rows)) m e in
    by met.0 met.2
  where
    by : (mode : Mode) → cond (is_set (codes "reset") rows && refuses_reset rows mode) None (Some mode) ≡ Some m → m ≡ Plain
    by Plain h = plain_is (is_set (codes "reset") rows && (is_set (codes "expose") rows || is_set (codes "settles") rows)) h
    by Event h = absurd (event_unset (is_set (codes "reset") rows) reset h)

abbrev AreAllowed : Settings → Type 0
AreAllowed s = (s.conflicts ≤ 200000) × (s.reset ≡ true → s.expose ≡ false) × (s.reset ≡ true → s.mode ≡ Plain)

allowed_settings : (rows : List Row) (s : Settings) → settings_in rows ≡ Some s → AreAllowed s
allowed_settings rows s e =
    let mode = and_then_some (λ m. option_map (settings_of rows m) (conflicts_in rows)) (mode_in rows) s e in
    let conflicts = map_some (settings_of rows mode.0) (conflicts_in rows) s mode.2 in
    subst AreAllowed conflicts.2 (few rows conflicts.0 conflicts.1, (λ reset. (alone rows mode.0 mode.1 reset).0), plain rows mode.0 mode.1)

-- with `--settles` runs don't begin with initial values
settles_always : (rows : List Row) (s : Settings) → settings_in rows ≡ Some s → is_set (codes "settles") rows ≡ true → s.reset ≡ false
settles_always rows s e settles =
    let mode = and_then_some (λ m. option_map (settings_of rows m) (conflicts_in rows)) (mode_in rows) s e in
    let conflicts = map_some (settings_of rows mode.0) (conflicts_in rows) s mode.2 in
    subst (λ (z : Settings). z.reset ≡ false) conflicts.2 (by (is_set (codes "reset") rows) (λ reset. (alone rows mode.0 mode.1 reset).1))
  where
    true_not_false : true ≡ false → ⊥
    true_not_false q = cc

    by : (reset : Bool) → (reset ≡ true → is_set (codes "settles") rows ≡ false) → reset ≡ false
    by true none = absurd (true_not_false (sym settles ∙ none refl))
    by false none = refl

allowed_compared : (settles : Bool) (a b : Text) (s : Settings) (assumed : Option Text) → AreAllowed s → (settles ≡ true → s.reset ≡ false) → IsAllowed (compared_in settles a b s assumed)
allowed_compared false a b s assumed h always = h
allowed_compared true a b s assumed h always = (h.0, always refl)

few_cycles : (word : Text) (n : ℕ) → number_of most_cycles word ≡ Some n → n ≤ 1000
few_cycles word n e =
    let number = where_true (accepts false most_cycles word) (Some (digits_value 10 (without_leading_plus word))) n e in
    subst (λ (k : ℕ). k ≤ 1000) (some_is number.1) (accepts-Accepts false most_cycles word number.0).3

-- a last cycle that is named
few_last : (cycles : Option Text) (last : Option ℕ) → last_in cycles ≡ Some last → IfSome last (λ n. n ≤ 1000)
few_last None last e = subst (λ (o : Option ℕ). IfSome o (λ n. n ≤ 1000)) (some_is e) tt
few_last (Some word) last e =
    let n = map_some (λ (k : ℕ). Some k) (number_of most_cycles word) last e in
    subst (λ (o : Option ℕ). IfSome o (λ k. k ≤ 1000)) n.2 (few_cycles word n.0 n.1)

allowed_searched : (a b : Text) (assumed : Option Text) (n conflicts : ℕ) → (conflicts ≤ 200000) × (n ≤ 1000) → IsAllowed (searched_in a b assumed n conflicts)
allowed_searched a b None n conflicts h = h
allowed_searched a b (Some c) n conflicts h = h

-- a check, or a search
allowed_checked : (settles : Bool) (a b : Text) (s : Settings) (assumed cycles : Option Text) → AreAllowed s → (settles ≡ true → s.reset ≡ false) → (job : Task) → checked_in settles a b s assumed cycles ≡ Some job → IsAllowed job
allowed_checked settles a b s assumed None allowed always job e = subst IsAllowed (some_is e) (allowed_compared settles a b s assumed allowed always)
allowed_checked settles a b s assumed (Some word) allowed always job e =
    let set = where_true s.reset (option_map (λ n. searched_in a b assumed n s.conflicts) (number_of most_cycles word)) job e in
    let cycles = map_some (λ n. searched_in a b assumed n s.conflicts) (number_of most_cycles word) job set.1 in
    subst IsAllowed cycles.2 (allowed_searched a b assumed cycles.0 s.conflicts (allowed.0, few_cycles word cycles.0 cycles.1))

-- the same behind the rows of a stimulus, where one is named
allowed_begun : (settles : Bool) (a b : Text) (s : Settings) (assumed cycles after : Option Text) → AreAllowed s → (settles ≡ true → s.reset ≡ false) → (job : Task) → begun_in settles a b s assumed cycles after ≡ Some job → IsAllowed job
allowed_begun settles a b s assumed cycles None allowed always job e = allowed_checked settles a b s assumed cycles allowed always job e
allowed_begun settles a b s (Some c) None (Some z) allowed always job e = absurd (cc)
allowed_begun settles a b s (Some c) (Some word) (Some z) allowed always job e =
    let set = where_true s.reset (option_map (λ n. task.AfterUnder a b c z n s.conflicts) (number_of most_cycles word)) job e in
    let last = map_some (λ n. task.AfterUnder a b c z n s.conflicts) (number_of most_cycles word) job set.1 in
    subst IsAllowed last.2 (allowed.0, few_cycles word last.0 last.1)
allowed_begun settles a b s None cycles (Some z) allowed always job e =
    let set = where_true s.reset (option_map (λ n. task.After a b z n s.conflicts) (last_in cycles)) job e in
    let last = map_some (λ n. task.After a b z n s.conflicts) (last_in cycles) job set.1 in
    subst IsAllowed last.2 (allowed.0, few_last cycles last.0 last.1)

-- or the comparison of the outputs of one name
allowed_paired : (settles : Bool) (a b : Text) (s : Settings) (assumed cycles after pair : Option Text) → AreAllowed s → (settles ≡ true → s.reset ≡ false) → (job : Task) → paired_in settles a b s assumed cycles after pair ≡ Some job → IsAllowed job
allowed_paired settles a b s assumed cycles after None allowed always job e = allowed_begun settles a b s assumed cycles after allowed always job e
allowed_paired settles a b s assumed cycles after (Some pair) allowed always job e =
    let made = where_true (stands_alone settles assumed cycles after) (Some (task.CheckPair a b pair s)) job e in
    let here : IsAllowed (task.CheckPair a b pair s) = allowed in
    subst IsAllowed (some_is made.1) here

-- or that of latches which a file pairs
allowed_renamed : (settles : Bool) (a b : Text) (s : Settings) (assumed cycles after pair pairs : Option Text) → AreAllowed s → (settles ≡ true → s.reset ≡ false) → (job : Task) → renamed_in settles a b s assumed cycles after pair pairs ≡ Some job → IsAllowed job
allowed_renamed settles a b s assumed cycles after pair None allowed always job e = allowed_paired settles a b s assumed cycles after pair allowed always job e
allowed_renamed settles a b s assumed cycles after pair (Some pairs) allowed always job e =
    let made = where_true (s.expose && (stands_alone settles assumed cycles after && not (is_some pair))) (Some (task.CheckRenamed a b pairs s)) job e in
    let exposed : s.expose ≡ true = first_holds s.expose (stands_alone settles assumed cycles after && not (is_some pair)) made.0 in
    let here : IsAllowed (task.CheckRenamed a b pairs s) = (allowed.0, exposed, unset s.reset s.expose exposed allowed.1) in
    subst IsAllowed (some_is made.1) here
  where
    first_holds : (b c : Bool) → (b && c) ≡ true → b ≡ true
    first_holds true c h = refl
    first_holds false c h = absurd (cc)

    unset : (reset expose : Bool) → expose ≡ true → (reset ≡ true → expose ≡ false) → reset ≡ false
    unset false expose set none = refl
    unset true expose set none = let f = none refl in absurd (cc)

allowed_check : (rows : List Row) (job : Task) → check_in rows ≡ Some job → IsAllowed job
allowed_check rows job e =
    let assumed : Option Text = first_of (codes "assume") rows in
    let settles : Bool = is_set (codes "settles") rows in
    let cycles : Option Text = first_of (codes "cycles") rows in
    let after : Option Text = first_of (codes "after") rows in
    let pair : Option Text = first_of (codes "pair") rows in
    let pairs : Option Text = first_of (codes "pairs") rows in
    let a = and_then_some (λ x. with_word (codes "b") rows (λ y. option_and_then (λ s. renamed_in settles x y s assumed cycles after pair pairs) (settings_in rows))) (first_of (codes "a") rows) job e in
    let b = and_then_some (λ y. option_and_then (λ s. renamed_in settles a.0 y s assumed cycles after pair pairs) (settings_in rows)) (first_of (codes "b") rows) job a.2 in
    let settings = and_then_some (λ s. renamed_in settles a.0 b.0 s assumed cycles after pair pairs) (settings_in rows) job b.2 in
    allowed_renamed settles a.0 b.0 settings.0 assumed cycles after pair pairs (allowed_settings rows settings.0 settings.1) (settles_always rows settings.0 settings.1) job settings.2

allowed_graph : (rows : List Row) (job : Task) → graph_in rows ≡ Some job → IsAllowed job
allowed_graph rows job e =
    let a = and_then_some (λ x. option_map (task.Graph x) (mode_in rows)) (first_of (codes "a") rows) job e in
    let mode = map_some (task.Graph a.0) (mode_in rows) job a.2 in
    let allowed_here : IsAllowed (task.Graph a.0 mode.0) = tt in
    subst IsAllowed mode.2 allowed_here

allowed_run : (a s : Text) (mode : Mode) (power : Option Text) (reset : Bool) (after : Option Text) (job : Task) → run_in a s mode power reset after ≡ Some job → IsAllowed job
allowed_run a s mode power reset None job e = let here : IsAllowed (task.Sim a s mode power reset) = tt in subst IsAllowed (some_is e) here
allowed_run a s mode power true (Some rows) job e = let here : IsAllowed (task.SimAfter a s rows power) = tt in subst IsAllowed (some_is e) here
allowed_run a s mode power false (Some rows) job e = absurd (cc)

allowed_sim : (rows : List Row) (job : Task) → sim_in rows ≡ Some job → IsAllowed job
allowed_sim rows job e =
    let power : Option Text = first_of (codes "power") rows in
    let reset : Bool = is_set (codes "reset") rows in
    let after : Option Text = first_of (codes "after") rows in
    let a = and_then_some (λ x. with_word (codes "s") rows (λ y. option_and_then (λ m. run_in x y m power reset after) (mode_in rows))) (first_of (codes "a") rows) job e in
    let s = and_then_some (λ y. option_and_then (λ m. run_in a.0 y m power reset after) (mode_in rows)) (first_of (codes "s") rows) job a.2 in
    let mode = and_then_some (λ m. run_in a.0 s.0 m power reset after) (mode_in rows) job s.2 in
    allowed_run a.0 s.0 mode.0 power reset after job mode.2

allowed_replayed : (a b s : Text) (settles reset : Bool) (after : Option Text) (mode : Mode) (job : Task) → replayed_in a b s settles reset after mode ≡ Some job → IsAllowed job
allowed_replayed a b s settles false None mode job e = let here : IsAllowed (task.Replay a b s mode settles) = tt in subst IsAllowed (some_is e) here
allowed_replayed a b s settles false (Some rows) mode job e = absurd (cc)
allowed_replayed a b s settles true None Plain job e = let here : IsAllowed (task.ReplayReset a b s settles) = tt in subst IsAllowed (some_is e) here
allowed_replayed a b s settles true (Some rows) Plain job e = let here : IsAllowed (task.ReplayAfter a b s rows settles) = tt in subst IsAllowed (some_is e) here
allowed_replayed a b s settles true after Event job e = absurd (cc)

allowed_replay : (rows : List Row) (job : Task) → replay_in rows ≡ Some job → IsAllowed job
allowed_replay rows job e =
    let settles : Bool = is_set (codes "settles") rows in
    let reset : Bool = is_set (codes "reset") rows in
    let after : Option Text = first_of (codes "after") rows in
    let a = and_then_some (λ x. with_word (codes "b") rows (λ y. with_word (codes "s") rows (λ z. option_and_then (replayed_in x y z settles reset after) (named_mode rows)))) (first_of (codes "a") rows) job e in
    let b = and_then_some (λ y. with_word (codes "s") rows (λ z. option_and_then (replayed_in a.0 y z settles reset after) (named_mode rows))) (first_of (codes "b") rows) job a.2 in
    let s = and_then_some (λ z. option_and_then (replayed_in a.0 b.0 z settles reset after) (named_mode rows)) (first_of (codes "s") rows) job b.2 in
    let mode = and_then_some (replayed_in a.0 b.0 s.0 settles reset after) (named_mode rows) job s.2 in
    allowed_replayed a.0 b.0 s.0 settles reset after mode.0 job mode.2

allowed_settle : (rows : List Row) (job : Task) → settle_in rows ≡ Some job → IsAllowed job
allowed_settle rows job e =
    let a = and_then_some (λ x. with_word (codes "b") rows (λ y. with_word (codes "s") rows (λ z. option_map (task.Settle x y z) (mode_in rows)))) (first_of (codes "a") rows) job e in
    let b = and_then_some (λ y. with_word (codes "s") rows (λ z. option_map (task.Settle a.0 y z) (mode_in rows))) (first_of (codes "b") rows) job a.2 in
    let s = and_then_some (λ z. option_map (task.Settle a.0 b.0 z) (mode_in rows)) (first_of (codes "s") rows) job b.2 in
    let mode = map_some (task.Settle a.0 b.0 s.0) (mode_in rows) job s.2 in
    let allowed_here : IsAllowed (task.Settle a.0 b.0 s.0 mode.0) = tt in
    subst IsAllowed mode.2 allowed_here

allowed_gen : (rows : List Row) (job : Task) → gen_in rows ≡ Some job → IsAllowed job
allowed_gen rows job e =
    let regroup : Bool = is_set (codes "regroup") rows in
    let n = and_then_some (λ x. option_and_then (λ y. option_map (task.Gen y regroup) (conflicts_in rows)) (number_of any_number x)) (first_of (codes "n") rows) job e in
    let seed = and_then_some (λ y. option_map (task.Gen y regroup) (conflicts_in rows)) (number_of any_number n.0) job n.2 in
    let conflicts = map_some (task.Gen seed.0 regroup) (conflicts_in rows) job seed.2 in
    subst IsAllowed conflicts.2 (few rows conflicts.0 conflicts.1)

allowed_lrat : (rows : List Row) (job : Task) → lrat_in rows ≡ Some job → IsAllowed job
allowed_lrat rows job e =
    let f = and_then_some (λ x. option_map (task.Lrat x) (first_of (codes "l") rows)) (first_of (codes "f") rows) job e in
    let l = map_some (task.Lrat f.0) (first_of (codes "l") rows) job f.2 in
    let allowed_here : IsAllowed (task.Lrat f.0 l.0) = tt in
    subst IsAllowed l.2 allowed_here

allowed_cert : (rows : List Row) (job : Task) → cert_in rows ≡ Some job → IsAllowed job
allowed_cert rows job e =
    let rest : Text → Text → Text → Option Task = λ x y p. option_and_then (λ refuted. option_map (task.Cert x y p refuted) (conflicts_in rows)) (form_in rows) in
    let a = and_then_some (λ x. with_word (codes "b") rows (λ y. with_word (codes "pair") rows (rest x y))) (first_of (codes "a") rows) job e in
    let b = and_then_some (λ y. with_word (codes "pair") rows (rest a.0 y)) (first_of (codes "b") rows) job a.2 in
    let pair = and_then_some (rest a.0 b.0) (first_of (codes "pair") rows) job b.2 in
    let refuted = and_then_some (λ r. option_map (task.Cert a.0 b.0 pair.0 r) (conflicts_in rows)) (form_in rows) job pair.2 in
    let conflicts = map_some (task.Cert a.0 b.0 pair.0 refuted.0) (conflicts_in rows) job refuted.2 in
    subst IsAllowed conflicts.2 (few rows conflicts.0 conflicts.1)

allowed_inducted : (signals : Bool) (a b : Text) (n : ℕ) (after : Option Text) → n ≤ 200000 → IsAllowed (inducted_in signals a b n after)
allowed_inducted false a b n None h = h
allowed_inducted true a b n None h = h
allowed_inducted false a b n (Some s) h = h
allowed_inducted true a b n (Some s) h = h

allowed_tied : (signals : Bool) (a b : Text) (n : ℕ) (assumed after : Option Text) → n ≤ 200000 → (job : Task) → tied_in signals a b n assumed after ≡ Some job → IsAllowed job
allowed_tied signals a b n None after h job e = subst IsAllowed (some_is e) (allowed_inducted signals a b n after h)
allowed_tied false a b n (Some c) after h job e = absurd (cc)
allowed_tied true a b n (Some c) None h job e = let here : IsAllowed (task.InductUnder a b c n) = h in subst IsAllowed (some_is e) here
allowed_tied true a b n (Some c) (Some s) h job e = let here : IsAllowed (task.InductAfterUnder a b c s n) = h in subst IsAllowed (some_is e) here

allowed_induct : (rows : List Row) (job : Task) → induct_in rows ≡ Some job → IsAllowed job
allowed_induct rows job e =
    let signals : Bool = is_set (codes "signals") rows in
    let assumed : Option Text = first_of (codes "assume") rows in
    let after : Option Text = first_of (codes "after") rows in
    let a = and_then_some (λ x. with_word (codes "b") rows (λ y. option_and_then (λ n. tied_in signals x y n assumed after) (conflicts_in rows))) (first_of (codes "a") rows) job e in
    let b = and_then_some (λ y. option_and_then (λ n. tied_in signals a.0 y n assumed after) (conflicts_in rows)) (first_of (codes "b") rows) job a.2 in
    let conflicts = and_then_some (λ n. tied_in signals a.0 b.0 n assumed after) (conflicts_in rows) job b.2 in
    allowed_tied signals a.0 b.0 conflicts.0 assumed after (few rows conflicts.0 conflicts.1) job conflicts.2

-- the tasks of the subcommands behind the seventh, the sixth, the fifth, the fourth, the third, the second and the first
abbrev certs : List ℕ → List Row → Option Task
certs name rows = cond (bytes_eq name (codes "cert")) (cert_in rows) (cond (bytes_eq name (codes "induct")) (induct_in rows) None)

abbrev lrats : List ℕ → List Row → Option Task
lrats name rows = cond (bytes_eq name (codes "lrat")) (lrat_in rows) (certs name rows)

abbrev gens : List ℕ → List Row → Option Task
gens name rows = cond (bytes_eq name (codes "gen")) (gen_in rows) (lrats name rows)

abbrev settles : List ℕ → List Row → Option Task
settles name rows = cond (bytes_eq name (codes "settle")) (settle_in rows) (gens name rows)

abbrev replays : List ℕ → List Row → Option Task
replays name rows = cond (bytes_eq name (codes "replay")) (replay_in rows) (settles name rows)

abbrev sims : List ℕ → List Row → Option Task
sims name rows = cond (bytes_eq name (codes "sim")) (sim_in rows) (replays name rows)

abbrev graphs : List ℕ → List Row → Option Task
graphs name rows = cond (bytes_eq name (codes "graph")) (graph_in rows) (sims name rows)

allowed_certs : (name : List ℕ) (rows : List Row) (job : Task) → certs name rows ≡ Some job → IsAllowed job
allowed_certs name rows job e = go (either (bytes_eq name (codes "cert")) (cert_in rows) (cond (bytes_eq name (codes "induct")) (induct_in rows) None) job e)
  where
    go : (cert_in rows ≡ Some job) ⊎ (cond (bytes_eq name (codes "induct")) (induct_in rows) None ≡ Some job) → IsAllowed job
    go (inl h) = allowed_cert rows job h
    go (inr h) = allowed_induct rows job (where_true (bytes_eq name (codes "induct")) (induct_in rows) job h).1

allowed_lrats : (name : List ℕ) (rows : List Row) (job : Task) → lrats name rows ≡ Some job → IsAllowed job
allowed_lrats name rows job e = go (either (bytes_eq name (codes "lrat")) (lrat_in rows) (certs name rows) job e)
  where
    go : (lrat_in rows ≡ Some job) ⊎ (certs name rows ≡ Some job) → IsAllowed job
    go (inl h) = allowed_lrat rows job h
    go (inr h) = allowed_certs name rows job h

allowed_gens : (name : List ℕ) (rows : List Row) (job : Task) → gens name rows ≡ Some job → IsAllowed job
allowed_gens name rows job e = go (either (bytes_eq name (codes "gen")) (gen_in rows) (lrats name rows) job e)
  where
    go : (gen_in rows ≡ Some job) ⊎ (lrats name rows ≡ Some job) → IsAllowed job
    go (inl h) = allowed_gen rows job h
    go (inr h) = allowed_lrats name rows job h

allowed_settles : (name : List ℕ) (rows : List Row) (job : Task) → settles name rows ≡ Some job → IsAllowed job
allowed_settles name rows job e = go (either (bytes_eq name (codes "settle")) (settle_in rows) (gens name rows) job e)
  where
    go : (settle_in rows ≡ Some job) ⊎ (gens name rows ≡ Some job) → IsAllowed job
    go (inl h) = allowed_settle rows job h
    go (inr h) = allowed_gens name rows job h

allowed_replays : (name : List ℕ) (rows : List Row) (job : Task) → replays name rows ≡ Some job → IsAllowed job
allowed_replays name rows job e = go (either (bytes_eq name (codes "replay")) (replay_in rows) (settles name rows) job e)
  where
    go : (replay_in rows ≡ Some job) ⊎ (settles name rows ≡ Some job) → IsAllowed job
    go (inl h) = allowed_replay rows job h
    go (inr h) = allowed_settles name rows job h

allowed_sims : (name : List ℕ) (rows : List Row) (job : Task) → sims name rows ≡ Some job → IsAllowed job
allowed_sims name rows job e = go (either (bytes_eq name (codes "sim")) (sim_in rows) (replays name rows) job e)
  where
    go : (sim_in rows ≡ Some job) ⊎ (replays name rows ≡ Some job) → IsAllowed job
    go (inl h) = allowed_sim rows job h
    go (inr h) = allowed_replays name rows job h

allowed_graphs : (name : List ℕ) (rows : List Row) (job : Task) → graphs name rows ≡ Some job → IsAllowed job
allowed_graphs name rows job e = go (either (bytes_eq name (codes "graph")) (graph_in rows) (sims name rows) job e)
  where
    go : (graph_in rows ≡ Some job) ⊎ (sims name rows ≡ Some job) → IsAllowed job
    go (inl h) = allowed_graph rows job h
    go (inr h) = allowed_sims name rows job h

allowed_task : (name : List ℕ) (rows : List Row) (job : Task) → task_in name rows ≡ Some job → IsAllowed job
allowed_task name rows job e = go (either (bytes_eq name (codes "check")) (check_in rows) (graphs name rows) job e)
  where
    go : (check_in rows ≡ Some job) ⊎ (graphs name rows ≡ Some job) → IsAllowed job
    go (inl h) = allowed_check rows job h
    go (inr h) = allowed_graphs name rows job h

-- what stands behind a job of the words
pub is_allowed : JobsAreAllowed
is_allowed words job e =
    let taken = where_true (length (fault_of sec_app words) == 0) (option_and_then (λ met. task_in met.0 met.1) (subcommand_of sec_app words)) job e in
    let met = and_then_some (λ m. task_in m.0 m.1) (subcommand_of sec_app words) job taken.1 in
    allowed_task met.0.0 met.0.1 job met.2
