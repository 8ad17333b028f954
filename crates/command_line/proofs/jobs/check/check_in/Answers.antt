-- The search is the job of the words where the last cycle is named and no stimulus is.
use Rattle.std.specs.Prelude.{IfOk}
use Rattle.std.proofs.Common.{◌≡◌, List, refl, sym, subst, codes, Option, Some, None}
use Rattle.clap.specs.Words.{Row, Text, first_of, rows_of, found_of}
use Rattle.sec_base.specs.declared.settings.Settings.{Settings}
use Rattle.command_line.specs.declared.task.Task.{Task}
use Rattle.command_line.specs.Jobs.{check_in, search_in, settings_in}
use Rattle.command_line.proofs.jobs.check.check_in.Goals as goal

searched : (rows : List Row) (a b cycles : Text) (settings : Settings) (assumed : Option Text) → Some a ≡ first_of (codes "a") rows → Some b ≡ first_of (codes "b") rows → Some settings ≡ settings_in rows → assumed ≡ first_of (codes "assume") rows →
    None ≡ first_of (codes "after") rows → None ≡ first_of (codes "pair") rows → None ≡ first_of (codes "pairs") rows → Some cycles ≡ first_of (codes "cycles") rows → search_in a b settings assumed cycles ≡ check_in rows
searched rows a b cycles settings assumed left right set under after none apart last = rw (sym left) (rw (sym right) (rw (sym set) (rw (sym under) (rw (sym after) (rw (sym none) (rw (sym apart) (rw (sym last) refl)))))))

pub returns-in-Some-word-5 : goal.returns-in-Some-word-5
returns-in-Some-word-5 c =
    subst (λ (task : Option Task). IfOk c.search_in.result (λ t. t ≡ task))
    (searched (rows_of (found_of c.args.matches.now)) c.in-Some.a.now c.in-Some-word.b.now c.in-Some-word-5.cycles.now c.in-Some-settings_in.settings _ c.in-Some.ensures c.in-Some-word.ensures c.in-Some-settings_in.ensures c.word-assumed.ensures c.in-None.ensures c.in_default-word-3.ensures c.in_default-word-2.ensures
    c.in-Some-word-5.ensures) c.search_in.ensures
