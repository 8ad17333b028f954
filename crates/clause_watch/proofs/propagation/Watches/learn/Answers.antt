use Rattle.std.proofs.Common.{◌≡◌, ℕ, ◌<◌, ◌≤◌, List, length, sym, ap, subst, arith, refl, Some, [], ◌∷◌, ◌++◌}
use Rattle.std.specs.List.{Contains}
use Rattle.std.proofs.lemmas.List.Elements.{All-contains}
use Rattle.clause_base.specs.Literals.{Literal}
use Rattle.clause_base.specs.Clauses.{IsClause}
use Rattle.clause_watch.specs.Range.{AllInRange}
use Rattle.clause_watch.specs.TwoWatches.{AreOwn, IsPushed}
use Rattle.clause_watch.specs.Trails.{FreeBefore}
use Rattle.clause_watch.specs.Watching.{IsWatched}
use Rattle.clause_watch.specs.declared.entry.Entry.{Entry}
use Rattle.clause_watch.proofs.Trails.{entry_of}
use Rattle.clause_watch.proofs.Literals.{row_in_range}
use Rattle.clause_watch.proofs.Lessons.{learnt_free, learnt_own, learnt_pushed, on_ok}
use Rattle.clause_watch.proofs.propagation.Watches.learn.Goals as goal

-- the literal's variable is in range
in_range : (variables : ℕ) (c : List Literal) (l : Literal) → AllInRange variables c → Contains c l → (0 < l.variable) × (l.variable ≤ variables)
in_range variables c l range holds = All-contains (λ (x : Literal). (0 < x.variable) × (x.variable ≤ variables)) c l range holds

pub push-requires-clause-numbers : goal.push-requires-clause-numbers
push-requires-clause-numbers c = omega (arith, c.requires.numbers)

pub push-requires-clause-clause : goal.push-requires-clause-clause
push-requires-clause-clause c = subst IsClause (sym c.as_slice.ensures.value) c.as_slice.ensures.clause

pub push-requires-2-clause-above : goal.push-requires-2-clause-above
push-requires-2-clause-above c = (in_range c.args.trail.now.variables c.args.clause c.args.literal c.requires.range c.requires.asserting.holds).0

pub push-requires-2-clause-within : goal.push-requires-2-clause-within
push-requires-2-clause-within c = omega (arith, (in_range c.args.trail.now.variables c.args.clause c.args.literal c.requires.range c.requires.asserting.holds).1, c.cut.ensures.variables)

pub push-requires-clause-own : goal.push-requires-clause-own
push-requires-clause-own c = λ long.
    let same = c.as_slice.ensures.value in
    subst (λ (x : List Literal). AreOwn x c.learnt_pair.result) (sym same)
    (learnt_own c.args.self.now.clauses.known c.args.trail.now.entries c.args.clause c.args.literal c.args.second c.args.keep c.learnt_pair.result c.requires.asserting c.learnt_pair.ensures (omega (arith, long, ap (λ (x : List Literal). length x) same)))

pub push-requires-clause-rows : goal.push-requires-clause-rows
push-requires-clause-rows c = λ l holds.
    row_in_range c.args.trail.now.variables c.args.clause l c.args.self.now.clauses.rows c.requires.range (subst (λ (x : List Literal). Contains x l) c.as_slice.ensures.value holds) c.requires.watched.sized

pub push-requires-2-clause-free : goal.push-requires-2-clause-free
push-requires-2-clause-free c =
    subst (λ (es : List Entry). FreeBefore es (length es) c.args.literal) (sym c.cut.ensures.entries) (learnt_free c.args.self.now.clauses.known c.args.trail.now.entries c.args.clause c.args.literal c.args.second c.args.keep c.requires.asserting)

pub returns-clause-watched : goal.returns-clause-watched
returns-clause-watched c =
    let old = c.args.self.now.clauses in
    let new = c.push.new.self in
    let grown = c.push-2.new.self.entries ≡ c.cut.new.self.entries ++ entry_of c.args.literal (Some c.len-number.result) ∷ [] in
    let number : c.len-number.result ≡ length old.known = omega (arith, c.len-number.ensures) in
    let pushed : IsPushed old c.args.clause c.learnt_pair.result new = subst (λ (x : List Literal). IsPushed old x c.learnt_pair.result new) c.as_slice.ensures.value c.in_ok-push.ensures.pushed in
    on_ok grown (IsWatched new.known c.push-2.new.self new.pairs new.rows c.args.keep) c.push-2.result
    (λ e. learnt_pushed old new c.args.trail.now c.cut.new.self c.push-2.new.self c.learnt_pair.result c.args.self.now.head c.args.keep c.len-number.result c.args.clause c.args.literal c.args.second c.args.keep
    c.requires.watched c.requires.range c.requires.asserting c.learnt_pair.ensures pushed refl
    (number, pushed.stored, c.cut.ensures.variables, c.cut.ensures.entries, c.push-2.ensures.variables, e)) c.push-2.ensures.entries

pub returns-clause-known : goal.returns-clause-known
returns-clause-known c =
    let old = c.args.self.now.clauses in
    let new = c.push.new.self in
    let grown = c.push-2.new.self.entries ≡ c.cut.new.self.entries ++ entry_of c.args.literal (Some c.len-number.result) ∷ [] in
    let pushed : IsPushed old c.args.clause c.learnt_pair.result new = subst (λ (x : List Literal). IsPushed old x c.learnt_pair.result new) c.as_slice.ensures.value c.in_ok-push.ensures.pushed in
    on_ok grown (new.known ≡ old.known ++ c.args.clause ∷ []) c.push-2.result (λ e. pushed.stored) c.push-2.ensures.entries
