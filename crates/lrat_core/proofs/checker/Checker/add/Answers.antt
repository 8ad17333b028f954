use Rattle.std.proofs.Common.{◌≡◌, ◌<◌, List, sym, subst, Some, None, Result, Ok, Err}
use Rattle.std.specs.Result.{MatchResult, IsErrAnd}
use Rattle.proof_check.specs.Literals.{Literal}
use Rattle.lrat_core.specs.States.{Live, State, Known, live_of, state_of, with_clause}
use Rattle.lrat_core.specs.Hints.{HintsGive}
use Rattle.lrat_core.specs.Lines.{Addition, adds}
use Rattle.lrat_core.specs.Sequences.{AdditionGives}
use Rattle.lrat_core.specs.Answers.{HintsFail, IsTaken, IsNotTaken}
use Rattle.lrat_core.specs.declared.line_error.LineError.{LineError}
use Rattle.lrat_core.specs.declared.line_error.LineError.TheVariants as error
use Rattle.text_numbers.specs.declared.kinds.TextKind.TheVariants.{BadId}
use Rattle.lrat_core.proofs.checker.Checker.add.Goals as goal

pub returns-then-id-self : goal.returns-then-id-self
returns-then-id-self c =
    let a : Addition = record { id = c.args.id; literals = c.args.literals.now; hints = c.args.hints.now } in
    subst (λ (k : Known). AdditionGives (state_of k) a (Some BadId)) c.self.view_is (AdditionGives.low c.if-id-self.true)

-- a fault of the hints is one of the addition
failed : (state : State) (a : Addition) (falsified : List Literal) (e : LineError) → state.greatest < a.id → falsified ≡ a.literals → HintsFail state.live falsified a.hints e →
    IsNotTaken state (adds a.id a.literals a.hints) e
failed state a falsified (error.Fault kind) lt same h = AdditionGives.above lt (subst (λ ls. HintsGive state.live ls a.hints (Some kind)) same h)
failed state a falsified error.NoMemory lt same h = tt

-- `?` hands the error on
err_kept : {A : Type 0} (r : Result A LineError) (P : A → Type 0) (Q : LineError → Type 0) (e : LineError) → IsErrAnd r (λ x. x ≡ e) → Q e → MatchResult r P Q
err_kept (Ok a) P Q e h q = absurd h
err_kept (Err x) P Q e h q = subst Q (sym h) q

pub returns-in_err-follow : goal.returns-in_err-follow
returns-in_err-follow c =
    let e = c.in_err-follow.field-0.0 in
    let a : Addition = record { id = c.args.id; literals = c.args.literals.now; hints = c.args.hints.now } in
    let known : Known = record { clauses = c.self.inside.live; greatest = c.self.inside.greatest } in
    let fails = failed (state_of known) a c.set.new.self e c.if-id-self.false c.in_ok-set.ensures c.in_err-follow.ensures in
    err_kept c.from_residual-in_err-follow.result _ (IsNotTaken (state_of c.args.self.now) (adds a.id a.literals a.hints)) e c.from_residual-in_err-follow.ensures.1
    (subst (λ (k : Known). IsNotTaken (state_of k) (adds a.id a.literals a.hints) e) c.self.view_is fails)

-- the hints show the clause, and it is live
succeeds : (state : State) (a : Addition) (falsified : List Literal) (live : Live) → state.greatest < a.id → falsified ≡ a.literals →
    HintsGive state.live falsified a.hints None → live ≡ with_clause state.live a.id a.literals → IsTaken state (adds a.id a.literals a.hints) (record { live = live; greatest = a.id })
succeeds state a falsified live lt same h new = (
  AdditionGives.above lt (subst (λ ls. HintsGive state.live ls a.hints None) same h),
  λ i. record { live = new i; greatest = a.id },
)

pub returns : goal.returns
returns c =
    let a : Addition = record { id = c.args.id; literals = c.args.literals.now; hints = c.args.hints.now } in
    let known : Known = record { clauses = c.self.inside.live; greatest = c.self.inside.greatest } in
    subst (λ (k : Known). IsTaken (state_of k) (adds a.id a.literals a.hints) (record { live = live_of c.insert.new.self; greatest = a.id })) c.self.view_is
    (succeeds (state_of known) a c.set.new.self (live_of c.insert.new.self) c.if-id-self.false c.in_ok-set.ensures c.in_ok-follow.ensures c.in_ok-insert.ensures)
