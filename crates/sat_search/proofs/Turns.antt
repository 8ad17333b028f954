-- Turns of a search.
use Rattle.std.proofs.Common.{◌≡◌, ℕ, ◌+◌, ◌-◌, ◌*◌, ◌<◌, ◌≤◌, List, length, ap, arith, Result, Ok, Err}
use Rattle.std.specs.Prelude.{IfOk}
use Rattle.proof_check.specs.Literals.{Literal}
use Rattle.proof_check.specs.NoMemory.{NoMemory}
use Rattle.sat_search.specs.Turning.{IsRunning, IsTurned}
use Rattle.sat_search.specs.declared.search_state.SearchState.{SearchState}
use Rattle.sat_search.specs.declared.search_state.Turn.{Turn}
use Rattle.sat_search.specs.declared.search_state.Turn.TheVariants.{Goes, Model, Refuted, Limit}

-- a turn that begins after propagation leaves less work than before it
pub turned_from : (clauses : List (List Literal)) (variables conflicts : ℕ) (old mid new : SearchState) (turn : Turn) → mid.log ≡ old.log → length old.trail.entries ≤ length mid.trail.entries → IsTurned clauses variables conflicts mid new turn → IsTurned clauses variables conflicts old new turn
turned_from clauses variables conflicts old mid new Goes same longer h =
    let left : (conflicts - length mid.log) * (variables + 1) ≡ (conflicts - length old.log) * (variables + 1) = ap (λ l. (conflicts - length l) * (variables + 1)) same in
    (h.0, omega (arith, h.1, left, longer))
turned_from clauses variables conflicts old mid new (Model bits) same longer h = h
turned_from clauses variables conflicts old mid new Refuted same longer h = h
turned_from clauses variables conflicts old mid new Limit same longer h = h

pub decided_from : (conflicts : ℕ) (old mid new : SearchState) (r : Result Turn NoMemory) → ((clauses : List (List Literal)) (variables : ℕ) → IsRunning clauses variables conflicts old → IsRunning clauses variables conflicts mid) → mid.log ≡ old.log → length old.trail.entries ≤ length mid.trail.entries →
    IfOk r (λ turn. (clauses : List (List Literal)) (variables : ℕ) (n : ℕ) → IsRunning clauses variables n mid → IsTurned clauses variables n mid new turn) →
    IfOk r (λ turn. (clauses : List (List Literal)) (variables : ℕ) → IsRunning clauses variables conflicts old → IsTurned clauses variables conflicts old new turn)
decided_from conflicts old mid new (Ok turn) move same longer h = λ clauses variables r. turned_from clauses variables conflicts old mid new turn same longer (h clauses variables conflicts (move clauses variables r))
decided_from conflicts old mid new (Err e) move same longer h = h

pub learnt_from : (conflicts : ℕ) (old mid new : SearchState) (r : Result Turn NoMemory) → ((clauses : List (List Literal)) (variables : ℕ) → IsRunning clauses variables conflicts old → IsRunning clauses variables conflicts mid) → mid.log ≡ old.log → length old.trail.entries ≤ length mid.trail.entries → length mid.log < conflicts →
    IfOk r (λ turn. (clauses : List (List Literal)) (variables : ℕ) (n : ℕ) → IsRunning clauses variables n mid → length mid.log < n → IsTurned clauses variables n mid new turn) →
    IfOk r (λ turn. (clauses : List (List Literal)) (variables : ℕ) → IsRunning clauses variables conflicts old → IsTurned clauses variables conflicts old new turn)
learnt_from conflicts old mid new (Ok turn) move same longer room h = λ clauses variables r. turned_from clauses variables conflicts old mid new turn same longer (h clauses variables conflicts (move clauses variables r) room)
learnt_from conflicts old mid new (Err e) move same longer room h = h
