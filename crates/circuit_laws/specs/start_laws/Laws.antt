-- What holds of runs that begin with a sequence of inputs. Each law is the contract of a function of this crate.
use Rattle.std.specs.Prelude.{◌≡◌, ℕ, ◌+◌, ◌<◌, ◌≤◌, Bool, List, [], length, Option, Some}
use Rattle.circuit_theory.specs.Cover.{Cover}
use Rattle.circuit_theory.specs.Circuit.{Circuit, Started, IsLatch}
use Rattle.circuit_theory.specs.Run.{IsRun, EqualInputs, IsResetRun}
use Rattle.circuit_theory.specs.Net.{IsNet}
use Rattle.circuit_theory.specs.Tree.{IsInputNumber, AreNumbered}
use Rattle.circuit_theory.specs.Agree.{AreAlike, IsPair}
use Rattle.circuit_laws.specs.reset_laws.Reset.{HasStarts, AgreeFromReset}
use Rattle.circuit_laws.specs.start_laws.Known.{Forces, cover_three, IsKnown, IsThreeRun, BeginsWith, restarted, AreStartsAfter, row_bit, starts_in}
use Rattle.circuit_laws.specs.cycle_laws.Bounded.{AgreeUpTo}

-- What a cover gives three-valued bits it gives all bits that complete them.
abbrev pub CoverForces : Type 0
CoverForces = (cover : Cover) (ks : List (Option Bool)) (bit : Bool) → cover_three cover ks ≡ Some bit → Forces cover ks bit

-- What is known is so in each run that begins with the rows, whatever the latches power up with.
abbrev pub KnownAfterRows : Type 0
KnownAfterRows = (c : Circuit ℕ) (order : List ℕ) (rows : List (List Bool)) (n : ℕ) (run : ℕ → ℕ → Bool) → IsRun c n run → BeginsWith c order rows run →
    (t p : ℕ) (bit : Bool) → t < n → IsKnown c order rows t p bit → run t p ≡ bit

-- In a net, what a three-valued run has in a cycle of the rows is known, and behind them what it has for a latch.
abbrev pub ThreeRunIsKnown : Type 0
ThreeRunIsKnown = (c : Circuit ℕ) (size : ℕ) (order : List ℕ) (rows : List (List Bool)) (w : ℕ → ℕ → Option Bool) → IsNet c size → length order ≡ length c.inputs → IsThreeRun c order rows w →
    ((t s : ℕ) (bit : Bool) → t < length rows → s < size → w t s ≡ Some bit → IsKnown c order rows t s bit)
    × ((name : List ℕ) (u next : ℕ) (bit : Bool) → IsLatch c name u next → w (length rows) u ≡ Some bit → IsKnown c order rows (length rows) u bit)

-- The three-valued run of a net is one: in the cycles of the rows at each signal, and at the latches behind them.
abbrev pub ThreeRunIsOne : Type 0
ThreeRunIsOne = (c : Circuit ℕ) (size : ℕ) (order : List ℕ) (rows : List (List Bool)) (v w : ℕ → ℕ → Option Bool) → IsNet c size → length order ≡ length c.inputs → IsThreeRun c order rows v → IsThreeRun c order rows w →
    ((t s : ℕ) → t < length rows → s < size → v t s ≡ w t s) × ((name : List ℕ) (u next : ℕ) → IsLatch c name u next → v (length rows) u ≡ w (length rows) u)

-- The latches that a three-valued run knows behind the rows are initial values that are known there, one of each latch at most, and the net
-- with them is a net.
abbrev pub StartsOfThreeRun : Type 0
StartsOfThreeRun = (c : Circuit ℕ) (size : ℕ) (order : List ℕ) (rows : List (List Bool)) (w : ℕ → ℕ → Option Bool) → IsNet c size → length order ≡ length c.inputs → IsThreeRun c order rows w →
    AreStartsAfter c order rows (starts_in c (w (length rows))) × HasStarts (restarted (starts_in c (w (length rows))) c) × IsNet (restarted (starts_in c (w (length rows))) c) size

-- From the cycle behind the rows on, a run that begins with them is a run from initial values that are known there; all other latches
-- are free.
abbrev pub TailIsResetRun : Type 0
TailIsResetRun = (c : Circuit ℕ) (order : List ℕ) (rows : List (List Bool)) (starts : List (Started ℕ)) → AreStartsAfter c order rows starts →
    (n m : ℕ) (run : ℕ → ℕ → Bool) → IsRun c n run → BeginsWith c order rows run → length rows < n → m + length rows ≤ n → IsResetRun (restarted starts c) m (λ s. run (s + length rows))

-- In any two runs with equal inputs that begin with the rows, whatever both power up with, each output has equal values in every cycle
-- behind the rows.
abbrev pub AgreeAfter : {P Q : Type 0} → Circuit P → Circuit Q → List ℕ → List ℕ → List (List Bool) → Type 0
AgreeAfter {P} {Q} a b left right rows =
    (n : ℕ) (l : ℕ → P → Bool) (r : ℕ → Q → Bool) → AreAlike a b n l r → BeginsWith a left rows l → BeginsWith b right rows r →
    (t : ℕ) (p : P) (q : Q) → length rows ≤ t → t < n → IsPair [] a b p q → l t p ≡ r t q

-- So agreement from the initial values that are known behind the rows is agreement after the rows.
abbrev pub AgreeFromStarts : Type 0
AgreeFromStarts = (a b : Circuit ℕ) (left right : List ℕ) (rows : List (List Bool)) (left_starts right_starts : List (Started ℕ)) →
    AreStartsAfter a left rows left_starts → AreStartsAfter b right rows right_starts → AgreeFromReset (restarted left_starts a) (restarted right_starts b) → AgreeAfter a b left right rows

-- The same of so many cycles behind the rows.
abbrev pub AgreeUpToFromStarts : Type 0
AgreeUpToFromStarts = (a b : Circuit ℕ) (left right : List ℕ) (rows : List (List Bool)) (left_starts right_starts : List (Started ℕ)) (last : ℕ) →
    AreStartsAfter a left rows left_starts → AreStartsAfter b right rows right_starts → AgreeUpTo last (restarted left_starts a) (restarted right_starts b) →
    (n : ℕ) (l r : ℕ → ℕ → Bool) → AreAlike a b n l r → BeginsWith a left rows l → BeginsWith b right rows r →
    (t p q : ℕ) → length rows ≤ t → t ≤ length rows + last → t < n → IsPair [] a b p q → l t p ≡ r t q

-- Where each input of B that the rows have a bit for has the number of one of A's, B's run begins with the rows if A's does.
abbrev pub OneSideBegins : Type 0
OneSideBegins = (a b : Circuit ℕ) (left right : List ℕ) (rows : List (List Bool)) → AreNumbered a b left right →
    ((t i q : ℕ) (bit : Bool) → IsInputNumber b right q i → row_bit rows i t ≡ Some bit → (p : ℕ) × IsInputNumber a left p i) →
    (n : ℕ) (l r : ℕ → ℕ → Bool) → length rows ≤ n → EqualInputs a b n l r → BeginsWith a left rows l → BeginsWith b right rows r
