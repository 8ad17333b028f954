-- A trail: the literals that were made true, in order, each by a decision or by the reason that forced it.
use Rattle.std.specs.Prelude.{◌≡◌, ◌≢◌, ◌⊎◌, ℕ, ◌<◌, List, Some, None, slice_get}
use Rattle.std.specs.List.{Contains}
use Rattle.clause_base.specs.Literals.{Literal, negation}
use Rattle.clause_watch.specs.declared.entry.Entry.{Entry}

-- how many variables there are, and the entries, the first of which is the oldest
pub record TrailView : Type 0 where
  pub variables : ℕ
  pub entries : List Entry

-- the literal was made true at this place
abbrev pub At : List Entry → ℕ → Literal → Type 0
At t k l = (e : Entry) × (slice_get t k ≡ Some e) × (e.literal ≡ l)

-- the literal is true by the first n entries
abbrev pub TrueBefore : List Entry → ℕ → Literal → Type 0
TrueBefore t n l = (k : ℕ) × (k < n) × At t k l

-- the literal's variable has no value by the first n entries
abbrev pub FreeBefore : List Entry → ℕ → Literal → Type 0
FreeBefore t n l = (k : ℕ) (m : Literal) → k < n → At t k m → m.variable ≢ l.variable

abbrev pub FalseBefore : List Entry → ℕ → List Literal → Type 0
FalseBefore t n c = (l : Literal) → Contains c l → TrueBefore t n (negation l)

-- all literals of other variables are false
abbrev pub OthersFalse : List Entry → ℕ → List Literal → Literal → Type 0
OthersFalse t n c l = (m : Literal) → Contains c m → m.variable ≢ l.variable → TrueBefore t n (negation m)

abbrev pub MetBefore : List Entry → ℕ → List Literal → Type 0
MetBefore t n c = (l : Literal) × Contains c l × TrueBefore t n l

abbrev pub TwoFreeBefore : List Entry → ℕ → List Literal → Type 0
TwoFreeBefore t n c = (l m : Literal) × (l.variable ≢ m.variable) × Contains c l × Contains c m × FreeBefore t n l × FreeBefore t n m

-- the first n entries force nothing more by this clause
abbrev pub QuietAt : List Entry → ℕ → List Literal → Type 0
QuietAt t n c = MetBefore t n c ⊎ TwoFreeBefore t n c

-- the first n entries force nothing more by the known clauses
abbrev pub Quiet : List (List Literal) → List Entry → ℕ → Type 0
Quiet known t n = (i : ℕ) (c : List Literal) → slice_get known i ≡ Some c → QuietAt t n c

-- the numbered clause forces the literal by the first n entries
pub record Forces (known : List (List Literal)) (t : List Entry) (n : ℕ) (l : Literal) (number : ℕ) : Type 0 where
  pub clause : List Literal
  pub is_there : slice_get known number ≡ Some clause
  pub holds : Contains clause l
  pub others : OthersFalse t n clause l

-- each variable has one value, each reason forces its literal, and before each decision nothing more was forced
pub record IsTrail (known : List (List Literal)) (t : List Entry) : Type 0 where
  pub distinct : (j k : ℕ) (l m : Literal) → At t j l → At t k m → l.variable ≡ m.variable → j ≡ k
  pub reasons : (k : ℕ) (e : Entry) (number : ℕ) → slice_get t k ≡ Some e → e.reason ≡ Some number → Forces known t k e.literal number
  pub decisions : (k : ℕ) (e : Entry) → slice_get t k ≡ Some e → e.reason ≡ None → Quiet known t k
