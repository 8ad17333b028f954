-- Runs, values, enabled latches and marks.
use Rattle.std.specs.Prelude.{◌≡◌, ℕ, suc, ◌+◌, ◌<◌, ◌≢◌, Bool, true, false, List}
use Rattle.std.specs.List.{All, Contains}
use Rattle.circuit_theory.specs.Cover.{Cover}
use Rattle.circuit_theory.specs.Circuit.{Circuit, Gate, Port, IsInput, IsLatch, IsSource, Carries, Meets, InCone}

-- A run of n cycles: run t p is the value of p in cycle t. A latch in cycle 0 is free.
pub record IsRun {P : Type 0} (c : Circuit P) (n : ℕ) (run : ℕ → P → Bool) : Type 0 where
  pub meets : (t : ℕ) → t < n → Meets c (run t)
  pub carries : (t : ℕ) → t + 1 < n → All (Carries (run t) (run (t + 1))) c.equations

-- the two runs have one value at each input that both circuits name, in each cycle below n
abbrev pub EqualInputs : {P Q : Type 0} → Circuit P → Circuit Q → ℕ → (ℕ → P → Bool) → (ℕ → Q → Bool) → Type 0
EqualInputs {P} {Q} a b n left right =
    (name : List ℕ) (p : P) (q : Q) → Contains a.inputs (record { name = name; place = p }) → Contains b.inputs (record { name = name; place = q }) →
    (t : ℕ) → t < n → left t p ≡ right t q

-- values that meet all gate and port equations, and are x's at each input and latch
pub record Extends {P : Type 0} (c : Circuit P) (x v : P → Bool) : Type 0 where
  pub meets : Meets c v
  pub sources : (p : P) → IsSource c p → v p ≡ x p

-- the same with the latch u put to a bit
pub record ExtendsWith {P : Type 0} (c : Circuit P) (u : P) (bit : Bool) (x v : P → Bool) : Type 0 where
  pub meets : Meets c v
  pub sources : (p : P) → IsSource c p → p ≢ u → v p ≡ x p
  pub put : v u ≡ bit

-- the latch's next value is one with the latch at 0 and at 1: it loads
pub record Loads {P : Type 0} (c : Circuit P) (x : P → Bool) (u next : P) : Type 0 where
  pub low : P → Bool
  pub high : P → Bool
  pub low_is : ExtendsWith c u false x low
  pub high_is : ExtendsWith c u true x high
  pub same : low next ≡ high next

-- values that meet the equations stay possible with one latch put to a bit: it is so where no gates form a loop
abbrev pub CanPut : {P : Type 0} → Circuit P → Type 0
CanPut {P} c = (x : P → Bool) (name : List ℕ) (u next : P) (bit : Bool) → IsLatch c name u next → Meets c x → (y : P → Bool) × ExtendsWith c u bit x y

-- u is in the cone of its own next value, and no values make that 1 with u at 0 and 0 with u at 1
pub record IsEnabled {P : Type 0} (c : Circuit P) (u : P) : Type 0 where
  pub name : List ℕ
  pub next : P
  pub latch : IsLatch c name u next
  pub self_edge : InCone c next u
  pub rises : (x low high : P → Bool) → ExtendsWith c u false x low → ExtendsWith c u true x high → low next ≡ true → high next ≡ true

-- The marks of a run. `enabled` says which latches count as enabled in the mode.
pub data Marked {P : Type 0} (c : Circuit P) (enabled : P → Type 0) (run : ℕ → P → Bool) : ℕ → P → Type 0 where
  input : {t : ℕ} {p : P} → IsInput c p → Marked c enabled run t p
  gate : {t : ℕ} {out : P} {fanins : List P} {cover : Cover} → Contains c.equations (Gate out fanins cover) → ((p : P) → Contains fanins p → Marked c enabled run t p) → Marked c enabled run t out
  port : {t : ℕ} {out from : P} → Contains c.equations (Port out from) → Marked c enabled run t from → Marked c enabled run t out
  plain : {t : ℕ} {name : List ℕ} {out next : P} → IsLatch c name out next → (enabled out → ⊥) → Marked c enabled run t next → Marked c enabled run (suc t) out
  loads : {t : ℕ} {name : List ℕ} {out next : P} → IsLatch c name out next → enabled out → ((u : P) → InCone c next u → u ≢ out → Marked c enabled run t u) → Loads c (run t) out next → Marked c enabled run (suc t) out
  keeps : {t : ℕ} {name : List ℕ} {out next : P} → IsLatch c name out next → enabled out → ((u : P) → InCone c next u → u ≢ out → Marked c enabled run t u) → Marked c enabled run t out → Marked c enabled run (suc t) out

-- Values into the past: w k p is the value of p, k cycles ago, where each latch goes back to what it took over.
pub record IsPast {P : Type 0} (c : Circuit P) (w : ℕ → P → Bool) : Type 0 where
  pub meets : (k : ℕ) → Meets c (w k)
  pub goes_back : (k : ℕ) → All (Carries (w (k + 1)) (w k)) c.equations

-- no latch counts as enabled in the plain mode
abbrev pub NoneEnabled : {P : Type 0} → P → Type 0
NoneEnabled p = ⊥

-- Each place that p is read from, backwards through gates and ports, ends at inputs and latches: no loop of gates.
pub data IsDetermined {P : Type 0} (c : Circuit P) : P → Type 0 where
  source : {p : P} → IsSource c p → IsDetermined c p
  gate : {out : P} {fanins : List P} {cover : Cover} → Contains c.equations (Gate out fanins cover) → ((p : P) → Contains fanins p → IsDetermined c p) → IsDetermined c out
  port : {out from : P} → Contains c.equations (Port out from) → IsDetermined c from → IsDetermined c out

-- a run in which each latch with an initial value 0 or 1 has it in cycle 0
pub record IsResetRun {P : Type 0} (c : Circuit P) (n : ℕ) (run : ℕ → P → Bool) : Type 0 where
  pub is_run : IsRun c n run
  pub starts : (p : P) (bit : Bool) → Contains c.starts (record { place = p; bit = bit }) → run 0 p ≡ bit
