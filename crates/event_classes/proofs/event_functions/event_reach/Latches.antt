-- The latches that are reached, put into a table.
use Rattle.std.proofs.Common.{◌≡◌, ◌+◌, ◌<◌, ◌≤◌, ℕ, List, slice_get, Some, refl, sym, subst, arith, inl, inr}
use Rattle.std.specs.Prelude.{◌⊎◌}
use Rattle.std.specs.List.{Contains}
use Rattle.std.proofs.lemmas.Bool.{cases_lt}
use Rattle.circuit_theory.specs.Circuit.{IsLatch}
use Rattle.circuit_theory.proofs.Lists.{of_at}
use Rattle.event_nodes.specs.flat_net.Driver.{Driver}
use Rattle.event_nodes.specs.flat_net.Driver.TheVariants as driver
use Rattle.event_nodes.specs.flat_net.Sound.{IsSound}
use Rattle.event_nodes.specs.flat_net.View.{NetView, circuit_of}
use Rattle.event_nodes.proofs.flat_net.Places.{one_at}
use Rattle.event_nodes.specs.Adds.{Adds}
use Rattle.event_nodes.proofs.flat_net.Drivers.{driven_latch, latch_equation_stands, input_latch, driven_gate, gate_latch}
use Rattle.event_nodes.proofs.Lists.{adds_trans, adds_weaker, adds_contains}

-- a latch among the signals, at the root
abbrev pub IsRootLatch : NetView → List ℕ → ℕ × ℕ → Type 0
IsRootLatch n keys q = (q.0 ≡ 0) × Contains keys q.1 × ((name : List ℕ) × (next : ℕ) × IsLatch (circuit_of n) name q.1 next)

-- what a latch drives is a latch's
pub latch_driven : (n : NetView) → IsSound n → (s j : ℕ) → slice_get n.drivers s ≡ Some (driver.Latch j) → (name : List ℕ) × (next : ℕ) × IsLatch (circuit_of n) name s next
latch_driven n sound s j drives = let l = driven_latch n sound s j drives in (l.0.name, l.0.next.0, latch_equation_stands n sound s j drives l.0 l.1)

pub root_adds : (n : NetView) → IsSound n → (keys : List ℕ) (first old new : List (ℕ × ℕ)) (i s j : ℕ) → slice_get keys i ≡ Some s → slice_get n.drivers s ≡ Some (driver.Latch j) → Adds (IsRootLatch n keys) first old → Adds (λ q. q ≡ (0, s)) old new → Adds (IsRootLatch n keys) first new
root_adds n sound keys first old new i s j at drives before more =
    adds_trans (IsRootLatch n keys) first old new before
    (adds_weaker (λ (q : ℕ × ℕ). q ≡ (0, s)) (IsRootLatch n keys) old new (λ q e. subst (IsRootLatch n keys) (sym e) (refl, of_at keys i s at, latch_driven n sound s j drives)) more)

-- all latches among the first signals are there
abbrev pub AllLatches : NetView → List ℕ → List (ℕ × ℕ) → ℕ → Type 0
AllLatches n keys table at = (i v : ℕ) (name : List ℕ) (next : ℕ) → i < at → slice_get keys i ≡ Some v → IsLatch (circuit_of n) name v next → Contains table (0, v)

pub root_more : (n : NetView) (keys : List ℕ) (old new : List (ℕ × ℕ)) (at s : ℕ) → slice_get keys at ≡ Some s → AllLatches n keys old at → Adds (λ q. q ≡ (0, s)) old new → Contains new (0, s) → AllLatches n keys new (at + 1)
root_more n keys old new at s here all more there i v name next below at_i latch = go (cases_lt i at)
  where
    go : (i < at) ⊎ (at ≤ i) → Contains new (0, v)
    go (inl l) = adds_contains (λ (q : ℕ × ℕ). q ≡ (0, s)) old new (0, v) more (all i v name next l at_i latch)
    go (inr l) =
        let same : i ≡ at = omega arith in
        let one : s ≡ v = one_at keys at s v here (subst (λ (k : ℕ). slice_get keys k ≡ Some v) same at_i) in
        subst (λ (k : ℕ). Contains new (0, k)) one there

pub root_skip : (n : NetView) → IsSound n → (keys : List ℕ) (table : List (ℕ × ℕ)) (at s : ℕ) (d : Driver) → slice_get keys at ≡ Some s → slice_get n.drivers s ≡ Some d → ((j : ℕ) → d ≡ driver.Latch j → ⊥) → AllLatches n keys table at → AllLatches n keys table (at + 1)
root_skip n sound keys table at s d here drives other all i v name next below at_i latch = go (cases_lt i at)
  where
    none : (e : Driver) → slice_get n.drivers s ≡ Some e → d ≡ e → IsLatch (circuit_of n) name s next → ⊥
    none (driver.Input k) at_s same l = input_latch n sound s k next name at_s l
    none (driver.Gate k) at_s same l = let g = driven_gate n sound s k at_s in gate_latch n sound s k at_s g.0 g.1 name next l
    none (driver.Latch k) at_s same l = other k same

    go : (i < at) ⊎ (at ≤ i) → Contains table (0, v)
    go (inl l) = all i v name next l at_i latch
    go (inr l) =
        let same : i ≡ at = omega arith in
        let one : s ≡ v = one_at keys at s v here (subst (λ (k : ℕ). slice_get keys k ≡ Some v) same at_i) in
        absurd (none d drives refl (subst (λ (k : ℕ). IsLatch (circuit_of n) name k next) (sym one) latch))
