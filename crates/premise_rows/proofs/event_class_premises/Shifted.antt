-- The latch behind the shift register reaches as many event nodes as that has latches.
use Rattle.std.proofs.Common.{◌≡◌, ◌∙◌, ℕ, zero, suc, ◌+◌, ◌-◌, ◌<◌, ◌≤◌, Bool, true, false, List, [], ◌∷◌, length, slice_get, Some, refl, sym, ap, subst, arith}
use Rattle.std.specs.Prelude.{◌==◌, if◌then◌else◌}
use Rattle.std.specs.List.{Contains}
use Rattle.std.proofs.lemmas.Option.{none-some}
use Rattle.circuit_theory.specs.Circuit.{Circuit, IsLatch, Reads, Reaches}
use Rattle.circuit_theory.specs.EventSizes.{Start}
use Rattle.circuit_theory.specs.EventTotals.{StartLatches}
use Rattle.circuit_theory.specs.Frame.{ConeOthers, EventSide, ReachedAt, always_node}
use Rattle.circuit_theory.proofs.Lists.{Contains-head, Contains-tail, at_of}
use Rattle.flat_net.specs.declared.parts.LatchAt.{LatchAt}
use Rattle.flat_net.specs.View.{circuit_of}
use Rattle.flat_net.proofs.Nets.{gate_stands, latch_stands}
use Rattle.event_nodes.specs.Adds.{Adds}
use Rattle.event_nodes.specs.Nodes.{path_of}
use Rattle.event_nodes.specs.View.{Enabled, class_at, side_of}
use Rattle.event_nodes.specs.Visited.{AreNodesFrom}
use Rattle.edbf_unfold.specs.event_literals.event_walk.Walk.{enable_start}
use Rattle.event_classes.specs.event_functions.class_totals.Laws.{nothing}
use Rattle.event_classes.proofs.event_functions.class_totals.Going.{totals_begin}
use Rattle.event_classes.proofs.event_functions.class_totals.Over.{many_nodes_are_over}
use Rattle.premise_rows.specs.event_pair_premises.Held.{loads_a}
use Rattle.premise_rows.specs.event_class_premises.Shifted.{name_of, shift_latch, last_latch, shifted, behind_shift, chain, along, ShiftMeetsPremises}
use Rattle.premise_rows.proofs.event_pair_premises.HeldPair.{kept}
use Rattle.premise_rows.proofs.event_class_premises.Listed.{first_long, entry_is, pushed_at, last_at, chain_path, along_kept}
use Rattle.premise_rows.proofs.event_class_premises.ShiftNet.{shift_sound}

-- where all classes are 0, each latch has class 0
zero_class : (ls : List LatchAt) (ks : List ℕ) (p : ℕ) → ((k : ℕ) → Contains ks k → k ≡ 0) → class_at ls ks p ≡ 0
zero_class [] ks p all = refl
zero_class (l ∷ ls) [] p all = refl
zero_class (l ∷ ls) (k ∷ ks) p all = by (l.out.0 == p) (all k (Contains-head k ks)) (zero_class ls ks p (λ m h. all m (Contains-tail k m ks h)))
  where
    by : (b : Bool) → k ≡ 0 → class_at ls ks p ≡ 0 → (if b then k else class_at ls ks p) ≡ 0
    by true e h = e
    by false e h = h

module _ (n : ℕ) where
  abbrev c : Circuit ℕ
  c = circuit_of (shifted n)

  abbrev s : EventSide ℕ
  s = side_of (behind_shift n)

  abbrev On : ℕ → Type 0
  On = Enabled (behind_shift n)

  abbrev x : Start ℕ
  x = enable_start (last_latch n)

  abbrev Begun : ℕ → Type 0
  Begun = StartLatches s (x ∷ [])

  class_zero : (p : ℕ) → s.class p ≡ 0
  class_zero p = zero_class (shifted n).latches (behind_shift n).classes p zeros
    where
      zeros : (k : ℕ) → Contains (behind_shift n).classes k → k ≡ 0
      zeros k h = let at = at_of (behind_shift n).classes k h in sym (entry_is (λ m. 0) (suc n) at.0 k at.1).1

  latch_at : (k : ℕ) → k < n → IsLatch c (name_of (suc k)) (suc k) k
  latch_at k l = latch_stands (shifted n) k (shift_latch k) (pushed_at shift_latch n (last_latch n) k l)

  reads_last : Reads c (suc (suc n)) n
  reads_last = Reads.by_gate {fanins = n ∷ 0 ∷ suc n ∷ []} (gate_stands (shifted n) 0 _ refl) (0, omega arith, refl)

  -- one latch of the shift register reads the one before
  before : (j : ℕ) → suc j < n → ConeOthers c On (suc (suc j)) (suc j)
  before j l = (name_of (suc (suc j)), suc j, latch_at (suc j) l, (name_of (suc j), j, latch_at j (omega (arith, l)), Reaches.here), λ on e. omega (arith, e))

  begun : (j : ℕ) → suc j ≡ n → Begun (suc j)
  begun j e = (x, Contains-head x [], (name_of (suc j), j, latch_at j (omega (arith, e)), Reaches.there (subst (Reads c (suc (suc n))) (sym e) reads_last) Reaches.here), λ same. omega (arith, same, e))

  reached : (k j : ℕ) → k + suc j ≡ n → ReachedAt s On Begun (always_node k) (suc j)
  reached zero j e = begun j (omega (arith, e))
  reached (suc k) j e = (suc (suc j), reached k (suc j) (omega (arith, e)), class_zero (suc (suc j)), before j (omega (arith, e)))

  nodes : AreNodesFrom (behind_shift n) (chain n) x 0
  nodes k m class l h =
      let e = entry_is (λ i. (i, 0)) n k (m, class) h in
      let parent : k ≡ m = ap (λ (p : ℕ × ℕ). p.0) e.1 in
      let step : 0 ≡ class = ap (λ (p : ℕ × ℕ). p.1) e.1 in
      let path : always_node k ≡ path_of (chain n) m = sym (chain_path n k (omega (arith, e.0))) ∙ ap (path_of (chain n)) parent in
      let place : k + suc (n - suc k) ≡ n = omega (arith, e.0) in
      (suc (n - suc k), subst (λ (p : List ℕ). ReachedAt s On Begun p (suc (n - suc k))) path (reached k (n - suc k) place), class_zero (suc (n - suc k)) ∙ step)

no_entry : (k n class : ℕ) → slice_get {X = ℕ × ℕ} [] k ≡ Some (n, class) → n ≤ 0
no_entry k n class h = absurd (none-some (n, class) h)

made : (n : ℕ) → Adds (λ (q : ℕ × ℕ). Unit {0}) [] (chain n)
made n = record { more = chain n; is = refl; each = λ i d l. tt }

many : 10000 ≤ length (chain 10000)
many = let e : length (chain 10000) ≡ 10000 = first_long (λ k. (k, 0)) 10000 in omega (arith, e)

at : slice_get (shifted 10000).latches 10000 ≡ Some (last_latch 10000)
at = last_at shift_latch 10000 (last_latch 10000) 10000 refl

pub shift_meets_premises : ShiftMeetsPremises
shift_meets_premises = record {
  sound = shift_sound 10000 (omega arith);
  other_sound = kept.left_sound;
  at = at;
  begins = totals_begin (behind_shift 10000) loads_a;
  events = along_kept 10000;
  made = made 10000;
  many = many;
  nodes = nodes 10000;
  too_many = (many_nodes_are_over (behind_shift 10000) loads_a [] (along 10000) [] 10000 (last_latch 10000) nothing nothing (shift_sound 10000 (omega arith)) kept.left_sound no_entry (along_kept 10000) (made 10000) many (totals_begin (behind_shift 10000) loads_a)).0 at (nodes 10000);
}
