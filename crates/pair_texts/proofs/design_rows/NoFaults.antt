-- A design that passes the computed test has no fault.
use Rattle.std.proofs.Common.{◌≡◌, ◌∙◌, ◌+◌, ◌-◌, ◌<◌, ◌≤◌, ℕ, zero, suc, Bool, true, false, true≢false, not, List, [], ◌∷◌, ◌++◌, length, take, get_or, slice_get, Option, Some, None, refl, sym, ap, subst, arith, append_assoc, append-nil}
use Rattle.std.specs.Prelude.{nat_lt, ◌&&◌, if◌then◌else◌}
use Rattle.std.specs.List.{Contains, list_all}
use Rattle.std.proofs.lemmas.Bool.{and_parts}
use Rattle.std.proofs.lemmas.Bool.Decides.{nat_tests}
use Rattle.std.proofs.lemmas.Option.{none-some, same_Some, slice_get-get_or}
use Rattle.circuit_theory.specs.Names.{is_among}
use Rattle.circuit_theory.proofs.Lists.{of_at}
use Rattle.circuit_theory.proofs.Numbers.{is_among-sound, is_among-complete}
use Rattle.blif_read.specs.declared.design.BlifModel.{BlifModel}
use Rattle.elaborate.specs.declared.error.FlatError.{FlatError}
use Rattle.elaborate.specs.declared.error.FlatError.TheVariants as fault
use Rattle.elaborate.specs.Flat.{FlatDesign, FlatOf, Kind, gate, latch, port, flat_design_of}
use Rattle.elaborate.specs.Walking.{design_walk_fault}
use Rattle.flatten.specs.connectivity.Wiring.{Wiring, TypedLatch, wiring_of}
use Rattle.flatten.specs.connectivity.Faults.{DrivesAgain, IsClockNet, IsWireFault, driven, clock_signals}
use Rattle.flatten.specs.DesignFaults.{DesignFault, IsSoundDesign, IsLoopFault}
use Rattle.flatten.specs.Loops.{IsQuick, ReadsFrom, IsCycle}
use Rattle.net_assembly.proofs.net_alike.Testing.{all_in}
use Rattle.pair_texts.specs.design_rows.Laws.{TestedIsSound}
use Rattle.pair_texts.specs.design_rows.NoFault.{rank_in, is_empty, is_none, are_new, is_quick, is_behind, is_wired_well, has_no_fault}

none_is : {X : Type 0} (o : Option X) → is_none o ≡ true → o ≡ None
none_is None h = refl
none_is (Some x) h = absurd (true≢false (sym h))

empty_is : {X : Type 0} (xs : List X) → is_empty xs ≡ true → xs ≡ []
empty_is [] h = refl
empty_is (x ∷ xs) h = absurd (true≢false (sym h))

-- no name of the list stands before it
new_twice : (before names : List (List ℕ)) → are_new before names ≡ true → (i : ℕ) (p : List ℕ) → slice_get names i ≡ Some p → Contains (before ++ take i names) p → ⊥
new_twice before [] h i p at k = none-some p at
new_twice before (n ∷ names) h zero p at k =
    let parts = and_parts (not (is_among before n)) (are_new (before ++ n ∷ []) names) h in
    let there : Contains before n = subst (Contains before) (sym (same_Some n p at)) (subst (λ (xs : List (List ℕ)). Contains xs p) (append-nil before) k) in
    true≢false (sym parts.0 ∙ ap not (is_among-complete before n there))
new_twice before (n ∷ names) h (suc i) p at k =
    let parts = and_parts (not (is_among before n)) (are_new (before ++ n ∷ []) names) h in
    new_twice (before ++ n ∷ []) names parts.1 i p at (subst (λ (xs : List (List ℕ)). Contains xs p) (sym (append_assoc before (n ∷ []) (take i names))) k)

module _ (rank : List ℕ → ℕ) (d : FlatDesign (List ℕ)) (behind : list_all (is_behind rank) d.statements ≡ true) where
  quick_is : (k : Kind (List ℕ)) → IsQuick k → is_quick k ≡ true
  quick_is (gate cover) h = refl
  quick_is (latch edge control init) h = absurd h
  quick_is port h = refl

  -- what reads has the higher rank
  reads_up : (p q : List ℕ) → ReadsFrom d p q → rank q < rank p
  reads_up p q r =
      let own : is_behind rank r.statement ≡ true = all_in (is_behind rank) d.statements r.statement behind r.there in
      let each : list_all (λ (name : List ℕ). nat_lt (rank name) (rank r.statement.out)) r.statement.reads ≡ true =
      subst (λ (b : Bool). (if b then list_all (λ (name : List ℕ). nat_lt (rank name) (rank r.statement.out)) r.statement.reads else true) ≡ true) (quick_is r.statement.kind r.quick) own in
      let one : nat_lt (rank q) (rank r.statement.out) ≡ true = all_in (λ (name : List ℕ). nat_lt (rank name) (rank r.statement.out)) r.statement.reads q each r.reads in
      let up : nat_lt (rank q) (rank p) ≡ true = subst (λ (x : List ℕ). nat_lt (rank q) (rank x) ≡ true) r.drives one in
      grind (arith, nat_tests, up)

  module _ (signals : List (List ℕ)) (cycle : IsCycle d signals) where
    at : (i : ℕ) → i < length signals → slice_get signals i ≡ Some (get_or signals i [])
    at i h = slice_get-get_or signals i [] h

    rises : (i : ℕ) → i < length signals → rank (get_or signals 0 []) ≤ rank (get_or signals i [])
    rises zero h = omega arith
    rises (suc i) h =
        let before = rises i (omega (arith, h)) in
        let step = reads_up (get_or signals (suc i) []) (get_or signals i []) (cycle.next i (get_or signals i []) (get_or signals (suc i) []) (at i (omega (arith, h))) (at (suc i) h)) in
        omega (arith, before, step)

    pub no_cycle : ⊥
    no_cycle =
        let some = cycle.some in
        let last = rises (length signals - 1) (omega (arith, some)) in
        let round = reads_up (get_or signals 0 []) (get_or signals (length signals - 1) [])
        (cycle.closes (get_or signals 0 []) (get_or signals (length signals - 1) []) (at 0 some) (at (length signals - 1) (omega (arith, some)))) in
        omega (arith, last, round)

module _ (order : List (List ℕ)) (d : FlatDesign (List ℕ)) (h : is_wired_well order d ≡ true) where
  abbrev w : Wiring (List ℕ)
  w = wiring_of d

  parts_1 : (are_new (w.inputs ++ w.clocks) w.outs ≡ true) × ((list_all (is_among (driven w)) (w.reads ++ w.outputs) && (is_empty (clock_signals w) && (is_empty w.typed && list_all (is_behind (rank_in order)) d.statements))) ≡ true)
  parts_1 = and_parts (are_new (w.inputs ++ w.clocks) w.outs) (list_all (is_among (driven w)) (w.reads ++ w.outputs) && (is_empty (clock_signals w) && (is_empty w.typed && list_all (is_behind (rank_in order)) d.statements))) h

  parts_2 : (list_all (is_among (driven w)) (w.reads ++ w.outputs) ≡ true) × ((is_empty (clock_signals w) && (is_empty w.typed && list_all (is_behind (rank_in order)) d.statements)) ≡ true)
  parts_2 = and_parts (list_all (is_among (driven w)) (w.reads ++ w.outputs)) (is_empty (clock_signals w) && (is_empty w.typed && list_all (is_behind (rank_in order)) d.statements)) parts_1.1

  parts_3 : (is_empty (clock_signals w) ≡ true) × ((is_empty w.typed && list_all (is_behind (rank_in order)) d.statements) ≡ true)
  parts_3 = and_parts (is_empty (clock_signals w)) (is_empty w.typed && list_all (is_behind (rank_in order)) d.statements) parts_2.1

  parts_4 : (is_empty w.typed ≡ true) × (list_all (is_behind (rank_in order)) d.statements ≡ true)
  parts_4 = and_parts (is_empty w.typed) (list_all (is_behind (rank_in order)) d.statements) parts_3.1

  no_clocks : clock_signals w ≡ []
  no_clocks = empty_is (clock_signals w) parts_3.0

  no_clock_at : (i : ℕ) (p : List ℕ) → slice_get (clock_signals w) i ≡ Some p → ⊥
  no_clock_at i p k = none-some p (sym (ap (λ (xs : List (List ℕ)). slice_get xs i) no_clocks) ∙ k)

  no_typed_at : (i : ℕ) (l : TypedLatch (List ℕ)) → slice_get w.typed i ≡ Some l → ⊥
  no_typed_at i l k = none-some l (sym (ap (λ (xs : List (TypedLatch (List ℕ))). slice_get xs i) (empty_is w.typed parts_4.0)) ∙ k)

  no_clock : (n : List ℕ) → IsClockNet w n → ⊥
  no_clock n k = no_clock_at k.0 k.1.signal k.1.here

  pub no_wire_fault : (e : FlatError) → IsWireFault d e → ⊥
  no_wire_fault (fault.TwoDrivers p) k = new_twice (w.inputs ++ w.clocks) w.outs parts_1.0 k.at p k.here.drives k.here.before
  no_wire_fault (fault.Undriven p) k =
      k.1.here.meant (is_among-sound (driven w) k.1.here.item (all_in (is_among (driven w)) (w.reads ++ w.outputs) k.1.here.item parts_2.0 (of_at (w.reads ++ w.outputs) k.1.at k.1.here.item k.1.here.here)))
  no_wire_fault (fault.TwoClocks p) k = no_clock_at k.2.at k.2.here.own.signal k.2.here.own.here
  no_wire_fault (fault.TwoEdges p) k = no_typed_at k.3.at k.3.here.item k.3.here.here
  no_wire_fault (fault.GatedClock p) k = no_clock p k.4.clock
  no_wire_fault (fault.ClockRead p) k = no_clock k.5.here.meant.net k.5.here.meant.clock
  no_wire_fault other k = absurd k

  pub no_loop : (e : FlatError) → IsLoopFault d e → ⊥
  no_loop (fault.Loop names) k = no_cycle (rank_in order) d parts_4.1 k.cycle k.is_cycle
  no_loop other k = absurd k

pub tested_is_sound : TestedIsSound
tested_is_sound order models h e =
    let parts = and_parts (is_none (design_walk_fault models)) (is_wired_well order (flat_design_of models)) h in
    by (none_is (design_walk_fault models) parts.0) parts.1
  where
    by : design_walk_fault models ≡ None → is_wired_well order (flat_design_of models) ≡ true → DesignFault models e → ⊥
    by clear well (DesignFault.walks k) = none-some e (sym clear ∙ k)
    by clear well (DesignFault.wires c k) = no_wire_fault order (flat_design_of models) well e k
    by clear well (DesignFault.loops c fine k) = no_loop order (flat_design_of models) well e k
