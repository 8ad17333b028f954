-- Marks, depth and trees of a latch with a load enable.
use Rattle.std.proofs.Common.{◌≡◌, ◌≢◌, ℕ, suc, ◌<◌, ◌≤◌, Bool, true, false, List, [], ◌∷◌, refl, sym, ◌∙◌, ap, subst, arith, inl, inr, None}
use Rattle.std.specs.Prelude.{codes}
use Rattle.circuit_theory.specs.declared.Mode.TheVariants.{Event}
use Rattle.circuit_theory.specs.Cover.{cover_value}
use Rattle.circuit_theory.specs.Circuit.{Gate, Latch, IsLatch, IsSource, Meets, InCone, Reads, Reaches}
use Rattle.circuit_theory.specs.Run.{IsRun, ExtendsWith, Loads, CanPut, IsEnabled, Marked, NoneEnabled}
use Rattle.circuit_theory.specs.Depth.{LatchReads, LatchPath, HasCycle, LatchChain, ChainFrom, IsDepth}
use Rattle.circuit_theory.specs.Tree.{Leaf, Fixed, Branch, Nil, Cons}
use Rattle.circuit_theory.specs.Frame.{EventSide, EventUnfolds, EventUnfoldsAll}
use Rattle.circuit_theory.specs.Agree.{IsSettled}
use Rattle.call_rows.specs.circuit_samples.Circuits.{hold_not_cover, buffer, hold_not}
use Rattle.call_rows.proofs.circuit_samples.Samples.{hold_not_net, item_of, LatchItem}
use Rattle.circuit_laws.proofs.NetLaws.{net_can_put}
use Rattle.circuit_laws.proofs.Marks.{mark_says, marks_down, MarkSays}
use Rattle.circuit_theory.proofs.Lists.{only}

-- the premise of the event theorem can be met by a circuit with gates
pub hold_not_can_put : CanPut hold_not
hold_not_can_put = net_can_put hold_not 5 hold_not_net

q_latch : IsLatch hold_not (codes "q") 2 3
q_latch = (2, omega arith, refl)

q_source : IsSource hold_not 2
unfolding q_latch
q_source = inr (codes "q", 3, q_latch)

e_source : IsSource hold_not 0
e_source = inl (codes "e", (0, omega arith, refl))

a_source : IsSource hold_not 1
a_source = inl (codes "a", (1, omega arith, refl))

n_reads_q : Reaches hold_not 3 2
n_reads_q = Reaches.there (Reads.by_gate {fanins = 0 ∷ 1 ∷ 2 ∷ []} (0, omega arith, refl) (2, omega arith, refl)) Reaches.here

y_reads_q : Reaches hold_not 4 2
y_reads_q = Reaches.there (Reads.by_gate {fanins = 2 ∷ []} (1, omega arith, refl) (0, omega arith, refl)) Reaches.here

item : (name : List ℕ) (u next : ℕ) → IsLatch hold_not name u next → ◌≡◌ {A = LatchItem} (record { name = codes "q"; out = 2; next = 3 }) (record { name = name; out = u; next = next })
item name u next h = only (record { name = codes "q"; out = 2; next = 3 }) (record { name = name; out = u; next = next }) (item_of hold_not.equations name u next h)

place_is : (name : List ℕ) (u next : ℕ) → IsLatch hold_not name u next → 2 ≡ u
place_is name u next h = ap (λ (x : LatchItem). x.out) (item name u next h)

next_is : (name : List ℕ) (u next : ℕ) → IsLatch hold_not name u next → 3 ≡ next
next_is name u next h = ap (λ (x : LatchItem). x.next) (item name u next h)

-- what the latch takes over, with it put to a bit
value : (bit : Bool) (x v : ℕ → Bool) → ExtendsWith hold_not 2 bit x v → v 3 ≡ cover_value hold_not_cover (x 0 ∷ x 1 ∷ bit ∷ [])
value bit x v ex =
    let gate : v 3 ≡ cover_value hold_not_cover (v 0 ∷ v 1 ∷ v 2 ∷ []) = ex.meets 0 (Gate 3 [] hold_not_cover) (omega arith) in
    let e : v 0 ≡ x 0 = ex.sources 0 e_source (omega arith) in
    let d : v 1 ≡ x 1 = ex.sources 1 a_source (omega arith) in
    let q = ex.put in
    let bits : v 0 ∷ v 1 ∷ v 2 ∷ [] ≡ x 0 ∷ x 1 ∷ bit ∷ [] = cc in
    gate ∙ ap (cover_value hold_not_cover) bits

cover_rises : (e a : Bool) → cover_value hold_not_cover (e ∷ a ∷ false ∷ []) ≡ true → cover_value hold_not_cover (e ∷ a ∷ true ∷ []) ≡ true
unfolding cover_value
cover_rises true true h = cc
cover_rises true false h = refl
cover_rises false true h = refl
cover_rises false false h = refl

-- the latch is enabled
pub hold_not_is_enabled : IsEnabled hold_not 2
hold_not_is_enabled = record { name = codes "q"; next = 3; latch = q_latch; self_edge = (q_source, n_reads_q); rises = rises }
  where
    rises : (x low high : ℕ → Bool) → ExtendsWith hold_not 2 false x low → ExtendsWith hold_not 2 true x high → low 3 ≡ true → high 3 ≡ true
    rises x low high l h e = value true x high h ∙ cover_rises (x 0) (x 1) (sym (value false x low l) ∙ e)

-- it lies on a cycle in the plain mode
pub hold_not_cycle : HasCycle hold_not NoneEnabled []
unfolding q_latch
hold_not_cycle = (
  2,
  LatchPath.edge (record {
    name = codes "q";
    next = 3;
    latch = q_latch;
    kept = λ h. omega (arith, h.1);
    other_name = codes "q";
    other_next = 3;
    other = q_latch;
    other_kept = λ h. omega (arith, h.1);
    cone = (q_source, n_reads_q);
    no_self_edge = λ en. absurd en;
  }),
)

-- and has depth 1 in the event form, where its self-edge doesn't count
pub hold_not_depth : IsDepth hold_not (IsEnabled hold_not) 4 1
unfolding q_latch
hold_not_depth = record { reached = inr (2, (q_source, y_reads_q), LatchChain.last {next = 3} {name = codes "q"} q_latch); greatest = greatest }
  where
    no_reading : (u v : ℕ) → LatchReads hold_not (IsEnabled hold_not) [] u v → ⊥
    no_reading u v e =
        let at_u : 2 ≡ u = place_is e.name u e.next e.latch in
        let at_v : 2 ≡ v = place_is e.other_name v e.other_next e.other in
        e.no_self_edge (subst (IsEnabled hold_not) at_u hold_not_is_enabled) (sym at_u ∙ at_v)

    long : {u n : ℕ} → LatchChain hold_not (IsEnabled hold_not) u n → n ≤ 1
    long (LatchChain.last latch) = omega arith
    long (LatchChain.more {u = u} {v = v} e rest) = absurd (no_reading u v e)

    greatest : (n : ℕ) → ChainFrom hold_not (IsEnabled hold_not) 4 n → n ≤ 1
    greatest n (inl e) = omega arith
    greatest n (inr x) = long x.2

cover_loads : (a : Bool) → cover_value hold_not_cover (true ∷ a ∷ false ∷ []) ≡ cover_value hold_not_cover (true ∷ a ∷ true ∷ [])
unfolding cover_value
cover_loads true = refl
cover_loads false = refl

-- with e it loads, whatever a is
pub hold_not_loads : (x : ℕ → Bool) → Meets hold_not x → x 0 ≡ true → Loads hold_not x 2 3
hold_not_loads x meets e =
    let low = hold_not_can_put x (codes "q") 2 3 false q_latch meets in
    let high = hold_not_can_put x (codes "q") 2 3 true q_latch meets in
    record {
      low = low.0;
      high = high.0;
      low_is = low.1;
      high_is = high.1;
      same = value false x low.0 low.1
          ∙ (ap (λ b. cover_value hold_not_cover (b ∷ x 1 ∷ false ∷ [])) e
          ∙ (cover_loads (x 1) ∙ (sym (ap (λ b. cover_value hold_not_cover (b ∷ x 1 ∷ true ∷ [])) e) ∙ sym (value true x high.0 high.1))));
    }

cover_holds : (a bit : Bool) → cover_value hold_not_cover (false ∷ a ∷ bit ∷ []) ≡ bit
unfolding cover_value
cover_holds true true = refl
cover_holds true false = refl
cover_holds false true = refl
cover_holds false false = refl

-- without e it doesn't
pub hold_not_holds : (x : ℕ → Bool) → x 0 ≡ false → Loads hold_not x 2 3 → ⊥
hold_not_holds x e loads =
    let l : loads.low 3 ≡ false = value false x loads.low loads.low_is ∙ (ap (λ b. cover_value hold_not_cover (b ∷ x 1 ∷ false ∷ [])) e ∙ cover_holds (x 1) false) in
    let h : loads.high 3 ≡ true = value true x loads.high loads.high_is ∙ (ap (λ b. cover_value hold_not_cover (b ∷ x 1 ∷ true ∷ [])) e ∙ cover_holds (x 1) true) in
    wrong (sym l ∙ (loads.same ∙ h))
  where
    wrong : false ≡ true → ⊥
    wrong q = cc

-- after a load the output is settled
pub hold_not_settled : (n : ℕ) (run : ℕ → ℕ → Bool) → IsRun hold_not n run → (t : ℕ) → t < n → run t 0 ≡ true → IsSettled Event hold_not run (suc t) 4
unfolding q_latch
hold_not_settled n run is_run t h e =
    Marked.gate {fanins = 2 ∷ []} (1, omega arith, refl) (λ p k. subst (Marked hold_not (IsEnabled hold_not) run (suc t)) (only 2 p k) q_marked)
  where
    others : (u : ℕ) → InCone hold_not 3 u → u ≢ 2 → Marked hold_not (IsEnabled hold_not) run t u
    others u cone other = go cone.0
      where
        go : IsSource hold_not u → Marked hold_not (IsEnabled hold_not) run t u
        go (inl i) = Marked.input i
        go (inr l) = absurd (other (sym (place_is l.0 u l.1 l.2)))

    q_marked : Marked hold_not (IsEnabled hold_not) run (suc t) 2
    q_marked = Marked.loads {name = codes "q"} {next = 3} q_latch hold_not_is_enabled others (hold_not_loads (run t) (is_run.meets t h) e)

-- and without one it never is
pub hold_not_unsettled : (run : ℕ → ℕ → Bool) (t : ℕ) → ((s : ℕ) → s < t → run s 0 ≡ false) → IsSettled Event hold_not run t 4 → ⊥
hold_not_unsettled run t low mark =
    go (mark_says hold_not (IsEnabled hold_not) run hold_not_net.single (marks_down hold_not (IsEnabled hold_not) run hold_not_net.single y_reads_q t mark) (Latch (codes "q") 2 3) q_latch refl)
  where
    go : MarkSays hold_not (IsEnabled hold_not) run hold_not_net.single t (Latch (codes "q") 2 3) → ⊥
    go (inl x) = x.0 hold_not_is_enabled
    go (inr x) = hold_not_holds (run x.1.0) (low x.1.0 x.1.1) x.1.2

-- The tree of the output, where the latch is of class 1: the cover of e and a at the last load, and of the constant 0 for the latch.
abbrev side : EventSide ℕ
side = record { circuit = hold_not; order = 0 ∷ 1 ∷ []; class = λ p. 1 }

pub hold_not_unfolds : EventUnfolds side (IsEnabled hold_not) None 4 []
    (Branch buffer (Cons (Branch hold_not_cover (Cons (Leaf 0 (1 ∷ [])) (Cons (Leaf 1 (1 ∷ [])) (Cons (Fixed false) Nil)))) Nil))
unfolding q_latch
hold_not_unfolds =
    EventUnfolds.gate {fanins = 2 ∷ []} (1, omega arith, refl)
    (EventUnfoldsAll.more
    (EventUnfolds.held {name = codes "q"} {next = 3} q_latch tt hold_not_is_enabled
    (EventUnfolds.gate {fanins = 0 ∷ 1 ∷ 2 ∷ []} (0, omega arith, refl)
    (EventUnfoldsAll.more (EventUnfolds.input (inl (refl, refl)))
    (EventUnfoldsAll.more (EventUnfolds.input (inr (inl (refl, refl)))) (EventUnfoldsAll.more EventUnfolds.fixed EventUnfoldsAll.none)))))
    EventUnfoldsAll.none)
