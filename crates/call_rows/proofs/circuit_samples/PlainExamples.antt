-- Depth, marks, trees and values of small circuits in the plain mode.
use Rattle.std.proofs.Common.{◌≡◌, ℕ, zero, suc, ◌+◌, ◌≤◌, Bool, true, false, List, [], ◌∷◌, refl, sym, ◌∙◌, ap, subst, arith, add-one, inl, inr, ◌<◌, Some, slice_get}
use Rattle.std.specs.Prelude.{◌⊎◌, ◌↔◌, codes}
use Rattle.std.specs.List.{Contains}
use Rattle.std.proofs.lemmas.List.Elements.{All-from_recursion}
use Rattle.circuit_theory.specs.declared.Mode.TheVariants.{Plain}
use Rattle.circuit_theory.specs.Cover.{cover_value}
use Rattle.circuit_theory.specs.Circuit.{Named, Holds, Carries, Reads, Reaches, IsLatch, IsSource}
use Rattle.circuit_theory.specs.Run.{NoneEnabled}
use Rattle.circuit_theory.specs.Depth.{LatchReads, LatchPath, HasCycle, IsCycle, LatchChain, IsDepth, HasNoDepth, after_in_round, without}
use Rattle.circuit_theory.specs.Asked.{HaveEqualFunctions}
use Rattle.circuit_theory.specs.Tree.{Tree, Leaf, Branch, Nil, Cons, Unfolds, UnfoldsAll, tree_value, AreNumbered}
use Rattle.circuit_theory.specs.Agree.{Agree, IsPair, AreAlike, IsSettled, IsMinimalCut}
use Rattle.call_rows.specs.circuit_samples.Circuits.{and_cover, constant_one, late, early, one, two, constant_latch, toggle}
use Rattle.call_rows.proofs.circuit_samples.Samples.{late_net, early_net, one_net, two_net, constant_latch_net, toggle_net, item_of, LatchItem}
use Rattle.circuit_laws.proofs.TreeDepth.{tree_depth}
use Rattle.circuit_laws.proofs.Marks.{marks_down}
use Rattle.circuit_laws.proofs.Cycles.{cycle_never_settled}
use Rattle.circuit_theory.proofs.Numbers.{one_place}
use Rattle.call_rows.proofs.circuit_samples.NetTest.{numbers_distinct-sound}
use Rattle.circuit_laws.proofs.LawProofs.{settled_from_depth, equal_functions_agree}
use Rattle.circuit_theory.proofs.Lists.{only}

-- A latch behind a gate and latches before it give one tree: the and of both inputs, one cycle ago.
abbrev pub and_tree : Tree ℕ
and_tree = Branch and_cover (Cons (Leaf 0 1) (Cons (Leaf 1 1) Nil))

pub late_unfolds : Unfolds late (0 ∷ 1 ∷ []) 3 0 1 and_tree
late_unfolds =
    Unfolds.latch {name = codes "y"} {next = 2} (1, omega arith, refl)
    (Unfolds.gate {fanins = 0 ∷ 1 ∷ []} (0, omega arith, refl) (UnfoldsAll.more (Unfolds.input (inl (refl, refl))) (UnfoldsAll.more (Unfolds.input (inr (inl (refl, refl)))) UnfoldsAll.none)))

pub early_unfolds : Unfolds early (0 ∷ 1 ∷ []) 4 0 1 and_tree
early_unfolds =
    Unfolds.gate {fanins = 2 ∷ 3 ∷ []} (0, omega arith, refl)
    (UnfoldsAll.more (Unfolds.latch {name = codes "p"} {next = 0} (1, omega arith, refl) (Unfolds.input (inl (refl, refl))))
    (UnfoldsAll.more (Unfolds.latch {name = codes "q"} {next = 1} (2, omega arith, refl) (Unfolds.input (inr (inl (refl, refl))))) UnfoldsAll.none))

pub late_depth : IsDepth late NoneEnabled 3 1
late_depth = tree_depth late late_net.single late_unfolds

pub early_depth : IsDepth early NoneEnabled 4 1
early_depth = tree_depth early early_net.single early_unfolds

pub late_settled : (run : ℕ → ℕ → Bool) (t : ℕ) → IsSettled Plain late run t 3 ↔ (1 ≤ t)
late_settled run t = settled_from_depth late 4 3 1 late_net (omega arith) late_depth run t

pub early_settled : (run : ℕ → ℕ → Bool) (t : ℕ) → IsSettled Plain early run t 4 ↔ (1 ≤ t)
early_settled run t = settled_from_depth early 5 4 1 early_net (omega arith) early_depth run t

pub and_tree_value : (a : ℕ → ℕ → Bool) → a 0 1 ≡ true → a 1 1 ≡ false → tree_value a and_tree ≡ false
unfolding tree_value cover_value
and_tree_value a h k = ap (λ x. cover_value and_cover (x ∷ a 1 1 ∷ [])) h ∙ ap (λ x. cover_value and_cover (true ∷ x ∷ [])) k

-- so they agree
pub late_and_early_agree : Agree Plain late early
late_and_early_agree = equal_functions_agree late early 4 5 (0 ∷ 1 ∷ []) (0 ∷ 1 ∷ []) late_net early_net numbered equal
  where
    numbered : AreNumbered late early (0 ∷ 1 ∷ []) (0 ∷ 1 ∷ [])
    numbered = record {
      left_once = λ p q i h k. one_place late.inputs (0 ∷ 1 ∷ []) (numbers_distinct-sound (0 ∷ 1 ∷ []) refl) p q i h k;
      right_once = λ p q i h k. one_place early.inputs (0 ∷ 1 ∷ []) (numbers_distinct-sound (0 ∷ 1 ∷ []) refl) p q i h k;
      shared = shared;
    }
      where
        Both : ℕ → ℕ → Type 0
        Both p q = (name : List ℕ) × Contains late.inputs (record { name = name; place = p }) × Contains early.inputs (record { name = name; place = q })

        shared : (p q i : ℕ) → ((0 ≡ p) × (0 ≡ i)) ⊎ (((1 ≡ p) × (1 ≡ i)) ⊎ ⊥) → ((0 ≡ q) × (0 ≡ i)) ⊎ (((1 ≡ q) × (1 ≡ i)) ⊎ ⊥) → Both p q
        shared p q i (inl h) (inl k) = subst (λ x. Both x q) h.0 (subst (Both 0) k.0 (codes "a", (0, omega arith, refl), (0, omega arith, refl)))
        shared p q i (inl h) (inr (inl k)) = absurd (omega (arith, h.1, k.1))
        shared p q i (inl h) (inr (inr k)) = absurd k
        shared p q i (inr (inl h)) (inl k) = absurd (omega (arith, h.1, k.1))
        shared p q i (inr (inl h)) (inr (inl k)) = subst (λ x. Both x q) h.0 (subst (Both 1) k.0 (codes "b", (1, omega arith, refl), (1, omega arith, refl)))
        shared p q i (inr (inl h)) (inr (inr k)) = absurd k
        shared p q i (inr (inr h)) k = absurd h

    equal : (p q : ℕ) → IsPair [] late early p q → HaveEqualFunctions late early (0 ∷ 1 ∷ []) (0 ∷ 1 ∷ []) p q
    equal p q (IsPair.outputs {name = name} l r) =
        let left : 3 ≡ p = ap (λ (n : Named ℕ). n.place) (only (record { name = codes "y"; place = 3 }) (record { name = name; place = p }) l) in
        let right : 4 ≡ q = ap (λ (n : Named ℕ). n.place) (only (record { name = codes "y"; place = 4 }) (record { name = name; place = q }) r) in
        subst (λ x. HaveEqualFunctions late early (0 ∷ 1 ∷ []) (0 ∷ 1 ∷ []) x q) left (subst (λ x. HaveEqualFunctions late early (0 ∷ 1 ∷ []) (0 ∷ 1 ∷ []) 3 x) right (record {
          left_tree = and_tree;
          right_tree = and_tree;
          left_unfolds = (1, late_unfolds);
          right_unfolds = (1, early_unfolds);
          same = λ x care. refl;
        }))
    equal p q (IsPair.nexts h l r) = absurd (omega (arith, h.1))

-- One latch is its input one cycle ago, two are their input two cycles ago.
pub one_unfolds : Unfolds one (0 ∷ []) 1 0 1 (Leaf 0 1)
one_unfolds = Unfolds.latch {name = codes "y"} {next = 0} (0, omega arith, refl) (Unfolds.input (inl (refl, refl)))

pub two_unfolds : Unfolds two (0 ∷ []) 2 0 2 (Leaf 0 2)
two_unfolds = Unfolds.latch {name = codes "y"} {next = 1} (1, omega arith, refl) (Unfolds.latch {name = codes "p"} {next = 0} (0, omega arith, refl) (Unfolds.input (inl (refl, refl))))

pub one_settled : (run : ℕ → ℕ → Bool) (t : ℕ) → IsSettled Plain one run t 1 ↔ (1 ≤ t)
one_settled run t = settled_from_depth one 2 1 1 one_net (omega arith) (tree_depth one one_net.single one_unfolds) run t

pub two_settled : (run : ℕ → ℕ → Bool) (t : ℕ) → IsSettled Plain two run t 2 ↔ (2 ≤ t)
two_settled run t = settled_from_depth two 3 2 2 two_net (omega arith) (tree_depth two two_net.single two_unfolds) run t

-- A pulse in cycle 0 comes out of one latch in cycle 1 and out of two in cycle 2.
abbrev pulse : ℕ → Bool
pulse zero = true
pulse (suc t) = false

abbrev one_run : ℕ → ℕ → Bool
one_run t zero = pulse t
one_run zero (suc s) = false
one_run (suc t) (suc s) = pulse t

abbrev two_run : ℕ → ℕ → Bool
two_run t zero = pulse t
two_run zero (suc s) = false
two_run (suc t) (suc zero) = pulse t
two_run (suc zero) (suc (suc s)) = false
two_run (suc (suc t)) (suc (suc s)) = pulse t

-- so they don't agree: agreement is no empty word
pub one_and_two_disagree : Agree Plain one two → ⊥
one_and_two_disagree agree = wrong (agree 3 one_run two_run alike 2 1 2 (omega arith) pair ((one_settled one_run 2).1 (omega arith)) ((two_settled two_run 2).1 (omega arith)))
  where
    wrong : false ≡ true → ⊥
    wrong e = cc

    left_steps : (t : ℕ) → one_run (t + 1) 1 ≡ one_run t 0
    left_steps t = ap (λ s. one_run s 1) (add-one t)

    first_step : (t : ℕ) → two_run (t + 1) 1 ≡ two_run t 0
    first_step t = ap (λ s. two_run s 1) (add-one t)

    second_step : (t : ℕ) → two_run (t + 1) 2 ≡ two_run t 1
    second_step t = ap (λ s. two_run s 2) (add-one t) ∙ at t
      where
        at : (t : ℕ) → two_run (suc t) 2 ≡ two_run t 1
        at zero = refl
        at (suc t) = refl

    input : (name : List ℕ) (p : ℕ) → Contains one.inputs (record { name = name; place = p }) → 0 ≡ p
    input name p h = ap (λ (n : Named ℕ). n.place) (only (record { name = codes "a"; place = 0 }) (record { name = name; place = p }) h)

    alike : AreAlike one two 3 one_run two_run
    alike = record {
      left_run = record { meets = λ t h. All-from_recursion (Holds (one_run t)) one.equations (tt, tt); carries = λ t h. All-from_recursion (Carries (one_run t) (one_run (t + 1))) one.equations (left_steps t, tt) };
      right_run = record { meets = λ t h. All-from_recursion (Holds (two_run t)) two.equations (tt, (tt, tt)); carries = λ t h. All-from_recursion (Carries (two_run t) (two_run (t + 1))) two.equations (first_step t, (second_step t, tt)) };
      equal_inputs = λ name p q l r t h. ap (one_run t) (sym (input name p l)) ∙ ap (two_run t) (input name q r);
    }

    pair : IsPair [] one two 1 2
    pair = IsPair.outputs {name = codes "y"} (0, omega arith, refl) (0, omega arith, refl)

-- A latch of a constant has depth 1: the function's simplicity doesn't lower it.
pub constant_latch_unfolds : Unfolds constant_latch [] 1 0 1 (Branch constant_one Nil)
constant_latch_unfolds = Unfolds.latch {name = codes "y"} {next = 0} (1, omega arith, refl) (Unfolds.gate {fanins = []} (0, omega arith, refl) UnfoldsAll.none)

pub constant_latch_depth : IsDepth constant_latch NoneEnabled 1 1
constant_latch_depth = tree_depth constant_latch constant_latch_net.single constant_latch_unfolds

pub constant_latch_settled : (run : ℕ → ℕ → Bool) (t : ℕ) → IsSettled Plain constant_latch run t 1 ↔ (1 ≤ t)
constant_latch_settled run t = settled_from_depth constant_latch 2 1 1 constant_latch_net (omega arith) constant_latch_depth run t

pub constant_latch_value : (a : ℕ → ℕ → Bool) → tree_value a (Branch constant_one Nil) ≡ true
unfolding tree_value cover_value
constant_latch_value a = refl

-- A latch that takes over its own complement lies on a cycle, has no depth and is never settled.
q_source : IsSource toggle 0
q_source = inr (codes "q", 1, (2, omega arith, refl))

toggle_reads : LatchReads toggle NoneEnabled [] 0 0
unfolding q_source
toggle_reads = record {
  name = codes "q";
  next = 1;
  latch = (2, omega arith, refl);
  kept = λ h. omega (arith, h.1);
  other_name = codes "q";
  other_next = 1;
  other = (2, omega arith, refl);
  other_kept = λ h. omega (arith, h.1);
  cone = (q_source, Reaches.there (Reads.by_gate {fanins = 0 ∷ []} (0, omega arith, refl) (0, omega arith, refl)) Reaches.here);
  no_self_edge = λ en. absurd en;
}

pub toggle_cycle : HasCycle toggle NoneEnabled []
toggle_cycle = (0, LatchPath.edge toggle_reads)

pub toggle_is_cycle : IsCycle toggle NoneEnabled [] (0 ∷ [])
toggle_is_cycle = record {
  some = omega arith;
  distinct = λ i j d l k. absurd (omega arith);
  edges = edges;
}
  where
    some_is : {X : Type 0} {x y : X} → Some x ≡ Some y → x ≡ y
    some_is q = cc

    edges : (i u v : ℕ) → slice_get (0 ∷ []) i ≡ Some u → slice_get (0 ∷ []) (after_in_round 1 i) ≡ Some v → LatchReads toggle NoneEnabled [] v u
    edges zero u v l r = subst (λ x. LatchReads toggle NoneEnabled [] x u) (some_is r) (subst (LatchReads toggle NoneEnabled [] 0) (some_is l) toggle_reads)
    edges (suc i) u v l r = absurd (nothing i l)
      where
        nothing : (i : ℕ) → slice_get [] i ≡ Some u → ⊥
        nothing zero q = cc
        nothing (suc i) q = cc

toggle_chain : (n : ℕ) → LatchChain toggle NoneEnabled 0 (suc n)
toggle_chain zero = LatchChain.last {next = 1} {name = codes "q"} (2, omega arith, refl)
toggle_chain (suc n) = LatchChain.more toggle_reads (toggle_chain n)

y_reads_q : Reaches toggle 2 0
y_reads_q = Reaches.there (Reads.by_gate {fanins = 0 ∷ []} (1, omega arith, refl) (0, omega arith, refl)) Reaches.here

pub toggle_no_depth : HasNoDepth toggle NoneEnabled 2
toggle_no_depth zero = inl refl
toggle_no_depth (suc n) = inr (0, (q_source, y_reads_q), toggle_chain n)

pub toggle_never_settled : (run : ℕ → ℕ → Bool) (t : ℕ) → IsSettled Plain toggle run t 2 → ⊥
toggle_never_settled run t mark =
    cycle_never_settled toggle NoneEnabled [] run toggle_net.single (suc t) t 0 (omega arith) (LatchPath.edge toggle_reads) (marks_down toggle NoneEnabled run toggle_net.single y_reads_q t mark)

-- its latch is a minimal cut of it beside itself
pub toggle_cut : IsMinimalCut Plain toggle toggle (codes "q" ∷ [])
toggle_cut = record { common = common; left_free = free; right_free = free; needed = needed }
  where
    common : (name : List ℕ) → Contains (codes "q" ∷ []) name → (u p : ℕ) × (v q : ℕ) × IsLatch toggle name u p × IsLatch toggle name v q
    common name h = let e = only (codes "q") name h in
        (0, 1, 0, 1, subst (λ (n : List ℕ). IsLatch toggle n 0 1) e (2, omega arith, refl), subst (λ (n : List ℕ). IsLatch toggle n 0 1) e (2, omega arith, refl))

    name_is : (name : List ℕ) (u next : ℕ) → IsLatch toggle name u next → codes "q" ≡ name
    name_is name u next h = ap (λ (x : LatchItem). x.name) (only (record { name = codes "q"; out = 0; next = 1 }) (record { name = name; out = u; next = next }) (item_of toggle.equations name u next h))

    gone : {u v : ℕ} → LatchReads toggle NoneEnabled (codes "q" ∷ []) u v → ⊥
    gone e = e.kept (subst (Contains (codes "q" ∷ [])) (name_is e.name _ e.next e.latch) (0, omega arith, refl))

    first : {u v : ℕ} → LatchPath toggle NoneEnabled (codes "q" ∷ []) u v → ⊥
    first (LatchPath.edge e) = gone e
    first (LatchPath.step e rest) = gone e

    free : HasCycle toggle NoneEnabled (codes "q" ∷ []) → ⊥
    free cycle = first cycle.1

    needed : (i : ℕ) → i < 1 → HasCycle toggle NoneEnabled (without (codes "q" ∷ []) i) ⊎ HasCycle toggle NoneEnabled (without (codes "q" ∷ []) i)
    needed zero h = inl toggle_cycle
    needed (suc i) h = absurd (omega arith)
