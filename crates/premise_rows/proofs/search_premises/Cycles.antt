-- A latch that turns and one that rises agree in the cycles 0 and 1, and differ in cycle 2.
use Rattle.std.proofs.Common.{◌≡◌, ◌∙◌, ℕ, zero, suc, ◌≤◌, Bool, true, false, [], ◌∷◌, refl, sym, ap, subst, arith}
use Rattle.circuit_theory.specs.Agree.{IsPair}
use Rattle.circuit_theory.specs.Circuit.{Named, Started, IsLatch}
use Rattle.circuit_theory.specs.Cover.{cover_value}
use Rattle.circuit_theory.specs.Tree.{Tree, Fixed, Branch, Cons, Nil, tree_value}
use Rattle.circuit_theory.proofs.Lists.{only}
use Rattle.circuit_laws.specs.reset_laws.Reset.{ResetUnfolds, ResetUnfoldsAll, HasStarts, HaveEqualResets}
use Rattle.circuit_laws.proofs.reset_laws.ResetExist.{reset_trees_are_one}
use Rattle.circuit_laws.specs.cycle_laws.Samples.{turned, toggle}
use Rattle.circuit_laws.proofs.cycle_laws.Cycles.{equal_up_to_agree, cycles_are_decided}
use Rattle.call_rows.proofs.circuit_samples.NetTest.{net_test-sound, numbers_distinct-sound}
use Rattle.premise_rows.specs.search_premises.Cycles.{always, rises, AreEqualInCycles, AgreeInTwoCycles}

toggle_starts : HasStarts toggle
toggle_starts = record {
  of_latches = λ u bit h. let e = only _ _ h in ((117 ∷ []), 1, subst (λ (s : Started ℕ). IsLatch toggle (117 ∷ []) s.place 1) e (0, omega arith, refl));
  once = λ u x y h k. let e = ap (λ (s : Started ℕ). s.bit) (only _ _ h) in let f = ap (λ (s : Started ℕ). s.bit) (only _ _ k) in sym e ∙ f;
}

rises_starts : HasStarts rises
rises_starts = record {
  of_latches = λ u bit h. let e = only _ _ h in ((117 ∷ []), 1, subst (λ (s : Started ℕ). IsLatch rises (117 ∷ []) s.place 1) e (0, omega arith, refl));
  once = λ u x y h k. let e = ap (λ (s : Started ℕ). s.bit) (only _ _ h) in let f = ap (λ (s : Started ℕ). s.bit) (only _ _ k) in sym e ∙ f;
}

-- what both have in a cycle
abbrev toggle_tree : (t : ℕ) → Tree ℕ
toggle_tree zero = Fixed false
toggle_tree (suc t) = Branch turned (Cons (toggle_tree t) Nil)

abbrev rises_tree : (t : ℕ) → Tree ℕ
rises_tree zero = Fixed false
rises_tree (suc t) = Branch always Nil

toggle_unfolds : (t : ℕ) → ResetUnfolds toggle [] 0 0 t (toggle_tree t)
toggle_unfolds zero = ResetUnfolds.started {name = 117 ∷ []} {next = 1} (0, omega arith, refl) (0, omega arith, refl)
toggle_unfolds (suc t) =
    ResetUnfolds.later {name = 117 ∷ []} {next = 1} (0, omega arith, refl) (ResetUnfolds.gate {fanins = 0 ∷ []} {cover = turned} (1, omega arith, refl) (ResetUnfoldsAll.more (toggle_unfolds t) ResetUnfoldsAll.none))

rises_unfolds : (t : ℕ) → ResetUnfolds rises [] 1 0 t (rises_tree t)
rises_unfolds zero = ResetUnfolds.started {name = 117 ∷ []} {next = 1} (0, omega arith, refl) (0, omega arith, refl)
rises_unfolds (suc t) = ResetUnfolds.later {name = 117 ∷ []} {next = 1} (0, omega arith, refl) (ResetUnfolds.gate {fanins = []} {cover = always} (1, omega arith, refl) ResetUnfoldsAll.none)

-- in the first two cycles they have one value
same : (t : ℕ) → t ≤ 1 → (x : ℕ → ℕ → Bool) → tree_value x (toggle_tree t) ≡ tree_value x (rises_tree t)
unfolding tree_value cover_value
same zero low x = refl
same (suc zero) low x = refl
same (suc (suc t)) low x = absurd (omega (arith, low))

equal : (t : ℕ) → t ≤ 1 → HaveEqualResets toggle rises [] [] 0 1 0 0 t
equal t low = record { left_tree = toggle_tree t; right_tree = rises_tree t; left_unfolds = toggle_unfolds t; right_unfolds = rises_unfolds t; same = λ x care. same t low x }

equal_pair : (p q t : ℕ) → IsPair [] toggle rises p q → t ≤ 1 → HaveEqualResets toggle rises [] [] 0 1 p q t
equal_pair p q t (IsPair.outputs {name = name} l r) low =
    let left : 0 ≡ p = ap (λ (n : Named ℕ). n.place) (only (record { name = 111 ∷ []; place = 0 }) (record { name = name; place = p }) l) in
    let right : 0 ≡ q = ap (λ (n : Named ℕ). n.place) (only (record { name = 111 ∷ []; place = 0 }) (record { name = name; place = q }) r) in
    subst (λ x. HaveEqualResets toggle rises [] [] 0 1 x q t) left (subst (λ x. HaveEqualResets toggle rises [] [] 0 1 0 x t) right (equal t low))
equal_pair p q t (IsPair.nexts h l r) low = absurd (omega (arith, h.1))

sides : AreEqualInCycles
sides = record {
  numbered = record { left_once = λ p q i h k. absurd h; right_once = λ p q i h k. absurd h; shared = λ p q i h k. absurd h };
  based = record { left_inputs = λ p i h. absurd h; right_inputs = λ p i h. absurd h; latches = omega arith };
  equal = equal_pair;
  left_net = net_test-sound toggle 2 refl;
  right_net = net_test-sound rises 2 refl;
  left_starts = toggle_starts;
  right_starts = rises_starts;
  left_once = numbers_distinct-sound (0 ∷ []) refl;
  right_once = numbers_distinct-sound (0 ∷ []) refl;
  left_each = refl;
  right_each = refl;
}

apart : (x : ℕ → ℕ → Bool) → tree_value x (toggle_tree 2) ≡ tree_value x (rises_tree 2) → ⊥
unfolding tree_value cover_value
apart x e = let z : false ≡ true = e in cc

differ : HaveEqualResets toggle rises [] [] 0 1 0 0 2 → ⊥
differ h =
    let s = sides in
    let left : h.left_tree ≡ toggle_tree 2 = (reset_trees_are_one toggle 2 [] 0 0 2 s.left_net s.left_starts s.left_once s.left_each (omega arith)).1 h.left_tree (toggle_tree 2) h.left_unfolds (toggle_unfolds 2) in
    let right : h.right_tree ≡ rises_tree 2 = (reset_trees_are_one rises 2 [] 1 0 2 s.right_net s.right_starts s.right_once s.right_each (omega arith)).1 h.right_tree (rises_tree 2) h.right_unfolds (rises_unfolds 2) in
    let x : ℕ → ℕ → Bool = λ i k. false in
    apart x (sym (ap (tree_value x) left) ∙ h.same x tt ∙ ap (tree_value x) right)

pub agree_in_two_cycles : AgreeInTwoCycles
agree_in_two_cycles =
    let s = sides in
    let d = cycles_are_decided toggle rises 2 2 [] [] 0 1 0 0 2 s.left_net s.right_net s.left_starts s.right_starts s.left_once s.right_once s.left_each s.right_each (omega arith) (omega arith) in
    record {
      sides = s;
      agree = equal_up_to_agree toggle rises [] [] 0 1 1 s.numbered s.based s.equal;
      left_tree = d.0;
      right_tree = d.1;
      left_unfolds = d.2;
      right_unfolds = d.3;
      decided = d.4;
      differ = differ;
    }
