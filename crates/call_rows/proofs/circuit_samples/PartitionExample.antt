-- Four latches from 0: one block by initial values, and two blocks in the coarsest inductive partition.
use Rattle.std.proofs.Common.{◌≡◌, ◌≢◌, ℕ, Bool, true, false, List, [], ◌∷◌, refl, sym, ◌∙◌, ap, subst, arith, inl, inr}
use Rattle.std.specs.Prelude.{◌⊎◌, ◌↔◌, codes}
use Rattle.std.specs.List.{Contains, AllPairs}
use Rattle.circuit_theory.specs.Cover.{cover_value}
use Rattle.circuit_theory.specs.Circuit.{Circuit, Named, Started, IsInput, IsLatch, Meets, Holds}
use Rattle.circuit_theory.specs.Run.{IsResetRun}
use Rattle.circuit_theory.specs.Net.{IsNet}
use Rattle.circuit_theory.specs.Tree.{AreNumbered, IsInputNumber, tree_value}
use Rattle.circuit_theory.specs.Cone.{latches_of}
use Rattle.circuit_theory.specs.Joined.{Either, Left, Right}
use Rattle.circuit_theory.specs.Agree.{IsPair}
use Rattle.circuit_theory.specs.Blocks.{IsConstantOn, IsCoarsest}
use Rattle.circuit_theory.proofs.Lists.{only, All-from_each}
use Rattle.circuit_theory.proofs.Numbers.{one_place}
use Rattle.circuit_laws.specs.reset_laws.Reset.{HasStarts, AreAlikeFromReset, AgreeFromReset}
use Rattle.circuit_laws.proofs.reset_laws.ResetRuns.{reset_runs_exist}
use Rattle.circuit_laws.specs.reset_laws.induct_laws.Partitions.{IsInitial, IsCoarser, AreEqualOver}
use Rattle.circuit_laws.specs.reset_laws.induct_laws.Queries.{BlockUnfolds, BlockUnfoldsAll}
use Rattle.circuit_laws.proofs.reset_laws.induct_laws.Partitions.{initial_is_coarser, split_stays_coarser}
use Rattle.circuit_laws.proofs.reset_laws.induct_laws.Runs.{blocks_stay_equal, equal_over_blocks_agree}
use Rattle.call_rows.specs.circuit_samples.Partitioned.{three_latches, one_latch, all_latches, a_number, first_block, last_block, telling, TellApart, HasEqualLatches, HasQueries}
use Rattle.call_rows.proofs.circuit_samples.NetTest.{net_test-sound, numbers_distinct-sound}
use Rattle.call_rows.proofs.circuit_samples.Each.{Each, each_at, each_latch, each_pair}

pub left_net : IsNet three_latches 5
left_net = net_test-sound three_latches 5 refl

pub right_net : IsNet one_latch 2
right_net = net_test-sound one_latch 2 refl

-- each initial value is 0
zero_start : (c : Circuit ℕ) → Each (λ (s : Started ℕ). s.bit ≡ false) c.starts → (u : ℕ) (x : Bool) → Contains c.starts (record { place = u; bit = x }) → x ≡ false
zero_start c all u x h = each_at (λ (s : Started ℕ). s.bit ≡ false) c.starts all (record { place = u; bit = x }) h

starts_of : (c : Circuit ℕ) → Each (λ (s : Started ℕ). s.bit ≡ false) c.starts → Each (λ (s : Started ℕ). (name : List ℕ) × (next : ℕ) × IsLatch c name s.place next) c.starts → HasStarts c
starts_of c bits latches = record {
  of_latches = λ u bit h. each_at (λ (s : Started ℕ). (name : List ℕ) × (next : ℕ) × IsLatch c name s.place next) c.starts latches (record { place = u; bit = bit }) h;
  once = λ u x y h k. zero_start c bits u x h ∙ sym (zero_start c bits u y k);
}

pub distinct_latches : AllPairs (λ u v. u ≢ v) (latches_of three_latches)
distinct_latches = each_pair (λ u v. u ≢ v) (latches_of three_latches) (((λ e. omega arith), ((λ e. omega arith), tt)), (((λ e. omega arith), tt), (tt, tt)))

pub left_starts : HasStarts three_latches
left_starts = starts_of three_latches (refl, (refl, (refl, tt))) ((codes "p", 0, (1, omega arith, refl)), ((codes "q", 0, (2, omega arith, refl)), ((codes "r", 4, (3, omega arith, refl)), tt)))

pub right_starts : HasStarts one_latch
right_starts = starts_of one_latch (refl, tt) ((codes "s", 0, (0, omega arith, refl)), tt)

pub numbered : AreNumbered three_latches one_latch (0 ∷ []) (0 ∷ [])
numbered = record {
  left_once = λ p q i h k. one_place three_latches.inputs (0 ∷ []) (numbers_distinct-sound (0 ∷ []) refl) p q i h k;
  right_once = λ p q i h k. one_place one_latch.inputs (0 ∷ []) (numbers_distinct-sound (0 ∷ []) refl) p q i h k;
  shared = λ p q i h k. shared p q i h k;
}
  where
    Both : ℕ → ℕ → Type 0
    Both p q = (name : List ℕ) × Contains three_latches.inputs (record { name = name; place = p }) × Contains one_latch.inputs (record { name = name; place = q })

    shared : (p q i : ℕ) → ((0 ≡ p) × (0 ≡ i)) ⊎ ⊥ → ((0 ≡ q) × (0 ≡ i)) ⊎ ⊥ → Both p q
    shared p q i (inl h) (inl k) = subst (λ x. Both x q) h.0 (subst (Both 0) k.0 (codes "a", (0, omega arith, refl), (0, omega arith, refl)))
    shared p q i (inl h) (inr k) = absurd k
    shared p q i (inr h) k = absurd h

-- each latch starts with 0
starts_at_zero : (name : List ℕ) (u next : Either ℕ ℕ) → IsLatch all_latches name u next → Contains all_latches.starts (record { place = u; bit = false })
starts_at_zero name u next latch =
    each_latch (λ m v to. Contains all_latches.starts (record { place = v; bit = false })) all_latches.equations ((0, omega arith, refl), ((1, omega arith, refl), ((2, omega arith, refl), ((3, omega arith, refl), tt)))) name u next latch

pub initial : IsInitial all_latches first_block
initial name name' u next v next' l r apart = (λ e. (false, starts_at_zero name u next l, starts_at_zero name' v next' r), λ h. refl)

pub first_is_coarser : IsCoarser all_latches a_number first_block
first_is_coarser = initial_is_coarser three_latches one_latch a_number first_block initial

-- a latch is of the first block and takes over a, or of the second and takes over its complement
abbrev Kind : (Either ℕ ℕ → Bool) → Either ℕ ℕ → Either ℕ ℕ → Type 0
Kind x u next = ((last_block u ≡ 0) × (x next ≡ x (Left 0))) ⊎ ((last_block u ≡ 1) × (x next ≡ x (Left 4)))

kind : (x : Either ℕ ℕ → Bool) → x (Right 0) ≡ x (Left 0) → (name : List ℕ) (u next : Either ℕ ℕ) → IsLatch all_latches name u next → Kind x u next
kind x e name u next latch = each_latch (λ m v to. Kind x v to) all_latches.equations (inl (refl, refl), (inl (refl, refl), (inr (refl, refl), (inl (refl, e), tt)))) name u next latch

tell_meets : Meets all_latches telling
unfolding cover_value
tell_meets = All-from_each (Holds telling) all_latches.equations (λ e h. each_at (Holds telling) all_latches.equations (refl, (tt, (tt, (tt, (tt, tt))))) e h)

same_number : (x : Either ℕ ℕ → Bool) → x (Left 0) ≡ x (Right 0) → (p q : Either ℕ ℕ) (i : ℕ) → IsInputNumber all_latches a_number p i → IsInputNumber all_latches a_number q i → x p ≡ x q
same_number x e p q i h k = sym (to_left p i h) ∙ to_left q i k
  where
    to_left : (r : Either ℕ ℕ) (i : ℕ) → ((Left 0 ≡ r) × (0 ≡ i)) ⊎ (((Right 0 ≡ r) × (0 ≡ i)) ⊎ ⊥) → x (Left 0) ≡ x r
    to_left r i (inl a) = ap x a.0
    to_left r i (inr (inl b)) = e ∙ ap x b.0
    to_left r i (inr (inr c)) = absurd c

latch_is_zero : (name : List ℕ) (u next : Either ℕ ℕ) → IsLatch all_latches name u next → telling u ≡ false
latch_is_zero name u next latch = each_latch (λ m v to. telling v ≡ false) all_latches.equations (refl, (refl, (refl, (refl, tt)))) name u next latch

pub tell_apart : TellApart
tell_apart = record {
  meets = tell_meets;
  constant = record { inputs = λ p q i h k. same_number telling refl p q i h k; latches = λ name name' u next v next' l r e. latch_is_zero name u next l ∙ sym (latch_is_zero name' v next' r) };
  split = λ name name' u next v next' l r. go u next v next' (kind telling refl name u next l) (kind telling refl name' v next' r);
}
  where
    wrong : true ≡ false → ⊥
    wrong e = cc

    go : (u next v next' : Either ℕ ℕ) → Kind telling u next → Kind telling v next' → last_block u ≡ last_block v ↔ (◌≡◌ {A = ℕ} 0 0 × (telling next ≡ telling next'))
    go u next v next' (inl a) (inl b) = (λ e. (refl, a.1 ∙ sym b.1), λ h. a.0 ∙ sym b.0)
    go u next v next' (inl a) (inr b) = (λ e. absurd (omega (arith, a.0, b.0, e)), λ h. absurd (wrong (sym a.1 ∙ (h.1 ∙ b.1))))
    go u next v next' (inr a) (inl b) = (λ e. absurd (omega (arith, a.0, b.0, e)), λ h. absurd (wrong (sym (sym a.1 ∙ (h.1 ∙ b.1)))))
    go u next v next' (inr a) (inr b) = (λ e. (refl, a.1 ∙ sym b.1), λ h. a.0 ∙ sym b.0)

pub coarsest : IsCoarsest all_latches a_number last_block
coarsest = record {
  inductive = record {
    starts = λ name name' u next v next' l r apart e. (false, starts_at_zero name u next l, starts_at_zero name' v next' r);
    steps = steps;
  };
  coarsest = split_stays_coarser three_latches one_latch a_number first_block last_block telling first_is_coarser tell_apart.meets tell_apart.constant tell_apart.split;
}
  where
    steps : (x : Either ℕ ℕ → Bool) → Meets all_latches x → IsConstantOn all_latches a_number last_block x →
        (name name' : List ℕ) (u next v next' : Either ℕ ℕ) → IsLatch all_latches name u next → IsLatch all_latches name' v next' → last_block u ≡ last_block v → x next ≡ x next'
    steps x meets constant name name' u next v next' l r e = go (kind x one name u next l) (kind x one name' v next' r)
      where
        one : x (Right 0) ≡ x (Left 0)
        one = constant.inputs (Right 0) (Left 0) 0 (inr (inl (refl, refl))) (inl (refl, refl))

        go : Kind x u next → Kind x v next' → x next ≡ x next'
        go (inl a) (inl b) = a.1 ∙ sym b.1
        go (inl a) (inr b) = absurd (omega (arith, a.0, b.0, e))
        go (inr a) (inl b) = absurd (omega (arith, a.0, b.0, e))
        go (inr a) (inr b) = a.1 ∙ sym b.1

q_latch : IsLatch all_latches (codes "q") (Left 2) (Left 0)
q_latch = (2, omega arith, refl)

s_latch : IsLatch all_latches (codes "s") (Right 1) (Right 0)
s_latch = (4, omega arith, refl)

pub outputs_equal : (p q : ℕ) → IsPair [] three_latches one_latch p q → AreEqualOver three_latches one_latch a_number last_block p q
outputs_equal p q (IsPair.nexts h l r) x meets constant = absurd (omega (arith, h.1))
outputs_equal p q (IsPair.outputs {name = name} l r) x meets constant =
    let left : 2 ≡ p = ap (λ (n : Named ℕ). n.place) (only (record { name = codes "y"; place = 2 }) (record { name = name; place = p }) l) in
    let right : 1 ≡ q = ap (λ (n : Named ℕ). n.place) (only (record { name = codes "y"; place = 1 }) (record { name = name; place = q }) r) in
    ap (λ k. x (Left k)) (sym left) ∙ (constant.latches (codes "q") (codes "s") (Left 2) (Left 0) (Right 1) (Right 0) q_latch s_latch refl ∙ ap (λ k. x (Right k)) right)

pub from_reset : AgreeFromReset three_latches one_latch
from_reset = equal_over_blocks_agree three_latches one_latch (0 ∷ []) (0 ∷ []) last_block numbered refl coarsest.inductive outputs_equal

-- a run in which a is 0
run_of : (c : Circuit ℕ) (size : ℕ) → IsNet c size → HasStarts c → (run : ℕ → ℕ → Bool) × IsResetRun c 3 run × ((t p : ℕ) → IsInput c p → run t p ≡ false)
run_of c size net starts = let r = reset_runs_exist c size 3 (λ p. false) (λ t p. false) net starts in (r.0, r.1, r.2)

pub equal_latches : HasEqualLatches
equal_latches = record {
  left = l.0;
  right = r.0;
  alike = alike;
  equal = λ t h. blocks_stay_equal three_latches one_latch (0 ∷ []) (0 ∷ []) last_block numbered refl coarsest.inductive 3 l.0 r.0 alike (codes "p") (codes "s") (Left 1) (Left 0) (Right 1) (Right 0) (1, omega arith, refl) s_latch refl t h;
}
  where
    l : (run : ℕ → ℕ → Bool) × IsResetRun three_latches 3 run × ((t p : ℕ) → IsInput three_latches p → run t p ≡ false)
    l = run_of three_latches 5 left_net left_starts

    r : (run : ℕ → ℕ → Bool) × IsResetRun one_latch 3 run × ((t p : ℕ) → IsInput one_latch p → run t p ≡ false)
    r = run_of one_latch 2 right_net right_starts

    alike : AreAlikeFromReset three_latches one_latch 3 l.0 r.0
    alike = record { left_run = l.1; right_run = r.1; equal_inputs = λ name p q i j t h. l.2 t p (name, i) ∙ sym (r.2 t q (name, j)) }

pub queries : HasQueries
unfolding tree_value cover_value
queries = record {
  left = BlockUnfolds.gate {fanins = Left 0 ∷ []} (0, omega arith, refl) (BlockUnfoldsAll.more (BlockUnfolds.input (inl (refl, refl))) BlockUnfoldsAll.none);
  right = BlockUnfolds.input (inr (inl (refl, refl)));
  other = BlockUnfolds.input (inl (refl, refl));
  same = λ x e. refl;
  not_same = λ same. wrong (same (λ i k. true) refl);
}
  where
    wrong : false ≡ true → ⊥
    wrong e = cc
