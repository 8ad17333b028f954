-- An output has one tree in both nets.
use Rattle.std.proofs.Common.{◌≡◌, ◌≢◌, ℕ, zero, suc, ◌<◌, ◌≤◌, List, [], ◌∷◌, slice_get, Some, refl, ap, arith, inl, inr}
use Rattle.std.specs.Prelude.{codes}
use Rattle.std.specs.List.{Contains, AllPairs}
use Rattle.std.proofs.lemmas.Option.{none-some, same_Some}
use Rattle.circuit_theory.specs.Circuit.{Equation}
use Rattle.circuit_theory.specs.Interface.{AreNumbersOf}
use Rattle.circuit_theory.specs.Joined.{moved}
use Rattle.circuit_theory.specs.Tree.{Unfolds, UnfoldsAll}
use Rattle.flat_net.specs.View.{circuit_of}
use Rattle.net_assembly.specs.net_alike.Renumbered.{AreRenumbered, IsReadBy}
use Rattle.flatten.specs.OneNet.{AreOneNet}
use Rattle.design_trees.specs.OneTree.{AreNamedNumbers}
use Rattle.design_trees.proofs.OneTree.{have_one_tree}
use Rattle.call_rows.proofs.circuit_samples.Each.{each_at}
use Rattle.call_rows.proofs.circuit_samples.NetTest.{numbers_distinct-sound}
use Rattle.premise_rows.specs.certificate_premises.OneGraph.{on_cover}
use Rattle.premise_rows.specs.certificate_premises.OneTree.{not_cover, neither, neither_turned, read_names, neither_tree, HaveOneTree}
use Rattle.premise_rows.proofs.block_premises.TurningNets.{each}

-- each complement where the other is
abbrev exchanged : ℕ → ℕ
exchanged zero = 0
exchanged (suc zero) = 1
exchanged (suc (suc zero)) = 2
exchanged (suc (suc (suc zero))) = 4
exchanged (suc (suc (suc (suc zero)))) = 3
exchanged (suc (suc (suc (suc (suc n))))) = suc (suc (suc (suc (suc n))))

twice : (n : ℕ) → exchanged (exchanged n) ≡ n
twice zero = refl
twice (suc zero) = refl
twice (suc (suc zero)) = refl
twice (suc (suc (suc zero))) = refl
twice (suc (suc (suc (suc zero)))) = refl
twice (suc (suc (suc (suc (suc n))))) = refl

low : (n : ℕ) → n < 6 → exchanged n < 6
low zero l = omega arith
low (suc zero) l = omega arith
low (suc (suc zero)) l = omega arith
low (suc (suc (suc zero))) l = omega arith
low (suc (suc (suc (suc zero)))) l = omega arith
low (suc (suc (suc (suc (suc n))))) l = omega (arith, l)

named_so : (n : ℕ) → n < 6 → slice_get neither_turned.names (exchanged n) ≡ slice_get neither.names n
named_so zero l = refl
named_so (suc zero) l = refl
named_so (suc (suc zero)) l = refl
named_so (suc (suc (suc zero))) l = refl
named_so (suc (suc (suc (suc zero)))) l = refl
named_so (suc (suc (suc (suc (suc zero))))) l = refl
named_so (suc (suc (suc (suc (suc (suc n)))))) l = absurd (omega (arith, l))

circuits : AreRenumbered (circuit_of neither) (circuit_of neither_turned) exchanged exchanged
circuits = record {
  inputs = refl;
  outputs = refl;
  latches = refl;
  starts = refl;
  starts_from = refl;
  there = each_at (λ (e : Equation ℕ). Contains (circuit_of neither_turned).equations (moved exchanged e)) (circuit_of neither).equations ((1, omega arith, refl), ((0, omega arith, refl), ((2, omega arith, refl), tt)));
  from = each_at (λ (e : Equation ℕ). Contains (circuit_of neither).equations (moved exchanged e)) (circuit_of neither_turned).equations ((1, omega arith, refl), ((0, omega arith, refl), ((2, omega arith, refl), tt)));
  there_and_back = λ p h. twice p;
  back_and_there = λ p h. twice p;
}

one : AreOneNet neither neither_turned
one = record { to = exchanged; back = exchanged; circuits = circuits; within = λ s l. (low s l, twice s); back_within = λ s l. (low s l, twice s); names = named_so; inits = refl; ports = refl }

-- a and b have the numbers of their places, and c one above
abbrev own_names : List (List ℕ)
own_names = codes "a" ∷ codes "b" ∷ codes "c" ∷ []

-- names with other first letters are two
abbrev first_letter : List ℕ → ℕ
first_letter [] = 0
first_letter (x ∷ xs) = x

same_letter : (m n : List ℕ) → Some m ≡ Some n → first_letter m ≡ first_letter n
same_letter m n h = ap first_letter (same_Some m n h)

pub b_isnt_a : Some (codes "b") ≡ Some (codes "a") → ⊥
b_isnt_a h = let e : 98 ≡ 97 = same_letter (codes "b") (codes "a") h in omega (arith, e)

pub a_isnt_b : Some (codes "a") ≡ Some (codes "b") → ⊥
a_isnt_b h = let e : 97 ≡ 98 = same_letter (codes "a") (codes "b") h in omega (arith, e)

a_isnt_c : Some (codes "a") ≡ Some (codes "c") → ⊥
a_isnt_c h = let e : 97 ≡ 99 = same_letter (codes "a") (codes "c") h in omega (arith, e)

b_isnt_c : Some (codes "b") ≡ Some (codes "c") → ⊥
b_isnt_c h = let e : 98 ≡ 99 = same_letter (codes "b") (codes "c") h in omega (arith, e)

module _ (number : ℕ) where
  abbrev Common : ℕ → List ℕ → Type 0
  Common k name = (i : ℕ) → slice_get read_names i ≡ Some name → slice_get (0 ∷ 1 ∷ number ∷ []) k ≡ Some i

  common_a : Common 0 (codes "a")
  common_a zero h = refl
  common_a (suc zero) h = absurd (b_isnt_a h)
  common_a (suc (suc i)) h = absurd (none-some (codes "a") h)

  common_b : Common 1 (codes "b")
  common_b zero h = absurd (a_isnt_b h)
  common_b (suc zero) h = refl
  common_b (suc (suc i)) h = absurd (none-some (codes "b") h)

  common_c : Common 2 (codes "c")
  common_c zero h = absurd (a_isnt_c h)
  common_c (suc zero) h = absurd (b_isnt_c h)
  common_c (suc (suc i)) h = absurd (none-some (codes "c") h)

  abbrev LeftOut : ℕ → List ℕ → Type 0
  LeftOut k name = (i : ℕ) → (Contains read_names name → ⊥) → slice_get (0 ∷ 1 ∷ number ∷ []) k ≡ Some i → (2 ≤ i) × (Contains [] i → ⊥)

  numbered : 2 ≤ number → AllPairs (λ i j. i ≢ j) (0 ∷ 1 ∷ number ∷ []) → AreNumbersOf own_names read_names (0 ∷ 1 ∷ number ∷ []) []
  numbered above apart = record {
    each = refl;
    distinct = apart;
    common = λ k i name at h. each Common own_names (common_a, (common_b, (common_c, tt))) k name at i h;
    left_out = λ k i name at out is. each LeftOut own_names (
      λ j none e. absurd (none (0, omega arith, refl)),
      (
        λ j none e. absurd (none (1, omega arith, refl)),
        (λ j none e. (let same : number ≡ j = same_Some number j e in omega (arith, above, same), λ h. (let empty = h.1 in omega (arith, empty))), tt),
      ),
    ) k name at i out is;
  }

left : AreNamedNumbers neither read_names (0 ∷ 1 ∷ 7 ∷ [])
left = record { others = []; numbers_are = numbered 7 (omega arith) (numbers_distinct-sound (0 ∷ 1 ∷ 7 ∷ []) refl); read = λ name h. h }

right : AreNamedNumbers neither_turned read_names (0 ∷ 1 ∷ 9 ∷ [])
right = record { others = []; numbers_are = numbered 9 (omega arith) (numbers_distinct-sound (0 ∷ 1 ∷ 9 ∷ []) refl); read = λ name h. h }

unfolds : Unfolds (circuit_of neither) (0 ∷ 1 ∷ 7 ∷ []) 5 0 0 neither_tree
unfolds =
    Unfolds.gate {fanins = 3 ∷ 4 ∷ []} {cover = on_cover} (2, omega arith, refl)
    (UnfoldsAll.more (Unfolds.gate {fanins = 0 ∷ []} {cover = not_cover} (0, omega arith, refl) (UnfoldsAll.more (Unfolds.input (inl (refl, refl))) UnfoldsAll.none))
    (UnfoldsAll.more (Unfolds.gate {fanins = 1 ∷ []} {cover = not_cover} (1, omega arith, refl) (UnfoldsAll.more (Unfolds.input (inr (inl (refl, refl)))) UnfoldsAll.none)) UnfoldsAll.none))

pub nets_have_one_tree : HaveOneTree
unfolding one
nets_have_one_tree = record {
  one = one;
  left = left;
  right = right;
  unfolds = unfolds;
  same = have_one_tree neither neither_turned one read_names (0 ∷ 1 ∷ 7 ∷ []) (0 ∷ 1 ∷ 9 ∷ []) left right 5 0 0 neither_tree (IsReadBy.by_output {name = codes "y"} (0, omega arith, refl)) unfolds;
}
