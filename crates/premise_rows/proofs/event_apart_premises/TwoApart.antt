-- What tells the classes of both circuits from `always` and from each other.
use Rattle.std.proofs.Common.{◌≡◌, ◌≢◌, ℕ, zero, suc, ◌<◌, ◌≤◌, true, false, List, [], ◌∷◌, slice_get, Some, refl, subst, arith, inl, inr}
use Rattle.std.specs.Prelude.{◌⊎◌, codes}
use Rattle.std.specs.List.{Contains}
use Rattle.std.proofs.lemmas.List.Elements.{All-from_recursion}
use Rattle.std.proofs.lemmas.Option.{none-some, same_Some}
use Rattle.circuit_theory.specs.Classes.{IsFounder}
use Rattle.circuit_theory.specs.EventFrames.{AreNodeVariables, IsClassTree, IsEnableTree, IsSeparation, IsSeparationFromAlways, frame_of}
use Rattle.circuit_theory.specs.Frame.{NodeBefore}
use Rattle.circuit_theory.specs.Joined.{Either, Left, Right}
use Rattle.circuit_theory.specs.Query.{HasLeaf, HasLeafIn, Variable, bits_of}
use Rattle.circuit_theory.specs.Tree.{Tree}
use Rattle.circuit_laws.proofs.JoinedParts.{joined_same}
use Rattle.class_search.specs.class_separations.Apart.{IsApart, number_of}
use Rattle.class_search.specs.class_separations.Least.{DifferIn, IsLeastFrame}
use Rattle.class_search.specs.declared.class_separations.apart.Apart.{Apart}
use Rattle.class_search.specs.event_order.Order.{IsTagOf, place_of}
use Rattle.event_form.specs.event_findings.unshown_pairs.class_events.Named.{NamesLatches}
use Rattle.event_form.specs.event_findings.unshown_pairs.class_events.Separated.{AreSeparated}
use Rattle.call_rows.specs.circuit_samples.event_samples.Samples.{load_cover}
use Rattle.call_rows.proofs.circuit_samples.Each.{each_at, each_pair}
use Rattle.call_rows.proofs.circuit_samples.event_samples.HoldCells.{hold_tree, hold_next, hold_leaf, hold_enabled, hold_enable, enable_care, no_care_tree}
use Rattle.premise_rows.specs.event_apart_premises.TwoLoads.{shows_and, shows_or, both_loading, joining, three_inputs, with_two, q_from_always, r_from_always, q_from_r, two_apart, now_of, three_variables, e_alone}
use Rattle.premise_rows.proofs.event_apart_premises.TwoPair.{single, number_once, left_q, left_r, left_q_latch, left_r_latch, all_hold, classes}

abbrev load_tree : ℕ → Tree (List ℕ)
load_tree i = hold_tree load_cover i 2 false []

q_tree : IsEnableTree both_loading (Left 3) (load_tree 0)
q_tree = IsEnableTree.own {name = codes "q"} {next = Left 5} left_q_latch (hold_enabled both_loading joined_same single number_once (codes "q") (Left 3) (Left 5) left_q_latch left_q) (hold_next both_loading joined_same single number_once (codes "q") (Left 3) (Left 5) left_q_latch left_q false [])

r_tree : IsEnableTree both_loading (Left 4) (load_tree 1)
r_tree = IsEnableTree.own {name = codes "r"} {next = Left 6} left_r_latch (hold_enabled both_loading joined_same single number_once (codes "r") (Left 4) (Left 6) left_r_latch left_r) (hold_next both_loading joined_same single number_once (codes "r") (Left 4) (Left 6) left_r_latch left_r false [])

-- the leaves of an enable are the input under which the latch loads, and a
abbrev Vars : Type 0
Vars = List (Variable (List ℕ))

abbrev Found : (Tree (List ℕ) → Type 0) → Variable (List ℕ) → Type 0
Found wanted x = (tree : Tree (List ℕ)) × wanted tree × HasLeaf x tree

enable_leaf : (i : ℕ) → HasLeaf (now_of i) (load_tree i)
enable_leaf i = HasLeaf.inside (HasLeafIn.first HasLeaf.leaf)

a_leaf : (i : ℕ) → HasLeaf (now_of 2) (load_tree i)
a_leaf i = HasLeaf.inside (HasLeafIn.later (HasLeafIn.first HasLeaf.leaf))

either : (xs : Vars) (i : ℕ) (x : Variable (List ℕ)) → Contains xs (now_of i) → Contains xs (now_of 2) → (now_of i ≡ x) ⊎ (now_of 2 ≡ x) → Contains xs x
either xs i x e a (inl d) = subst (Contains xs) d e
either xs i x e a (inr d) = subst (Contains xs) d a

q_leaf : (xs : Vars) → Contains xs (now_of 0) → Contains xs (now_of 2) → (tree : Tree (List ℕ)) → IsEnableTree both_loading (Left 3) tree → (x : Variable (List ℕ)) → HasLeaf x tree → Contains xs x
q_leaf xs e a tree is x stands = either xs 0 x e a (hold_leaf both_loading joined_same single number_once (codes "q") (Left 3) (Left 5) left_q_latch left_q tree is x stands)

r_leaf : (xs : Vars) → Contains xs (now_of 1) → Contains xs (now_of 2) → (tree : Tree (List ℕ)) → IsEnableTree both_loading (Left 4) tree → (x : Variable (List ℕ)) → HasLeaf x tree → Contains xs x
r_leaf xs f a tree is x stands = either xs 1 x f a (hold_leaf both_loading joined_same single number_once (codes "r") (Left 4) (Left 6) left_r_latch left_r tree is x stands)

at_root : (i j : ℕ) → i < j → NodeBefore (now_of i) (now_of j)
at_root i j l = inr (refl, inr (refl, l))

no_care : (u v : Either ℕ ℕ) (xs : Vars) (x : Variable (List ℕ)) (tree : Tree (List ℕ)) → HasLeaf x tree → (IsEnableTree both_loading u tree → Contains xs x) → (IsEnableTree both_loading v tree → Contains xs x) → IsClassTree both_loading u v tree → Contains xs x
no_care u v xs x tree stands left right (inl (inl is)) = left is
no_care u v xs x tree stands left right (inl (inr is)) = right is
no_care u v xs x tree stands left right (inr (inl care)) = absurd (no_care_tree both_loading joined_same single number_once all_hold u tree care)
no_care u v xs x tree stands left right (inr (inr care)) = absurd (no_care_tree both_loading joined_same single number_once all_hold v tree care)

three_are : AreNodeVariables (IsClassTree both_loading (Left 3) (Left 4)) three_variables
three_are = record {
  in_order = each_pair NodeBefore three_variables ((at_root 0 1 (omega arith), (at_root 0 2 (omega arith), tt)), ((at_root 1 2 (omega arith), tt), (tt, tt)));
  exactly = λ x. (
    λ h. each_at (Found (IsClassTree both_loading (Left 3) (Left 4))) three_variables
        ((load_tree 0, inl (inl q_tree), enable_leaf 0), ((load_tree 1, inl (inr r_tree), enable_leaf 1), ((load_tree 0, inl (inl q_tree), a_leaf 0), tt))) x h,
    λ f. no_care (Left 3) (Left 4) three_variables x f.0 f.2 (λ is. q_leaf three_variables (0, omega arith, refl) (2, omega arith, refl) f.0 is x f.2) (λ is. r_leaf three_variables (1, omega arith, refl) (2, omega arith, refl) f.0 is x f.2) f.1,
  );
}

abbrev with_e : Vars
with_e = now_of 0 ∷ now_of 2 ∷ []

with_e_are : AreNodeVariables (IsClassTree both_loading (Left 3) (Left 3)) with_e
with_e_are = record {
  in_order = each_pair NodeBefore with_e ((at_root 0 2 (omega arith), tt), (tt, tt));
  exactly = λ x. (
    λ h. each_at (Found (IsClassTree both_loading (Left 3) (Left 3))) with_e ((load_tree 0, inl (inl q_tree), enable_leaf 0), ((load_tree 0, inl (inl q_tree), a_leaf 0), tt)) x h,
    λ f. no_care (Left 3) (Left 3) with_e x f.0 f.2 (λ is. q_leaf with_e (0, omega arith, refl) (1, omega arith, refl) f.0 is x f.2) (λ is. q_leaf with_e (0, omega arith, refl) (1, omega arith, refl) f.0 is x f.2) f.1,
  );
}

abbrev with_f : Vars
with_f = now_of 1 ∷ now_of 2 ∷ []

with_f_are : AreNodeVariables (IsClassTree both_loading (Left 4) (Left 4)) with_f
with_f_are = record {
  in_order = each_pair NodeBefore with_f ((at_root 1 2 (omega arith), tt), (tt, tt));
  exactly = λ x. (
    λ h. each_at (Found (IsClassTree both_loading (Left 4) (Left 4))) with_f ((load_tree 1, inl (inl r_tree), enable_leaf 1), ((load_tree 1, inl (inl r_tree), a_leaf 1), tt)) x h,
    λ f. no_care (Left 4) (Left 4) with_f x f.0 f.2 (λ is. r_leaf with_f (0, omega arith, refl) (1, omega arith, refl) f.0 is x f.2) (λ is. r_leaf with_f (0, omega arith, refl) (1, omega arith, refl) f.0 is x f.2) f.1,
  );
}

q_founds : IsFounder both_loading joining 1 (Left 3)
q_founds = record { before = []; after = Left 4 ∷ Right 3 ∷ Right 4 ∷ []; split = refl; class_is = refl; first = λ u h. absurd (omega (arith, h.1)) }

r_founds : IsFounder both_loading joining 2 (Left 4)
r_founds = record { before = Left 3 ∷ []; after = Right 3 ∷ Right 4 ∷ []; split = refl; class_is = refl; first = λ u h. each_at (λ v. both_loading.class v ≢ 2) (Left 3 ∷ []) ((λ e. omega (arith, e)), tt) u h }

q_off : IsSeparationFromAlways both_loading joining 1 (Left 3) with_e (false ∷ false ∷ [])
q_off = record {
  lower = omega arith;
  founder_is = q_founds;
  are_variables = with_e_are;
  each = refl;
  care = enable_care both_loading joined_same single number_once all_hold (frame_of with_e (false ∷ false ∷ [])) (Left 3);
  off = hold_enable both_loading joined_same single number_once (codes "q") (Left 3) (Left 5) left_q_latch left_q (frame_of with_e (false ∷ false ∷ [])) [];
}

r_off : IsSeparationFromAlways both_loading joining 2 (Left 4) with_f (false ∷ false ∷ [])
r_off = record {
  lower = omega arith;
  founder_is = r_founds;
  are_variables = with_f_are;
  each = refl;
  care = enable_care both_loading joined_same single number_once all_hold (frame_of with_f (false ∷ false ∷ [])) (Left 4);
  off = hold_enable both_loading joined_same single number_once (codes "r") (Left 4) (Left 6) left_r_latch left_r (frame_of with_f (false ∷ false ∷ [])) [];
}

differ : true ≡ false → ⊥
differ e = cc

pub separation : IsSeparation both_loading joining 1 2 (Left 3) (Left 4) three_variables e_alone true false
separation = record {
  lower = omega arith;
  founder_is = r_founds;
  before = [];
  after = Left 4 ∷ Right 3 ∷ Right 4 ∷ [];
  split = refl;
  class_is = refl;
  earlier = λ u h. absurd (omega (arith, h.1));
  are_variables = three_are;
  each = refl;
  left_care = enable_care both_loading joined_same single number_once all_hold (frame_of three_variables e_alone) (Left 3);
  right_care = enable_care both_loading joined_same single number_once all_hold (frame_of three_variables e_alone) (Left 4);
  left_is = hold_enable both_loading joined_same single number_once (codes "q") (Left 3) (Left 5) left_q_latch left_q (frame_of three_variables e_alone) [];
  right_is = hold_enable both_loading joined_same single number_once (codes "r") (Left 4) (Left 6) left_r_latch left_r (frame_of three_variables e_alone) [];
  differ = differ;
}

-- where neither input is 1 both enables are 0
none_less : (m : ℕ) → m < 1 → DifferIn both_loading (Left 3) (Left 4) (frame_of three_variables (bits_of m 3)) → ⊥
none_less m below d =
    let first : m ≡ 0 = omega (arith, below) in
    let e = subst (λ (n : ℕ). DifferIn both_loading (Left 3) (Left 4) (frame_of three_variables (bits_of n 3))) first d in
    e.2 false (hold_enable both_loading joined_same single number_once (codes "q") (Left 3) (Left 5) left_q_latch left_q (frame_of three_variables (bits_of 0 3)) [])
    (hold_enable both_loading joined_same single number_once (codes "r") (Left 4) (Left 6) left_r_latch left_r (frame_of three_variables (bits_of 0 3)) [])

pub q_r_least : IsLeastFrame (DifferIn both_loading (Left 3) (Left 4)) three_variables e_alone
q_r_least = λ few. (1, refl, none_less)

abbrev Tells : ℕ → ℕ → Apart → Type 0
Tells low high x = IsApart both_loading three_inputs (place_of shows_and.net shows_or.net) joining low high x

tells_q : Tells 0 1 q_from_always
tells_q = record { within = All-from_recursion (λ v. v < 3) (0 ∷ 2 ∷ []) (omega arith, (omega arith, tt)); separates = (refl, refl, refl, q_off); least = λ few. (0, refl, λ m below. absurd (omega (arith, below))) }

tells_r : Tells 0 2 r_from_always
tells_r = record { within = All-from_recursion (λ v. v < 3) (1 ∷ 2 ∷ []) (omega arith, (omega arith, tt)); separates = (refl, refl, refl, r_off); least = λ few. (0, refl, λ m below. absurd (omega (arith, below))) }

tells_both : Tells 1 2 q_from_r
tells_both = record { within = All-from_recursion (λ v. v < 3) (0 ∷ 1 ∷ 2 ∷ []) (omega arith, (omega arith, (omega arith, tt))); separates = (omega arith, separation); least = q_r_least }

each_two : (low high : ℕ) → low < high → high ≤ 2 → (x : Apart) × (slice_get two_apart (number_of low high) ≡ Some x) × Tells low high x
each_two low zero less most = absurd (omega (arith, less))
each_two zero (suc zero) less most = (q_from_always, refl, tells_q)
each_two (suc low) (suc zero) less most = absurd (omega (arith, less))
each_two zero (suc (suc zero)) less most = (r_from_always, refl, tells_r)
each_two (suc zero) (suc (suc zero)) less most = (q_from_r, refl, tells_both)
each_two (suc (suc low)) (suc (suc zero)) less most = absurd (omega (arith, less))
each_two low (suc (suc (suc high))) less most = absurd (omega (arith, most))

pub separated : AreSeparated with_two two_apart
separated = record {
  few = omega arith;
  names = All-from_recursion (NamesLatches shows_and.net shows_or.net) two_apart (
    record { high = omega arith; low = λ t e. absurd (none-some t e) },
    (
      record { high = omega arith; low = λ t e. absurd (none-some t e) },
      (record { high = omega arith; low = λ t e. subst (IsTagOf shows_and.net shows_or.net) (same_Some _ t e) (omega arith) }, tt),
    ),
  );
  classes = classes;
  apart = record { long = refl; each = each_two };
}
