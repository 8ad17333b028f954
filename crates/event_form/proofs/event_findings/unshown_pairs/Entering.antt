-- The classes by which nodes are entered, one node after the other.
use Rattle.std.proofs.Common.{◌≡◌, ◌∙◌, ◌+◌, ◌-◌, ◌<◌, ℕ, List, [], ◌∷◌, ◌++◌, length, take, get_or, slice_get, Some, sym, ap, subst, arith, eqb, inl, inr}
use Rattle.std.specs.Prelude.{◌⊎◌, ◌↔◌, Contains, IsPermutation, IsSorted}
use Rattle.std.specs.List.{dedup}
use Rattle.std.specs.Ordering.{nat_cmp}
use Rattle.std.proofs.lemmas.List.{take_more}
use Rattle.std.proofs.lemmas.List.Elements.{Contains-append_cases, Contains-append_left, Contains-append_right}
use Rattle.std.proofs.lemmas.List.Kept.{AllPairs-from_increasing, Contains-dedup_nat, Contains-from_dedup}
use Rattle.std.proofs.lemmas.List.Sorted.{Contains-permutation, IsPermutation-sym}
use Rattle.std.proofs.lemmas.Map.Keys.{IsStrictlyIncreasing-dedup}
use Rattle.circuit_theory.proofs.Lists.{Contains-head, only}
use Rattle.flat_net.proofs.Places.{one_at}
use Rattle.event_form.specs.event_findings.unshown_pairs.Classes.{AreEntered, HasEntered, IsEnteredAmong, IsEnteredBy, IsIncreasing}

-- the root isn't entered
pub root_entered : (children : List (ℕ × ℕ)) (node : ℕ) (old : List ℕ) → node ≡ 0 → HasEntered children node old old
root_entered children node old root k = (λ h. inl h, from)
  where
    from : Contains old k ⊎ IsEnteredBy children node k → Contains old k
    from (inl h) = h
    from (inr e) = absurd (omega (arith, root, e.2))

-- another node by one class
pub node_entered : (children : List (ℕ × ℕ)) (node parent class : ℕ) (old new : List ℕ) → 0 < node → slice_get children (node - 1) ≡ Some (parent, class) → new ≡ old ++ class ∷ [] → HasEntered children node old new
node_entered children node parent class old new below at is k = (λ h. to (Contains-append_cases old (class ∷ []) k (subst (λ (xs : List ℕ). Contains xs k) is h)), λ h. subst (λ (xs : List ℕ). Contains xs k) (sym is) (from h))
  where
    to : Contains old k ⊎ Contains (class ∷ []) k → Contains old k ⊎ IsEnteredBy children node k
    to (inl h) = inl h
    to (inr h) = inr (node - 1, parent, (let e : node ≡ (node - 1) + 1 = omega (arith, below) in e), subst (λ (c : ℕ). slice_get children (node - 1) ≡ Some (parent, c)) (only class k h) at)

    from : Contains old k ⊎ IsEnteredBy children node k → Contains (old ++ class ∷ []) k
    from (inl h) = Contains-append_left old (class ∷ []) k h
    from (inr e) =
        let place : e.0 ≡ node - 1 = omega (arith, e.2) in
        let there : slice_get children (node - 1) ≡ Some (e.1, k) = subst (λ (i : ℕ). slice_get children i ≡ Some (e.1, k)) place e.3 in
        let same : class ≡ k = ap (λ (p : ℕ × ℕ). p.1) (one_at children (node - 1) (parent, class) (e.1, k) at there) in
        Contains-append_right old (class ∷ []) k (subst (Contains (class ∷ [])) same (Contains-head class []))

-- the classes so far
abbrev pub HaveEntered : List (ℕ × ℕ) → List ℕ → List ℕ → Type 0
HaveEntered children nodes classes = (k : ℕ) → Contains classes k ↔ IsEnteredAmong children nodes k

pub none_entered : (children : List (ℕ × ℕ)) (classes : List ℕ) → classes ≡ [] → HaveEntered children [] classes
none_entered children classes none k = (λ h. absurd (let e = ap length none in omega (arith, h.1, e)), λ h. absurd (omega (arith, h.1.1)))

pub next_entered : (children : List (ℕ × ℕ)) (nodes : List ℕ) (i n : ℕ) (old new : List ℕ) → i < length nodes → get_or nodes i 0 ≡ n → HaveEntered children (take i nodes) old → HasEntered children n old new → HaveEntered children (take (i + 1) nodes) new
next_entered children nodes i n old new inside at before entered k =
    (λ h. subst (λ (ns : List ℕ). IsEnteredAmong children ns k) (sym front) (to ((entered k).0 h)), λ h. (entered k).1 (from (subst (λ (ns : List ℕ). IsEnteredAmong children ns k) front h)))
  where
    front : take (i + 1) nodes ≡ take i nodes ++ n ∷ []
    front = take_more nodes i 0 inside ∙ ap (λ (m : ℕ). take i nodes ++ m ∷ []) at

    to : Contains old k ⊎ IsEnteredBy children n k → IsEnteredAmong children (take i nodes ++ n ∷ []) k
    to (inl h) = let e = (before k).0 h in (e.0, Contains-append_left (take i nodes) (n ∷ []) e.0 e.1, e.2)
    to (inr e) = (n, Contains-append_right (take i nodes) (n ∷ []) n (Contains-head n []), e)

    from : IsEnteredAmong children (take i nodes ++ n ∷ []) k → Contains old k ⊎ IsEnteredBy children n k
    from e = go (Contains-append_cases (take i nodes) (n ∷ []) e.0 e.1)
      where
        go : Contains (take i nodes) e.0 ⊎ Contains (n ∷ []) e.0 → Contains old k ⊎ IsEnteredBy children n k
        go (inl h) = inl ((before k).1 (e.0, h, e.2))
        go (inr h) = inr (subst (λ (m : ℕ). IsEnteredBy children m k) (sym (only n e.0 h)) e.2)

-- sorted, equal numbers stand side by side
pub increasing_is : (numbers sorted made : List ℕ) → IsPermutation numbers sorted → IsSorted nat_cmp sorted → made ≡ dedup eqb sorted → IsIncreasing numbers made
increasing_is numbers sorted made moved rises is = subst (IsIncreasing numbers) (sym is) (record {
  same = λ k. (λ h. Contains-permutation sorted numbers k (IsPermutation-sym numbers sorted moved) (Contains-from_dedup eqb sorted k h), λ h. Contains-dedup_nat sorted k (Contains-permutation numbers sorted k moved h));
  rising = AllPairs-from_increasing (dedup eqb sorted) (IsStrictlyIncreasing-dedup sorted rises);
})

-- the classes of all nodes, each once, in order
pub entered_all : (children : List (ℕ × ℕ)) (nodes classes made : List ℕ) → HaveEntered children nodes classes → IsIncreasing classes made → AreEntered children nodes made
entered_all children nodes classes made have increasing = record {
  exactly = λ k. (λ h. (have k).0 ((increasing.same k).0 h), λ h. (increasing.same k).1 ((have k).1 h));
  rising = increasing.rising;
}
