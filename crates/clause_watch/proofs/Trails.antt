-- Trails that grow, are cut, and learn a clause.
use Rattle.std.proofs.Common.{◌≡◌, ◌⊎◌, ℕ, ◌<◌, ◌≤◌, List, [], ◌∷◌, ◌++◌, length, take, refl, sym, ◌∙◌, ap, subst, arith, inl, inr, Option, Some, None}
use Rattle.std.specs.Prelude.{slice_get}
use Rattle.std.proofs.lemmas.Option.{slice_get_within}
use Rattle.clause_base.specs.Literals.{Literal, negation}
use Rattle.clause_base.proofs.Members.{not_same_sign}
use Rattle.clause_watch.specs.Trails.{At, TrueBefore, FreeBefore, TwoFreeBefore, QuietAt, Quiet, Forces, IsTrail}
use Rattle.clause_watch.specs.declared.entry.Entry.{Entry}
use Rattle.clause_watch.proofs.Lists.{get_one, get_push_old, get_push_cases, get_take, get_take_within}

abbrev pub entry_of : Literal → Option ℕ → Entry
entry_of l reason = record { literal = l; reason = reason }

-- one literal stands at a place
pub at_one : (t : List Entry) (k : ℕ) (l m : Literal) → At t k l → At t k m → l ≡ m
at_one t k l m p q = sym p.2 ∙ ap (λ (e : Entry). e.literal) (get_one t k p.0 q.0 p.1 q.1) ∙ q.2

pub at_within : (t : List Entry) (k : ℕ) (l : Literal) → At t k l → k < length t
at_within t k l h = slice_get_within t k h.0 h.1

-- the two trails have the same first n entries
abbrev pub Agree : List Entry → List Entry → ℕ → Type 0
Agree t u n = (k : ℕ) → k < n → slice_get t k ≡ slice_get u k

pub agree_back : (t u : List Entry) (n : ℕ) → Agree t u n → Agree u t n
agree_back t u n a = λ k h. sym (a k h)

pub agree_push : (t : List Entry) (more : List Entry) → Agree t (t ++ more) (length t)
agree_push t more = λ k h. sym (get_push_old t more k h)

pub agree_take : (t : List Entry) (n : ℕ) → Agree t (take n t) n
agree_take t n = λ k h. sym (get_take t n k h)

pub at_along : (t u : List Entry) (n k : ℕ) (l : Literal) → Agree t u n → k < n → At t k l → At u k l
at_along t u n k l a h p = (p.0, sym (a k h) ∙ p.1, p.2)

pub true_along : (t u : List Entry) (n m : ℕ) (l : Literal) → Agree t u n → m ≤ n → TrueBefore t m l → TrueBefore u m l
true_along t u n m l a h p = (p.0, p.1, at_along t u n p.0 l a (omega (arith, p.1)) p.2)

pub free_along : (t u : List Entry) (n m : ℕ) (l : Literal) → Agree t u n → m ≤ n → FreeBefore t m l → FreeBefore u m l
free_along t u n m l a h p = λ k q below there. p k q below (at_along u t n k q (agree_back t u n a) (omega arith) there)

pub two_free_along : (t u : List Entry) (n m : ℕ) (c : List Literal) → Agree t u n → m ≤ n → TwoFreeBefore t m c → TwoFreeBefore u m c
two_free_along t u n m c a h p = (p.0, p.1, p.2, p.3, p.4, free_along t u n m p.0 a h p.5, free_along t u n m p.1 a h p.6)

pub quiet_along : (t u : List Entry) (n m : ℕ) (c : List Literal) → Agree t u n → m ≤ n → QuietAt t m c → QuietAt u m c
quiet_along t u n m c a h (inl p) = inl (p.0, p.1, true_along t u n m p.0 a h p.2)
quiet_along t u n m c a h (inr p) = inr (two_free_along t u n m c a h p)

pub all_quiet_along : (known : List (List Literal)) (t u : List Entry) (n m : ℕ) → Agree t u n → m ≤ n → Quiet known t m → Quiet known u m
all_quiet_along known t u n m a h p = λ i c there. quiet_along t u n m c a h (p i c there)

pub forces_along : (known : List (List Literal)) (t u : List Entry) (n m : ℕ) (l : Literal) (number : ℕ) → Agree t u n → m ≤ n → Forces known t m l number → Forces known u m l number
forces_along known t u n m l number a h p = record {
  clause = p.clause;
  is_there = p.is_there;
  holds = p.holds;
  others = λ k there differ. true_along t u n m (negation k) a h (p.others k there differ);
}

pub true_more : (t : List Entry) (n m : ℕ) (l : Literal) → n ≤ m → TrueBefore t n l → TrueBefore t m l
true_more t n m l h p = (p.0, omega (arith, p.1), p.2)

pub free_less : (t : List Entry) (n m : ℕ) (l : Literal) → m ≤ n → FreeBefore t n l → FreeBefore t m l
free_less t n m l h p = λ k q below there. p k q (omega arith) there

-- a literal and its negation are not both true
pub not_both : (known : List (List Literal)) (t : List Entry) (n m : ℕ) (l : Literal) → IsTrail known t → TrueBefore t n l → TrueBefore t m (negation l) → ⊥
not_both known t n m l is p q =
    let same : p.0 ≡ q.0 = is.distinct p.0 q.0 l (negation l) p.2 q.2 refl in
    let one : l ≡ negation l = at_one t q.0 l (negation l) (subst (λ k. At t k l) same p.2) q.2 in
    not_same_sign l.positive (ap (λ (x : Literal). x.positive) one)

pub trail_push : (known : List (List Literal)) (t : List Entry) (l : Literal) (reason : Option ℕ) → IsTrail known t → FreeBefore t (length t) l → ((number : ℕ) → reason ≡ Some number → Forces known t (length t) l number) →
    (reason ≡ None → Quiet known t (length t)) → IsTrail known (t ++ entry_of l reason ∷ [])
trail_push known t l reason is free forced quiet = record {
  distinct = λ j k p q at_j at_k same. distinct j k p q same (get_push_cases t new j at_j.0 at_j.1) (get_push_cases t new k at_k.0 at_k.1) at_j.2 at_k.2;
  reasons = λ k e number there why. reasons k e number why (get_push_cases t new k e there);
  decisions = λ k e there why. decisions k e why (get_push_cases t new k e there);
}
  where
    new : Entry
    new = entry_of l reason

    agree : Agree t (t ++ new ∷ []) (length t)
    agree = agree_push t (new ∷ [])

    distinct : (j k : ℕ) (p q : Literal) → p.variable ≡ q.variable → {d e : Entry} → ((j < length t) × (slice_get t j ≡ Some d)) ⊎ ((j ≡ length t) × (new ≡ d)) → ((k < length t) × (slice_get t k ≡ Some e)) ⊎ ((k ≡ length t) × (new ≡ e)) → d.literal ≡ p → e.literal ≡ q → j ≡ k
    distinct j k p q same {d} {e} (inl x) (inl y) f g = is.distinct j k p q (d, x.1, f) (e, y.1, g) same
    distinct j k p q same {d} {e} (inl x) (inr y) f g =
        let n : l ≡ q = ap (λ (z : Entry). z.literal) y.1 ∙ g in
        absurd (free j p x.0 (d, x.1, f) (same ∙ ap (λ (z : Literal). z.variable) (sym n)))
    distinct j k p q same {d} {e} (inr x) (inl y) f g =
        let n : l ≡ p = ap (λ (z : Entry). z.literal) x.1 ∙ f in
        absurd (free k q y.0 (e, y.1, g) (sym same ∙ ap (λ (z : Literal). z.variable) (sym n)))
    distinct j k p q same {d} {e} (inr x) (inr y) f g = x.0 ∙ sym y.0

    reasons : (k : ℕ) (e : Entry) (number : ℕ) → e.reason ≡ Some number → ((k < length t) × (slice_get t k ≡ Some e)) ⊎ ((k ≡ length t) × (new ≡ e)) → Forces known (t ++ new ∷ []) k e.literal number
    reasons k e number why (inl x) = forces_along known t (t ++ new ∷ []) (length t) k e.literal number agree (omega (arith, x.0)) (is.reasons k e number x.1 why)
    reasons k e number why (inr x) =
        let here = forced number (ap (λ (z : Entry). z.reason) x.1 ∙ why) in
        let there = forces_along known t (t ++ new ∷ []) (length t) (length t) l number agree (omega arith) here in
        subst (λ n. Forces known (t ++ new ∷ []) n e.literal number) (sym x.0) (subst (λ (z : Entry). Forces known (t ++ new ∷ []) (length t) z.literal number) x.1 there)

    decisions : (k : ℕ) (e : Entry) → e.reason ≡ None → ((k < length t) × (slice_get t k ≡ Some e)) ⊎ ((k ≡ length t) × (new ≡ e)) → Quiet known (t ++ new ∷ []) k
    decisions k e why (inl x) = all_quiet_along known t (t ++ new ∷ []) (length t) k agree (omega (arith, x.0)) (is.decisions k e x.1 why)
    decisions k e why (inr x) =
        let here = quiet (ap (λ (z : Entry). z.reason) x.1 ∙ why) in
        subst (λ n. Quiet known (t ++ new ∷ []) n) (sym x.0) (all_quiet_along known t (t ++ new ∷ []) (length t) (length t) agree (omega arith) here)

pub trail_take : (known : List (List Literal)) (t : List Entry) (n : ℕ) → IsTrail known t → IsTrail known (take n t)
trail_take known t n is = record {
  distinct = λ j k p q at_j at_k same. is.distinct j k p q (at_j.0, (get_take_within t n j at_j.0 at_j.1).1, at_j.2) (at_k.0, (get_take_within t n k at_k.0 at_k.1).1, at_k.2) same;
  reasons = λ k e number there why. let w = get_take_within t n k e there in forces_along known t (take n t) n k e.literal number (agree_take t n) (omega (arith, w.0)) (is.reasons k e number w.1 why);
  decisions = λ k e there why. let w = get_take_within t n k e there in all_quiet_along known t (take n t) n k (agree_take t n) (omega (arith, w.0)) (is.decisions k e w.1 why);
}

-- one clause more, by which no decision's past forces anything
pub trail_learn : (known : List (List Literal)) (c : List Literal) (t : List Entry) → IsTrail known t → ((k : ℕ) (e : Entry) → slice_get t k ≡ Some e → e.reason ≡ None → QuietAt t k c) → IsTrail (known ++ c ∷ []) t
trail_learn known c t is good = record {
  distinct = is.distinct;
  reasons = λ k e number there why. let f = is.reasons k e number there why in record {
    clause = f.clause;
    is_there = get_push_old known (c ∷ []) number (slice_get_within known number f.clause f.is_there) ∙ f.is_there;
    holds = f.holds;
    others = f.others;
  };
  decisions = λ k e there why i d q. quiet k e there why i d (get_push_cases known c i d q);
}
  where
    quiet : (k : ℕ) (e : Entry) → slice_get t k ≡ Some e → e.reason ≡ None → (i : ℕ) (d : List Literal) → ((i < length known) × (slice_get known i ≡ Some d)) ⊎ ((i ≡ length known) × (c ≡ d)) → QuietAt t k d
    quiet k e there why i d (inl x) = is.decisions k e there why i d x.1
    quiet k e there why i d (inr x) = subst (QuietAt t k) x.1 (good k e there why)
