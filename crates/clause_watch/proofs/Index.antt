-- The marks of a trail that grows or is cut.
use Rattle.std.proofs.Common.{◌≡◌, ◌≢◌, ◌⊎◌, ℕ, ◌+◌, ◌-◌, ◌<◌, ◌≤◌, ◌^◌, Bool, true, false, List, [], ◌∷◌, ◌++◌, length, get_or, take, refl, sym, ◌∙◌, ap, subst, arith, inl, inr, Option, Some, None, length-append}
use Rattle.std.specs.Prelude.{slice_get, replicate, sum_by}
use mathlib.Core.Bool.{beq}
use Rattle.std.proofs.Math.ListN.{set}
use Rattle.std.proofs.lemmas.Bool.{cases_eq}
use Rattle.std.proofs.lemmas.List.{length-replicate, length-set, take-append-le}
use Rattle.std.proofs.lemmas.List.Sums.{sum_by-set}
use Rattle.std.proofs.lemmas.List.Folds.{sum_by-replicate}
use Rattle.std.proofs.lemmas.Option.{slice_get_within, slice_get-get_or, get_or_from_slice_get}
use Rattle.std.proofs.lemmas.List.Elements.{All-replicate}
use Rattle.clause_base.specs.Literals.{Literal, negation}
use Rattle.clause_base.proofs.Members.{same_literal, other_sign}
use Rattle.clause_watch.specs.Trails.{At, TrueBefore, FreeBefore}
use Rattle.clause_watch.specs.Index.{blank, mark_of, literal_of, IsIndex}
use Rattle.clause_watch.specs.declared.entry.Entry.{Entry}
use Rattle.clause_watch.specs.declared.entry.Mark.{Mark}
use Rattle.clause_watch.proofs.Lists.{get_push_old, get_push_new, get_push_cases, get_set_same, get_set_other, get_within, at_number}
use Rattle.clause_watch.proofs.Trails.{entry_of}

pub index_start : (n : ℕ) → n ≤ 2 ^ 30 → IsIndex [] (replicate n None)
index_start n small = record {
  counted = omega (arith, sum_by-replicate blank n None, length-replicate {A = Option Mark} n None);
  small = omega (arith, length-replicate {A = Option Mark} n None);
  placed = λ k e there. absurd (let q : None ≡ Some e = there in cc);
  backed = λ v m there. absurd (let q : None ≡ Some m = at_number (λ (o : Option Mark). None ≡ o) (replicate n None) v (Some m) (All-replicate (λ (o : Option Mark). None ≡ o) n None refl) there in cc);
}

-- the mark of a free variable is blank
pub free_blank : (entries : List Entry) (marks : List (Option Mark)) (l : Literal) → IsIndex entries marks → 0 < l.variable → l.variable ≤ length marks → FreeBefore entries (length entries) l → slice_get marks (l.variable - 1) ≡ Some None
free_blank entries marks l is above within free = go (get_within marks (l.variable - 1) (omega arith))
  where
    go : (o : Option Mark) × (slice_get marks (l.variable - 1) ≡ Some o) → slice_get marks (l.variable - 1) ≡ Some None
    go (None, e) = e
    go (Some m, e) =
        let w = is.backed (l.variable - 1) m e in
        let same : (literal_of (l.variable - 1 + 1) m.is_positive).variable ≡ l.variable = omega arith in
        absurd (free m.place w.0.literal (slice_get_within entries m.place w.0 w.1) (w.0, w.1, refl) (ap (λ (x : Literal). x.variable) w.2 ∙ same))

pub index_push : (entries : List Entry) (marks : List (Option Mark)) (l : Literal) (reason : Option ℕ) → IsIndex entries marks → 0 < l.variable → l.variable ≤ length marks → FreeBefore entries (length entries) l →
    IsIndex (entries ++ entry_of l reason ∷ []) (set marks (l.variable - 1) (Some (mark_of (length entries) l.positive)))
index_push entries marks l reason is above within free = record {
  counted = counted;
  small = omega (arith, is.small, length-set marks place mark);
  placed = λ k e there. placed k e (get_push_cases entries new k e there);
  backed = λ v m there. backed v m there (cases_eq v place);
}
  where
    place : ℕ
    place = l.variable - 1

    mark : Option Mark
    mark = Some (mark_of (length entries) l.positive)

    new : Entry
    new = entry_of l reason

    inside : l.variable - 1 < length marks
    inside = omega arith

    blank_there : slice_get marks (l.variable - 1) ≡ Some None
    blank_there = free_blank entries marks l is above within free

    counted : length (entries ++ entry_of l reason ∷ []) + sum_by blank (set marks (l.variable - 1) (Some (mark_of (length entries) l.positive))) ≡ length (set marks (l.variable - 1) (Some (mark_of (length entries) l.positive)))
    counted =
        let old : blank (get_or marks (l.variable - 1) None) ≡ 1 = ap blank (get_or_from_slice_get marks (l.variable - 1) None None blank_there) in
        omega (arith, is.counted, old, sum_by-set blank marks (l.variable - 1) (Some (mark_of (length entries) l.positive)) None inside, length-set marks (l.variable - 1) (Some (mark_of (length entries) l.positive)), length-append entries (entry_of l reason ∷ []))

    placed : (k : ℕ) (e : Entry) → ((k < length entries) × (slice_get entries k ≡ Some e)) ⊎ ((k ≡ length entries) × (new ≡ e)) → (0 < e.literal.variable) × (slice_get (set marks place mark) (e.literal.variable - 1) ≡ Some (Some (mark_of k e.literal.positive)))
    placed k e (inl x) =
        let w = is.placed k e x.1 in
        let differ : e.literal.variable - 1 ≢ l.variable - 1 = λ q. free k e.literal x.0 (e, x.1, refl) (omega (arith, w.0)) in
        (w.0, get_set_other marks (l.variable - 1) (e.literal.variable - 1) mark differ ∙ w.1)
    placed k e (inr x) =
        let P : Entry → Type 0 = λ d. (0 < d.literal.variable) × (slice_get (set marks place mark) (d.literal.variable - 1) ≡ Some (Some (mark_of k d.literal.positive))) in
        let here : slice_get (set marks place mark) (l.variable - 1) ≡ Some (Some (mark_of (length entries) l.positive)) = get_set_same marks (l.variable - 1) mark inside in
        subst P x.1 (above, here ∙ ap (λ n. Some (Some (mark_of n l.positive))) (sym x.0))

    backed : (v : ℕ) (m : Mark) → slice_get (set marks place mark) v ≡ Some (Some m) → (v ≡ place) ⊎ (v ≡ place → ⊥) → (e : Entry) × (slice_get (entries ++ new ∷ []) m.place ≡ Some e) × (e.literal ≡ literal_of (v + 1) m.is_positive)
    backed v m there (inl same) =
        let here = subst (λ n. slice_get (set marks place mark) n ≡ Some (Some m)) same there in
        let first : Some (Some (mark_of (length entries) l.positive)) ≡ Some (Some m) = sym (get_set_same marks (l.variable - 1) mark inside) ∙ here in
        let is_mark : mark_of (length entries) l.positive ≡ m = cc in
        let spot : length entries ≡ m.place = ap (λ (x : Mark). x.place) is_mark in
        let sign : l.positive ≡ m.is_positive = ap (λ (x : Mark). x.is_positive) is_mark in
        let number : l.variable ≡ v + 1 = omega arith in
        (new, ap (λ n. slice_get (entries ++ new ∷ []) n) (sym spot) ∙ get_push_new entries new, same_literal l (literal_of (v + 1) m.is_positive) number sign)
    backed v m there (inr differ) =
        let w = is.backed v m (sym (get_set_other marks (l.variable - 1) v mark differ) ∙ there) in
        (w.0, get_push_old entries (new ∷ []) m.place (slice_get_within entries m.place w.0 w.1) ∙ w.1, w.2)

pub index_pop : (front : List Entry) (last : Entry) (marks : List (Option Mark)) → IsIndex (front ++ last ∷ []) marks → IsIndex front (set marks (last.literal.variable - 1) None)
index_pop front last marks is = record {
  counted = counted;
  small = omega (arith, is.small, length-set marks (last.literal.variable - 1) None);
  placed = λ k e there. placed k e there;
  backed = λ v m there. backed v m there (cases_eq v (last.literal.variable - 1));
}
  where
    own : (0 < last.literal.variable) × (slice_get marks (last.literal.variable - 1) ≡ Some (Some (mark_of (length front) last.literal.positive)))
    own = is.placed (length front) last (get_push_new front last)

    inside : last.literal.variable - 1 < length marks
    inside = slice_get_within marks (last.literal.variable - 1) (Some (mark_of (length front) last.literal.positive)) own.1

    counted : length front + sum_by blank (set marks (last.literal.variable - 1) None) ≡ length (set marks (last.literal.variable - 1) None)
    counted =
        let old : blank (get_or marks (last.literal.variable - 1) None) ≡ 0 = ap blank (get_or_from_slice_get marks (last.literal.variable - 1) (Some (mark_of (length front) last.literal.positive)) None own.1) in
        omega (arith, is.counted, old, sum_by-set blank marks (last.literal.variable - 1) None None inside, length-set marks (last.literal.variable - 1) None, length-append front (last ∷ []))

    placed : (k : ℕ) (e : Entry) → slice_get front k ≡ Some e → (0 < e.literal.variable) × (slice_get (set marks (last.literal.variable - 1) None) (e.literal.variable - 1) ≡ Some (Some (mark_of k e.literal.positive)))
    placed k e there =
        let below = slice_get_within front k e there in
        let w = is.placed k e (get_push_old front (last ∷ []) k below ∙ there) in
        let differ : e.literal.variable - 1 ≢ last.literal.variable - 1 = λ q. clash k e below w.1 q in
        (w.0, get_set_other marks (last.literal.variable - 1) (e.literal.variable - 1) None differ ∙ w.1)
      where
        clash : (k : ℕ) (e : Entry) → k < length front → slice_get marks (e.literal.variable - 1) ≡ Some (Some (mark_of k e.literal.positive)) → e.literal.variable - 1 ≡ last.literal.variable - 1 → ⊥
        clash k e below here q =
            let both : Some (Some (mark_of k e.literal.positive)) ≡ Some (Some (mark_of (length front) last.literal.positive)) = sym here ∙ ap (λ n. slice_get marks n) q ∙ own.1 in
            let marks_are : mark_of k e.literal.positive ≡ mark_of (length front) last.literal.positive = cc in
            omega (arith, below, ap (λ (x : Mark). x.place) marks_are)

    backed : (v : ℕ) (m : Mark) → slice_get (set marks (last.literal.variable - 1) None) v ≡ Some (Some m) → (v ≡ last.literal.variable - 1) ⊎ (v ≡ last.literal.variable - 1 → ⊥) → (e : Entry) × (slice_get front m.place ≡ Some e) × (e.literal ≡ literal_of (v + 1) m.is_positive)
    backed v m there (inl same) =
        let here = subst (λ n. slice_get (set marks (last.literal.variable - 1) None) n ≡ Some (Some m)) same there in
        absurd (let q : Some None ≡ Some (Some m) = sym (get_set_same marks (last.literal.variable - 1) None inside) ∙ here in cc)
    backed v m there (inr differ) =
        let w = is.backed v m (sym (get_set_other marks (last.literal.variable - 1) v None differ) ∙ there) in
        go w (get_push_cases front last m.place w.0 w.1)
      where
        go : (w : (e : Entry) × (slice_get (front ++ last ∷ []) m.place ≡ Some e) × (e.literal ≡ literal_of (v + 1) m.is_positive)) → ((m.place < length front) × (slice_get front m.place ≡ Some w.0)) ⊎ ((m.place ≡ length front) × (last ≡ w.0)) →
            (e : Entry) × (slice_get front m.place ≡ Some e) × (e.literal ≡ literal_of (v + 1) m.is_positive)
        go w (inl x) = (w.0, x.1, w.2)
        go w (inr x) =
            let same : last.literal.variable ≡ v + 1 = ap (λ (e : Entry). e.literal.variable) x.1 ∙ ap (λ (l : Literal). l.variable) w.2 in
            absurd (differ (omega (arith, same)))

pub popped_inside : (front : List Entry) (last : Entry) (marks : List (Option Mark)) → IsIndex (front ++ last ∷ []) marks → last.literal.variable - 1 < length marks
popped_inside front last marks is = slice_get_within marks (last.literal.variable - 1) (Some (mark_of (length front) last.literal.positive)) (is.placed (length front) last (get_push_new front last)).1

-- the same as `index_push`, in the words of the code
pub index_push_at : (entries now : List Entry) (marks : List (Option Mark)) (l : Literal) (reason : Option ℕ) (v n : ℕ) (sign : Bool) → IsIndex entries marks → 0 < l.variable → l.variable ≤ length marks → FreeBefore entries (length entries) l →
    now ≡ entries ++ entry_of l reason ∷ [] → v ≡ l.variable → n ≡ length entries → sign ≡ l.positive → IsIndex now (set marks (v - 1) (Some (mark_of n sign)))
index_push_at entries now marks l reason v n sign is above within free grown is_v is_n is_sign =
    subst (λ es. IsIndex es (set marks (v - 1) (Some (mark_of n sign)))) (sym grown)
    (subst (λ k. IsIndex (entries ++ entry_of l reason ∷ []) (set marks (k - 1) (Some (mark_of n sign)))) (sym is_v)
    (subst (λ k. IsIndex (entries ++ entry_of l reason ∷ []) (set marks (l.variable - 1) (Some (mark_of k sign)))) (sym is_n)
    (subst (λ b. IsIndex (entries ++ entry_of l reason ∷ []) (set marks (l.variable - 1) (Some (mark_of (length entries) b)))) (sym is_sign) (index_push entries marks l reason is above within free))))

-- one turn of a cut
pub index_pop_at : (whole front : List Entry) (last : Entry) (marks : List (Option Mark)) (v variables keep : ℕ) (first : List Entry) → whole ≡ front ++ last ∷ [] → v ≡ last.literal.variable → keep < length whole →
    IsIndex whole marks × (length marks ≡ variables) × (take keep whole ≡ take keep first) →
    IsIndex front (set marks (v - 1) None) × (length (set marks (v - 1) None) ≡ variables) × (take keep front ≡ take keep first)
index_pop_at whole front last marks v variables keep first split is_v more inv =
    let before = subst (λ es. IsIndex es marks) split inv.0 in
    let popped = subst (λ n. IsIndex front (set marks (n - 1) None)) (sym is_v) (index_pop front last marks before) in
    let size : length whole ≡ length front + 1 = ap length split ∙ length-append front (last ∷ []) in
    (popped, length-set marks (v - 1) None ∙ inv.1, sym (take-append-le keep front (last ∷ []) (omega arith)) ∙ ap (take keep) (sym split) ∙ inv.2)

-- a mark that was read
pub mark_there : (marks : List (Option Mark)) (v w : ℕ) (x o : Option Mark) → w ≡ v → v - 1 < length marks → x ≡ get_or marks (w - 1) x → x ≡ o → slice_get marks (v - 1) ≡ Some o
mark_there marks v w x o same inside read is =
    slice_get-get_or marks (v - 1) x inside ∙ ap (λ (y : Option Mark). Some y) (ap (λ n. get_or marks (n - 1) x) (sym same) ∙ sym read ∙ is)

pub same_by_test : (p q : Bool) → beq p q ≡ true → p ≡ q
same_by_test true true e = refl
same_by_test true false e = sym e
same_by_test false true e = e
same_by_test false false e = refl

pub differ_by_test : (p q : Bool) → beq p q ≡ false → p ≡ q → ⊥
differ_by_test true true e f = cc
differ_by_test true false e f = cc
differ_by_test false true e f = cc
differ_by_test false false e f = cc

-- what the mark of a variable says of a literal
pub marked_at : (entries : List Entry) (marks : List (Option Mark)) (l : Literal) (m : Mark) → IsIndex entries marks → 0 < l.variable → slice_get marks (l.variable - 1) ≡ Some (Some m) → At entries m.place (literal_of l.variable m.is_positive)
marked_at entries marks l m is above there =
    let w = is.backed (l.variable - 1) m there in
    let e : l.variable - 1 + 1 ≡ l.variable = omega arith in
    (w.0, w.1, w.2 ∙ ap (λ n. literal_of n m.is_positive) e)

pub marked_true : (entries : List Entry) (marks : List (Option Mark)) (l : Literal) (m : Mark) → IsIndex entries marks → 0 < l.variable → slice_get marks (l.variable - 1) ≡ Some (Some m) → m.is_positive ≡ l.positive → TrueBefore entries (length entries) l
marked_true entries marks l m is above there sign =
    let w = marked_at entries marks l m is above there in
    (m.place, slice_get_within entries m.place w.0 w.1, (w.0, w.1, w.2 ∙ same_literal (literal_of l.variable m.is_positive) l refl sign))

pub marked_false : (entries : List Entry) (marks : List (Option Mark)) (l : Literal) (m : Mark) → IsIndex entries marks → 0 < l.variable → slice_get marks (l.variable - 1) ≡ Some (Some m) → (m.is_positive ≡ l.positive → ⊥) → TrueBefore entries (length entries) (negation l)
marked_false entries marks l m is above there differ =
    let w = marked_at entries marks l m is above there in
    (m.place, slice_get_within entries m.place w.0 w.1, (w.0, w.1, w.2 ∙ same_literal (literal_of l.variable m.is_positive) (negation l) refl (sym (other_sign l.positive m.is_positive (λ e. differ (sym e))))))

pub unmarked_free : (entries : List Entry) (marks : List (Option Mark)) (l : Literal) → IsIndex entries marks → slice_get marks (l.variable - 1) ≡ Some None → FreeBefore entries (length entries) l
unmarked_free entries marks l is there k m below at_k same =
    let w = is.placed k at_k.0 at_k.1 in
    let e : at_k.0.literal.variable ≡ l.variable = ap (λ (x : Literal). x.variable) at_k.2 ∙ same in
    let q : Some None ≡ Some (Some (mark_of k at_k.0.literal.positive)) = sym there ∙ ap (λ n. slice_get marks (n - 1)) (sym e) ∙ w.1 in
    cc

-- the variable of an entry is one of the trail's
pub entry_range : (entries : List Entry) (marks : List (Option Mark)) (k : ℕ) (e : Entry) → IsIndex entries marks → k < length entries → e ≡ get_or entries k e → (0 < e.literal.variable) × (e.literal.variable ≤ length marks)
entry_range entries marks k e is within read =
    let w = is.placed k e (slice_get-get_or entries k e within ∙ ap (λ (x : Entry). Some x) (sym read)) in
    (w.0, omega (arith, w.0, slice_get_within marks (e.literal.variable - 1) (Some (mark_of k e.literal.positive)) w.1))
