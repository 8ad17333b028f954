-- Clauses with a single late literal, and how they are shortened.
use Rattle.std.proofs.Common.{◌≡◌, ◌≢◌, ◌⊎◌, ℕ, ◌+◌, ◌<◌, ◌≤◌, List, length, refl, sym, ap, subst, arith, inl, inr, Option, Some, None, Result, Ok, Err}
use Rattle.std.specs.Prelude.{◌↔◌, ◌^◌, slice_get, IfOk}
use Rattle.std.specs.List.{Contains}
use Rattle.std.proofs.lemmas.Bool.{cases_eq}
use Rattle.std.proofs.lemmas.List.Elements.{All-contains}
use Rattle.proof_check.specs.Literals.{Literal, negation}
use Rattle.proof_check.specs.Chains.{ChainDerives}
use Rattle.proof_check.specs.declared.derivation.Step.{Step}
use Rattle.proof_check.specs.declared.derivation.Chain.{Chain}
use Rattle.proof_check.proofs.Deriving.{steps_push}
use Rattle.clause_watch.specs.Range.{AllInRange, InRange}
use Rattle.clause_watch.specs.Trails.{TrailView, At, TrueBefore, FalseBefore, OthersFalse, IsTrail}
use Rattle.sat_search.specs.Answers.{IsDistinct, IsLastFalse, IsLastDecision, IsUniqueAt, IsSmallPlace, HasReason, place_after}
use Rattle.sat_search.specs.Lessons.{IsLate, IsAnalysing, IsLearnt, IsLesson}
use Rattle.clause_watch.specs.Learning.{IsAsserting}
use Rattle.sat_search.specs.Uniques.{IsUnique, IsReasonStep, IsLearntFrom, IsLessonFrom}
use Rattle.clause_watch.specs.declared.entry.Entry.{Entry}
use Rattle.sat_search.specs.declared.lesson.Learnt.{Learnt}
use Rattle.sat_search.specs.declared.lesson.Lesson.{Lesson}
use Rattle.sat_search.specs.declared.lesson.Lesson.TheVariants.{Refutation, Asserting}
use Rattle.clause_watch.specs.declared.places.Placed.{Placed}
use Rattle.clause_watch.proofs.Lists.{get_one, at_number}
use Rattle.clause_watch.proofs.Trails.{at_one, at_within, true_more}
use Rattle.sat_search.proofs.Analysing.{not_zero, all_of_members, late_last, falsified_whole, analysing_step, asserting}

-- what became false before the last one
pub others_before : (variables : ℕ) (t : List Entry) (c : List Literal) (last : Placed) → AllInRange variables c → IsLastFalse t c 0 (Some last) → OthersFalse t last.place c last.literal
others_before variables t c last range l m h differ = go (l.3 m h (not_zero variables c m range h)) (cases_eq (l.3 m h (not_zero variables c m range h)).0 last.place)
  where
    go : (f : TrueBefore t (last.place + 1) (negation m)) → (f.0 ≡ last.place) ⊎ (f.0 ≡ last.place → ⊥) → TrueBefore t last.place (negation m)
    go f (inr n) = (f.0, omega (arith, f.1), f.2)
    go f (inl e) =
        let both : negation m ≡ negation last.literal = at_one t last.place (negation m) (negation last.literal) (subst (λ k. At t k (negation m)) e f.2) l.2 in
        absurd (differ (ap (λ (y : Literal). y.variable) both))

-- one place back, at which none of the clause's literals became false
pub others_passed : (t : List Entry) (c : List Literal) (l : Literal) (place bound : ℕ) (e : Entry) → bound ≡ place + 1 → OthersFalse t bound c l → slice_get t place ≡ Some e → ((m : Literal) → Contains c m → m.variable ≢ e.literal.variable) → OthersFalse t place c l
others_passed t c l place bound e is fails there none m h differ = go (fails m h differ) (cases_eq (fails m h differ).0 place)
  where
    go : (f : TrueBefore t bound (negation m)) → (f.0 ≡ place) ⊎ (f.0 ≡ place → ⊥) → TrueBefore t place (negation m)
    go f (inr n) = (f.0, omega (arith, f.1, is, n), f.2)
    go f (inl same) =
        let one : negation m ≡ e.literal = at_one t place (negation m) e.literal (subst (λ k. At t k (negation m)) same f.2) (e, there, refl) in
        absurd (none m h (ap (λ (x : Literal). x.variable) one))

pub others_more : (t : List Entry) (c : List Literal) (l : Literal) (n m : ℕ) → n ≤ m → OthersFalse t n c l → OthersFalse t m c l
others_more t c l n m le fails x h differ = true_more t n m (negation x) le (fails x h differ)

-- a step of the analysis
pub reason_step : (known : List (List Literal)) (t : TrailView) (decision : Option ℕ) (c next : List Literal) (chain longer : Chain) (bound : ℕ) (last : Placed) → IsTrail known t.entries → InRange t.variables known → IsAnalysing known t decision chain.start c chain.steps bound → IsLastFalse t.entries c 0 (Some last) →
    IsReasonStep known t.entries last c chain next longer → IsAnalysing known t decision longer.start next longer.steps last.place
reason_step known t decision c next chain longer bound last is range a l r =
    subst (λ (x : Chain). IsAnalysing known t decision x.start next x.steps last.place) (sym r.logged)
    (analysing_step known t decision chain.start c next chain.steps bound r.number last (record { pivot = last.literal.variable; clause = r.number }) is range a l refl r.derives r.forces)

-- a clause with a single late literal
pub unique_start : (known : List (List Literal)) (t : TrailView) (decision : Option ℕ) (d : ℕ) (c : List Literal) (chain : Chain) (bound : ℕ) (last : Placed) → IsAnalysing known t decision chain.start c chain.steps bound → IsLastFalse t.entries c 0 (Some last) → decision ≡ Some d → OthersFalse t.entries d c last.literal →
    IsUnique known t d c chain last
unique_start known t decision d c chain bound last a l is alone = record {
  analysing = record {
    first = a.first;
    is_there = a.is_there;
    derives = a.derives;
    decided = subst (IsLastDecision t.entries) is a.decided;
    range = a.range;
    falsified = falsified_whole t.entries c bound a.bounded a.falsified;
    bounded = omega arith;
    late = subst (λ (o : Option ℕ). IsLate t.entries o c) is a.late;
  };
  is_last = l;
  alone = alone;
}

-- the literal of the clause whose variable stands at the place
pub literal_at : (t : List Entry) (c : List Literal) (n place : ℕ) (e : Entry) (l : Literal) → IsDistinct t → FalseBefore t n c → slice_get t place ≡ Some e → Contains c l × (l.variable ≡ e.literal.variable) → At t place (negation l)
literal_at t c n place e l distinct fails there h =
    let f = fails l h.0 in
    let same : f.0 ≡ place = distinct f.0 place (negation l) e.literal f.2 (e, there, refl) h.1 in
    subst (λ k. At t k (negation l)) same f.2

-- resolution with the reason of a literal that became false before the decision
pub unique_step : (known : List (List Literal)) (t : TrailView) (d : ℕ) (c next : List Literal) (chain longer : Chain) (last placed : Placed) → IsTrail known t.entries → InRange t.variables known → IsUnique known t d c chain last → placed.place < d → At t.entries placed.place (negation placed.literal) →
    IsReasonStep known t.entries placed c chain next longer → IsUnique known t d next longer last
unique_step known t d c next chain longer last placed is range u below there r = record {
  analysing = subst (λ (x : Chain). IsAnalysing known t (Some d) x.start next x.steps (length t.entries)) (sym r.logged) (record {
    first = a.first;
    is_there = a.is_there;
    derives = steps_push known a.first chain.steps step c next a.derives r.derives;
    decided = a.decided;
    range = all_of_members (λ (x : Literal). (0 < x.variable) × (x.variable ≤ t.variables)) next (λ x h. in_range x ((members x).0 h));
    falsified = λ x h. fails x ((members x).0 h);
    bounded = omega arith;
    late = (last.literal, last.place, stays, after_d, u.is_last.2);
  });
  is_last = (stays, u.is_last.1, u.is_last.2, λ m h nonzero. before m ((members m).0 h) nonzero);
  alone = λ m h differ. others m ((members m).0 h) differ;
}
  where
    a : IsAnalysing known t (Some d) chain.start c chain.steps (length t.entries)
    a = u.analysing

    step : Step
    step = record { pivot = placed.literal.variable; clause = r.number }

    b : List Literal
    b = r.derives.0

    there_b : slice_get known r.number ≡ Some b
    there_b = r.derives.1

    clause_is : r.forces.clause ≡ b
    clause_is = get_one known r.number r.forces.clause b r.forces.is_there there_b

    members : (x : Literal) → Contains next x ↔ ((x.variable ≢ placed.literal.variable) × (Contains c x ⊎ Contains b x))
    members = r.derives.2.members

    in_b : (x : Literal) → x.variable ≢ placed.literal.variable → Contains b x → TrueBefore t.entries placed.place (negation x)
    in_b x differ h = r.forces.others x (subst (λ (y : List Literal). Contains y x) (sym clause_is) h) differ

    within : placed.place < length t.entries
    within = at_within t.entries placed.place (negation placed.literal) there

    in_range : (x : Literal) → (x.variable ≢ placed.literal.variable) × (Contains c x ⊎ Contains b x) → (0 < x.variable) × (x.variable ≤ t.variables)
    in_range x w = go w.1
      where
        go : Contains c x ⊎ Contains b x → (0 < x.variable) × (x.variable ≤ t.variables)
        go (inl h) = All-contains (λ (y : Literal). (0 < y.variable) × (y.variable ≤ t.variables)) c x a.range h
        go (inr h) = All-contains (λ (y : Literal). (0 < y.variable) × (y.variable ≤ t.variables)) b x (at_number (AllInRange t.variables) known r.number b range there_b) h

    fails : (x : Literal) → (x.variable ≢ placed.literal.variable) × (Contains c x ⊎ Contains b x) → TrueBefore t.entries (length t.entries) (negation x)
    fails x w = go w.1
      where
        go : Contains c x ⊎ Contains b x → TrueBefore t.entries (length t.entries) (negation x)
        go (inl h) = a.falsified x h
        go (inr h) = true_more t.entries placed.place (length t.entries) (negation x) (omega (arith, within)) (in_b x w.0 h)

    after_d : d ≤ last.place
    after_d = late_last t.variables t.entries c d last is.distinct a.range a.late u.is_last

    differs : last.literal.variable ≡ placed.literal.variable → ⊥
    differs e =
        let same : last.place ≡ placed.place = is.distinct last.place placed.place (negation last.literal) (negation placed.literal) u.is_last.2 there e in
        omega (arith, same, below, after_d)

    stays : Contains next last.literal
    stays = (members last.literal).1 (differs, inl u.is_last.0)

    before : (m : Literal) → (m.variable ≢ placed.literal.variable) × (Contains c m ⊎ Contains b m) → m.variable ≢ 0 → TrueBefore t.entries (last.place + 1) (negation m)
    before m w nonzero = go w.1
      where
        go : Contains c m ⊎ Contains b m → TrueBefore t.entries (last.place + 1) (negation m)
        go (inl h) = u.is_last.3 m h nonzero
        go (inr h) = true_more t.entries placed.place (last.place + 1) (negation m) (omega (arith, below, after_d)) (in_b m w.0 h)

    others : (m : Literal) → (m.variable ≢ placed.literal.variable) × (Contains c m ⊎ Contains b m) → m.variable ≢ last.literal.variable → TrueBefore t.entries d (negation m)
    others m w differ = go w.1
      where
        go : Contains c m ⊎ Contains b m → TrueBefore t.entries d (negation m)
        go (inl h) = u.alone m h differ
        go (inr h) = true_more t.entries placed.place d (negation m) (omega (arith, below)) (in_b m w.0 h)

-- the second to last literal became false before the decision
pub second_early : (t : List Entry) (c : List Literal) (d : ℕ) (last : Placed) (second : Option Placed) → IsDistinct t → OthersFalse t d c last.literal → IsLastFalse t c last.literal.variable second → place_after second ≤ d
second_early t c d last None distinct alone s = omega arith
second_early t c d last (Some p) distinct alone s =
    let f = alone p.literal s.0 s.1 in
    let same : f.0 ≡ p.place = distinct f.0 p.place (negation p.literal) (negation p.literal) f.2 s.2 refl in
    omega (arith, f.1, same)

pub second_small : (d : ℕ) (second : Option Placed) → place_after second ≤ d → d ≤ 2 ^ 30 → IsSmallPlace second
second_small d None h small = tt
second_small d (Some p) h small = omega (arith, h, small)

second_unique : (d : ℕ) (second : Option Placed) → place_after second ≤ d → IsUniqueAt (Some d) second (Some d)
second_unique d None h = refl
second_unique d (Some p) h = (refl, omega (arith, h))

pub unique_learnt : (known : List (List Literal)) (t : TrailView) (d : ℕ) (c : List Literal) (chain : Chain) (last : Placed) (learnt : Learnt) → IsTrail known t.entries → IsUnique known t d c chain last → IsLearntFrom t.entries c chain last d learnt → IsLearnt known t learnt
unique_learnt known t d c chain last learnt is u m = (
  subst (λ (x : List Literal). ChainDerives known learnt.chain x) (sym m.same) (subst (λ (x : Chain). ChainDerives known x c) (sym m.derived) (a.first, a.is_there, a.derives)),
  subst (AllInRange t.variables) (sym m.same) a.range,
  subst (λ (x : List Literal). IsAsserting known t.entries x learnt.literal learnt.second learnt.keep) (sym m.same) (subst (λ (x : Literal). IsAsserting known t.entries c x learnt.second learnt.keep) (sym m.asserted) asserts),
)
  where
    a : IsAnalysing known t (Some d) chain.start c chain.steps (length t.entries)
    a = u.analysing

    asserts : IsAsserting known t.entries c last.literal learnt.second learnt.keep
    asserts =
        asserting known t (Some d) chain.start c chain.steps (length t.entries) d learnt.keep last learnt.second m.ordered is a u.is_last m.other
        (second_unique d learnt.second (second_early t.entries c d last learnt.second is.distinct u.alone m.other)) m.kept

pub lesson_learnt : {E : Type 0} (known : List (List Literal)) (t : TrailView) (d : ℕ) (c : List Literal) (chain : Chain) (last : Placed) (r : Result Lesson E) → IsTrail known t.entries → IsUnique known t d c chain last → IfOk r (IsLessonFrom t.entries c chain last d) → IfOk r (IsLesson known t)
lesson_learnt known t d c chain last (Ok (Asserting learnt)) is u m = unique_learnt known t d c chain last learnt is u m
lesson_learnt known t d c chain last (Ok (Refutation other)) is u m = absurd m
lesson_learnt known t d c chain last (Err e) is u m = tt
