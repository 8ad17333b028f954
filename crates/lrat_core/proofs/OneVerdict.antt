-- A sequence of lines has at most one verdict.
use Rattle.std.proofs.Common.{◌≡◌, ℕ, List, [], ◌∷◌, ◌++◌, refl, sym, ◌∙◌, ap, subst, arith, Option, Some, None}
use Rattle.proof_check.specs.Literals.{Literal, negation}
use Rattle.lrat_core.specs.States.{Live, State}
use Rattle.lrat_core.specs.Hints.{IsFalsified, IsUnit, HasTwoOutside, HintsGive}
use Rattle.lrat_core.specs.Sequences.{AdditionGives, DeletionGives, LineGives, LinesGive, Verdict, Refused}
use Rattle.lrat_core.specs.Laws.{SequenceHasOneVerdict}
use Rattle.lrat_core.specs.declared.hints.Hint.{Hint}
use Rattle.lrat_core.specs.Lines.{Addition, Line}
use Rattle.lrat_core.specs.Lines as line
use Rattle.text_numbers.specs.declared.kinds.TextKind.{TextKind}

one_clause : (o : Option (List Literal)) (c d : List Literal) → o ≡ Some c → o ≡ Some d → c ≡ d
one_clause o c d e f = let q : Some c ≡ Some d = sym e ∙ f in cc

not_both : (o : Option (List Literal)) (c : List Literal) → o ≡ None → o ≡ Some c → ⊥
not_both o c e f = let q : None ≡ Some c = sym e ∙ f in cc

falsified_unit : (falsified c : List Literal) (l : Literal) → IsFalsified falsified c → IsUnit falsified c l → ⊥
falsified_unit falsified c l f u = u.outside (f l u.there)

falsified_two : (falsified c : List Literal) → IsFalsified falsified c → HasTwoOutside falsified c → ⊥
falsified_two falsified c f t = t.one_outside (f t.one t.one_there)

unit_two : (falsified c : List Literal) (l : Literal) → IsUnit falsified c l → HasTwoOutside falsified c → ⊥
unit_two falsified c l u t = t.apart (u.only t.one t.one_there t.one_outside ∙ sym (u.only t.other t.other_there t.other_outside))

unit_one : (falsified c : List Literal) (l m : Literal) → IsUnit falsified c l → IsUnit falsified c m → l ≡ m
unit_one falsified c l m u v = v.only l u.there u.outside

hints_one : {live : Live} {falsified : List Literal} {hints : List Hint} {g h : Option TextKind} → HintsGive live falsified hints g → HintsGive live falsified hints h → g ≡ h
hints_one HintsGive.none_left HintsGive.none_left = refl
hints_one HintsGive.negative HintsGive.negative = refl
hints_one (HintsGive.not_live p) (HintsGive.not_live q) = refl
hints_one (HintsGive.not_live p) (HintsGive.not_unit {c = d} q t) = absurd (not_both _ d p q)
hints_one (HintsGive.not_live p) (HintsGive.conflict {c = d} q t) = absurd (not_both _ d p q)
hints_one (HintsGive.not_live p) (HintsGive.unit {c = d} q t rest) = absurd (not_both _ d p q)
hints_one (HintsGive.not_unit {c = c} p t) (HintsGive.not_live q) = absurd (not_both _ c q p)
hints_one (HintsGive.not_unit p t) (HintsGive.not_unit q u) = refl
hints_one {falsified = falsified} (HintsGive.not_unit {c = c} p t) (HintsGive.conflict {c = d} q u) =
    absurd (falsified_two falsified c (subst (IsFalsified falsified) (one_clause _ d c q p) u) t)
hints_one {falsified = falsified} (HintsGive.not_unit {c = c} p t) (HintsGive.unit {c = d} {l = m} q u rest) =
    absurd (unit_two falsified c m (subst (λ x. IsUnit falsified x m) (one_clause _ d c q p) u) t)
hints_one (HintsGive.conflict {c = c} p t) (HintsGive.not_live q) = absurd (not_both _ c q p)
hints_one {falsified = falsified} (HintsGive.conflict {c = c} p t) (HintsGive.not_unit {c = d} q u) =
    absurd (falsified_two falsified d (subst (IsFalsified falsified) (one_clause _ c d p q) t) u)
hints_one (HintsGive.conflict p t) (HintsGive.conflict q u) = refl
hints_one {falsified = falsified} (HintsGive.conflict {c = c} p t) (HintsGive.unit {c = d} {l = m} q u rest) =
    absurd (falsified_unit falsified d m (subst (IsFalsified falsified) (one_clause _ c d p q) t) u)
hints_one (HintsGive.unit {c = c} p t rest) (HintsGive.not_live q) = absurd (not_both _ c q p)
hints_one {falsified = falsified} (HintsGive.unit {c = c} {l = l} p t rest) (HintsGive.not_unit {c = d} q u) =
    absurd (unit_two falsified d l (subst (λ x. IsUnit falsified x l) (one_clause _ c d p q) t) u)
hints_one {falsified = falsified} (HintsGive.unit {c = c} {l = l} p t rest) (HintsGive.conflict {c = d} q u) =
    absurd (falsified_unit falsified c l (subst (IsFalsified falsified) (one_clause _ d c q p) u) t)
hints_one {live = live} {falsified = falsified} {h = h} (HintsGive.unit {c = c} {l = l} {hints = hints} p t rest) (HintsGive.unit {c = d} {l = m} q u other) =
    let same : m ≡ l = unit_one falsified c m l (subst (λ x. IsUnit falsified x m) (one_clause _ d c q p) u) t in
    hints_one rest (subst (λ x. HintsGive live (falsified ++ negation x ∷ []) hints h) same other)

addition_one : {state : State} {a : Addition} {g h : Option TextKind} → AdditionGives state a g → AdditionGives state a h → g ≡ h
addition_one (AdditionGives.low p) (AdditionGives.low q) = refl
addition_one (AdditionGives.low p) (AdditionGives.above q r) = absurd (omega arith)
addition_one (AdditionGives.above p r) (AdditionGives.low q) = absurd (omega arith)
addition_one (AdditionGives.above p r) (AdditionGives.above q s) = hints_one r s

deletion_one : {live : Live} {ids : List ℕ} {g h : Option TextKind} → DeletionGives live ids g → DeletionGives live ids h → g ≡ h
deletion_one DeletionGives.none_left DeletionGives.none_left = refl
deletion_one (DeletionGives.not_live p) (DeletionGives.not_live q) = refl
deletion_one (DeletionGives.not_live p) (DeletionGives.is_live {c = d} q r) = absurd (not_both _ d p q)
deletion_one (DeletionGives.is_live {c = c} p r) (DeletionGives.not_live q) = absurd (not_both _ c q p)
deletion_one (DeletionGives.is_live p r) (DeletionGives.is_live q s) = deletion_one r s

pub line_one : (state : State) (l : Line) (g h : Option TextKind) → LineGives state l g → LineGives state l h → g ≡ h
line_one state (line.Adds a) g h p q = addition_one p q
line_one state (line.Deletes ids) g h p q = deletion_one p q

holds_or_not : (state : State) (l : Line) (kind : TextKind) → LineGives state l None → LineGives state l (Some kind) → ⊥
holds_or_not state l kind p q = let e : None ≡ Some kind = line_one state l None (Some kind) p q in cc

kind_one : (state : State) (l : Line) (j k : TextKind) → LineGives state l (Some j) → LineGives state l (Some k) → j ≡ k
kind_one state l j k p q = let e : Some j ≡ Some k = line_one state l (Some j) (Some k) p q in cc

lines_one : {state : State} {number : ℕ} {lines : List Line} {v w : Verdict} → LinesGive state number lines v → LinesGive state number lines w → v ≡ w
lines_one LinesGive.none_left LinesGive.none_left = refl
lines_one {state} {number} (LinesGive.faulty {line = l} {kind = j} p) (LinesGive.faulty {kind = k} q) = ap (Refused number) (kind_one state l j k p q)
lines_one {state} (LinesGive.faulty {line = l} {kind = j} p) (LinesGive.last q e) = absurd (holds_or_not state l j q p)
lines_one {state} (LinesGive.faulty {line = l} {kind = j} p) (LinesGive.next q e rest) = absurd (holds_or_not state l j q p)
lines_one {state} (LinesGive.last {line = l} p e) (LinesGive.faulty {kind = k} q) = absurd (holds_or_not state l k p q)
lines_one (LinesGive.last p e) (LinesGive.last q f) = refl
lines_one (LinesGive.last p e) (LinesGive.next q f rest) = absurd (f e)
lines_one {state} (LinesGive.next {line = l} p e rest) (LinesGive.faulty {kind = k} q) = absurd (holds_or_not state l k p q)
lines_one (LinesGive.next p e rest) (LinesGive.last q f) = absurd (e f)
lines_one (LinesGive.next p e rest) (LinesGive.next q f other) = lines_one rest other

pub one_verdict : SequenceHasOneVerdict
one_verdict clauses lines v w p q = lines_one p q
