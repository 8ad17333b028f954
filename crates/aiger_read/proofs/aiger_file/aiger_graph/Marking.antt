-- The marks of the literals that records read.
use Rattle.std.proofs.Common.{◌≡◌, ◌≢◌, ℕ, ◌+◌, ◌<◌, Bool, true, false, eqb, List, [], ◌∷◌, length, take, set, get_or, replicate, refl, sym, ◌∙◌, ap, ap₂, subst, inl, inr}
use Rattle.std.specs.Prelude.{◌⊎◌, ◌||◌, ◌==◌}
use Rattle.std.specs.List.{All, list_any}
use Rattle.std.proofs.lemmas.Bool.{false_from_ne_true}
use Rattle.std.proofs.lemmas.Bool.Decides.{Decides-eqb}
use Rattle.std.proofs.lemmas.List.{get_or-set_same, get_or-set_other, length-set, length-replicate, get_or-replicate}
use Rattle.std.proofs.lemmas.List.Elements.{All-head, All-tail}
use Rattle.std.proofs.lemmas.List.Folds.{list_any_more}
use Rattle.net_assembly.proofs.Rows.{same_or_not}
use Rattle.aiger_read.specs.declared.aiger_records.record.Record.{Record}
use Rattle.aiger_read.specs.aiger_records.Driven.{used_by}
use Rattle.aiger_read.specs.aiger_file.aiger_graph.Literals.{with_marks, AreUsed}

marks_count : (us : List ℕ) (marks : List Bool) → length (with_marks us marks) ≡ length marks
marks_count [] marks = refl
marks_count (u ∷ us) marks = marks_count us (set marks u true) ∙ length-set marks u true

-- a literal is marked where it was, or is one of these
marks_each : (us : List ℕ) (marks : List Bool) → All (λ u. u < length marks) us → (k : ℕ) → get_or (with_marks us marks) k false ≡ (get_or marks k false || list_any (λ u. u == k) us)
marks_each [] marks low k = by (get_or marks k false)
  where
    by : (b : Bool) → b ≡ (b || false)
    by true = refl
    by false = refl
marks_each (u ∷ us) marks low k =
    marks_each us (set marks u true) (subst (λ (n : ℕ). All (λ v. v < n) us) (sym (length-set marks u true)) (All-tail (λ v. v < length marks) u us low)) k
    ∙ go (same_or_not k u)
  where
    or_true : (b : Bool) → (b || true) ≡ true
    or_true true = refl
    or_true false = refl

    go : (k ≡ u) ⊎ (k ≢ u) → (get_or (set marks u true) k false || list_any (λ v. v == k) us) ≡ (get_or marks k false || ((u == k) || list_any (λ v. v == k) us))
    go (inl e) =
        ap (λ (b : Bool). b || list_any (λ v. v == k) us) (subst (λ (j : ℕ). get_or (set marks u true) j false ≡ true) (sym e) (get_or-set_same marks u true false (All-head (λ v. v < length marks) u us low)))
        ∙ sym (ap (λ (b : Bool). get_or marks k false || (b || list_any (λ v. v == k) us)) ((Decides-eqb u k).1 (sym e)) ∙ or_true (get_or marks k false))
    go (inr apart) =
        ap (λ (b : Bool). b || list_any (λ v. v == k) us) (get_or-set_other marks u k true false apart)
        ∙ sym (ap (λ (b : Bool). get_or marks k false || (b || list_any (λ v. v == k) us)) (false_from_ne_true (eqb u k) (λ e. apart (sym ((Decides-eqb u k).0 e)))))

-- before any record
pub marks_start : (records : List Record) (size : ℕ) (marks : List Bool) → marks ≡ replicate size false → AreUsed (take 0 records) size marks
marks_start records size marks is = record {
  count = ap length is ∙ length-replicate size false;
  each = λ l h. ap (λ (ms : List Bool). get_or ms l false) is ∙ get_or-replicate size l false false h;
}

-- one record more
pub marks_step : (records : List Record) (size i : ℕ) (r d : Record) (before after : List Bool) → i < length records → r ≡ get_or records i d → All (λ u. u < size) (used_by r) → AreUsed (take i records) size before →
    after ≡ with_marks (used_by r) before → AreUsed (take (i + 1) records) size after
marks_step records size i r d before after low at within marks is = record {
  count = ap length is ∙ marks_count (used_by r) before ∙ marks.count;
  each = λ l h.
      ap (λ (ms : List Bool). get_or ms l false) is
      ∙ marks_each (used_by r) before (subst (λ (n : ℕ). All (λ u. u < n) (used_by r)) (sym marks.count) within) l
      ∙ ap₂ (λ (b : Bool) (q : Record). b || list_any (λ u. u == l) (used_by q)) (marks.each l h) at
      ∙ sym (list_any_more (λ (q : Record). list_any (λ u. u == l) (used_by q)) records i d low);
}
