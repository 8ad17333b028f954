-- The graph of what literals read, from the last record to the first.
use Rattle.std.proofs.Common.{◌≡◌, ◌≢◌, ℕ, zero, suc, ◌+◌, ◌-◌, ◌<◌, Bool, false, cond, eqb, List, [], ◌∷◌, map, length, drop, set, get_or, replicate, Option, Some, None, refl, sym, ◌∙◌, ap, subst, arith, inl, inr}
use Rattle.std.specs.Prelude.{◌⊎◌}
use Rattle.std.specs.List.{range_with_len}
use Rattle.std.proofs.lemmas.Bool.{false_from_ne_true}
use Rattle.std.proofs.lemmas.Bool.Decides.{Decides-eqb}
use Rattle.std.proofs.lemmas.List.{get_or-set_same, get_or-set_other, length-set, drop_all, drop_more}
use Rattle.std.proofs.lemmas.List.FromFn.{length-map-range_with_len, get_or-map-range_with_len, fill_by_all}
use Rattle.net_assembly.proofs.Rows.{same_or_not}
use Rattle.aiger_read.specs.declared.aiger_records.record.Record.{Record}
use Rattle.aiger_read.specs.aiger_records.Faults.{defined_by}
use Rattle.aiger_read.specs.aiger_file.aiger_graph.Circuit.{is_used}
use Rattle.aiger_read.specs.aiger_file.aiger_graph.Literals.{operands, negated, reads_by, reads_among, graph_among, with_reads, AreUsed}

other : (a b : ℕ) → (a ≡ b → ⊥) → eqb a b ≡ false
other a b apart = false_from_ne_true (eqb a b) (λ e. apart ((Decides-eqb a b).0 e))

-- a literal that is neither the record's nor its negation reads what it did
module _ (size d : ℕ) (ops : List ℕ) (file rs : List Record) (low : d + 1 < size) where
  abbrev one : List (List ℕ)
  one = set (graph_among file rs size) d ops

  abbrev two : List (List ℕ)
  two = set (set (graph_among file rs size) d ops) (d + 1) (negated (is_used file (d + 1)) d)

  size_is : length (graph_among file rs size) ≡ size
  size_is = length-map-range_with_len (reads_among file rs) 0 size

  one_is : length one ≡ size
  one_is = length-set (graph_among file rs size) d ops ∙ size_is

  two_is : length two ≡ size
  two_is = length-set one (d + 1) (negated (is_used file (d + 1)) d) ∙ one_is

  each : (k : ℕ) → k < size → get_or two k [] ≡ reads_by (is_used file k) (Some d) ops k (reads_among file rs k)
  each k h = go (same_or_not k (d + 1)) (same_or_not k d)
    where
      go : (k ≡ d + 1) ⊎ (k ≢ d + 1) → (k ≡ d) ⊎ (k ≢ d) → get_or two k [] ≡ reads_by (is_used file k) (Some d) ops k (reads_among file rs k)
      go (inl e) own =
          subst (λ (j : ℕ). get_or two j [] ≡ reads_by (is_used file j) (Some d) ops j (reads_among file rs j)) (sym e)
          (get_or-set_same one (d + 1) (negated (is_used file (d + 1)) d) [] (omega (arith, low, one_is))
          ∙ sym (ap (λ (b : Bool). cond b ops (cond (eqb (d + 1) (d + 1)) (negated (is_used file (d + 1)) d) (reads_among file rs (d + 1)))) (other d (d + 1) (λ s. omega (arith, s)))
          ∙ ap (λ (b : Bool). cond b (negated (is_used file (d + 1)) d) (reads_among file rs (d + 1))) ((Decides-eqb (d + 1) (d + 1)).1 refl)))
      go (inr past) (inl e) =
          get_or-set_other one (d + 1) k (negated (is_used file (d + 1)) d) [] past
          ∙ subst (λ (j : ℕ). get_or one j [] ≡ reads_by (is_used file j) (Some d) ops j (reads_among file rs j)) (sym e)
          (get_or-set_same (graph_among file rs size) d ops [] (omega (arith, low, size_is))
          ∙ sym (ap (λ (b : Bool). cond b ops (cond (eqb (d + 1) d) (negated (is_used file d) d) (reads_among file rs d))) ((Decides-eqb d d).1 refl)))
      go (inr past) (inr apart) =
          get_or-set_other one (d + 1) k (negated (is_used file (d + 1)) d) [] past ∙ get_or-set_other (graph_among file rs size) d k ops [] apart
          ∙ get_or-map-range_with_len (reads_among file rs) 0 size k k [] h (omega arith)
          ∙ sym (ap (λ (b : Bool). cond b ops (cond (eqb (d + 1) k) (negated (is_used file k) d) (reads_among file rs k))) (other d k (λ s. apart (sym s)))
          ∙ ap (λ (b : Bool). cond b (negated (is_used file k) d) (reads_among file rs k)) (other (d + 1) k (λ s. past (sym s))))

-- one record more in front
reads_more : (file : List Record) (size : ℕ) (used : List Bool) (r : Record) (rs : List Record) → AreUsed file size used → ((d : ℕ) → defined_by r ≡ Some d → d + 1 < size) →
    with_reads used (defined_by r) (operands r) (graph_among file rs size) ≡ graph_among file (r ∷ rs) size
reads_more file size used r rs marks low = go (defined_by r) refl
  where
    go : (o : Option ℕ) → defined_by r ≡ o → with_reads used o (operands r) (graph_among file rs size) ≡ map (λ (l : ℕ). reads_by (is_used file l) o (operands r) l (reads_among file rs l)) (range_with_len 0 size)
    go None is = refl
    go (Some d) is =
        ap (λ (b : Bool). set (set (graph_among file rs size) d (operands r)) (d + 1) (negated b d)) (marks.each (d + 1) (low d is))
        ∙ fill_by_all (λ (l : ℕ). reads_by (is_used file l) (Some d) (operands r) l (reads_among file rs l)) _ size [] (two_is size d (operands r) file rs (low d is)) (each size d (operands r) file rs (low d is))

-- before any record
reads_none : (file : List Record) (size : ℕ) → replicate size [] ≡ graph_among file [] size
reads_none file size = go size 0
  where
    go : (n a : ℕ) → replicate n [] ≡ map (reads_among file []) (range_with_len a n)
    go zero a = refl
    go (suc n) a = ap (λ (rs : List (List ℕ)). [] ∷ rs) (go n (a + 1))

-- the loop: no record is looked at
pub reads_start : (records : List Record) (size : ℕ) (graph : List (List ℕ)) → graph ≡ replicate size [] → graph ≡ graph_among records (drop (length records - 0) records) size
reads_start records size graph is = is ∙ reads_none records size ∙ ap (λ (rs : List Record). graph_among records rs size) (sym (drop_all (length records - 0) records (omega arith)))

-- one record more, from the back
pub reads_step : (records : List Record) (size back : ℕ) (used : List Bool) (r : Record) (before after : List (List ℕ)) → back < length records → get_or records (length records - 1 - back) r ≡ r → AreUsed records size used →
    ((d : ℕ) → defined_by r ≡ Some d → d + 1 < size) → before ≡ graph_among records (drop (length records - back) records) size → after ≡ with_reads used (defined_by r) (operands r) before →
    after ≡ graph_among records (drop (length records - (back + 1)) records) size
reads_step records size back used r before after low at marks within is put =
    put ∙ ap (with_reads used (defined_by r) (operands r)) is
    ∙ ap (λ (k : ℕ). with_reads used (defined_by r) (operands r) (graph_among records (drop k records) size)) (let e : length records - back ≡ length records - 1 - back + 1 = omega (arith, low) in e)
    ∙ reads_more records size used r (drop (length records - 1 - back + 1) records) marks within
    ∙ ap (λ (q : Record). graph_among records (q ∷ drop (length records - 1 - back + 1) records) size) (sym at)
    ∙ ap (λ (rs : List Record). graph_among records rs size) (sym (drop_more records (length records - 1 - back) r (omega (arith, low))))
    ∙ ap (λ (k : ℕ). graph_among records (drop k records) size) (let e : length records - 1 - back ≡ length records - (back + 1) = omega arith in e)
