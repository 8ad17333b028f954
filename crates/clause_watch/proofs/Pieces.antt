-- Lists that stand one after the other in one list.
use Rattle.std.proofs.Common.{◌≡◌, ◌⊎◌, ℕ, zero, suc, ◌+◌, ◌-◌, ◌<◌, ◌≤◌, List, [], ◌∷◌, ◌++◌, length, get_or, take, drop, refl, sym, ◌∙◌, ap, subst, arith, inl, inr, Some, length-append, length-drop}
use Rattle.std.specs.Prelude.{slice_get, slice_range}
use Rattle.std.specs.List.{All}
use Rattle.std.proofs.lemmas.List.{take-append-le, drop-append-le, get_or_default}
use Rattle.std.proofs.Math.Seq.{drop-append_seam, take-length}
use Rattle.clause_base.specs.Literals.{Literal}
use Rattle.clause_base.specs.Clauses.{IsClause}
use Rattle.clause_watch.specs.Flat.{cut_at, pieces, IsCut, AreStarts, IsFlat}
use Rattle.clause_watch.proofs.Lists.{at_number, all_by_number, get_push_cases}

pub cut_total : (total a : ℕ) (bs : List ℕ) → IsCut total a bs → a ≤ total
cut_total total a [] h = omega arith
cut_total total a (b ∷ bs) h = omega (arith, h.0, cut_total total b bs h.1)

pub cut_length : (ls : List Literal) (a : ℕ) (bs : List ℕ) → length (cut_at ls a bs) ≡ length bs
cut_length ls a [] = refl
cut_length ls a (b ∷ bs) = ap (λ n. suc n) (cut_length ls b bs)

pub cut_get : (ls : List Literal) (a : ℕ) (bs : List ℕ) (i : ℕ) → i < length bs → slice_get (cut_at ls a bs) i ≡ Some (slice_range ls (get_or (a ∷ bs) i 0) (get_or bs i 0))
cut_get ls a [] i h = absurd (omega arith)
cut_get ls a (b ∷ bs) zero h = refl
cut_get ls a (b ∷ bs) (suc i) h = cut_get ls b bs i (omega arith)

pub cut_bounds : (total a : ℕ) (bs : List ℕ) (i : ℕ) → IsCut total a bs → i < length bs → (get_or (a ∷ bs) i 0 ≤ get_or bs i 0) × (get_or bs i 0 ≤ total)
cut_bounds total a [] i h within = absurd (omega arith)
cut_bounds total a (b ∷ bs) zero h within = (h.0, cut_total total b bs h.1)
cut_bounds total a (b ∷ bs) (suc i) h within = cut_bounds total b bs i h.1 (omega arith)

pub range_more : (ls more : List Literal) (a b : ℕ) → a ≤ b → b ≤ length ls → slice_range (ls ++ more) a b ≡ slice_range ls a b
range_more ls more a b low high =
    let inside : a ≤ length ls = omega arith in
    let room : b - a ≤ length (drop a ls) = omega (arith, length-drop a ls) in
    ap (λ (xs : List Literal). take (b - a) xs) (drop-append-le a ls more inside) ∙ take-append-le (b - a) (drop a ls) more room

pub range_last : (ls more : List Literal) (end : ℕ) → end ≡ length ls + length more → slice_range (ls ++ more) (length ls) end ≡ more
range_last ls more end is =
    let size : end - length ls ≡ length more = omega arith in
    ap (λ n. take n (drop (length ls) (ls ++ more))) size ∙ (ap (λ (xs : List Literal). take (length more) xs) (drop-append_seam ls more) ∙ take-length more)

pub cut_push : (ls more : List Literal) (a end : ℕ) (bs : List ℕ) → IsCut (length ls) a bs → end ≡ length ls + length more → cut_at (ls ++ more) a (bs ++ end ∷ []) ≡ cut_at ls a bs ++ more ∷ []
cut_push ls more a end [] h is = ap (λ (x : List Literal). x ∷ []) (ap (λ n. slice_range (ls ++ more) n end) h ∙ range_last ls more end is)
cut_push ls more a end (b ∷ bs) h is =
    let first = range_more ls more a b h.0 (cut_total (length ls) b bs h.1) in
    ap (λ (x : List Literal). x ∷ cut_at (ls ++ more) b (bs ++ end ∷ [])) first ∙ ap (λ (xs : List (List Literal)). slice_range ls a b ∷ xs) (cut_push ls more b end bs h.1 is)

pub is_cut_push : (total a end : ℕ) (bs : List ℕ) → IsCut total a bs → total ≤ end → IsCut end a (bs ++ end ∷ [])
is_cut_push total a end [] h more = (omega arith, refl)
is_cut_push total a end (b ∷ bs) h more = (h.0, is_cut_push total b end bs h.1 more)

-- the numbered piece

pub pieces_length : (ls : List Literal) (starts : List ℕ) → AreStarts (length ls) starts → length (pieces ls starts) + 1 ≡ length starts
pieces_length ls [] h = absurd h
pieces_length ls (a ∷ bs) h = omega (arith, cut_length ls a bs)

pub pieces_get : (ls : List Literal) (starts : List ℕ) (i : ℕ) → AreStarts (length ls) starts → i + 1 < length starts → slice_get (pieces ls starts) i ≡ Some (slice_range ls (get_or starts i 0) (get_or starts (i + 1) 0))
pieces_get ls [] i h within = absurd h
pieces_get ls (a ∷ bs) i h within =
    let s : i + 1 ≡ suc i = omega arith in
    cut_get ls a bs i (omega arith) ∙ ap (λ n. Some (slice_range ls (get_or (a ∷ bs) i 0) (get_or (a ∷ bs) n 0))) (sym s)

pub pieces_bounds : (total : ℕ) (starts : List ℕ) (i : ℕ) → AreStarts total starts → i + 1 < length starts → (get_or starts i 0 ≤ get_or starts (i + 1) 0) × (get_or starts (i + 1) 0 ≤ total)
pieces_bounds total [] i h within = absurd h
pieces_bounds total (a ∷ bs) i h within =
    let s : suc i ≡ i + 1 = omega arith in
    subst (λ n. (get_or (a ∷ bs) i 0 ≤ get_or (a ∷ bs) n 0) × (get_or (a ∷ bs) n 0 ≤ total)) s (cut_bounds total a bs i h (omega arith))

pub pieces_push : (ls more : List Literal) (end : ℕ) (starts : List ℕ) → AreStarts (length ls) starts → end ≡ length ls + length more → pieces (ls ++ more) (starts ++ end ∷ []) ≡ pieces ls starts ++ more ∷ []
pieces_push ls more end [] h is = absurd h
pieces_push ls more end (a ∷ bs) h is = cut_push ls more a end bs h is

pub flat_push : (ls more : List Literal) (end : ℕ) (starts : List ℕ) → IsFlat ls starts → IsClause more → end ≡ length ls + length more → IsFlat (ls ++ more) (starts ++ end ∷ [])
flat_push ls more end starts f clause is = record {
  cut = cut starts f.cut;
  clauses = subst (All IsClause) (sym (pieces_push ls more end starts f.cut is)) (all_by_number IsClause (pieces ls starts ++ more ∷ []) (λ i c there. go i c (get_push_cases (pieces ls starts) more i c there)));
}
  where
    size : length (ls ++ more) ≡ end
    size = length-append ls more ∙ sym is

    cut : (s : List ℕ) → AreStarts (length ls) s → AreStarts (length (ls ++ more)) (s ++ end ∷ [])
    cut [] h = absurd h
    cut (a ∷ bs) h = subst (λ n. IsCut n a (bs ++ end ∷ [])) (sym size) (is_cut_push (length ls) a end bs h (omega (arith, is)))

    go : (i : ℕ) (c : List Literal) → ((i < length (pieces ls starts)) × (slice_get (pieces ls starts) i ≡ Some c)) ⊎ ((i ≡ length (pieces ls starts)) × (more ≡ c)) → IsClause c
    go i c (inl x) = at_number IsClause (pieces ls starts) i c f.clauses x.1
    go i c (inr x) = subst IsClause x.1 clause

pub flat_clause : (ls : List Literal) (starts : List ℕ) (i : ℕ) (c : List Literal) → IsFlat ls starts → slice_get (pieces ls starts) i ≡ Some c → IsClause c
flat_clause ls starts i c f there = at_number IsClause (pieces ls starts) i c f.clauses there

-- what two places that were read say of the piece between them
pub read_piece : (ls : List Literal) (starts : List ℕ) (i start end : ℕ) → IsFlat ls starts → i + 1 < length starts → start ≡ get_or starts i start → end ≡ get_or starts (i + 1) end →
    (start ≤ end) × (end ≤ length ls) × (slice_get (pieces ls starts) i ≡ Some (slice_range ls start end))
read_piece ls starts i start end f within first second =
    let a : get_or starts i 0 ≡ start = get_or_default starts i 0 start (omega arith) ∙ sym first in
    let b : get_or starts (i + 1) 0 ≡ end = get_or_default starts (i + 1) 0 end within ∙ sym second in
    let bounds = pieces_bounds (length ls) starts i f.cut within in
    let there = pieces_get ls starts i f.cut within in
    (omega (arith, bounds.0, a, b), omega (arith, bounds.1, b), there ∙ (ap (λ n. Some (slice_range ls n (get_or starts (i + 1) 0))) a ∙ ap (λ n. Some (slice_range ls start n)) b))
