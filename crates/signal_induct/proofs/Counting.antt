-- Ties, counted one after the other.
use Rattle.std.proofs.Common.{◌≡◌, ◌∙◌, ◌+◌, ◌<◌, ◌≤◌, ℕ, cond, List, [], ◌∷◌, length, drop, get_or, suc, sym, ap, arith, add-one}
use Rattle.std.proofs.lemmas.List.{drop_all, drop_more}
use Rattle.circuit_laws.specs.declared.signal_laws.anchor.Anchor.{Anchor}
use Rattle.signal_induct.specs.Tied.{is_tied, ties_from}

pub one_more : (anchors : List Anchor) (i count all : ℕ) (k d : Anchor) → i < length anchors → k ≡ get_or anchors i d → count + ties_from i (drop i anchors) ≡ all → cond (is_tied i k) 1 0 + count + ties_from (i + 1) (drop (i + 1) anchors) ≡ all
one_more anchors i count all k d within is before =
    let step : ties_from i (drop i anchors) ≡ cond (is_tied i k) 1 0 + ties_from (i + 1) (drop (i + 1) anchors) =
    ap (ties_from i) (drop_more anchors i d within ∙ ap (λ (x : Anchor). x ∷ drop (i + 1) anchors) (sym is)) ∙ ap (λ n. cond (is_tied i k) 1 0 + ties_from n (drop (i + 1) anchors)) (sym (add-one i)) in
    omega (arith, step, before)

pub all_counted : (anchors : List Anchor) (i count all : ℕ) → length anchors ≤ i → count + ties_from i (drop i anchors) ≡ all → count ≡ all
all_counted anchors i count all past before =
    let none : ties_from i (drop i anchors) ≡ 0 = ap (ties_from i) (drop_all i anchors past) in
    omega (arith, none, before)
