-- Initial values that are set, and set back.
use Rattle.std.specs.Prelude.{IfSome}
use Rattle.std.proofs.Common.{◌≡◌, ◌∙◌, ℕ, Bool, List, [], ◌∷◌, length, refl, sym, ap, subst, arith, Option, Some, None}
use Rattle.witness_report.specs.declared.witness.Witness.{Witness}
use Rattle.restart.specs.Sequence.{IsShownBehind}
use Rattle.restart.proofs.Again.{shown_again}
use Rattle.flat_net.specs.declared.parts.LatchAt.{LatchAt}
use Rattle.flat_net.specs.View.{NetView}
use Rattle.restart.specs.Behind.{init_of, begun_latches, begun, IsBegun}
use Rattle.cycle_search.specs.declared.found.Searched.{Searched}
use Rattle.job_after.specs.Shown.{IsShownBy}

begun_again : (ls : List LatchAt) (first last : List (Option Bool)) → length last ≡ length ls → begun_latches (begun_latches ls first) last ≡ begun_latches ls last
begun_again [] first last size = refl
begun_again (l ∷ ls) [] last size = refl
begun_again (l ∷ ls) (k ∷ first) [] size = absurd (omega (arith, size))
begun_again (l ∷ ls) (k ∷ first) (m ∷ last) size = ap (λ (ms : List LatchAt). (record l { init = init_of m }) ∷ ms) (begun_again ls first last (omega (arith, size)))

-- what is set last counts
pub set_back : (n : NetView) (first last : List (Option Bool)) → length last ≡ length n.latches → begun (begun n first) last ≡ begun n last
set_back n first last size = ap (λ (ls : List LatchAt). let m : NetView = record n { latches = ls } in m) (begun_again n.latches first last size)

-- a net that begins so isn't changed by what is known
pub stays : (n : NetView) (names : List (List ℕ)) (rows : List (List Bool)) (known : List (Option Bool)) (m : NetView) → IsBegun n names rows known m → begun m known ≡ m
stays n names rows known m h = ap (λ (k : NetView). begun k known) h.is ∙ (set_back n known known h.each ∙ sym h.is)

-- a net that is set back is as it was
pub back : (n m k : NetView) (first last : List (Option Bool)) → length last ≡ length n.latches → m ≡ begun n first → k ≡ begun m last → begun n last ≡ n → k ≡ n
back n m k first last size one two is = two ∙ (ap (λ (x : NetView). begun x last) one ∙ (set_back n first last size ∙ is))

-- what is shown of nets with other initial values is shown of the nets
pub shown_before : (Finds : Searched → Type 0) (a b l r : NetView) (left right : List (Option Bool)) (names : List (List ℕ)) (rows : List (List Bool)) (shown : Option Witness) → l ≡ begun a left → r ≡ begun b right →
    IfSome shown (IsShownBy Finds l r names rows) → IfSome shown (IsShownBy Finds a b names rows)
shown_before Finds a b l r left right names rows None left_is right_is told = tt
shown_before Finds a b l r left right names rows (Some w) left_is right_is told = record {
  shown = shown_again a b left right names rows w
      (subst (λ (n : NetView). IsShownBehind n (begun b right) names rows w) left_is (subst (λ (n : NetView). IsShownBehind l n names rows w) right_is told.shown));
  searched = told.searched;
  finds = told.finds;
  goes_on = told.goes_on;
}
