-- Initial values that are set one after the other.
use Rattle.std.proofs.Common.{◌≡◌, ◌<◌, ℕ, zero, suc, Bool, List, [], ◌∷◌, length, take, refl, sym, ◌∙◌, ap, arith, Option, Some, slice_get}
use Rattle.std.proofs.lemmas.Option.{none-some, same_Some}
use Rattle.flat_net.specs.declared.parts.LatchAt.{LatchAt}
use Rattle.flat_net.specs.Makes.{init_set}
use Rattle.restart.specs.Behind.{init_of, begun_latches}

pub begun_none : (ls : List LatchAt) → begun_latches ls [] ≡ ls
begun_none [] = refl
begun_none (l ∷ ls) = refl

pub begun_long : (ls : List LatchAt) (known : List (Option Bool)) → length (begun_latches ls known) ≡ length ls
begun_long [] known = refl
begun_long (l ∷ ls) [] = refl
begun_long (l ∷ ls) (k ∷ known) = ap suc (begun_long ls known)

pub begun_more : (ls : List LatchAt) (known : List (Option Bool)) (j : ℕ) (k : Option Bool) → slice_get known j ≡ Some k → j < length ls → init_set (begun_latches ls (take j known)) j (init_of k) ≡ begun_latches ls (take (suc j) known)
begun_more [] known j k h low = absurd (omega (arith, low))
begun_more (l ∷ ls) [] j k h low = absurd (none-some k h)
begun_more (l ∷ ls) (x ∷ known) zero k h low =
    ap (λ (v : Option Bool). (record l { init = init_of v }) ∷ ls) (sym (same_Some x k h)) ∙ ap (λ ms. (record l { init = init_of x }) ∷ ms) (sym (begun_none ls))
begun_more (l ∷ ls) (x ∷ known) (suc j) k h low = ap (λ ms. (record l { init = init_of x }) ∷ ms) (begun_more ls known j k h (omega (arith, low)))
