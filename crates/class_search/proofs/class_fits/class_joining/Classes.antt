-- The classes of latches, where one of them is set.
use Rattle.std.proofs.Common.{◌≡◌, ◌≢◌, ◌∙◌, ◌<◌, ◌==◌, ℕ, zero, suc, Bool, true, false, cond, List, [], ◌∷◌, length, slice_get, slice_set, Some, refl, sym, ap, arith, get_or-set_same}
use Rattle.std.proofs.lemmas.Option.{same_Some, slice_get_within, slice_get-get_or}
use Rattle.std.proofs.lemmas.List.{length-set}
use Rattle.circuit_theory.proofs.Inputs.{test_same}
use Rattle.flat_net.specs.declared.parts.LatchAt.{LatchAt}
use Rattle.flat_net.specs.Sound.{IsSound}
use Rattle.flat_net.specs.View.{NetView}
use Rattle.event_nodes.specs.View.{class_at}
use Rattle.event_nodes.proofs.Growing.{class_is}

-- the latch has the class that was set
pub class_set : (n : NetView) → IsSound n → (ks : List ℕ) (j k : ℕ) (l : LatchAt) → slice_get n.latches j ≡ Some l → length ks ≡ length n.latches → class_at n.latches (slice_set ks j k) l.out.0 ≡ k
class_set n sound ks j k l at each =
    let inside : j < length ks = let w = slice_get_within n.latches j l at in omega (arith, w, each) in
    class_is n sound (slice_set ks j k) j l k at (slice_get-get_or (slice_set ks j k) j k (let e = length-set ks j k in omega (arith, inside, e)) ∙ ap Some (get_or-set_same ks j k k inside))

-- the others keep theirs
pub class_kept : (ls : List LatchAt) (ks : List ℕ) (j k : ℕ) (l : LatchAt) (p : ℕ) → slice_get ls j ≡ Some l → l.out.0 ≢ p → class_at ls (slice_set ks j k) p ≡ class_at ls ks p
class_kept [] ks j k l p at apart = refl
class_kept (m ∷ ls) [] j k l p at apart = refl
class_kept (m ∷ ls) (c ∷ ks) zero k l p at apart = go (m.out.0 == p) refl
  where
    same : m ≡ l
    same = same_Some m l at

    go : (b : Bool) → (m.out.0 == p) ≡ b → cond (m.out.0 == p) k (class_at ls ks p) ≡ cond (m.out.0 == p) c (class_at ls ks p)
    go true e = absurd (apart (ap (λ (x : LatchAt). x.out.0) (sym same) ∙ test_same m.out.0 p e))
    go false e = ap (λ (b : Bool). cond b k (class_at ls ks p)) e ∙ sym (ap (λ (b : Bool). cond b c (class_at ls ks p)) e)
class_kept (m ∷ ls) (c ∷ ks) (suc j) k l p at apart = ap (λ (x : ℕ). cond (m.out.0 == p) c x) (class_kept ls ks j k l p at apart)
