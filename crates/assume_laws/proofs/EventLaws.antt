-- The laws of the event form under an assumption: without and with exposed latches.
use Rattle.std.proofs.Common.{◌≡◌, ℕ, ◌<◌, Bool, List, [], length, refl, sym, ◌∙◌, arith}
use Rattle.circuit_theory.specs.declared.Mode.TheVariants.{Event}
use Rattle.circuit_theory.specs.Circuit.{Circuit}
use Rattle.circuit_theory.specs.Run.{IsEnabled, Marked}
use Rattle.circuit_theory.specs.Tree.{AreNumbered}
use Rattle.circuit_theory.specs.Net.{IsNet}
use Rattle.circuit_theory.specs.Joined.{Either, Left, Right, joined}
use Rattle.circuit_theory.specs.Classes.{HasClasses}
use Rattle.circuit_theory.specs.Agree.{AreAlike, IsPair, cut}
use Rattle.circuit_theory.specs.EventFits.{side_by_side}
use Rattle.circuit_theory.specs.Depth.{LatchesHaveDepths}
use Rattle.circuit_laws.proofs.CutLaws.{left_clear, right_clear}
use Rattle.circuit_laws.proofs.event_laws.ExposedEvents.{left_net, right_net, new_left, new_right, new_alike, left_kept, right_kept}
use Rattle.assume_laws.specs.Assume.{Assumption, RowMeets, RunMeets, ReadsInputs, HaveEqualEventsUnder}
use Rattle.assume_laws.specs.Laws.{EventFunctionsAgreeUnder, ExposedEventFunctionsAgreeUnder}
use Rattle.assume_laws.proofs.Care.{run_holds, cut_meets, shorter_meets}
use Rattle.circuit_laws.proofs.Onward.{runs_agree_onward}
use Rattle.assume_laws.proofs.EventCare.{event_pair_under}

-- one pair, in two runs that meet the assumption
module _ (c : Assumption) (a b : Circuit ℕ) (m n : ℕ) (left right : List ℕ) (class : Either ℕ ℕ → ℕ) (na : IsNet a m) (nb : IsNet b n) (numbered : AreNumbered a b left right)
    (left_long : length left ≡ length a.inputs) (right_long : length right ≡ length b.inputs) (classes : HasClasses (side_by_side a b left right class))
    (depths : LatchesHaveDepths (joined a b) (IsEnabled (joined a b))) (reads : ReadsInputs c a left) where
  pub pair_under : (size : ℕ) (l r : ℕ → ℕ → Bool) → AreAlike a b size l r → RunMeets c a size l → (t p q : ℕ) → t < size → HaveEqualEventsUnder c (side_by_side a b left right class) (Left p) (Right q) →
      Marked a (IsEnabled a) l t p → Marked b (IsEnabled b) r t q → l t p ≡ r t q
  pair_under size l r alike meets t p q h e lm rm =
      event_pair_under a b m n left right class na nb numbered left_long right_long classes depths (RowMeets c) size l r alike (run_holds c a left reads size l meets) t p q e.left_tree e.right_tree h e.left_unfolds e.right_unfolds
      (λ bits lc rc all. e.same bits ((lc, rc), λ node k. all node)) lm rm

pub event_functions_agree_under : EventFunctionsAgreeUnder
event_functions_agree_under c a b m n left right class na nb numbered left_long right_long classes depths reads equal size l r alike meets t p q h pair lm rm =
    pair_under c a b m n left right class na nb numbered left_long right_long classes depths reads size l r alike meets t p q h (equal p q pair) lm rm

wider : {names : List (List ℕ)} {a b : Circuit ℕ} {p q : ℕ} → IsPair [] a b p q → IsPair names a b p q
wider (IsPair.outputs x y) = IsPair.outputs x y
wider (IsPair.nexts k x y) = absurd (omega (arith, k.1))

-- The exchanged runs of the cut circuits have the inputs of the runs, so they meet the assumption too.
pub exposed_event_functions_agree_under : ExposedEventFunctionsAgreeUnder
exposed_event_functions_agree_under c a b m n names left right class na nb da db least numbered left_long right_long classes depths reads equal = (
  λ size l r alike meets t p q h pair lm rm.
      let lk = left_kept a b m n names na nb da db least size l r alike t p h lm in
      let rk = right_kept a b m n names na nb da db least size l r alike t q h rm in
      lk.1
      ∙ (cut_pair size (new_left a b m n names na nb da db least size l r alike) (new_right a b m n names na nb da db least size l r alike) (new_alike a b m n names na nb da db least size l r alike)
      (cut_meets c names a na.single da size l (new_left a b m n names na nb da db least size l r alike) (λ s x k i. (left_kept a b m n names na nb da db least size l r alike s x k (Marked.input i)).1) meets)
      t p q h (wider pair) lk.0 rk.0
      ∙ sym rk.1),
  λ size l r alike meets.
      runs_agree_onward Event names a b (left_clear Event names a b na.single nb.single da db least) (right_clear Event names a b na.single nb.single da db least) size l r alike
      (λ k le cut_alike t p q h pair lm rm. cut_pair k l r cut_alike (cut_meets c names a na.single da k l l (λ s x j i. refl) (shorter_meets c a size k l le meets)) t p q h pair lm rm),
)
  where
    cut_pair : (size : ℕ) (l r : ℕ → ℕ → Bool) → AreAlike (cut names a) (cut names b) size l r → RunMeets c (cut names a) size l → (t p q : ℕ) → t < size → IsPair names a b p q →
        Marked (cut names a) (IsEnabled (cut names a)) l t p → Marked (cut names b) (IsEnabled (cut names b)) r t q → l t p ≡ r t q
    cut_pair size l r alike meets t p q h pair lm rm =
        pair_under c (cut names a) (cut names b) m n left right class (left_net a b m n names na nb da db least) (right_net a b m n names na nb da db least) numbered left_long right_long classes depths reads
        size l r alike meets t p q h (equal p q pair) lm rm
