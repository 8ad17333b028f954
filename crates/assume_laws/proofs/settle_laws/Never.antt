-- Where two places are settled in one cycle of a run, the frame that the run fills has care for both: so where no frame has, they never are.
use Rattle.std.proofs.Common.{◌≡◌, ◌∙◌, ℕ, ◌<◌, Bool, true, false, List, ◌++◌, length, map, refl, sym, arith}
use Rattle.circuit_theory.specs.Circuit.{Circuit, out_of}
use Rattle.circuit_theory.specs.Run.{IsEnabled, Marked}
use Rattle.circuit_theory.specs.Depth.{LatchesHaveDepths}
use Rattle.circuit_theory.specs.Tree.{AreNumbered}
use Rattle.circuit_theory.specs.Net.{IsNet}
use Rattle.circuit_theory.specs.Frame.{EventSide, ConeLatches, HasCare, IsNumberedRun}
use Rattle.circuit_theory.specs.Joined.{Either, Left, Right, joined, moved_name, beside}
use Rattle.circuit_theory.specs.Classes.{HasClasses}
use Rattle.circuit_theory.specs.Agree.{AreAlike, cut}
use Rattle.circuit_theory.specs.EventFits.{side_by_side}
use Rattle.circuit_theory.specs.Query.{IsSame}
use Rattle.circuit_laws.proofs.Finite.{Decided, weakly_below, weakly_decided, weakly_each}
use Rattle.circuit_laws.proofs.LawProofs.{settled_from_depth}
use Rattle.circuit_laws.proofs.event_laws.EventAgreement.{side_run, left_mark, right_mark}
use Rattle.circuit_laws.proofs.event_laws.ExposedEvents.{left_net, right_net, new_left, new_right, new_alike, left_kept, right_kept}
use Rattle.circuit_laws.proofs.event_laws.SettledEvents.{settled_has_events_in_nets}
use Rattle.circuit_laws.proofs.reset_laws.ResetAgreement.{HoldsAlong}
use Rattle.assume_laws.specs.Assume.{RowMeets}
use Rattle.assume_laws.proofs.Care.{run_holds, cut_meets}
use Rattle.assume_laws.proofs.EventCare.{SettledLatch, run_frame, run_frame-filled, run_frame-rows, beside_left}
use Rattle.assume_laws.specs.settle_laws.Settles.{HaveNoCare, care_query, PlainPairsSettle, WithoutCareNeverSettled, WithoutCareNeverSettledExposed, WithoutCareNeverSettledCut, WithoutCareNeverSettledUnder, SideWithoutCareNeverSettled, QueryWithoutCare}

module _ (a b : Circuit ℕ) (m n : ℕ) (left right : List ℕ) (class : Either ℕ ℕ → ℕ) (na : IsNet a m) (nb : IsNet b n) (numbered : AreNumbered a b left right)
    (left_long : length left ≡ length a.inputs) (right_long : length right ≡ length b.inputs) (classes : HasClasses (side_by_side a b left right class))
    (depths : LatchesHaveDepths (joined a b) (IsEnabled (joined a b))) where
  abbrev whole : Circuit (Either ℕ ℕ)
  whole = joined a b

  abbrev side : EventSide (Either ℕ ℕ)
  side = side_by_side a b left right class

  -- no frame of which each row is cared for has care for both places
  abbrev NoneCares : ((ℕ → Bool) → Type 0) → Either ℕ ℕ → Either ℕ ℕ → Type 0
  NoneCares care p q =
      (bits : ℕ → List ℕ → Bool) → HasCare side (IsEnabled whole) (ConeLatches whole p) bits → HasCare side (IsEnabled whole) (ConeLatches whole q) bits → ((node : List ℕ) → care (λ i. bits i node)) → ⊥

  -- then they are settled together in no run whose rows are
  pub never_both : (size : ℕ) (run : ℕ → Either ℕ ℕ → Bool) → IsNumberedRun side size run → (care : (ℕ → Bool) → Type 0) → HoldsAlong care whole (left ++ right) size run → (t : ℕ) (p q : Either ℕ ℕ) → t < size →
      NoneCares care p q → Marked whole (IsEnabled whole) run t p → Marked whole (IsEnabled whole) run t q → ⊥
  never_both size run shared care along t p q h none mp mq =
      weakly_each (λ e. Decided (IsEnabled whole (out_of e))) whole.equations (λ e c. weakly_decided) (λ kinds.
      weakly_each (λ e. (s : ℕ) → s < size → Decided (SettledLatch a b m n left right class na nb numbered left_long right_long classes depths size run shared e s)) whole.equations
      (λ e c. weakly_below (λ s. Decided (SettledLatch a b m n left right class na nb numbered left_long right_long classes depths size run shared e s)) size (λ s low. weakly_decided))
      (λ facts.
      let bits = run_frame a b m n left right class na nb numbered left_long right_long classes depths size run shared kinds facts t in
      none bits
      ((settled_has_events_in_nets a b m n left right class na nb numbered left_long right_long classes depths size run shared t p h mp).care bits
      (run_frame-filled a b m n left right class na nb numbered left_long right_long classes depths size run shared kinds facts t p h mp))
      ((settled_has_events_in_nets a b m n left right class na nb numbered left_long right_long classes depths size run shared t q h mq).care bits
      (run_frame-filled a b m n left right class na nb numbered left_long right_long classes depths size run shared kinds facts t q h mq))
      (run_frame-rows a b m n left right class na nb numbered left_long right_long classes depths size run shared kinds facts care along t h)))

  -- the same of any two runs with equal inputs, where nothing is asked of their rows
  module _ (size : ℕ) (l r : ℕ → ℕ → Bool) (alike : AreAlike a b size l r) where
    abbrev both : ℕ → Either ℕ ℕ → Bool
    both s = beside (l s) (r s)

    abbrev is_run : IsNumberedRun side size both
    is_run = side_run a b m n left right class na nb numbered left_long right_long classes depths size l r alike

    pub never_left_and_right : (care : (ℕ → Bool) → Type 0) → HoldsAlong care a left size l → (t p q : ℕ) → t < size → NoneCares care (Left p) (Right q) → Marked a (IsEnabled a) l t p → Marked b (IsEnabled b) r t q → ⊥
    never_left_and_right care along t p q h none lm rm =
        never_both size both is_run care (λ s k row are. along s k row (λ x i number. are (Left x) i (beside_left a.inputs left (map (moved_name Right) b.inputs) right x i number))) t (Left p) (Right q) h none
        (left_mark a b m n left right class na nb numbered left_long right_long classes depths size l r alike t p h lm)
        (right_mark a b m n left right class na nb numbered left_long right_long classes depths size l r alike t q h rm)

    pub never_left : (t p : ℕ) → t < size → HaveNoCare side (Left p) (Left p) → Marked a (IsEnabled a) l t p → ⊥
    never_left t p h none lm =
        let up = left_mark a b m n left right class na nb numbered left_long right_long classes depths size l r alike t p h lm in
        never_both size both is_run (λ row. Unit {0}) (λ s k row are. tt) t (Left p) (Left p) h (λ bits x y all. none bits x y) up up

    pub never_right : (t q : ℕ) → t < size → HaveNoCare side (Right q) (Right q) → Marked b (IsEnabled b) r t q → ⊥
    never_right t q h none rm =
        let up = right_mark a b m n left right class na nb numbered left_long right_long classes depths size l r alike t q h rm in
        never_both size both is_run (λ row. Unit {0}) (λ s k row are. tt) t (Right q) (Right q) h (λ bits x y all. none bits x y) up up

pub without_care_never_settled : WithoutCareNeverSettled
without_care_never_settled a b m n left right class na nb numbered left_long right_long classes depths p q none size l r alike t h lm rm =
    never_left_and_right a b m n left right class na nb numbered left_long right_long classes depths size l r alike (λ row. Unit {0}) (λ s k row are. tt) t p q h (λ bits x y all. none bits x y) lm rm

pub without_care_never_settled_cut : WithoutCareNeverSettledCut
without_care_never_settled_cut a b m n names left right class na nb da db least numbered left_long right_long classes depths p q none size l r alike t h lm rm =
    without_care_never_settled _ _ m n left right class (left_net a b m n names na nb da db least) (right_net a b m n names na nb da db least) numbered left_long right_long classes depths p q none
    size l r alike t h lm rm

pub without_care_never_settled_exposed : WithoutCareNeverSettledExposed
without_care_never_settled_exposed a b m n names left right class na nb da db least numbered left_long right_long classes depths p q none size l r alike t h lm rm =
    without_care_never_settled_cut a b m n names left right class na nb da db least numbered left_long right_long classes depths p q none
    size (new_left a b m n names na nb da db least size l r alike) (new_right a b m n names na nb da db least size l r alike) (new_alike a b m n names na nb da db least size l r alike) t h
    (left_kept a b m n names na nb da db least size l r alike t p h lm).0 (right_kept a b m n names na nb da db least size l r alike t q h rm).0

pub query_without_care : QueryWithoutCare
query_without_care s p q query asks = (to, from)
  where
    to : IsSame (care_query query) → HaveNoCare s p q
    to none bits lc rc = wrong (sym ((asks.care bits).1 (lc, rc)) ∙ none bits refl)
      where
        wrong : true ≡ false → ⊥
        wrong e = cc

    from : HaveNoCare s p q → IsSame (care_query query)
    from none bits e = go (query.care bits) refl
      where
        go : (x : Bool) → query.care bits ≡ x → query.care bits ≡ false
        go false h = h
        go true h = let both = (asks.care bits).0 h in absurd (none bits both.0 both.1)

pub side_without_care_never_settled : SideWithoutCareNeverSettled
side_without_care_never_settled a b m n left right class na nb numbered left_long right_long classes depths = (
  λ p none size l r alike t h mark. never_left a b m n left right class na nb numbered left_long right_long classes depths size l r alike t p h none mark,
  λ q none size l r alike t h mark. never_right a b m n left right class na nb numbered left_long right_long classes depths size l r alike t q h none mark,
)

-- The exchanged runs of the cut circuits have the inputs of the runs, so they meet the assumption too.
pub without_care_never_settled_under : WithoutCareNeverSettledUnder
without_care_never_settled_under c a b m n names left right class na nb da db least numbered left_long right_long classes depths reads p q none size l r alike meets t h lm rm =
    never_left_and_right (cut names a) (cut names b) m n left right class (left_net a b m n names na nb da db least) (right_net a b m n names na nb da db least) numbered left_long right_long classes depths
    size (new_left a b m n names na nb da db least size l r alike) (new_right a b m n names na nb da db least size l r alike) (new_alike a b m n names na nb da db least size l r alike) (RowMeets c)
    (run_holds c (cut names a) left reads size (new_left a b m n names na nb da db least size l r alike)
    (cut_meets c names a na.single da size l (new_left a b m n names na nb da db least size l r alike) (λ s x k i. (left_kept a b m n names na nb da db least size l r alike s x k (Marked.input i)).1) meets))
    t p q h (λ bits x y all. none bits ((x, y), λ node v. all node))
    (left_kept a b m n names na nb da db least size l r alike t p h lm).0 (right_kept a b m n names na nb da db least size l r alike t q h rm).0

pub plain_pairs_settle : PlainPairsSettle
plain_pairs_settle a b m n p q depth na nb p_in q_in is left right t = (
  λ h. (
      let l = (settled_from_depth a m p is.left na p_in is.left_is left t).0 h.0 in
      let r = (settled_from_depth b n q is.right nb q_in is.right_is right t).0 h.1 in
      let g = is.greater in
      omega (arith, l, r, g)
      ),
  λ h. (
      let g = is.greater in
      ((settled_from_depth a m p is.left na p_in is.left_is left t).1 (omega (arith, h, g)), (settled_from_depth b n q is.right nb q_in is.right_is right t).1 (omega (arith, h, g)))
      ),
)
