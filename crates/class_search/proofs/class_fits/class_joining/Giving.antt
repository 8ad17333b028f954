-- The class map goes on with the next latch.
use Rattle.std.proofs.Common.{◌≡◌, ◌≢◌, ◌∙◌, ◌<◌, ℕ, max, List, [], ◌∷◌, ◌++◌, length, slice_get, Some, refl, sym, ap, subst, arith, inl, inr}
use Rattle.std.specs.Prelude.{◌⊎◌, Contains}
use Rattle.std.proofs.lemmas.List.Elements.{Contains-append_right}
use Rattle.std.proofs.lemmas.List.Sums.{fold_push}
use Rattle.circuit_theory.specs.Circuit.{Circuit}
use Rattle.circuit_theory.specs.Depth.{LatchesHaveDepths}
use Rattle.circuit_theory.specs.Joined.{Either, Left, Right, joined}
use Rattle.circuit_theory.specs.Net.{IsNet}
use Rattle.circuit_theory.specs.Run.{IsEnabled}
use Rattle.circuit_theory.proofs.Lists.{Contains-head}
use Rattle.circuit_laws.proofs.JoinedParts.{joined_same, joined_single}
use Rattle.circuit_theory.specs.Classes.{classes_of}
use Rattle.circuit_theory.specs.EventFits.{side_by_side}
use Rattle.circuit_theory.specs.EventTotals.{IsMapSoFar}
use Rattle.circuit_laws.specs.event_laws.ClassSteps.{IsFirstFit}
use Rattle.circuit_laws.proofs.event_laws.ClassSteps.{pairs_ahead, class_map_goes_on_in_nets}
use Rattle.circuit_laws.proofs.event_laws.OneClassMap.{Before, place_of, depth_of, fold_same}
use Rattle.flat_net.specs.View.{circuit_of}
use Rattle.flat_net.proofs.Nets.{sound_is_net}
use Rattle.edbf_unfold.specs.class_queries.Enables.{class_map}
use Rattle.edbf_unfold.proofs.class_queries.Staying.{functions_stay_in_nets}
use Rattle.class_search.specs.class_fits.class_joining.Joining.{with_class}
use Rattle.class_search.specs.class_fits.class_joining.Laws.{ClassIsGiven}
use Rattle.class_search.proofs.class_fits.class_joining.Classes.{class_set, class_kept}

module _ (a b : Circuit ℕ) (m n : ℕ) (na : IsNet a m) (nb : IsNet b n) (depths : LatchesHaveDepths (joined a b) (IsEnabled (joined a b))) (left right : List ℕ) (f g : Either ℕ ℕ → ℕ) (taken rest : List (Either ℕ ℕ)) (v : Either ℕ ℕ)
    (map : IsMapSoFar (side_by_side a b left right f) taken (v ∷ rest)) (others : (u : Either ℕ ℕ) → u ≢ v → f u ≡ g u) where
  abbrev Ahead : Either ℕ ℕ → Either ℕ ℕ → Type 0
  Ahead = Before (joined a b) (joined_single a b m n na nb) joined_same depths (left ++ right)

  -- the next latch isn't among those that were taken
  taken_apart : (u : Either ℕ ℕ) → Contains taken u → u ≢ v
  taken_apart u h e =
      let single = joined_single a b m n na nb in
      let on = map.is_order.enabled v (Contains-append_right taken (v ∷ rest) v (Contains-head v rest)) in
      let i = place_of (joined a b) single joined_same depths (left ++ right) v on in
      let d = depth_of (joined a b) single joined_same depths (left ++ right) v on in
      let before : Ahead v v = subst (λ (z : Either ℕ ℕ). Ahead z v) e (pairs_ahead Ahead taken v rest map.is_order.in_order u h) in
      clash (before _ _ i.0 i.0 d d i.1 i.1)
    where
      clash : {d i : ℕ} → (d < d) ⊎ ((d ≡ d) × (i < i)) → ⊥
      clash (inl x) = omega arith
      clash (inr x) = omega (arith, x.1)

  pub taken_kept : (u : Either ℕ ℕ) → Contains taken u → f u ≡ g u
  taken_kept u h = others u (taken_apart u h)

  pub number_after : (class : ℕ) → g v ≡ class → classes_of (side_by_side a b left right g) (taken ++ v ∷ []) ≡ max (classes_of (side_by_side a b left right f) taken) class
  number_after class is =
      fold_push (λ (k : ℕ) (u : Either ℕ ℕ). max k (g u)) 0 taken v
      ∙ (λ i. max (sym (fold_same (joined a b) (joined_single a b m n na nb) joined_same depths (left ++ right) f g 0 taken taken_kept) i) (is i))

  pub map_after : (class : ℕ) → g v ≡ class → IsFirstFit (side_by_side a b left right f) taken v class → IsMapSoFar (side_by_side a b left right g) (taken ++ v ∷ []) rest
  map_after class is fit = (class_map_goes_on_in_nets a b m n left right f na nb depths).1 g taken rest v map (subst (IsFirstFit (side_by_side a b left right f) taken v) (sym is) fit) others

pub class_given : ClassIsGiven
class_given a b sound_a sound_b kept_a kept_b depths taken rest j class l = (
  λ at map fit. record {
    map = map_after (circuit_of a.net) (circuit_of b.net) (length a.net.drivers) (length b.net.drivers) (sound_is_net a.net sound_a) (sound_is_net b.net sound_b) depths a.order b.order (class_map a b) (class_map (with_class a j class) b) taken rest (Left l.out.0) map (left_others at) class (left_class at) fit;
    number = number_after (circuit_of a.net) (circuit_of b.net) (length a.net.drivers) (length b.net.drivers) (sound_is_net a.net sound_a) (sound_is_net b.net sound_b) depths a.order b.order (class_map a b) (class_map (with_class a j class) b) taken rest (Left l.out.0) map (left_others at) class (left_class at);
    class_is = left_class at;
    kept = taken_kept (circuit_of a.net) (circuit_of b.net) (length a.net.drivers) (length b.net.drivers) (sound_is_net a.net sound_a) (sound_is_net b.net sound_b) depths a.order b.order (class_map a b) (class_map (with_class a j class) b) taken rest (Left l.out.0) map (left_others at);
    functions = λ w u enable care h is. functions_stay_in_nets (circuit_of a.net) (circuit_of b.net) (length a.net.drivers) (length b.net.drivers) a.order b.order (class_map a b) (class_map (with_class a j class) b) taken rest (Left l.out.0) (sound_is_net a.net sound_a) (sound_is_net b.net sound_b) depths map (left_others at) w u enable care h is;
  },
  λ at map fit. record {
    map = map_after (circuit_of a.net) (circuit_of b.net) (length a.net.drivers) (length b.net.drivers) (sound_is_net a.net sound_a) (sound_is_net b.net sound_b) depths a.order b.order (class_map a b) (class_map a (with_class b j class)) taken rest (Right l.out.0) map (right_others at) class (right_class at) fit;
    number = number_after (circuit_of a.net) (circuit_of b.net) (length a.net.drivers) (length b.net.drivers) (sound_is_net a.net sound_a) (sound_is_net b.net sound_b) depths a.order b.order (class_map a b) (class_map a (with_class b j class)) taken rest (Right l.out.0) map (right_others at) class (right_class at);
    class_is = right_class at;
    kept = taken_kept (circuit_of a.net) (circuit_of b.net) (length a.net.drivers) (length b.net.drivers) (sound_is_net a.net sound_a) (sound_is_net b.net sound_b) depths a.order b.order (class_map a b) (class_map a (with_class b j class)) taken rest (Right l.out.0) map (right_others at);
    functions = λ w u enable care h is. functions_stay_in_nets (circuit_of a.net) (circuit_of b.net) (length a.net.drivers) (length b.net.drivers) a.order b.order (class_map a b) (class_map a (with_class b j class)) taken rest (Right l.out.0) (sound_is_net a.net sound_a) (sound_is_net b.net sound_b) depths map (right_others at) w u enable care h is;
  },
)
  where
    left_class : slice_get a.net.latches j ≡ Some l → class_map (with_class a j class) b (Left l.out.0) ≡ class
    left_class at = class_set a.net sound_a a.classes j class l at kept_a.each_class

    right_class : slice_get b.net.latches j ≡ Some l → class_map a (with_class b j class) (Right l.out.0) ≡ class
    right_class at = class_set b.net sound_b b.classes j class l at kept_b.each_class

    left_others : slice_get a.net.latches j ≡ Some l → (u : Either ℕ ℕ) → u ≢ Left l.out.0 → class_map a b u ≡ class_map (with_class a j class) b u
    left_others at (Left p) apart = sym (class_kept a.net.latches a.classes j class l p at (λ e. apart (ap Left (sym e))))
    left_others at (Right q) apart = refl

    right_others : slice_get b.net.latches j ≡ Some l → (u : Either ℕ ℕ) → u ≢ Right l.out.0 → class_map a b u ≡ class_map a (with_class b j class) u
    right_others at (Left p) apart = refl
    right_others at (Right q) apart = sym (class_kept b.net.latches b.classes j class l q at (λ e. apart (ap Right (sym e))))
