-- What literals say of enables looks at the classes of latches of lower rank alone.
use Rattle.std.proofs.Common.{◌≡◌, ◌≢◌, ℕ, ◌<◌, ◌≤◌, Bool, true, slice_get, Some, List, [], ◌∷◌, ◌++◌, sym, ap, subst, arith, inl, inr}
use Rattle.std.specs.Prelude.{◌⊎◌, ◌↔◌, Contains}
use Rattle.std.proofs.lemmas.List.Elements.{Contains-append_cases, Contains-append_left, Contains-append_right}
use Rattle.circuit_theory.specs.Circuit.{Circuit, IsSingleDriven}
use Rattle.circuit_theory.specs.Depth.{LatchesHaveDepths}
use Rattle.circuit_theory.specs.Joined.{joined}
use Rattle.circuit_theory.specs.Run.{IsEnabled}
use Rattle.circuit_theory.proofs.Lists.{Contains-head, only}
use Rattle.circuit_laws.proofs.JoinedParts.{joined_same, joined_single}
use Rattle.circuit_theory.specs.EventTotals.{IsMapSoFar}
use Rattle.edbf_unfold.proofs.ClassSteps.{pairs_ahead}
use Rattle.edbf_unfold.proofs.OneClassMap.{side, rank_of, Agrees, Before, enable_to, enable_care, place_of, depth_of}
use Rattle.event_nodes.proofs.flat_net.Growth.{slice_get-append}
use Rattle.aig.proofs.Growth.{Grows-length}
use Rattle.aig.proofs.Meaning.{value-grows}
use Rattle.circuit_theory.specs.Classes.{EnableCare, EnableAtRoot}
use Rattle.edbf_unfold.specs.Nodes.{EventGraphView, named_places}
use Rattle.edbf_unfold.proofs.Paths.{named_grows}
use Rattle.edbf_unfold.specs.Laws.{TakesFrame}
use Rattle.edbf_unfold.specs.class_queries.Enables.{IsEnableFunction}
use Rattle.edbf_unfold.specs.class_queries.Laws.{FunctionsStay, FunctionsGrow}

module _ {P : Type 0} (c : Circuit P) (single : IsSingleDriven c) (same : (p q : P) → (p ≡ q) ⊎ (p ≢ q)) (depths : LatchesHaveDepths c (IsEnabled c)) (o : List ℕ) (f g : P → ℕ) (taken rest : List P) (v : P)
    (map : IsMapSoFar (side c single same depths o f) taken (v ∷ rest)) (others : (u : P) → u ≢ v → f u ≡ g u) where
  abbrev Rank : P → ℕ
  Rank = rank_of c single same depths o

  enabled : (u : P) → Contains (taken ++ v ∷ rest) u → IsEnabled c u
  enabled u h = map.is_order.enabled u h

  agree : (R : ℕ) → R ≤ Rank v → Agrees c single same depths o R f g
  agree R small name u next latch below = others u (λ e. let q : Rank u ≡ Rank v = ap Rank e in omega (arith, q, small, below))

  -- a latch that was taken, and the next one, are no deeper than the next one
  no_deeper : (u : P) → Contains (taken ++ v ∷ []) u → Rank u ≤ Rank v
  no_deeper u h = go (Contains-append_cases taken (v ∷ []) u h)
    where
      low : {i j : ℕ} → (Rank u < Rank v) ⊎ ((Rank u ≡ Rank v) × (i < j)) → Rank u ≤ Rank v
      low (inl a) = omega arith
      low (inr a) = omega (arith, a.0)

      go : Contains taken u ⊎ Contains (v ∷ []) u → Rank u ≤ Rank v
      go (inl k) =
          let eu = enabled u (Contains-append_left taken (v ∷ rest) u k) in
          let ev = enabled v (Contains-append_right taken (v ∷ rest) v (Contains-head v rest)) in
          let i = place_of c single same depths o u eu in
          let j = place_of c single same depths o v ev in
          low (pairs_ahead (Before c single same depths o) taken v rest map.is_order.in_order u k (Rank u) (Rank v) i.0 j.0 (depth_of c single same depths o u eu) (depth_of c single same depths o v ev) i.1 j.1)
      go (inr k) = let q : Rank v ≡ Rank u = ap Rank (only v u k) in omega (arith, q)

  module _ (w : EventGraphView) (u : P) (enable care : ℕ) (h : Contains (taken ++ v ∷ []) u) (is : IsEnableFunction (side c single same depths o f) w u enable care) where
    abbrev R : ℕ
    R = Rank u

    there : Agrees c single same depths o R f g
    there = agree R (no_deeper u h)

    back : Agrees c single same depths o R g f
    back name p next latch low = sym (there name p next latch low)

    pub function_stays : IsEnableFunction (side c single same depths o g) w u enable care
    function_stays = record {
      enable_within = is.enable_within;
      care_within = is.care_within;
      enable_is = λ bits a fits. enable_to c single same depths o R f g there bits u [] _ (omega arith) (is.enable_is bits a fits);
      care_is = λ bits a fits. (
        λ set. enable_care c single same depths o R f g there bits u (omega arith) ((is.care_is bits a fits).0 set),
        λ has. (is.care_is bits a fits).1 (enable_care c single same depths o R g f back bits u (omega arith) has),
      );
    }

pub functions_stay_in_nets : FunctionsStay
functions_stay_in_nets a b m n left right f g taken rest v na nb depths map others w u enable care h is =
    function_stays (joined a b) (joined_single a b m n na nb) joined_same depths (left ++ right) f g taken rest v map others w u enable care h is

pub functions_grow_with_graph : FunctionsGrow
functions_grow_with_graph s w x u enable care kept grows is = record {
  enable_within = omega (arith, is.enable_within, Grows-length w.graph x.graph grows.graph);
  care_within = omega (arith, is.care_within, Grows-length w.graph x.graph grows.graph);
  enable_is = λ bits a fits. subst (EnableAtRoot s bits u) (sym (value-grows w.graph x.graph grows.graph a enable is.enable_within)) (is.enable_is bits a (before bits a fits));
  care_is = λ bits a fits.
      subst (λ (b : Bool). (b ≡ true) ↔ EnableCare s bits u) (sym (value-grows w.graph x.graph grows.graph a care is.care_within)) (is.care_is bits a (before bits a fits));
}
  where
    before : (bits : ℕ → List ℕ → Bool) (a : ℕ → Bool) → TakesFrame x bits a → TakesFrame w bits a
    before bits a fits v p at =
        let more = named_grows w x kept grows in
        fits v p (subst (λ (ps : List (ℕ × List ℕ)). slice_get ps v ≡ Some p) (sym more.1) (slice_get-append (named_places w) more.0 v p at))
