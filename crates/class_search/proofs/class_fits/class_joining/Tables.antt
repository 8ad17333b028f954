-- What a table of enables says.
use Rattle.std.proofs.Common.{◌≡◌, ◌∙◌, ℕ, [], ◌∷◌, ◌++◌, length, sym, subst, inl, inr}
use Rattle.std.specs.Prelude.{◌⊎◌, Contains}
use Rattle.std.proofs.lemmas.List.Elements.{Contains-append_cases, Contains-append_left, Contains-append_right}
use Rattle.circuit_theory.specs.Joined.{Either}
use Rattle.circuit_theory.proofs.Lists.{Contains-head, only}
use Rattle.circuit_laws.specs.event_laws.ClassSteps.{IsFirstFit}
use Rattle.circuit_laws.proofs.event_laws.Twins.{twins_fit_in_nets}
use Rattle.flat_net.specs.View.{circuit_of}
use Rattle.flat_net.proofs.Nets.{sound_is_net}
use Rattle.edbf_unfold.specs.class_queries.Enables.{class_map, both_of, IsEnableFunction}
use Rattle.edbf_unfold.proofs.class_queries.Meaning.{numbered, twins}
use Rattle.edbf_unfold.proofs.class_queries.Staying.{functions_grow_with_graph}
use Rattle.class_search.specs.class_fits.class_joining.Laws.{FoundClassFits, TableGoesOn, TableGrows}

pub found_fits : FoundClassFits
found_fits a b w taken rest v enable care class table kept map known function h =
    let u = known (enable, care) class h in
    subst (IsFirstFit (both_of a b) taken v) u.2
    (twins_fit_in_nets (circuit_of a.net) (circuit_of b.net) (length a.net.drivers) (length b.net.drivers) a.order b.order (class_map a b) (sound_is_net a.net kept.left_sound) (sound_is_net b.net kept.right_sound) (numbered a kept.left) taken rest v u.0 map u.1
    (twins a b w kept u.0 v enable care u.3 function))

pub goes_on : TableGoesOn
goes_on a b c d w taken rest v enable care class table joined known = (old, λ function. λ p k h. go function p k (Contains-append_cases {X = (ℕ × ℕ) × ℕ} table (((enable, care), class) ∷ []) (p, k) h))
  where
    old : (p : ℕ × ℕ) (k : ℕ) → Contains table (p, k) → (u : Either ℕ ℕ) × Contains (taken ++ v ∷ []) u × ((both_of c d).class u ≡ k) × IsEnableFunction (both_of c d) w u p.0 p.1
    old p k h =
        let u = known p k h in
        let here = Contains-append_left taken (v ∷ []) u.0 u.1 in
        (u.0, here, sym (joined.kept u.0 u.1) ∙ u.2, joined.functions w u.0 p.0 p.1 here u.3)

    go : IsEnableFunction (both_of a b) w v enable care → (p : ℕ × ℕ) (k : ℕ) → Contains table (p, k) ⊎ Contains {X = (ℕ × ℕ) × ℕ} (((enable, care), class) ∷ []) (p, k) →
        (u : Either ℕ ℕ) × Contains (taken ++ v ∷ []) u × ((both_of c d).class u ≡ k) × IsEnableFunction (both_of c d) w u p.0 p.1
    go function p k (inl h) = old p k h
    go function p k (inr h) =
        let e : ◌≡◌ {A = (ℕ × ℕ) × ℕ} ((enable, care), class) (p, k) = only {X = (ℕ × ℕ) × ℕ} ((enable, care), class) (p, k) h in
        let here = Contains-append_right taken (v ∷ []) v (Contains-head v []) in
        subst (λ (q : (ℕ × ℕ) × ℕ). (u : Either ℕ ℕ) × Contains (taken ++ v ∷ []) u × ((both_of c d).class u ≡ q.1) × IsEnableFunction (both_of c d) w u q.0.0 q.0.1) e
        (v, here, joined.class_is, joined.functions w v enable care here function)

pub grows_on : TableGrows
grows_on s w x taken table kept grows known p k h = let u = known p k h in (u.0, u.1, u.2, functions_grow_with_graph s w x u.0 p.0 p.1 kept grows u.3)
