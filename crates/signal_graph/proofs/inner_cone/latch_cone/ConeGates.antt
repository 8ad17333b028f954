-- The gates that drive signals.
use Rattle.std.proofs.Common.{◌≡◌, ◌∙◌, ℕ, List, [], ◌∷◌, slice_get, Option, Some, None, refl, sym, ap, subst, arith, inl, inr, ◌⊎◌}
use Rattle.std.specs.List.{Contains, filter_map, cons_option}
use Rattle.std.specs.Prelude.{option_and_then}
use Rattle.std.specs.Option.{option_to_list}
use Rattle.std.proofs.lemmas.Option.{slice_get_within}
use Rattle.flat_net.proofs.circuit_theory.Lists.{at_of, Contains-cases, Contains-head, Contains-tail}
use Rattle.flat_net.specs.declared.parts.Driver.{Driver}
use Rattle.flat_net.specs.declared.parts.Driver.TheVariants as driver
use Rattle.flat_net.specs.View.{NetView}
use Rattle.signal_graph.specs.inner_cone.latch_cone.Parts.{gate_of, gate_at}

-- what is made of one element
pub made_of_one : {X Y : Type 0} (f : X → Option Y) (x : X) → filter_map f (x ∷ []) ≡ option_to_list (f x)
made_of_one {X} {Y} f x = by (f x)
  where
    by : (o : Option Y) → cons_option o [] ≡ option_to_list o
    by None = refl
    by (Some y) = refl

-- what is made of an element is among what is made of all
pub filter_map-into : {X Y : Type 0} (f : X → Option Y) (xs : List X) (x : X) (y : Y) → Contains xs x → f x ≡ Some y → Contains (filter_map f xs) y
filter_map-into f [] x y h e = absurd (let at = at_of [] x h in let w = slice_get_within [] at.0 x at.1 in omega arith)
filter_map-into {X} {Y} f (z ∷ xs) x y h e = go (λ there. filter_map-into f xs x y there e) (Contains-cases z x xs h)
  where
    later : (o : Option Y) → Contains (filter_map f xs) y → Contains (cons_option o (filter_map f xs)) y
    later None k = k
    later (Some w) k = Contains-tail w y (filter_map f xs) k

    go : (Contains xs x → Contains (filter_map f xs) y) → (z ≡ x) ⊎ Contains xs x → Contains (filter_map f (z ∷ xs)) y
    go rest (inl same) = subst (λ (o : Option Y). Contains (cons_option o (filter_map f xs)) y) (sym (ap f same ∙ e)) (Contains-head y (filter_map f xs))
    go rest (inr there) = later (f z) (rest there)

-- a signal that a gate drives has its number
pub driven_by_gate : (n : NetView) (s j : ℕ) → gate_at n s ≡ Some j → slice_get n.drivers s ≡ Some (driver.Gate j)
driven_by_gate n s j e = by (slice_get n.drivers s) refl e
  where
    of : (d : Driver) → gate_of d ≡ Some j → d ≡ driver.Gate j
    of (driver.Input i) h = absurd (none h)
      where
        none : None ≡ Some j → ⊥
        none q = cc
    of (driver.Gate k) h = ap driver.Gate (let q = h in cc)
    of (driver.Latch k) h = absurd (none h)
      where
        none : None ≡ Some j → ⊥
        none q = cc

    by : (o : Option Driver) → slice_get n.drivers s ≡ o → gate_at n s ≡ Some j → slice_get n.drivers s ≡ Some (driver.Gate j)
    by None at h = absurd (none (sym (ap (option_and_then gate_of) at) ∙ h))
      where
        none : None ≡ Some j → ⊥
        none q = cc
    by (Some d) at h = at ∙ ap Some (of d (sym (ap (option_and_then gate_of) at) ∙ h))
