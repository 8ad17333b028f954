-- A flat net has one reset run for each sequence of inputs and each power-up of its free latches.
use Rattle.std.proofs.Common.{◌≡◌, ℕ, Bool, true, false, cond, List, [], ◌∷◌, refl, sym, ◌∙◌, ap, subst, Option, Some, None}
use Rattle.std.specs.Prelude.{◌==◌}
use Rattle.std.specs.List.{Contains}
use Rattle.circuit_theory.specs.Circuit.{Started, IsLatch}
use Rattle.circuit_theory.specs.Run.{IsResetRun}
use Rattle.circuit_theory.proofs.Inputs.{test_same}
use Rattle.circuit_theory.proofs.Lists.{Contains-head, Contains-tail}
use Rattle.circuit_laws.proofs.LawProofs.{same_run}
use Rattle.circuit_laws.proofs.NetLaws.{net_run, net_run-runs, net_run-inputs, net_run-power}
use Rattle.circuit_laws.specs.reset_laws.Reset.{IsFree, start_at, power_of}
use Rattle.circuit_laws.specs.reset_laws.Laws.{ResetRunsExist}
use Rattle.circuit_laws.proofs.reset_laws.ResetAgreement.{power_is, start_is}

-- what is found is an initial value of the place
start_found : (starts : List (Started ℕ)) (u : ℕ) (bit : Bool) → start_at starts u ≡ Some bit → Contains starts (record { place = u; bit = bit })
start_found [] u bit h = cc
start_found (s ∷ starts) u bit h = go (s.place == u) refl (λ k. start_found starts u bit k)
  where
    some_is : {x y : Bool} → Some x ≡ Some y → x ≡ y
    some_is q = cc

    go : (t : Bool) → (s.place == u) ≡ t → (start_at starts u ≡ Some bit → Contains starts (record { place = u; bit = bit })) → Contains (s ∷ starts) (record { place = u; bit = bit })
    go true e later =
        let same : s.bit ≡ bit = some_is (sym (ap (λ t. cond t (Some s.bit) (start_at starts u)) e) ∙ h) in
        subst (λ (b : Bool). Contains (s ∷ starts) (record { place = u; bit = b })) same
        (subst (λ (p : ℕ). Contains (s ∷ starts) (record { place = p; bit = s.bit })) (test_same s.place u e) (Contains-head s starts))
    go false e later = Contains-tail s _ starts (later (sym (ap (λ t. cond t (Some s.bit) (start_at starts u)) e) ∙ h))

none_found : (starts : List (Started ℕ)) (u : ℕ) → start_at starts u ≡ None → (bit : Bool) → Contains starts (record { place = u; bit = bit }) → ⊥
none_found starts u e bit h = let f = start_is starts u bit h in no f.0 (sym e ∙ f.1)
  where
    no : (x : Bool) → None ≡ Some x → ⊥
    no x q = cc

pub reset_runs_exist : ResetRunsExist
reset_runs_exist c size n free inputs net starts = (
  net_run c power inputs,
  record { is_run = net_run-runs c size net power inputs n; starts = λ u bit h. let l = starts.of_latches u bit h in net_run-power c size net power inputs l.0 u l.1 l.2 ∙ power_is c starts u bit (free u) h },
  net_run-inputs c size net power inputs,
  net_run-power c size net power inputs,
  λ other is_reset same_inputs same_free t s h l.
      same_run c size n net other (net_run c power inputs) is_reset.is_run (net_run-runs c size net power inputs n)
      (λ k p m i. same_inputs k p m i ∙ sym (net_run-inputs c size net power inputs k p i))
      (λ name u next m latch. first other is_reset name u next latch (λ is_free. same_free name u next m latch is_free) (start_at c.starts u) refl ∙ sym (net_run-power c size net power inputs name u next latch)) t h s l,
)
  where
    power : ℕ → Bool
    power u = power_of (start_at c.starts u) (free u)

    first : (other : ℕ → ℕ → Bool) → IsResetRun c n other → (name : List ℕ) (u next : ℕ) → IsLatch c name u next → (IsFree c u → other 0 u ≡ free u) →
        (o : Option Bool) → start_at c.starts u ≡ o → other 0 u ≡ power_of (start_at c.starts u) (free u)
    first other is_reset name u next latch own None e = own (none_found c.starts u e) ∙ ap (λ o. power_of o (free u)) (sym e)
    first other is_reset name u next latch own (Some bit) e = is_reset.starts u bit (start_found c.starts u bit e) ∙ ap (λ o. power_of o (free u)) (sym e)
