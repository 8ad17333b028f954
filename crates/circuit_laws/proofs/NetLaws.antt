-- In a flat net each signal has one value for each choice of inputs and latches, a latch can be put to either bit, and there
-- is a run for each power-up and each sequence of inputs.
use Rattle.std.proofs.Common.{◌≡◌, ◌≢◌, ℕ, zero, suc, ◌<◌, Bool, true, false, cond, List, [], ◌∷◌, map, refl, sym, ◌∙◌, ap, subst, arith, add-one, inl, inr, Option, Some, None}
use Rattle.std.specs.Prelude.{◌⊎◌, ◌==◌}
use Rattle.std.specs.List.{All, Contains}
use Rattle.std.proofs.lemmas.List.Elements.{All-contains}
use Rattle.circuit_theory.specs.Cover.{Cover, cover_value}
use Rattle.circuit_theory.specs.Circuit.{Circuit, Equation, Gate, Latch, Port, IsInput, IsLatch, IsSource, Holds, Carries, Meets, out_of}
use Rattle.circuit_theory.specs.Run.{IsRun, Extends, CanPut, IsDetermined}
use Rattle.circuit_theory.specs.Net.{IsAbove, IsDriven, IsNet}
use Rattle.circuit_theory.proofs.Lists.{Contains-head, Contains-tail, Contains-cases, All-from_each, map_same}
use Rattle.circuit_theory.proofs.Inputs.{test_same, test_refl}
use Rattle.circuit_laws.proofs.Values.{values_unique}

-- the first equation that drives the signal
abbrev pub driver_in : List (Equation ℕ) → ℕ → Option (Equation ℕ)
driver_in [] s = None
driver_in (e ∷ es) s = cond (out_of e == s) (Some e) (driver_in es s)

driver_in-is : (es : List (Equation ℕ)) (s : ℕ) (e : Equation ℕ) → driver_in es s ≡ Some e → Contains es e × (out_of e ≡ s)
driver_in-is [] s e h = cc
driver_in-is (x ∷ es) s e h = go (λ k. driver_in-is es s e k) (out_of x == s) refl
  where
    unwrap : {y z : Equation ℕ} → Some y ≡ Some z → y ≡ z
    unwrap q = cc

    go : (driver_in es s ≡ Some e → Contains es e × (out_of e ≡ s)) → (b : Bool) → (out_of x == s) ≡ b → Contains (x ∷ es) e × (out_of e ≡ s)
    go later true q =
        let same : x ≡ e = unwrap (sym (ap (λ b. cond b (Some x) (driver_in es s)) q) ∙ h) in
        (subst (Contains (x ∷ es)) same (Contains-head x es), sym (ap out_of same) ∙ test_same (out_of x) s q)
    go later false q = let r = later (sym (ap (λ b. cond b (Some x) (driver_in es s)) q) ∙ h) in (Contains-tail x e es r.0, r.1)

driver_in-some : (es : List (Equation ℕ)) (e : Equation ℕ) → Contains es e → (f : Equation ℕ) × (driver_in es (out_of e) ≡ Some f)
driver_in-some [] e h = absurd (omega (arith, h.1))
driver_in-some (x ∷ es) e h = go (λ k. driver_in-some es e k) (out_of x == out_of e) refl (Contains-cases x e es h)
  where
    go : (Contains es e → (f : Equation ℕ) × (driver_in es (out_of e) ≡ Some f)) → (b : Bool) → (out_of x == out_of e) ≡ b → (x ≡ e) ⊎ Contains es e →
        (f : Equation ℕ) × (driver_in (x ∷ es) (out_of e) ≡ Some f)
    go later true q k = (x, ap (λ b. cond b (Some x) (driver_in es (out_of e))) q)
    go later false q (inl same) = absurd (let z : (out_of x == out_of e) ≡ true = subst (λ y. (out_of x == y) ≡ true) (ap out_of same) (test_refl (out_of x)) in cc)
    go later false q (inr k) = let r = later k in (r.0, ap (λ b. cond b (Some x) (driver_in es (out_of e))) q ∙ r.1)

-- the value of a driver, from the values of lower signals and those of inputs and latches
abbrev pub driven_value : (ℕ → Bool) → (ℕ → Bool) → ℕ → Option (Equation ℕ) → Bool
driven_value x lower s None = x s
driven_value x lower s (Some (Gate out fanins cover)) = cover_value cover (map lower fanins)
driven_value x lower s (Some (Latch name out next)) = x s
driven_value x lower s (Some (Port out from)) = x s

abbrev pub value_by : Circuit ℕ → (ℕ → Bool) → ℕ → ℕ → Bool
value_by c x zero s = x s
value_by c x (suc bound) s = driven_value x (value_by c x bound) s (driver_in c.equations s)

-- the value of each signal, where inputs and latches have the values x
abbrev pub net_value : Circuit ℕ → (ℕ → Bool) → ℕ → Bool
net_value c x s = value_by c x (suc s) s

-- what a latch's place begins with in a cycle: what it took over; what any other place: the input's value
abbrev pub source_value : (ℕ → Bool) → (ℕ → Bool) → ℕ → Option (Equation ℕ) → Bool
source_value latches inputs s None = inputs s
source_value latches inputs s (Some (Gate out fanins cover)) = inputs s
source_value latches inputs s (Some (Latch name out next)) = latches next
source_value latches inputs s (Some (Port out from)) = inputs s

-- the same in cycle 0, where a latch has its power-up value
abbrev pub first_value_of : (ℕ → Bool) → (ℕ → Bool) → ℕ → Option (Equation ℕ) → Bool
first_value_of power inputs s None = inputs s
first_value_of power inputs s (Some (Gate out fanins cover)) = inputs s
first_value_of power inputs s (Some (Latch name out next)) = power s
first_value_of power inputs s (Some (Port out from)) = inputs s

-- the run with this power-up and these inputs
abbrev pub net_run : Circuit ℕ → (ℕ → Bool) → (ℕ → ℕ → Bool) → ℕ → ℕ → Bool
net_run c power inputs zero s = net_value c (λ p. first_value_of power (inputs 0) p (driver_in c.equations p)) s
net_run c power inputs (suc t) s = net_value c (λ p. source_value (net_run c power inputs t) (inputs (suc t)) p (driver_in c.equations p)) s

module _ (c : Circuit ℕ) (size : ℕ) (net : IsNet c size) where
  driver_is : (e : Equation ℕ) → Contains c.equations e → driver_in c.equations (out_of e) ≡ Some e
  driver_is e h =
      let f = driver_in-some c.equations e h in
      let g = driver_in-is c.equations (out_of e) f.0 f.1 in
      f.1 ∙ ap Some (net.single.one f.0 e g.0 h g.1)

  no_driver : (p : ℕ) → IsInput c p → driver_in c.equations p ≡ None
  no_driver p i = go (driver_in c.equations p) refl
    where
      go : (o : Option (Equation ℕ)) → driver_in c.equations p ≡ o → driver_in c.equations p ≡ None
      go None q = q
      go (Some e) q = let r = driver_in-is c.equations p e q in absurd (net.single.no_input e r.0 (subst (IsInput c) (sym r.1) i))

  -- what a gate reads is lower
  pub fanin_below : (out : ℕ) (fanins : List ℕ) (cover : Cover) → Contains c.equations (Gate out fanins cover) → (f : ℕ) → Contains fanins f → f < out
  fanin_below out fanins cover h f k = All-contains (λ g. g < out) fanins f (All-contains IsAbove c.equations (Gate out fanins cover) net.above h) k

  -- any bound above the signal gives the same value
  pub enough : (x : ℕ → Bool) (b d s : ℕ) → s < b → s < d → value_by c x b s ≡ value_by c x d s
  enough x zero d s h k = absurd (omega arith)
  enough x (suc b) zero s h k = absurd (omega arith)
  enough x (suc b) (suc d) s h k = go (λ f l m. enough x b d f l m) (driver_in c.equations s) refl
    where
      go : ((f : ℕ) → f < b → f < d → value_by c x b f ≡ value_by c x d f) → (o : Option (Equation ℕ)) → driver_in c.equations s ≡ o →
          driven_value x (value_by c x b) s o ≡ driven_value x (value_by c x d) s o
      go lower None q = refl
      go lower (Some (Latch name out next)) q = refl
      go lower (Some (Port out from)) q = refl
      go lower (Some (Gate out fanins cover)) q =
          let r = driver_in-is c.equations s (Gate out fanins cover) q in
          ap (cover_value cover) (map_same (value_by c x b) (value_by c x d) fanins (λ f m.
          let l = fanin_below out fanins cover r.0 f m in
          lower f (omega (arith, r.1)) (omega (arith, r.1))))

  pub net_value-source : (x : ℕ → Bool) (p : ℕ) → IsSource c p → net_value c x p ≡ x p
  net_value-source x p (inl i) = ap (driven_value x (value_by c x p) p) (no_driver p i)
  net_value-source x p (inr l) = ap (driven_value x (value_by c x p) p) (driver_is (Latch l.0 p l.1) l.2)

  pub net_value-holds : (x : ℕ → Bool) (e : Equation ℕ) → Contains c.equations e → Holds (net_value c x) e
  net_value-holds x (Latch name out next) h = tt
  net_value-holds x (Port out from) h = absurd (All-contains IsAbove c.equations (Port out from) net.above h)
  net_value-holds x (Gate out fanins cover) h =
      ap (driven_value x (value_by c x out) out) (driver_is (Gate out fanins cover) h)
      ∙ ap (cover_value cover) (map_same (value_by c x out) (net_value c x) fanins (λ f m. enough x out (suc f) f (fanin_below out fanins cover h f m) (omega arith)))

  pub net_value-meets : (x : ℕ → Bool) → Meets c (net_value c x)
  net_value-meets x = All-from_each (Holds (net_value c x)) c.equations (net_value-holds x)

  -- values exist for each choice of inputs and latches
  pub net_value-extends : (x : ℕ → Bool) → Extends c x (net_value c x)
  net_value-extends x = record { meets = net_value-meets x; sources = net_value-source x }

  determined_by : (s : ℕ) → ((f : ℕ) → f < s → IsDetermined c f) → (e : Equation ℕ) → Contains c.equations e → out_of e ≡ s → IsDetermined c s
  determined_by s lower (Port out from) m q = absurd (All-contains IsAbove c.equations (Port out from) net.above m)
  determined_by s lower (Latch name out next) m q = IsDetermined.source (inr (name, next, subst (λ p. IsLatch c name p next) q m))
  determined_by s lower (Gate out fanins cover) m q =
      IsDetermined.gate (subst (λ p. Contains c.equations (Gate p fanins cover)) q m) (λ f n. lower f (let l = fanin_below out fanins cover m f n in omega (arith, q)))

  determined_below : (bound s : ℕ) → s < bound → s < size → IsDetermined c s
  determined_below zero s k h = absurd (omega arith)
  determined_below (suc bound) s k h = go (net.driven s h) (λ f l. determined_below bound f (omega arith) (omega arith))
    where
      go : IsDriven c s → ((f : ℕ) → f < s → IsDetermined c f) → IsDetermined c s
      go (inl i) lower = IsDetermined.source (inl i)
      go (inr d) lower = determined_by s lower d.0 d.1 d.2

  -- from each signal all ends at inputs and latches
  pub net_determined : (s : ℕ) → s < size → IsDetermined c s
  net_determined s h = determined_below (suc s) s (omega arith) h

  -- and there are no others
  pub net_value-only : (x v : ℕ → Bool) → Extends c x v → (s : ℕ) → s < size → v s ≡ net_value c x s
  net_value-only x v ex s h = values_unique c x v (net_value c x) ex (net_value-extends x) (net_determined s h)

  -- a latch can be put to either bit
  pub net_can_put : CanPut c
  net_can_put x name u next bit latch meets = (net_value c put, record { meets = net_value-meets put; sources = sources; put = at_u })
    where
      put : ℕ → Bool
      put p = cond (p == u) bit (x p)

      at_u : net_value c put u ≡ bit
      at_u = net_value-source put u (inr (name, next, latch)) ∙ ap (λ b. cond b bit (x u)) (test_refl u)

      sources : (p : ℕ) → IsSource c p → p ≢ u → net_value c put p ≡ x p
      sources p s n = net_value-source put p s ∙ go (p == u) refl
        where
          go : (b : Bool) → (p == u) ≡ b → put p ≡ x p
          go true q = absurd (n (test_same p u q))
          go false q = ap (λ b. cond b bit (x p)) q

  module _ (power : ℕ → Bool) (inputs : ℕ → ℕ → Bool) where
    latch_carries : (t : ℕ) (e : Equation ℕ) → Contains c.equations e → Carries (net_run c power inputs t) (net_run c power inputs (suc t)) e
    latch_carries t (Gate out fanins cover) h = tt
    latch_carries t (Port out from) h = tt
    latch_carries t (Latch name out next) h =
        net_value-source (λ p. source_value (net_run c power inputs t) (inputs (suc t)) p (driver_in c.equations p)) out (inr (name, next, h))
        ∙ ap (source_value (net_run c power inputs t) (inputs (suc t)) out) (driver_is (Latch name out next) h)

    run_meets : (t : ℕ) → Meets c (net_run c power inputs t)
    run_meets zero = net_value-meets (λ p. first_value_of power (inputs 0) p (driver_in c.equations p))
    run_meets (suc t) = net_value-meets (λ p. source_value (net_run c power inputs t) (inputs (suc t)) p (driver_in c.equations p))

    -- it is a run of each length
    pub net_run-runs : (n : ℕ) → IsRun c n (net_run c power inputs)
    net_run-runs n = record {
      meets = λ t h. run_meets t;
      carries = λ t h. subst (λ s. All (Carries (net_run c power inputs t) (net_run c power inputs s)) c.equations) (sym (add-one t))
          (All-from_each (Carries (net_run c power inputs t) (net_run c power inputs (suc t))) c.equations (latch_carries t));
    }

    -- with the given inputs
    pub net_run-inputs : (t p : ℕ) → IsInput c p → net_run c power inputs t p ≡ inputs t p
    net_run-inputs zero p i =
        net_value-source (λ q. first_value_of power (inputs 0) q (driver_in c.equations q)) p (inl i) ∙ ap (first_value_of power (inputs 0) p) (no_driver p i)
    net_run-inputs (suc t) p i =
        net_value-source (λ q. source_value (net_run c power inputs t) (inputs (suc t)) q (driver_in c.equations q)) p (inl i)
        ∙ ap (source_value (net_run c power inputs t) (inputs (suc t)) p) (no_driver p i)

    -- and the given power-up
    pub net_run-power : (name : List ℕ) (u next : ℕ) → IsLatch c name u next → net_run c power inputs 0 u ≡ power u
    net_run-power name u next h =
        net_value-source (λ q. first_value_of power (inputs 0) q (driver_in c.equations q)) u (inr (name, next, h))
        ∙ ap (first_value_of power (inputs 0) u) (driver_is (Latch name u next) h)
