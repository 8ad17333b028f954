-- Small circuits, each shown to be a flat net by computing.
use Rattle.std.proofs.Common.{◌≡◌, ℕ, List, [], ◌∷◌, refl, ap, subst, arith, inl, inr}
use Rattle.std.specs.Prelude.{◌⊎◌}
use Rattle.std.specs.List.{Contains}
use Rattle.circuit_theory.specs.Circuit.{Equation, Gate, Latch, Port}
use Rattle.circuit_theory.specs.Net.{IsNet}
use Rattle.call_rows.specs.circuit_samples.Circuits.{late, early, one, two, constant_latch, toggle, hold_not}
use Rattle.circuit_theory.proofs.Lists.{Contains-head, Contains-tail, Contains-cases}
use Rattle.call_rows.proofs.circuit_samples.NetTest.{net_test-sound}

pub late_net : IsNet late 4
late_net = net_test-sound late 4 refl

pub early_net : IsNet early 5
early_net = net_test-sound early 5 refl

pub one_net : IsNet one 2
one_net = net_test-sound one 2 refl

pub two_net : IsNet two 3
two_net = net_test-sound two 3 refl

pub constant_latch_net : IsNet constant_latch 2
constant_latch_net = net_test-sound constant_latch 2 refl

pub toggle_net : IsNet toggle 3
toggle_net = net_test-sound toggle 3 refl

pub hold_not_net : IsNet hold_not 5
hold_not_net = net_test-sound hold_not 5 refl

-- a latch equation as a record
pub record LatchItem : Type 0 where
  pub name : List ℕ
  pub out : ℕ
  pub next : ℕ

abbrev pub latch_items : List (Equation ℕ) → List LatchItem
latch_items [] = []
latch_items (Gate out fanins cover ∷ es) = latch_items es
latch_items (Latch name out next ∷ es) = record { name = name; out = out; next = next } ∷ latch_items es
latch_items (Port out from ∷ es) = latch_items es

pub item_of : (es : List (Equation ℕ)) (name : List ℕ) (out next : ℕ) → Contains es (Latch name out next) → Contains (latch_items es) (record { name = name; out = out; next = next })
item_of [] name out next h = absurd (omega (arith, h.1))
item_of (Gate o fanins cover ∷ es) name out next h = go (Contains-cases (Gate o fanins cover) (Latch name out next) es h) (λ k. item_of es name out next k)
  where
    go : (Gate o fanins cover ≡ Latch name out next) ⊎ Contains es (Latch name out next) → (Contains es (Latch name out next) → Contains (latch_items es) (record { name = name; out = out; next = next })) →
        Contains (latch_items es) (record { name = name; out = out; next = next })
    go (inl q) later = cc
    go (inr k) later = later k
item_of (Port o from ∷ es) name out next h = go (Contains-cases (Port o from) (Latch name out next) es h) (λ k. item_of es name out next k)
  where
    go : (Port o from ≡ Latch name out next) ⊎ Contains es (Latch name out next) → (Contains es (Latch name out next) → Contains (latch_items es) (record { name = name; out = out; next = next })) →
        Contains (latch_items es) (record { name = name; out = out; next = next })
    go (inl q) later = cc
    go (inr k) later = later k
item_of (Latch m o to ∷ es) name out next h = go (Contains-cases (Latch m o to) (Latch name out next) es h) (λ k. item_of es name out next k)
  where
    item : Equation ℕ → LatchItem
    item (Gate o' fanins cover) = record { name = []; out = 0; next = 0 }
    item (Latch m' o' to') = record { name = m'; out = o'; next = to' }
    item (Port o' from) = record { name = []; out = 0; next = 0 }

    go : (Latch m o to ≡ Latch name out next) ⊎ Contains es (Latch name out next) → (Contains es (Latch name out next) → Contains (latch_items es) (record { name = name; out = out; next = next })) →
        Contains (record { name = m; out = o; next = to } ∷ latch_items es) (record { name = name; out = out; next = next })
    go (inl q) later = subst (Contains (record { name = m; out = o; next = to } ∷ latch_items es)) (ap item q) (Contains-head _ (latch_items es))
    go (inr k) later = Contains-tail _ _ (latch_items es) (later k)
