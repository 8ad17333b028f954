-- What leads back to a latch.
use Rattle.std.proofs.Common.{◌<◌, ℕ, List, length, Contains, inl, inr}
use Rattle.std.specs.Prelude.{◌⊎◌}
use Rattle.circuit_theory.specs.Circuit.{Reaches, InCone}
use Rattle.flat_net.specs.View.{NetView, circuit_of}
use Rattle.flat_net.specs.Cut.{latch_at}
use Rattle.flat_net.specs.Sound.{IsSound}
use Rattle.flat_net.proofs.Exposed.{latch_there}
use Rattle.signal_graph.specs.inner_cone.Inner.{AreInside, LeadsAside}
use Rattle.latch_kinds.specs.unate_enable.Walks.{AreReached}
use Rattle.latch_kinds.specs.unate_enable.Cones.{out_of_latch, data_of_latch}
use Rattle.flat_net.proofs.Drivers.{latch_source}
use Rattle.latch_kinds.proofs.unate_enable.Walks.{reaches_on}

module _ (n : NetView) (from own : ℕ) (signals : List ℕ) where
  -- the whole cone has it
  pub inside_of_reached : AreReached (circuit_of n) (length n.drivers) from signals → AreInside n from own signals
  inside_of_reached are = record {
    increasing = are.increasing;
    within = are.within;
    reached = λ s h. (are.exactly s).0 h;
    begins = inl ((are.exactly from).1 Reaches.here);
    closed = λ s q h reads. inl ((are.exactly q).1 (reaches_on (circuit_of n) from s q ((are.exactly s).0 h) reads));
  }

  module _ (inside : AreInside n from own signals) where
    -- a way to the latch stays within
    inside_on : {s : ℕ} → Reaches (circuit_of n) s own → Contains signals s → Contains signals own
    inside_on Reaches.here h = h
    inside_on {s} (Reaches.there {q = q} reads rest) h = by (λ there. inside_on rest there) (inside.closed s q h reads)
      where
        by : (Contains signals q → Contains signals own) → Contains signals q ⊎ LeadsAside n own q → Contains signals own
        by on (inl there) = on there
        by on (inr aside) = absurd (aside rest)

    pub inside_own : Reaches (circuit_of n) from own → Contains signals own
    inside_own way = by inside.begins
      where
        by : Contains signals from ⊎ LeadsAside n own from → Contains signals own
        by (inl there) = inside_on way there
        by (inr aside) = absurd (aside way)

    pub inside_begins : Contains signals own → Contains signals from
    inside_begins h = by inside.begins
      where
        by : Contains signals from ⊎ LeadsAside n own from → Contains signals from
        by (inl there) = there
        by (inr aside) = absurd (aside (inside.reached own h))

-- the latch is in its own cone
pub inside_edge : (n : NetView) → IsSound n → (j : ℕ) (signals : List ℕ) → AreInside n (data_of_latch n j) (out_of_latch n j) signals → Contains signals (out_of_latch n j) → j < length n.latches → InCone (circuit_of n) (data_of_latch n j) (out_of_latch n j)
inside_edge n sound j signals inside h own = (latch_source n sound (out_of_latch n j) j (sound.latches j (latch_at n j) (latch_there n sound j own)).owner, inside.reached (out_of_latch n j) h)
