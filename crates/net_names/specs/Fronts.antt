-- A net while it is copied: the first ones of its inputs, latches and gates; and a net whose signals have other names.
use Rattle.std.specs.Prelude.{ℕ, ◌+◌, List, [], ◌∷◌, map, take, length, slice_get, unwrap_or, Option, Some, None}
use Rattle.flat_net.specs.declared.parts.Gate.{Gate}
use Rattle.flat_net.specs.declared.parts.LatchAt.{LatchAt}
use Rattle.flat_net.specs.View.{NetView, cover_of}

-- a latch that takes over itself
abbrev pub begun : LatchAt → LatchAt
begun l = record l { next = l.out }

-- the gates, where each has a cover of its own
abbrev pub numbered : ℕ → List Gate → List Gate
numbered k [] = []
numbered k (g ∷ gs) = (record g { cover = k }) ∷ numbered (k + 1) gs

-- the first inputs, latches and gates, which drive the first signals
abbrev pub front : NetView → ℕ → ℕ → ℕ → ℕ → NetView
front n inputs latches gates signals = record {
  inputs = take inputs n.inputs;
  outputs = [];
  gates = numbered 0 (take gates n.gates);
  latches = map begun (take latches n.latches);
  covers = map (cover_of n.covers) (take gates n.gates);
  drivers = take signals n.drivers;
  names = take signals n.names;
  clock = None;
}

-- all inputs and latches, and the first gates
abbrev pub with_gates : NetView → ℕ → NetView
with_gates n k = front n (length n.inputs) (length n.latches) k (length n.inputs + length n.latches + k)

-- a latch without a name
abbrev pub unnamed : LatchAt → LatchAt
unnamed l = record l { name = [] }

-- the latch with the name that its signal has among these
abbrev pub latch_by : List (List ℕ) → LatchAt → LatchAt
latch_by names l = record l { name = unwrap_or (slice_get names l.out.0) [] }

abbrev pub latches_by : Option (List (List ℕ)) → List LatchAt → List LatchAt
latches_by None latches = latches
latches_by (Some names) latches = map (latch_by names) latches

abbrev pub names_by : Option (List (List ℕ)) → List (List ℕ) → List (List ℕ)
names_by None own = own
names_by (Some names) own = names

-- the net whose signals have these names, or its own where there are none
abbrev pub named_by : Option (List (List ℕ)) → NetView → NetView
named_by names n = record n { latches = latches_by names n.latches; names = names_by names n.names }
