-- The outputs of a net under construction, and what its latches take over.
use Rattle.std.specs.Prelude.{ℕ, List, [], ◌∷◌, ◌++◌, map, slice_index_or}
use Rattle.flat_net.specs.declared.signals.Signal.{Signal}
use Rattle.flat_net.specs.declared.parts.Port.{Port}
use Rattle.flat_net.specs.declared.parts.LatchAt.{LatchAt}
use Rattle.flat_net.specs.View.{NetView}
use Rattle.elaborate.specs.declared.flat.FlatStatement.{FlatStatement}
use Rattle.elaborate.specs.declared.flat.FlatKind.{FlatKind}
use Rattle.elaborate.specs.declared.flat.FlatKind.TheVariants as kind
use Rattle.elaborate.specs.Flat.{name_at, first_of}
use Rattle.net_assembly.specs.Built.{latch_outs}

-- the number as an output, on its signal
abbrev pub shown_at : List (List ℕ) → List Signal → ℕ → Port
shown_at names signals n = record { name = name_at names n; signal = slice_index_or signals n (record { 0 = 0 }) }

-- the net with one output more for each of the numbers
abbrev pub with_outputs : List (List ℕ) → List Signal → List ℕ → NetView → NetView
with_outputs names signals ns net = record net { outputs = net.outputs ++ map (shown_at names signals) ns }

abbrev pub signal_at : List Signal → ℕ → Signal
signal_at signals n = slice_index_or signals n (record { 0 = 0 })

-- what the statement takes over, where it is a latch
abbrev pub latch_data : FlatKind → ℕ → List ℕ → List ℕ
latch_data (kind.Gate model statement) out reads = []
latch_data (kind.Latch edge control init) out reads = first_of out reads ∷ []
latch_data kind.Port out reads = []

-- the signals that the latches drive
abbrev pub latch_signals : List Signal → List FlatStatement → List Signal
latch_signals signals statements = map (signal_at signals) (latch_outs statements)

-- the signals that the latches take over
abbrev pub latch_nexts : List Signal → List FlatStatement → List Signal
latch_nexts signals [] = []
latch_nexts signals (s ∷ ss) = map (signal_at signals) (latch_data s.kind s.out s.reads) ++ latch_nexts signals ss

-- the first latches with other nexts
abbrev pub with_nexts : List LatchAt → List Signal → List LatchAt
with_nexts [] nexts = []
with_nexts (l ∷ ls) [] = l ∷ ls
with_nexts (l ∷ ls) (next ∷ nexts) = record l { next = next } ∷ with_nexts ls nexts
