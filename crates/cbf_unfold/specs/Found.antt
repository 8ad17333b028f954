-- A signal that was unfolded, with what the table has of it.
use Rattle.std.specs.Prelude.{ℕ, List, Contains}
use Rattle.flat_net.specs.declared.signals.Signal.{Signal}
use Rattle.cbf_unfold.specs.View.{UnfolderView}
use Rattle.cbf_unfold.specs.Building.{AreNumbered}
use Rattle.cbf_unfold.specs.declared.unfold_places.signal_function.Unfolded.{Unfolded}

-- the signal's literal, and its variables as the table has them
abbrev pub IsFound : UnfolderView → List (ℕ × ℕ) → Signal → Unfolded → Type 0
IsFound u places s r = Contains u.memo ((u.cap, s.0), r.lit) × AreNumbered u places s.0 r.vars
