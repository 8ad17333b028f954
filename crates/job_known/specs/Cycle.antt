-- What a cycle adds to what was found before.
use Rattle.std.specs.Prelude.{◌≡◌, ℕ, suc, ◌<◌, Bool, ◌||◌, List, [], ◌∷◌, ◌++◌, Option, if◌then◌else◌}
use Rattle.std.specs.List.{All}
use Rattle.sec_setup.specs.declared.ports.pairs.SignalPair.{SignalPair}
use Rattle.sec_setup.specs.ports.Pairs.{NamedPair}
use Rattle.job_known.specs.declared.known_pairs.KnownReplay.{KnownReplay}
use Rattle.job_known.specs.Pairs.{both_known, differences_in, some_known}

-- the pairs' signals are some of so many of A's and of B's
abbrev pub AreWithin : ℕ → ℕ → List SignalPair → Type 0
AreWithin m k pairs = All (λ (p : SignalPair). (p.left.0 < m) × (p.right.0 < k)) pairs

-- the first marks with those of these pairs that are known in both
abbrev pub marked : (ℕ → Option Bool) → (ℕ → Option Bool) → List (NamedPair ℕ ℕ) → List Bool → List Bool
marked x y [] seen = seen
marked x y (p ∷ pairs) [] = []
marked x y (p ∷ pairs) (s ∷ seen) = (s || both_known (x p.left) (y p.right)) ∷ marked x y pairs seen

-- the cycle's differences stand behind the others, the pairs that are known in it are marked, and it is counted if some are
pub record PutsCycle (t : ℕ) (x y : ℕ → Option Bool) (pairs : List (NamedPair ℕ ℕ)) (old new : KnownReplay) : Type 0 where
  pub differences : new.differences ≡ old.differences ++ differences_in t x y pairs
  pub seen : new.seen.items ≡ marked x y pairs old.seen.items
  pub cycles : new.cycles ≡ (if some_known x y pairs then suc old.cycles else old.cycles)
