-- The places that one place reads, put into a table.
use Rattle.std.proofs.Common.{◌≡◌, ◌+◌, ◌<◌, ℕ, List, length, take, get_or, sym}
use Rattle.std.specs.List.{All, Contains}
use Rattle.std.proofs.lemmas.List.Elements.{All-more, All-weaker, Contains-get_or}
use Rattle.flat_net.specs.declared.signals.Signal.{Signal}
use Rattle.aig.specs.Adds.{Adds}
use Rattle.aig.proofs.Lists.{adds_trans, adds_weaker, adds_contains}

-- the place of one of these fan-ins
abbrev pub IsFaninPlace : List Signal → ℕ → ℕ × ℕ → Type 0
IsFaninPlace fanins cycle q = (f : Signal) × Contains fanins f × ((cycle, f.0) ≡ q)

pub fanin_adds : (fanins : List Signal) (cycle i : ℕ) (d : Signal) (first old new : List (ℕ × ℕ)) → i < length fanins → Adds (IsFaninPlace fanins cycle) first old → Adds (λ q. q ≡ (cycle, (get_or fanins i d).0)) old new →
    Adds (IsFaninPlace fanins cycle) first new
fanin_adds fanins cycle i d first old new inside before more =
    adds_trans (IsFaninPlace fanins cycle) first old new before
    (adds_weaker (λ q. q ≡ (cycle, (get_or fanins i d).0)) (IsFaninPlace fanins cycle) old new (λ q e. (get_or fanins i d, Contains-get_or fanins i d inside, sym e)) more)

pub fanin_all : (fanins : List Signal) (cycle i : ℕ) (d : Signal) (old new : List (ℕ × ℕ)) → i < length fanins → All (λ f. Contains old (cycle, f.0)) (take i fanins) → Adds (λ q. q ≡ (cycle, (get_or fanins i d).0)) old new →
    Contains new (cycle, (get_or fanins i d).0) → All (λ f. Contains new (cycle, f.0)) (take (i + 1) fanins)
fanin_all fanins cycle i d old new inside before more here =
    All-more (λ (f : Signal). Contains new (cycle, f.0)) fanins i d inside
    (All-weaker (λ (f : Signal). Contains old (cycle, f.0)) (λ (f : Signal). Contains new (cycle, f.0)) (λ f h. adds_contains (λ q. q ≡ (cycle, (get_or fanins i d).0)) old new (cycle, f.0) more h) (take i fanins) before)
    here
