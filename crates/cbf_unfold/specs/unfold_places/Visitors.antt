-- Which signals visit a place: a word for each place that was met, with a bit for each of at most 64 signals.
use Rattle.std.specs.Prelude.{◌≡◌, ◌⊎◌, ℕ, ◌-◌, ◌<◌, ◌≤◌, Bool, not, ◌==◌, bit_and, List, length, filter, slice_get, slice_index_or, Some, All, Contains}
use Rattle.std.specs.List.{AllPairs, AllZip}
use Rattle.std.specs.Int.{bit_at}
use Rattle.circuit_theory.specs.Circuit.{Circuit}
use Rattle.circuit_theory.specs.Tree.{IsInputNumber}
use Rattle.circuit_theory.specs.Sizes.{Visits}
use Rattle.flat_net.specs.declared.signals.Signal.{Signal}
use Rattle.aig.specs.declared.node.Lit.{Lit}
use Rattle.cbf_unfold.specs.unfold_places.Places.{Steps}
use Rattle.cbf_unfold.specs.unfold_places.Reach.{IsMet}

-- the k-th bit of the word with this number
abbrev pub IsSet : List ℕ → ℕ → ℕ → Type 0
IsSet words number k = bit_at (slice_index_or words number 0) k ≡ 1

-- all that the unfoldings of the signals visit has been met
abbrev pub AreMet : Circuit ℕ → ℕ → List Signal → List ((ℕ × ℕ) × Lit) → Type 0
AreMet c last signals memo = (k : ℕ) (s : Signal) (q j : ℕ) → slice_get signals k ≡ Some s → Visits c s.0 0 q j → (j ≤ last) × IsMet memo (last - j, q)

-- The words with these numbers have the bits of `word` more, and no others.
pub record Gives (To : ℕ → Type 0) (word : ℕ) (old new : List ℕ) : Type 0 where
  pub size : length new ≡ length old
  pub kept : (i k : ℕ) → IsSet old i k → IsSet new i k
  pub from : (i k : ℕ) → IsSet new i k → IsSet old i k ⊎ ((bit_at word k ≡ 1) × To i)
  pub all : (i k : ℕ) → To i → bit_at word k ≡ 1 → IsSet new i k

-- the numbers are those of the places that this one reads
abbrev pub AreReads : Circuit ℕ → List ((ℕ × ℕ) × Lit) → ℕ × ℕ → List ℕ → Type 0
AreReads c memo p numbers =
    ((n : ℕ) → Contains numbers n → (e : (ℕ × ℕ) × Lit) × (slice_get memo n ≡ Some e) × Steps c p e.0)
    × ((q : ℕ × ℕ) → Steps c p q → (n : ℕ) × (x : Lit) × Contains numbers n × (slice_get memo n ≡ Some (q, x)))

-- for each place the numbers of those that it reads
pub record AreLinks (c : Circuit ℕ) (memo : List ((ℕ × ℕ) × Lit)) (links : List (List ℕ)) : Type 0 where
  pub size : length links ≡ length memo
  pub reads : (i : ℕ) (e : (ℕ × ℕ) × Lit) (numbers : List ℕ) → slice_get memo i ≡ Some e → slice_get links i ≡ Some numbers → AreReads c memo e.0 numbers

-- A word for each place. A set bit says rightly that its signal visits the place, and the first signals have theirs at their own places.
pub record AreMarked (c : Circuit ℕ) (last : ℕ) (signals : List Signal) (memo : List ((ℕ × ℕ) × Lit)) (first : ℕ) (words : List ℕ) : Type 0 where
  pub size : length words ≡ length memo
  pub visits : (i k : ℕ) (e : (ℕ × ℕ) × Lit) → slice_get memo i ≡ Some e → IsSet words i k → (s : Signal) × (slice_get signals k ≡ Some s) × (e.0.0 ≤ last) × Visits c s.0 0 e.0.1 (last - e.0.0)
  pub roots : (i k : ℕ) (s : Signal) (e : (ℕ × ℕ) × Lit) → k < first → slice_get signals k ≡ Some s → slice_get memo i ≡ Some e → e.0 ≡ (last, s.0) → IsSet words i k

-- from this number on, what a place reads has the bits of the place
abbrev pub ArePassed : Circuit ℕ → List ((ℕ × ℕ) × Lit) → ℕ → List ℕ → Type 0
ArePassed c memo from words =
    (i j k : ℕ) (d e : (ℕ × ℕ) × Lit) → from ≤ i → slice_get memo i ≡ Some d → slice_get memo j ≡ Some e → Steps c d.0 e.0 → IsSet words i k → IsSet words j k

-- A bit is set exactly where its signal visits the place.
pub record AreVisitors (c : Circuit ℕ) (last : ℕ) (signals : List Signal) (memo : List ((ℕ × ℕ) × Lit)) (words : List ℕ) : Type 0 where
  pub size : length words ≡ length memo
  pub visits : (i k : ℕ) (e : (ℕ × ℕ) × Lit) → slice_get memo i ≡ Some e → IsSet words i k → (s : Signal) × (slice_get signals k ≡ Some s) × (e.0.0 ≤ last) × Visits c s.0 0 e.0.1 (last - e.0.0)
  pub all : (k : ℕ) (s : Signal) (q j : ℕ) → slice_get signals k ≡ Some s → Visits c s.0 0 q j → (j ≤ last) × (i : ℕ) × (x : Lit) × (slice_get memo i ≡ Some ((last - j, q), x)) × IsSet words i k

-- whether the word with this number has a bit of the mask
abbrev pub has_bit : List ℕ → ℕ → ℕ → Bool
has_bit words mask number = not (bit_and (slice_index_or words number 0) mask == 0)

-- the numbers whose words have a bit of the mask
abbrev pub with_bits : List ℕ → ℕ → List ℕ → List ℕ
with_bits words mask numbers = filter (has_bit words mask) numbers

-- numbers of places in order, with those of all inputs
pub record AreInputNumbers (c : Circuit ℕ) (order : List ℕ) (memo : List ((ℕ × ℕ) × Lit)) (numbers : List ℕ) : Type 0 where
  pub within : All (λ i. i < length memo) numbers
  pub increasing : AllPairs (λ m n. m < n) numbers
  pub all : (i number : ℕ) (e : (ℕ × ℕ) × Lit) → slice_get memo i ≡ Some e → IsInputNumber c order e.0.1 number → Contains numbers i

-- the places with these numbers
abbrev pub ArePlacesAt : List ((ℕ × ℕ) × Lit) → List ℕ → List (ℕ × ℕ) → Type 0
ArePlacesAt memo numbers places = AllZip (λ i p. (x : Lit) × (slice_get memo i ≡ Some (p, x))) numbers places

-- the same of those numbers alone whose words have this bit
pub record AreCandidates (c : Circuit ℕ) (order : List ℕ) (memo : List ((ℕ × ℕ) × Lit)) (words : List ℕ) (k : ℕ) (numbers : List ℕ) : Type 0 where
  pub within : All (λ i. i < length memo) numbers
  pub increasing : AllPairs (λ m n. m < n) numbers
  pub all : (i number : ℕ) (e : (ℕ × ℕ) × Lit) → slice_get memo i ≡ Some e → IsInputNumber c order e.0.1 number → IsSet words i k → Contains numbers i
