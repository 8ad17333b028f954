-- What is known of a net behind the rows of a stimulus, whatever its latches power up with.
use Rattle.std.specs.Prelude.{◌≡◌, ◌⊎◌, ℕ, suc, ◌-◌, Bool, true, false, List, [], ◌∷◌, length, map, Option, Some, None, slice_get, slice_index_or}
use Rattle.std.specs.List.{Contains}
use Rattle.sec_base.specs.declared.basics.Init.{Init}
use Rattle.sec_base.specs.declared.basics.Init.TheVariants as init
use Rattle.flat_net.specs.declared.parts.Port.{Port}
use Rattle.flat_net.specs.declared.parts.LatchAt.{LatchAt}
use Rattle.flat_net.specs.View.{NetView, circuit_of}
use Rattle.circuit_laws.specs.start_laws.Known.{IsKnown, IsThreeRun}

-- the column of the name, or one behind all where there is none
abbrev pub IsColumnOf : List (List ℕ) → List ℕ → ℕ → Type 0
IsColumnOf names name k = (slice_get names k ≡ Some name) ⊎ ((k ≡ length names) × (Contains names name → ⊥))

-- for each input the column of its name
pub record AreColumnsOf (n : NetView) (names : List (List ℕ)) (columns : List ℕ) : Type 0 where
  pub size : length columns ≡ length n.inputs
  pub each : (i k : ℕ) (port : Port) → slice_get n.inputs i ≡ Some port → slice_get columns i ≡ Some k → IsColumnOf names port.name k

-- each bit is known of its latch in the cycle
abbrev pub AreKnownLatches : NetView → List ℕ → List (List Bool) → ℕ → List (Option Bool) → Type 0
AreKnownLatches n columns rows t values =
    (j : ℕ) (l : LatchAt) (bit : Bool) → slice_get n.latches j ≡ Some l → slice_get values j ≡ Some (Some bit) → IsKnown (circuit_of n) columns rows t l.out.0 bit

-- The three-valued run of the net over the rows has these values of the latches behind them, and these of all signals in the last row. Without
-- rows nothing is known.
pub record IsThreeRunTo (n : NetView) (columns : List ℕ) (rows : List (List Bool)) (latches values : List (Option Bool)) : Type 0 where
  pub run : ℕ → ℕ → Option Bool
  pub is_run : IsThreeRun (circuit_of n) columns rows run
  pub behind : (j : ℕ) (l : LatchAt) → slice_get n.latches j ≡ Some l → slice_index_or latches j None ≡ run (length rows) l.out.0
  pub last : (t p : ℕ) → length rows ≡ suc t → slice_index_or values p None ≡ run t p
  pub none : length rows ≡ 0 → (p : ℕ) → slice_index_or values p None ≡ None

-- These are the latches' values behind the rows in the three-valued run of the net over them, of which there is one. So each bit is known,
-- and what has none is what that run doesn't know.
pub record AreKnownBehind (n : NetView) (names : List (List ℕ)) (rows : List (List Bool)) (known : List (Option Bool)) : Type 0 where
  pub columns : List ℕ
  pub are_columns : AreColumnsOf n names columns
  pub run : ℕ → ℕ → Option Bool
  pub is_run : IsThreeRun (circuit_of n) columns rows run
  pub are : known ≡ map (λ (l : LatchAt). run (length rows) l.out.0) n.latches
  pub each : AreKnownLatches n columns rows (length rows) known

-- what is known of the output of this name in the last row, if anything is
abbrev pub KnowsOutput : NetView → List (List ℕ) → List (List Bool) → List ℕ → Option Bool → Type 0
KnowsOutput n names rows name value =
    (bit : Bool) → value ≡ Some bit →
    (columns : List ℕ) × AreColumnsOf n names columns × (p : ℕ) × Contains (circuit_of n).outputs (record { name = name; place = p }) × IsKnown (circuit_of n) columns rows (length rows - 1) p bit

-- the initial value of a latch of which this is known
abbrev pub init_of : Option Bool → Init
init_of (Some true) = init.One
init_of (Some false) = init.Zero
init_of None = init.Unknown

-- the latches with what is known of them as their initial values
abbrev pub begun_latches : List LatchAt → List (Option Bool) → List LatchAt
begun_latches [] known = []
begun_latches (l ∷ ls) [] = l ∷ ls
begun_latches (l ∷ ls) (k ∷ known) = (record l { init = init_of k }) ∷ begun_latches ls known

-- the net with what is known of its latches as their initial values
abbrev pub begun : NetView → List (Option Bool) → NetView
begun n known = record n { latches = begun_latches n.latches known }

-- m is the net with what is known of its latches behind the rows as their initial values
pub record IsBegun (n : NetView) (names : List (List ℕ)) (rows : List (List Bool)) (known : List (Option Bool)) (m : NetView) : Type 0 where
  pub each : length known ≡ length n.latches
  pub are_known : AreKnownBehind n names rows known
  pub is : m ≡ begun n known
