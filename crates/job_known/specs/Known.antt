-- The three-valued run of a net from its initial values.
use Rattle.std.specs.Prelude.{◌≡◌, ℕ, suc, ◌<◌, Bool, true, false, List, length, map, Option, Some, None}
use Rattle.std.specs.List.{Contains}
use Rattle.circuit_theory.specs.Cover.{Cover}
use Rattle.circuit_theory.specs.Circuit.{Gate, IsLatch}
use Rattle.circuit_theory.specs.Tree.{IsInputNumber}
use Rattle.circuit_laws.specs.start_laws.Known.{cover_three, row_bit}
use Rattle.sec_base.specs.declared.basics.Init.{Init}
use Rattle.sec_base.specs.declared.basics.Init.TheVariants as init
use Rattle.flat_net.specs.declared.parts.LatchAt.{LatchAt}
use Rattle.flat_net.specs.View.{NetView, circuit_of}
use Rattle.restart.specs.Behind.{AreColumnsOf}

-- what an initial value tells of its latch
abbrev pub known_init : Init → Option Bool
known_init init.Zero = Some false
known_init init.One = Some true
known_init init.DontCare = None
known_init init.Unknown = None

abbrev pub known_at_first : LatchAt → Option Bool
known_at_first l = known_init l.init

-- The three-valued run of the net over the rows from its initial values, as a simulator has it: a latch without one is unknown at first,
-- inputs have the bits of the rows in their columns, each gate the three-valued value of its cover, and a latch has in the next cycle what it
-- takes over.
pub record IsThreeRunFrom (n : NetView) (columns : List ℕ) (rows : List (List Bool)) (w : ℕ → ℕ → Option Bool) : Type 0 where
  pub power : (l : LatchAt) → Contains n.latches l → w 0 l.out.0 ≡ known_at_first l
  pub inputs : (t p i : ℕ) → t < length rows → IsInputNumber (circuit_of n) columns p i → w t p ≡ row_bit rows i t
  pub gates : (t out : ℕ) (fanins : List ℕ) (cover : Cover) → t < length rows → Contains (circuit_of n).equations (Gate out fanins cover) → w t out ≡ cover_three cover (map (w t) fanins)
  pub later : (t : ℕ) (name : List ℕ) (u next : ℕ) → t < length rows → IsLatch (circuit_of n) name u next → w (suc t) u ≡ w t next

-- such a run over rows under these names, in which each input has the column of its name
pub record KnownRun (n : NetView) (names : List (List ℕ)) (rows : List (List Bool)) : Type 0 where
  pub columns : List ℕ
  pub are_columns : AreColumnsOf n names columns
  pub run : ℕ → ℕ → Option Bool
  pub is_run : IsThreeRunFrom n columns rows run
