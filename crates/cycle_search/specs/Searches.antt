-- What a search for a difference finds.
use Rattle.std.specs.Prelude.{◌≡◌, ◌⊎◌, ℕ, ◌+◌, ◌<◌, ◌≤◌, List, [], map, Option, Some, None, Result, Ok, Err, Contains}
use Rattle.std.specs.List.{All, AllZip}
use Rattle.circuit_theory.specs.declared.Side.{Side}
use Rattle.circuit_theory.specs.Fits.{IsPairDepth}
use Rattle.circuit_theory.specs.Interface.{first_mismatch, shared_inputs, AreNumbersOf}
use Rattle.circuit_laws.specs.reset_laws.Reset.{AreBased}
use Rattle.sec_base.specs.declared.basics.PairAnswer.TheVariants as answer
use Rattle.flat_net.specs.Sound.{IsSound}
use Rattle.flat_net.specs.View.{NetView, circuit_of, ports_of}
use Rattle.obligations.specs.declared.outcome.verdict.PairResult.{PairResult}
use Rattle.outcome_fits.specs.ResetOutcome.{Numbered, AgreeBefore, IsFirstLimit}
use Rattle.sec_setup.specs.declared.setup.Setup.{Setup}
use Rattle.sec_setup.specs.Matching.{InterfacesMatch}
use Rattle.sec_setup.specs.ports.Pairs.{NamedPair, named_pairs, places_of}
use Rattle.reset_form.specs.declared.reset_functions.bases.Bases.{Bases}
use Rattle.reset_form.specs.declared.reset_functions.error.ResetError.{ResetError}
use Rattle.reset_form.specs.declared.reset_functions.error.ResetError.TheVariants as reset
use Rattle.reset_form.specs.declared.reset_asked.findings.ResetVerdict.{ResetVerdict}
use Rattle.reset_form.specs.declared.reset_asked.findings.ResetVerdict.TheVariants as found
use Rattle.reset_form.specs.reset_asked.Numbers.{numbered}
use Rattle.reset_form.specs.reset_functions.Bases.{AreBases}
use Rattle.cycle_search.specs.declared.found.Searched.{Searched}
use Rattle.cycle_search.specs.declared.found.SearchVerdict.{SearchVerdict}
use Rattle.cycle_search.specs.declared.found.SearchVerdict.TheVariants as verdict
use Rattle.cycle_search.specs.declared.found.SearchError.{SearchError}
use Rattle.cycle_search.specs.declared.found.SearchError.TheVariants as refused
use Rattle.cycle_search.specs.Cycles.{ResultIn, IsDifferenceIn}
use Rattle.cycle_search.specs.Depths.{AreDeepUpTo}
use Rattle.cycle_search.specs.Outputs.{IsOneTooLarge}

-- each pair has a depth, and none is greater than the cycle
abbrev pub HaveDepthsUpTo : Numbered → List (NamedPair ℕ ℕ) → ℕ → Type 0
HaveDepthsUpTo n pairs cycle = (x : NamedPair ℕ ℕ) → Contains pairs x → (d : ℕ) × IsPairDepth n.a n.b x.left x.right d × (d ≤ cycle)

-- why the last cycle was the last: it is the wanted one, or one circuit is too large in the next
abbrev pub EndsAt : NetView → NetView → ℕ → ℕ → Option Side → Type 0
EndsAt a b cycles last None = last ≡ cycles
EndsAt a b cycles last (Some side) = (last < cycles) × IsOneTooLarge a b (last + 1) side

-- What the verdict says of the pairs in the last cycle.
abbrev pub VerdictFits : Numbered → NetView → NetView → ℕ → ℕ → List (NamedPair ℕ ℕ) → List PairResult → SearchVerdict → Type 0
VerdictFits n a b cycles last pairs results verdict.Equal = All (λ (r : PairResult). r.answer ≡ answer.Equal) results × HaveDepthsUpTo n pairs last
VerdictFits n a b cycles last pairs results (verdict.NoDifference stopped) =
    All (λ (r : PairResult). r.answer ≡ answer.Equal) results × (HaveDepthsUpTo n pairs last → ⊥) × EndsAt a b cycles last stopped
VerdictFits n a b cycles last pairs results (verdict.Different w) = IsDifferenceIn n last pairs results w
VerdictFits n a b cycles last pairs results (verdict.Limit name) = IsFirstLimit results name

-- Before the last cycle each pair's functions agree in each cycle. In the last one each pair has its result, and the verdict is theirs.
pub record AreFoundUpTo (n : Numbered) (a b : NetView) (cycles conflicts : ℕ) (pairs : List (NamedPair ℕ ℕ)) (s : Searched) : Type 0 where
  pub within : s.last ≤ cycles
  pub before : (x : NamedPair ℕ ℕ) → Contains pairs x → AgreeBefore n x.left x.right s.last
  pub pairs_fit : AllZip (ResultIn n conflicts s.last) pairs s.pairs
  pub verdict_is : VerdictFits n a b cycles s.last pairs s.pairs s.verdict

-- the circuits of two nets, with the numbers of their inputs' and their latches' variables
pub record IsNumbering (a b : NetView) (n : Numbered) : Type 0 where
  pub left_is : n.a ≡ circuit_of a
  pub right_is : n.b ≡ circuit_of b
  pub columns_are : n.columns ≡ shared_inputs (ports_of a) (ports_of b)
  pub left_numbers : AreNumbersOf (ports_of a).inputs n.columns n.left n.right
  pub right_numbers : AreNumbersOf (ports_of b).inputs n.columns n.right n.left
  pub based : AreBased (circuit_of a) (circuit_of b) n.left n.right n.left_base n.right_base

-- The interfaces match, and this is found of the outputs of one name. Both nets keep what each net keeps.
pub record AreSearched (a b : NetView) (cycles conflicts : ℕ) (s : Searched) : Type 0 where
  pub left_sound : IsSound a
  pub right_sound : IsSound b
  pub matches : InterfacesMatch a b
  pub numbers : Numbered
  pub are_numbers : IsNumbering a b numbers
  pub found : AreFoundUpTo numbers a b cycles conflicts (named_pairs [] (circuit_of a) (circuit_of b)) s

-- what is found, or the first refusal: the interface; A's size in cycle 0, B's
abbrev pub Searches : NetView → NetView → ℕ → ℕ → Result Searched SearchError → Type 0
Searches a b cycles conflicts (Ok s) = AreSearched a b cycles conflicts s
Searches a b cycles conflicts (Err (refused.Interface name)) = first_mismatch (ports_of a) (ports_of b) ≡ Some name
Searches a b cycles conflicts (Err (refused.TooLarge side)) = InterfacesMatch a b × IsOneTooLarge a b 0 side
Searches a b cycles conflicts (Err refused.NoMemory) = Unit {0}

-- the same by what both circuits are compared by
abbrev pub SearchesIn : Setup → ℕ → ℕ → Result Searched ResetError → Type 0
SearchesIn s cycles conflicts (Ok r) = (b : Bases) × AreBases s b × AreFoundUpTo (numbered s b) s.left.now s.right.now cycles conflicts (map places_of s.pairs) r
SearchesIn s cycles conflicts (Err (reset.TooLarge side)) = IsOneTooLarge s.left.now s.right.now 0 side
SearchesIn s cycles conflicts (Err reset.NoMemory) = Unit {0}

-- the verdict where all pairs agree in each cycle up to the last
abbrev pub IsAgreed : Setup → ℕ → Option Side → SearchVerdict → Type 0
IsAgreed s last stopped v = ((v ≡ verdict.Equal) × AreDeepUpTo s last) ⊎ ((v ≡ verdict.NoDifference stopped) × (AreDeepUpTo s last → ⊥))

-- the verdict by that of the last cycle
abbrev pub IsVerdictOf : Setup → ℕ → Option Side → ResetVerdict → SearchVerdict → Type 0
IsVerdictOf s last stopped found.Equal v = IsAgreed s last stopped v
IsVerdictOf s last stopped (found.Different w) v = v ≡ verdict.Different w
IsVerdictOf s last stopped (found.Limit name) v = v ≡ verdict.Limit name
