-- What a search for a difference finds under an assumption.
use Rattle.std.specs.Prelude.{◌≡◌, ◌⊎◌, ℕ, ◌+◌, ◌*◌, ◌<◌, ◌≤◌, List, [], length, map, Option, Some, None, Result, Ok, Err, Contains}
use Rattle.std.specs.List.{All, AllZip}
use Rattle.circuit_theory.specs.declared.Side.{Side}
use Rattle.circuit_theory.specs.Interface.{first_mismatch, shared_inputs}
use Rattle.sec_base.specs.declared.basics.PairAnswer.TheVariants as answer
use Rattle.sec_base.specs.declared.limits.TheConstants.{MAX_WEIGHT}
use Rattle.flat_net.specs.Sound.{IsSound}
use Rattle.flat_net.specs.View.{NetView, circuit_of, ports_of}
use Rattle.obligations.specs.Fits.{AreEqualBefore}
use Rattle.obligations.specs.declared.outcome.verdict.PairResult.{PairResult}
use Rattle.outcome_fits.specs.ResetOutcome.{Numbered, IsFirstLimit}
use Rattle.sec_setup.specs.declared.setup.Setup.{Setup}
use Rattle.sec_setup.specs.Matching.{InterfacesMatch}
use Rattle.sec_setup.specs.ports.Pairs.{NamedPair, named_pairs, places_of}
use Rattle.assume_laws.specs.Assume.{Assumption}
use Rattle.assume_queries.specs.declared.assume_sequences.premise.Premise.{Premise}
use Rattle.assume_queries.specs.declared.assume_sequences.assume_taken.error.TakeError.{TakeError}
use Rattle.assume_queries.specs.declared.assume_sequences.assume_taken.error.TakeError.TheVariants as untaken
use Rattle.assume_queries.specs.assume_sequences.assume_taken.Taken.{IsAssumed, assumed_by, IsFirstFault, IsVacuousBy, IsUndecidedBy}
use Rattle.reset_form.specs.declared.reset_functions.bases.Bases.{Bases}
use Rattle.reset_form.specs.declared.reset_functions.error.ResetError.{ResetError}
use Rattle.reset_form.specs.declared.reset_functions.error.ResetError.TheVariants as reset
use Rattle.reset_form.specs.reset_asked.Numbers.{numbered}
use Rattle.reset_form.specs.reset_functions.Bases.{AreBases}
use Rattle.cycle_search.specs.declared.found.Searched.{Searched}
use Rattle.cycle_search.specs.declared.found.SearchVerdict.{SearchVerdict}
use Rattle.cycle_search.specs.declared.found.SearchVerdict.TheVariants as verdict
use Rattle.cycle_search.specs.declared.found.SearchError.{SearchError}
use Rattle.cycle_search.specs.declared.found.SearchError.TheVariants as search
use Rattle.cycle_search.specs.Outputs.{IsOneTooLarge}
use Rattle.cycle_search.specs.Searches.{HaveDepthsUpTo, IsNumbering}
use Rattle.cycle_under.specs.declared.found.SearchUnder.{SearchUnder}
use Rattle.cycle_under.specs.declared.found.SearchUnder.TheVariants as made
use Rattle.cycle_under.specs.declared.found.UnderError.{UnderError}
use Rattle.cycle_under.specs.declared.found.UnderError.TheVariants as refused
use Rattle.cycle_under.specs.Cares.{OfEach}
use Rattle.cycle_under.specs.Cycles.{pair_under, ResultUnder, IsDifferenceUnder}

-- an assumption of the weight weighs more than 2,000,000 in all cycles up to this one
abbrev pub IsOverUpTo : ℕ → ℕ → Type 0
IsOverUpTo weight cycle = MAX_WEIGHT < weight * (cycle + 1)

-- why the last cycle was the last: it is the wanted one; or the assumption is too large in the next, or one circuit is
abbrev pub EndsUnder : NetView → NetView → ℕ → ℕ → ℕ → Option Side → Type 0
EndsUnder a b weight cycles last None = (last ≡ cycles) ⊎ ((last < cycles) × IsOverUpTo weight (last + 1))
EndsUnder a b weight cycles last (Some side) = (last < cycles) × IsOneTooLarge a b (last + 1) side

-- What the verdict says of the pairs in the last cycle.
abbrev pub VerdictFitsUnder : Assumption → ℕ → Numbered → NetView → NetView → ℕ → ℕ → List (NamedPair ℕ ℕ) → List PairResult → SearchVerdict → Type 0
VerdictFitsUnder c weight n a b cycles last pairs results verdict.Equal = All (λ (r : PairResult). r.answer ≡ answer.Equal) results × HaveDepthsUpTo n pairs last
VerdictFitsUnder c weight n a b cycles last pairs results (verdict.NoDifference stopped) =
    All (λ (r : PairResult). r.answer ≡ answer.Equal) results × (HaveDepthsUpTo n pairs last → ⊥) × EndsUnder a b weight cycles last stopped
VerdictFitsUnder c weight n a b cycles last pairs results (verdict.Different w) = IsDifferenceUnder c n last pairs results w
VerdictFitsUnder c weight n a b cycles last pairs results (verdict.Limit name) = IsFirstLimit results name

-- a pair's functions agree in each cycle before this one, where the assumption is met up to it
abbrev pub AgreeBeforeUnder : Assumption → Numbered → ℕ → ℕ → ℕ → Type 0
AgreeBeforeUnder c n p q t = AreEqualBefore (pair_under c n p q) t

-- Before the last cycle each pair's functions agree in each cycle. In the last one each pair has its result, and the verdict is theirs.
pub record AreFoundUnder (c : Assumption) (weight : ℕ) (n : Numbered) (a b : NetView) (cycles conflicts : ℕ) (pairs : List (NamedPair ℕ ℕ)) (s : Searched) : Type 0 where
  pub within : s.last ≤ cycles
  pub before : (x : NamedPair ℕ ℕ) → Contains pairs x → AgreeBeforeUnder c n x.left x.right s.last
  pub pairs_fit : AllZip (ResultUnder c n conflicts s.last) pairs s.pairs
  pub verdict_is : VerdictFitsUnder c weight n a b cycles s.last pairs s.pairs s.verdict

-- The interfaces match, C is an assumption on the inputs that both nets share, and under it this is found of the outputs of one name.
pub record AreSearchedUnder (a b c : NetView) (cycles conflicts : ℕ) (s : Searched) : Type 0 where
  pub left_sound : IsSound a
  pub right_sound : IsSound b
  pub matches : InterfacesMatch a b
  pub assumed : IsAssumed (shared_inputs (ports_of a) (ports_of b)) c
  pub numbers : Numbered
  pub are_numbers : IsNumbering a b numbers
  pub found : AreFoundUnder (assumed_by assumed) assumed.weight numbers a b cycles conflicts (named_pairs [] (circuit_of a) (circuit_of b)) s

-- what is found, or that it wasn't decided whether some inputs meet C
abbrev pub IsMadeUnder : NetView → NetView → NetView → ℕ → ℕ → SearchUnder → Type 0
IsMadeUnder a b c cycles conflicts (made.Searched name s) = (is : AreSearchedUnder a b c cycles conflicts s) × (name ≡ is.assumed.shape.output.name)
IsMadeUnder a b c cycles conflicts (made.Undecided name proof) = InterfacesMatch a b × ((is : IsUndecidedBy (shared_inputs (ports_of a) (ports_of b)) c conflicts proof) × (name ≡ is.assumed.shape.output.name))

-- That, or the first refusal: the interface; C's first fault; that no inputs meet C; A's size in cycle 0, B's.
abbrev pub SearchesUnder : NetView → NetView → NetView → ℕ → ℕ → Result SearchUnder UnderError → Type 0
SearchesUnder a b c cycles conflicts (Ok s) = IsMadeUnder a b c cycles conflicts s
SearchesUnder a b c cycles conflicts (Err (refused.Interface name)) = first_mismatch (ports_of a) (ports_of b) ≡ Some name
SearchesUnder a b c cycles conflicts (Err (refused.Assume fault)) = InterfacesMatch a b × IsFirstFault (shared_inputs (ports_of a) (ports_of b)) c fault
SearchesUnder a b c cycles conflicts (Err (refused.Vacuous by)) = InterfacesMatch a b × IsVacuousBy (shared_inputs (ports_of a) (ports_of b)) c conflicts by
SearchesUnder a b c cycles conflicts (Err (refused.TooLarge side)) = InterfacesMatch a b × IsAssumed (shared_inputs (ports_of a) (ports_of b)) c × IsOneTooLarge a b 0 side
SearchesUnder a b c cycles conflicts (Err refused.NoMemory) = Unit {0}

-- the same by what both circuits are compared by, under the assumptions of a premise
abbrev pub SearchesInUnder : Setup → Premise → ℕ → ℕ → Result Searched ResetError → Type 0
SearchesInUnder s p cycles conflicts (Ok r) = (b : Bases) × AreBases s b × OfEach p.own (λ c. AreFoundUnder c p.weight (numbered s b) s.left.now s.right.now cycles conflicts (map places_of s.pairs) r)
SearchesInUnder s p cycles conflicts (Err (reset.TooLarge side)) = IsOneTooLarge s.left.now s.right.now 0 side
SearchesInUnder s p cycles conflicts (Err reset.NoMemory) = Unit {0}

-- the refusal of a circuit that isn't taken as an assumption; of interfaces that don't match; of a circuit that is too large
abbrev pub untaken_error : TakeError → UnderError
untaken_error (untaken.Fault f) = refused.Assume f
untaken_error (untaken.Vacuous by) = refused.Vacuous by
untaken_error untaken.NoMemory = refused.NoMemory

abbrev pub search_error : SearchError → UnderError
search_error (search.Interface name) = refused.Interface name
search_error (search.TooLarge side) = refused.TooLarge side
search_error search.NoMemory = refused.NoMemory

abbrev pub reset_error : ResetError → UnderError
reset_error (reset.TooLarge side) = refused.TooLarge side
reset_error reset.NoMemory = refused.NoMemory
