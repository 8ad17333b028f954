-- What is judged of two nets that are run over a stimulus from what is known of them at first.
use Rattle.std.specs.Prelude.{◌≡◌, ◌⊎◌, ℕ, Bool, List, [], ◌++◌, length, Option, Some, Result, Ok, Err}
use Rattle.circuit_theory.specs.Interface.{first_mismatch}
use Rattle.flat_net.specs.View.{NetView, circuit_of, ports_of}
use Rattle.sec_setup.specs.Matching.{InterfacesMatch}
use Rattle.sec_setup.specs.ports.Pairs.{named_pairs}
use Rattle.restart.specs.Behind.{IsBegun}
use Rattle.job_circuit.specs.declared.replay.replay_header.error.ReplayError.TheVariants as header
use Rattle.job_circuit.specs.replay.replay_header.Header.{FitsOr}
use Rattle.job_after.specs.declared.fault.AfterFault.{AfterFault}
use Rattle.job_after.specs.declared.fault.AfterFault.TheVariants as fault
use Rattle.job_after.specs.declared.judging.Judged.{Judged}
use Rattle.job_after.specs.Answer.{IsUnfit}
use Rattle.job_after.specs.Ends.{FitsAfter}
use Rattle.job_after.specs.Report.{begun_text}
use Rattle.job_known.specs.declared.known_pairs.KnownReplay.{KnownReplay}
use Rattle.job_known.specs.Pairs.{ShowsKnown, ReadsFromReset, ReadsBehind, DifferAlways}
use Rattle.job_known.specs.Report.{known_text, judgement_of}

-- the interfaces match, or this is the first name that one circuit lacks; no other refusal comes of it
abbrev pub MatchesAfter : NetView → NetView → Result (Unit {0}) AfterFault → Type 0
MatchesAfter a b (Ok done) = InterfacesMatch a b
MatchesAfter a b (Err (fault.Interface name)) = first_mismatch (ports_of a) (ports_of b) ≡ Some name
MatchesAfter a b (Err fault.NoMemory) = Unit {0}
MatchesAfter a b (Err other) = ⊥

-- what is told of what was found, behind this text
pub record IsTold (settles : Bool) (front : List ℕ) (rows : ℕ) (found : KnownReplay) (j : Judged) : Type 0 where
  pub judgement : j.judgement ≡ judgement_of settles found
  pub proofs : j.proofs ≡ []
  pub text : j.text ≡ front ++ known_text settles found rows

-- The replay of both nets from their initial values. Each difference is one in all runs from these that read the rows.
pub record IsReplayedFrom (settles : Bool) (a b : NetView) (names : List (List ℕ)) (rows : List (List Bool)) (j : Judged) : Type 0 where
  pub matches : InterfacesMatch a b
  pub fits : FitsAfter a b names (Ok tt)
  pub found : KnownReplay
  pub shows : ShowsKnown a b (named_pairs [] (circuit_of a) (circuit_of b)) names rows found
  pub always : DifferAlways (ReadsFromReset a names rows) (ReadsFromReset b names rows) 0 (named_pairs [] (circuit_of a) (circuit_of b)) found.differences
  pub told : IsTold settles [] (length rows) found j

-- The replay of both nets from what is known behind the first rows. Each difference is one, so many cycles later, in all runs that read
-- these and then the rows, whatever they power up with.
pub record IsReplayedBehind (settles : Bool) (a b : NetView) (first : List (List ℕ)) (before : List (List Bool)) (names : List (List ℕ)) (rows : List (List Bool)) (j : Judged) : Type 0 where
  pub matches : InterfacesMatch a b
  pub fits_first : FitsAfter a b first (Ok tt)
  pub fits : FitsAfter a b names (Ok tt)
  pub left_known : List (Option Bool)
  pub right_known : List (Option Bool)
  pub left : NetView
  pub right : NetView
  pub left_begun : IsBegun a first before left_known left
  pub right_begun : IsBegun b first before right_known right
  pub found : KnownReplay
  pub shows : ShowsKnown left right (named_pairs [] (circuit_of a) (circuit_of b)) names rows found
  pub always : DifferAlways (ReadsBehind a first before names rows) (ReadsBehind b first before names rows) (length before) (named_pairs [] (circuit_of a) (circuit_of b)) found.differences
  pub told : IsTold settles (begun_text left right (length before) left_known right_known) (length rows) found j

-- the replay, or the first cause why there is none
abbrev pub ReplaysFrom : Bool → NetView → NetView → List (List ℕ) → List (List Bool) → Result Judged AfterFault → Type 0
ReplaysFrom settles a b names rows (Ok j) = IsReplayedFrom settles a b names rows j
ReplaysFrom settles a b names rows (Err (fault.Interface name)) = first_mismatch (ports_of a) (ports_of b) ≡ Some name
ReplaysFrom settles a b names rows (Err (fault.Unknown name)) = InterfacesMatch a b × IsUnfit a b names name
ReplaysFrom settles a b names rows (Err (fault.Missing name)) = InterfacesMatch a b × FitsOr a b names (Err (header.Missing name))
ReplaysFrom settles a b names rows (Err fault.NoMemory) = Unit {0}
ReplaysFrom settles a b names rows (Err other) = ⊥

-- this is so of the first names, or else of the others, which are looked at where the first fit
abbrev pub OfEither : NetView → NetView → List (List ℕ) → List (List ℕ) → (List (List ℕ) → Type 0) → Type 0
OfEither a b first names P = P first ⊎ (FitsAfter a b first (Ok tt) × P names)

abbrev pub ReplaysBehind : Bool → NetView → NetView → List (List ℕ) → List (List Bool) → List (List ℕ) → List (List Bool) → Result Judged AfterFault → Type 0
ReplaysBehind settles a b first before names rows (Ok j) = IsReplayedBehind settles a b first before names rows j
ReplaysBehind settles a b first before names rows (Err (fault.Interface name)) = first_mismatch (ports_of a) (ports_of b) ≡ Some name
ReplaysBehind settles a b first before names rows (Err (fault.Unknown name)) = InterfacesMatch a b × OfEither a b first names (λ stimulus. IsUnfit a b stimulus name)
ReplaysBehind settles a b first before names rows (Err (fault.Missing name)) = InterfacesMatch a b × OfEither a b first names (λ stimulus. FitsOr a b stimulus (Err (header.Missing name)))
ReplaysBehind settles a b first before names rows (Err fault.NoMemory) = Unit {0}
ReplaysBehind settles a b first before names rows (Err other) = ⊥
