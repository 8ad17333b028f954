-- What is said of the circuits of two nets where some pairs have no care.
use Rattle.std.specs.Prelude.{◌≡◌, ◌≢◌, ℕ, List, [], Option}
use Rattle.std.specs.List.{AllZip}
use Rattle.flat_net.specs.View.{NetView, circuit_of}
use Rattle.sec_setup.specs.ports.Pairs.{NamedPair, named_pairs}
use Rattle.assume_laws.specs.Assume.{Assumption}
use Rattle.obligations.specs.declared.outcome.verdict.Outcome.{Outcome}
use Rattle.event_setup.specs.event_meaning.event_meaning_under.Taken.{assumed_by}
use Rattle.event_setup.specs.event_meaning.event_meaning_under.Met.{IsMet}
use Rattle.assume_laws.specs.settle_laws.Settles.{AreNeverSettled, AreNeverSettledUnder}
use Rattle.event_settles.specs.declared.cares.Care.TheVariants as care
use Rattle.event_settles.specs.declared.cares.IdleLatch.{IdleLatch}
use Rattle.event_settles.specs.declared.cares.PairCare.{PairCare}

-- A pair without care is settled in both circuits in no cycle of two runs with equal inputs.
pub record SaysNever (a b : NetView) (place : NamedPair ℕ ℕ) (c : PairCare) : Type 0 where
  pub named : c.name ≡ place.name
  pub never : (idle : Option IdleLatch) → c.care ≡ care.Never idle → AreNeverSettled (circuit_of a) (circuit_of b) place.left place.right

-- the same of each pair, in order, where pairs are asked about
abbrev pub SaysNeverOfAll : NetView → NetView → Outcome → List PairCare → Type 0
SaysNeverOfAll a b o cares = cares ≢ [] → AllZip (SaysNever a b) (named_pairs o.exposed (circuit_of a) (circuit_of b)) cares

-- Under an assumption, in the runs that meet it.
pub record SaysNeverUnder (c : Assumption) (a b : NetView) (place : NamedPair ℕ ℕ) (x : PairCare) : Type 0 where
  pub named : x.name ≡ place.name
  pub never : (idle : Option IdleLatch) → x.care ≡ care.Never idle → AreNeverSettledUnder c (circuit_of a) (circuit_of b) place.left place.right

abbrev pub SaysNeverOfAllUnder : NetView → NetView → NetView → Outcome → List PairCare → Type 0
SaysNeverOfAllUnder a b c o cares = cares ≢ [] → (met : IsMet a b c) × AllZip (SaysNeverUnder (assumed_by met.assumed) a b) (named_pairs o.exposed (circuit_of a) (circuit_of b)) cares
