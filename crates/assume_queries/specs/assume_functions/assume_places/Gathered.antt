-- The places of the variables of queries, and what an assumption weighs at them.
use Rattle.std.specs.Prelude.{◌≡◌, ◌≢◌, ◌↔◌, ℕ, ◌+◌, ◌*◌, ◌^◌, ◌<◌, ◌≤◌, ◌-◌, min, List, map, length, slice_index_or}
use Rattle.std.specs.List.{All, AllPairs, AllZip, Contains, sum_by}
use Rattle.sec_base.specs.declared.limits.TheConstants.{MAX_WEIGHT}
use Rattle.base_tables.specs.Table.{AreDistinct}
use Rattle.obligations.specs.pair_decide.Query.{Query}
use Rattle.cbf_unfold.specs.shift_variables.query_places.Places.{place_of, AreGrouped, ArePlacesOf, ComeInTurn}
use Rattle.assume_queries.specs.declared.assume_functions.assume_places.gathered.QueryPlaces.{QueryPlaces}

-- its variables are entries of the table, and those of one place stand side by side
pub record HasPlaces (table : List (ℕ × ℕ)) (q : Query) : Type 0 where
  pub within : All (λ v. v < length table) q.vars
  pub grouped : AreGrouped table q.vars

-- some variable of one of the queries has the place
abbrev pub IsRead : List (ℕ × ℕ) → List Query → ℕ → Type 0
IsRead table queries k = (q : Query) × (v : ℕ) × Contains queries q × Contains q.vars v × (place_of table v ≡ k)

-- the places of all queries' variables, each once, and for each query those of its own
pub record ArePlacesOfAll (table : List (ℕ × ℕ)) (queries : List Query) (all : List ℕ) (own : List (List ℕ)) : Type 0 where
  pub distinct : AllPairs (λ j k. j ≢ k) all
  pub exactly : (k : ℕ) → Contains all k ↔ IsRead table queries k
  pub each : AllZip (λ (q : Query) (ks : List ℕ). ArePlacesOf table q.vars ks) queries own

-- what an assumption of the weight weighs at all places, and one for each place of each query
abbrev pub sum_under : ℕ → List ℕ → List (List ℕ) → ℕ
sum_under weight all own = weight * length all + sum_by length own

-- that is more than the limit
pub record IsOverUnder (weight : ℕ) (table : List (ℕ × ℕ)) (queries : List Query) : Type 0 where
  pub all : List ℕ
  pub own : List (List ℕ)
  pub places : ArePlacesOfAll table queries all own
  pub over : MAX_WEIGHT < sum_under weight all own

-- and that it is at most the limit
pub record IsLightUnder (weight : ℕ) (table : List (ℕ × ℕ)) (queries : List Query) : Type 0 where
  pub all : List ℕ
  pub own : List (List ℕ)
  pub places : ArePlacesOfAll table queries all own
  pub light : sum_under weight all own ≤ MAX_WEIGHT

-- the place with this number
abbrev pub place_at : List (ℕ × ℕ) → ℕ → ℕ
place_at found n = (slice_index_or found n (0, 0)).0

-- the entry is one of these places, with 0 beside it
abbrev pub IsAmong : List ℕ → ℕ × ℕ → Type 0
IsAmong places p = (p.1 ≡ 0) × Contains places p.0

-- the numbers of the query's own places, in the order in which its variables come
pub record AreOwn (table found : List (ℕ × ℕ)) (q : Query) (own : List ℕ) : Type 0 where
  pub within : All (λ n. n < length found) own
  pub places : ArePlacesOf table q.vars (map (place_at found) own)
  pub turn : ComeInTurn table q.vars (map (place_at found) own)

-- the places of all queries, each once, and for each query the numbers of its own
pub record AreGathered (table : List (ℕ × ℕ)) (queries : List Query) (found : QueryPlaces) : Type 0 where
  pub distinct : AreDistinct found.table
  pub zeros : All (λ (p : ℕ × ℕ). p.1 ≡ 0) found.table
  pub from : (p : ℕ × ℕ) → Contains found.table p → IsRead table queries p.0
  pub inside : (p : ℕ × ℕ) → Contains found.table p → (v : ℕ) × (v < length table) × (place_of table v ≡ p.0)
  pub each : AllZip (AreOwn table found.table) queries found.own.items
  pub count : found.count ≡ min (sum_by length found.own.items) (2 ^ 64 - 1)
