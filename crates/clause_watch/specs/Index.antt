-- Where each variable stands on a trail.
use Rattle.std.specs.Prelude.{◌≡◌, ℕ, ◌+◌, ◌-◌, ◌<◌, ◌≤◌, ◌^◌, Bool, List, length, Option, Some, None, slice_get, sum_by}
use Rattle.clause_base.specs.Literals.{Literal}
use Rattle.clause_watch.specs.declared.entry.Entry.{Entry}
use Rattle.clause_watch.specs.declared.entry.Mark.{Mark}

abbrev pub blank : Option Mark → ℕ
blank None = 1
blank (Some m) = 0

abbrev pub mark_of : ℕ → Bool → Mark
mark_of place sign = record { place = place; is_positive = sign }

abbrev pub literal_of : ℕ → Bool → Literal
literal_of variable sign = record { variable = variable; positive = sign }

-- the mark of variable v + 1 says where it stands, and with which sign
pub record IsIndex (entries : List Entry) (marks : List (Option Mark)) : Type 0 where
  pub counted : length entries + sum_by blank marks ≡ length marks
  pub small : length marks ≤ 2 ^ 30
  pub placed : (k : ℕ) (e : Entry) → slice_get entries k ≡ Some e → (0 < e.literal.variable) × (slice_get marks (e.literal.variable - 1) ≡ Some (Some (mark_of k e.literal.positive)))
  pub backed : (v : ℕ) (m : Mark) → slice_get marks v ≡ Some (Some m) → (e : Entry) × (slice_get entries m.place ≡ Some e) × (e.literal ≡ literal_of (v + 1) m.is_positive)
