-- A pair that is there stays, and one that isn't goes last.
use Rattle.std.proofs.Common.{◌≡◌, ◌++◌, ◌∷◌, [], ℕ, List, Contains, subst}
use Rattle.std.specs.Prelude.{OnOk}
use Rattle.base_tables.proofs.Hashing.{with-known, with-added}
use Rattle.base_tables.proofs.tables.PlaceTable.intern.Goals as goal

pub returns-clause-known : goal.returns-clause-known
returns-clause-known c =
    subst (λ (old : List (ℕ × ℕ)). OnOk c.insert.result (Contains old (c.args.input, c.args.place) → c.insert.new.self ≡ old)) c.self.view_is
    (with-known c.insert.result c.self.inside.pairs (c.args.input, c.args.place) c.insert.new.self c.insert.ensures.ok)

pub returns-clause-added : goal.returns-clause-added
returns-clause-added c =
    subst (λ (old : List (ℕ × ℕ)). OnOk c.insert.result ((Contains old (c.args.input, c.args.place) → ⊥) → c.insert.new.self ≡ old ++ (c.args.input, c.args.place) ∷ [])) c.self.view_is
    (with-added c.insert.result c.self.inside.pairs (c.args.input, c.args.place) c.insert.new.self c.insert.ensures.ok)
