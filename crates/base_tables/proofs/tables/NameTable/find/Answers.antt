-- What is neither among the first names nor has a number isn't in the table.
use Rattle.std.proofs.Common.{◌≡◌, ◌∙◌, ◌<◌, ℕ, List, Some, Contains, length, slice_get, ap, sym, subst, arith}
use Rattle.std.specs.Str.{bytes_eq}
use Rattle.std.proofs.lemmas.Option.{slice_get-get_or, slice_get_within}
use Rattle.base_tables.proofs.Appended.{at-is_among}
use Rattle.base_tables.proofs.Hashing.{not-among}
use Rattle.base_tables.proofs.Hashed.{same-name, not-named, no-hash, other-name, not-found}
use Rattle.base_tables.proofs.tables.NameTable.find.Goals as goal
use Rattle.base_tables.proofs.tables.NameTable.find.Goals.{in-Some+else-eq, in_default}

pub returns-then-eq : goal.returns-then-eq
returns-then-eq c =
    let below : c.in-Some.id < length c.self.inside.hashes = slice_get_within c.self.inside.hashes c.in-Some.id c.name_hash.result c.in-Some.ensures.here in
    let within : c.in-Some.id < length c.self.inside.names.items = omega (arith, below, c.self.invariant.first) in
    let at : slice_get c.self.inside.names.items c.in-Some.id ≡ Some c.index.result.now = slice_get-get_or c.self.inside.names.items c.in-Some.id c.index.result.now within ∙ ap Some (sym c.index.ensures) in
    let is : c.eq.result ≡ bytes_eq c.index.result.now c.args.name.now = c.eq.ensures ∙ ap (λ (xs : List ℕ). bytes_eq xs c.args.name.now) c.as_slice.ensures in
    let there : slice_get c.args.self.now c.in-Some.id ≡ Some c.args.name.now = same-name c.self.inside.names.items c.args.self.now c.in-Some.id c.index.result.now c.args.name.now c.self.view_is at (sym is ∙ c.if-eq.true) in
    record { here = there; absent = tt; found = sym (at-is_among c.args.self.now c.args.name.now c.in-Some.id there) }

pub returns-in-Some-get : goal.returns-in-Some-get
returns-in-Some-get c =
    let there : slice_get c.args.self.now c.in-Some-get.id.now ≡ Some c.args.name.now =
    ap (λ (ns : List (List ℕ)). slice_get ns c.in-Some-get.id.now) (sym c.self.view_is) ∙ c.self.invariant.here c.args.name.now c.in-Some-get.id.now (sym c.in-Some-get.ensures.value) in
    record { here = there; absent = tt; found = sym (at-is_among c.args.self.now c.args.name.now c.in-Some-get.id.now there) }

pub returns-in-None : goal.returns-in-None
returns-in-None c =
    let names : List (List ℕ) = c.self.inside.names.items in
    let name : List ℕ = c.args.name.now in
    let other : (i : ℕ) → i < length c.self.inside.hashes → slice_get c.self.inside.names.items i ≡ Some c.args.name.now → ⊥ =
    elim c.match-find.branch [
      | in-Some+else-eq w ↦
          let below : w.in-Some.id < length c.self.inside.hashes = slice_get_within c.self.inside.hashes w.in-Some.id c.name_hash.result w.in-Some.ensures.here in
          let within : w.in-Some.id < length c.self.inside.names.items = omega (arith, below, c.self.invariant.first) in
          other-name names c.self.inside.hashes _ c.self.invariant name w.in-Some.id w.index.result.now c.keeps.ensures.once (w.in-Some.ensures.here ∙ ap Some c.name_hash.ensures)
          (slice_get-get_or names w.in-Some.id w.index.result.now within ∙ ap Some (sym w.index.ensures))
          (sym (w.eq.ensures ∙ ap (λ (xs : List ℕ). bytes_eq xs name) w.as_slice.ensures) ∙ w.if-eq.false)
      | in_default w ↦ no-hash names c.self.inside.hashes _ c.self.invariant name
          (subst (λ (h : ℕ × ℕ). Contains c.self.inside.hashes h → ⊥) c.name_hash.ensures (not-found c.find.result w.in_default.not-Some c.find.ensures.absent))
    ] in
    let gone : Contains c.args.self.now c.args.name.now → ⊥ =
    subst (λ (ns : List (List ℕ)). Contains ns c.args.name.now → ⊥) c.self.view_is (not-named names c.self.inside.hashes _ c.self.invariant name (sym c.in-None.ensures.value) other) in
    record { here = tt; absent = gone; found = sym (not-among c.args.self.now c.args.name.now gone) }
