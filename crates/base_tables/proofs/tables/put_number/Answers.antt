-- The name's hash goes last, or the name gets a number.
use Rattle.std.proofs.Common.{◌≡◌, ◌∙◌, ◌++◌, ◌∷◌, [], ℕ, List, Some, Option, cond, rules, sym, subst, ap, length}
use Rattle.std.specs.BTreeMap.{get_by}
use Rattle.std.specs.Cmp.Lexicographic.{slice_cmp}
use Rattle.std.specs.Ordering.{nat_cmp}
use Rattle.std.specs.Str.{bytes_eq}
use Rattle.base_tables.specs.Hashed.{IsNameTable}
use Rattle.base_tables.proofs.Hashed.{early-named, late-named}
use Rattle.base_tables.proofs.Ordered.{updates_at}
use Rattle.base_tables.proofs.tables.put_number.Goals as goal

pub returns-then-puts_hash-clause-put : goal.returns-then-puts_hash-clause-put
returns-then-puts_hash-clause-put c =
    let put = c.puts_hash.ensures.put c.if-puts_hash.true in
    early-named c.args.names.now c.args.hashes.now _ c.requires.table c.args.name.now c.requires.new c.requires.room c.puts_hash.new.hashes put.0 put.1

pub returns-clause-put : goal.returns-clause-put
returns-clause-put c =
    let name : List ℕ = c.args.name.now in
    let before : List ℕ → Option ℕ = λ q. get_by (λ k. slice_cmp nat_cmp q k.items) c.args.late.now in
    let after : List ℕ → Option ℕ = λ q. get_by (λ k. slice_cmp nat_cmp q k.items) c.insert.new.self in
    let same : c.in_ok-to_vec.field-0.items ≡ c.args.name.now = search rules in
    let told : (q : List ℕ) → after q ≡ cond (bytes_eq c.args.name.now q) (Some (length c.args.names.now)) (before q) =
    λ q. updates_at (λ v. v.items) c.in_ok-to_vec.field-0.items c.args.late.now c.insert.new.self (Some (length c.args.names.now)) c.in_ok-insert.ensures.updates q
    ∙ ap (λ xs. cond (bytes_eq xs q) (Some (length c.args.names.now)) (before q)) same in
    subst (λ (hs : List (ℕ × ℕ)). IsNameTable (c.args.names.now ++ c.args.name.now ∷ []) hs after) (sym (c.puts_hash.ensures.kept c.if-puts_hash.false))
    (late-named c.args.names.now c.args.hashes.now before c.requires.table c.args.name.now c.requires.new c.requires.room after told)
