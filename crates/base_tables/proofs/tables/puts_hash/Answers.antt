-- The number tells whether the hash is new.
use Rattle.std.proofs.Common.{◌≡◌, ◌∙◌, ◌++◌, ◌∷◌, [], ℕ, length, sym, subst}
use Rattle.base_tables.proofs.Hashed.{hash-put, hash-kept}
use Rattle.base_tables.proofs.tables.puts_hash.Goals as goal

pub returns-in-Ok-clause-put : goal.returns-in-Ok-clause-put
returns-in-Ok-clause-put c = λ last.
    subst (λ (h : ℕ × ℕ). (length c.args.hashes.now ≡ c.args.id) × (c.insert.new.self ≡ c.args.hashes.now ++ h ∷ [])) c.name_hash.ensures
    (hash-put c.args.hashes.now c.insert.new.self c.name_hash.result c.in-Ok.number c.args.id (sym c.len.ensures ∙ c.if-len-id.false) c.in-Ok.ensures.here c.in-Ok.ensures.ok last)

pub returns-in-Ok-clause-kept : goal.returns-in-Ok-clause-kept
returns-in-Ok-clause-kept c = λ other.
    hash-kept c.args.hashes.now c.insert.new.self c.name_hash.result c.in-Ok.number c.args.id (sym c.len.ensures ∙ c.if-len-id.false) c.in-Ok.ensures.here c.in-Ok.ensures.ok other
