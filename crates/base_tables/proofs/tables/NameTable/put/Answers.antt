-- The name goes last, with its number.
use Rattle.std.proofs.Common.{◌≡◌, ◌∙◌, ◌+◌, ◌<◌, ◌^◌, ◌++◌, ◌∷◌, [], ℕ, List, ap, length, subst, sym, arith, rules}
use Rattle.std.specs.BTreeMap.{get_by}
use Rattle.std.specs.Cmp.Lexicographic.{slice_cmp}
use Rattle.std.specs.Ordering.{nat_cmp}
use Rattle.base_tables.specs.Hashed.{IsNameTable}
use Rattle.base_tables.specs.Table.{is_among}
use Rattle.base_tables.proofs.Appended.{at-last}
use Rattle.base_tables.proofs.tables.NameTable.put.Goals as goal

pub put_number-requires : goal.put_number-requires
put_number-requires c =
    let inside : c.as_slice-names.result.now ≡ c.self.inside.names.items = c.as_slice-names.ensures.value ∙ c.reserve.ensures.items in
    let seen : c.as_slice-names.result.now ≡ c.args.self.now = c.as_slice-names.ensures.value ∙ c.reserve.ensures.items ∙ c.self.view_is in
    record {
      table = subst (λ (ns : List (List ℕ)). IsNameTable ns c.self.inside.hashes (λ q. get_by (λ k. slice_cmp nat_cmp q k.items) c.self.inside.late)) (sym inside) c.self.invariant;
      new = ap (λ (ns : List (List ℕ)). is_among ns c.args.name.now) seen ∙ c.requires.new;
      room = subst (λ (ns : List (List ℕ)). length ns + 1 < 2 ^ 32) (sym seen) c.requires.room;
    }

pub put_last-requires : goal.put_last-requires
put_last-requires c = omega (arith, c.in_ok-reserve.ensures.ok)

pub invariant_of-self : goal.invariant_of-self
invariant_of-self c = subst (λ (ns : List (List ℕ)). IsNameTable ns c.self.inside.hashes (λ q. get_by (λ k. slice_cmp nat_cmp q k.items) c.self.inside.late)) (sym c.reserve.ensures.items) c.self.invariant

pub invariant_of-self-in_err-id : goal.invariant_of-self-in_err-id
invariant_of-self-in_err-id c =
    subst (λ (ns : List (List ℕ)). IsNameTable ns c.put_number.new.hashes (λ q. get_by (λ k. slice_cmp nat_cmp q k.items) c.put_number.new.late)) c.as_slice-names.ensures.value c.in_err-id.ensures.err

pub invariant_of-self-2 : goal.invariant_of-self-2
invariant_of-self-2 c =
    let same : c.in_ok-word.word.items ≡ c.args.name.now = search rules in
    let seen : c.put_last.new.names.items ≡ c.as_slice-names.result.now ++ c.args.name.now ∷ [] =
    c.put_last.ensures ∙ ap (λ (ns : List (List ℕ)). ns ++ c.from_vec.result ∷ []) (sym c.as_slice-names.ensures.value)
    ∙ ap (λ (word : List ℕ). c.as_slice-names.result.now ++ word ∷ []) (c.from_vec.ensures ∙ same) in
    subst (λ (ns : List (List ℕ)). IsNameTable ns c.put_number.new.hashes (λ q. get_by (λ k. slice_cmp nat_cmp q k.items) c.put_number.new.late)) (sym seen) c.in_ok-id.ensures.put

pub returns-clause-here : goal.returns-clause-here
returns-clause-here c =
    let same : c.in_ok-word.word.items ≡ c.args.name.now = search rules in
    let seen : c.put_last.new.names.items ≡ c.as_slice-names.result.now ++ c.args.name.now ∷ [] =
    c.put_last.ensures ∙ ap (λ (ns : List (List ℕ)). ns ++ c.from_vec.result ∷ []) (sym c.as_slice-names.ensures.value)
    ∙ ap (λ (word : List ℕ). c.as_slice-names.result.now ++ word ∷ []) (c.from_vec.ensures ∙ same) in
    at-last c.as_slice-names.result.now c.put_last.new.names.items c.args.name.now c.in_ok-id.id seen c.in_ok-id.ensures.last

pub returns-clause-ok : goal.returns-clause-ok
returns-clause-ok c =
    let same : c.in_ok-word.word.items ≡ c.args.name.now = search rules in
    c.put_last.ensures ∙ ap (λ (ns : List (List ℕ)). ns ++ c.from_vec.result ∷ []) (c.reserve.ensures.items ∙ c.self.view_is)
    ∙ ap (λ (word : List ℕ). c.args.self.now ++ word ∷ []) (c.from_vec.ensures ∙ same)
