use Rattle.std.proofs.Common.{◌≡◌, List, ℕ, false, slice_get, Some, sym, ◌∙◌, ap, subst, arith}
use Rattle.std.specs.Prelude.{IfOk}
use Rattle.std.proofs.lemmas.Option.{slice_get_within}
use Rattle.base_tables.specs.Table.{is_among}
use Rattle.aiger_read.specs.aiger_file.Names.{key_of}
use Rattle.aiger_read.proofs.aiger_file.NamesFound.{name_there, name_absent}
use Rattle.aiger_read.proofs.aiger_file.symbol.Named.name_of.Goals as goal

pub returns-in_default : goal.returns-in_default
returns-in_default c =
    let key = key_of c.args.letter c.args.k in
    let s = c.args.self.now in
    let absent : is_among s.keys key ≡ false = ap (is_among s.keys) (sym (c.as_slice.ensures.value ∙ c.in_ok-key.ensures)) ∙ sym c.in_default.ensures.found in
    c.in_ok-key.ensures ∙ sym (name_absent s.keys s.names key absent)

pub name_at-requires : goal.name_at-requires
name_at-requires c = omega (arith, slice_get_within c.args.self.now.keys c.in-Some.id c.as_slice.result.now c.in-Some.ensures.here)

pub returns : goal.returns
returns c =
    let s = c.args.self.now in
    let key : c.as_slice.result.now ≡ key_of c.args.letter c.args.k = c.as_slice.ensures.value ∙ c.in_ok-key.ensures in
    let here : slice_get s.keys c.in-Some.id ≡ Some (key_of c.args.letter c.args.k) = c.in-Some.ensures.here ∙ ap (λ (x : List ℕ). Some x) key in
    let P : List ℕ → Type 0 = λ n. IfOk c.bytes_of.result (λ v. v.items ≡ n) in
    subst P (sym (name_there s.keys s.names (key_of c.args.letter c.args.k) c.name_at.result.now c.in-Some.id c.keeps.ensures here c.name_at.ensures)) c.bytes_of.ensures
