use Rattle.std.proofs.Common.{◌≡◌, ◌+◌, ◌-◌, ◌||◌, ◌∷◌, ◌++◌, [], List, ℕ, Bool, false, cond, sym, ◌∙◌, ap, subst, arith, append_assoc}
use Rattle.base_tables.specs.Table.{is_among}
use Rattle.aiger_read.specs.aiger_file.Names.{names_from, name_of, repeats}
use Rattle.aiger_read.proofs.aiger_file.NamesFound.{next_name, none_repeats_by}
use Rattle.aiger_read.proofs.aiger_file.symbol.Named.add_names.Goals as goal

pub loop-k-preserved : goal.loop-k-preserved
loop-k-preserved c =
    let s = c.args.self.now in
    let k = c.loop-k.k in
    let table = c.loop-k.table in
    let name = name_of s c.args.letter k in
    let rest = names_from s c.args.letter (c.args.count - (k + 1)) (k + 1) in
    let is : c.as_slice.result.now ≡ name = c.as_slice.ensures.value ∙ c.in_ok-name.ensures in
    let new : is_among table name ≡ false = ap (is_among table) (sym is) ∙ none_repeats_by _ _ c.in_ok-add.ensures.new c.if-not-branch.false in
    let P : List ℕ → Type 0 = λ n. c.add.new.self ≡ cond (is_among table n) table (table ++ n ∷ []) in
    let put : c.add.new.self ≡ table ++ name ∷ [] = subst P is c.in_ok-add.ensures.ok ∙ ap (λ (b : Bool). cond b table (table ++ name ∷ [])) new in
    let next : names_from s c.args.letter (c.args.count - k) k ≡ name ∷ rest = next_name s c.args.letter (c.args.count - k) (c.args.count - (k + 1)) k (omega arith) in
    record {
      fresh = c.loop-k.invariant.fresh ∙ ap (λ ns. repeats table ns) next ∙ ap (λ (b : Bool). b || repeats (table ++ name ∷ []) rest) new ∙ ap (λ (t : List (List ℕ)). repeats t rest) (sym put);
      all = c.loop-k.invariant.all ∙ ap (λ ns. table ++ ns) next ∙ sym (append_assoc table (name ∷ []) rest) ∙ ap (λ (t : List (List ℕ)). t ++ rest) (sym put);
    }
