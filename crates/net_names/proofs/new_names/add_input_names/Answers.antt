use Rattle.std.proofs.Common.{◌≡◌, ◌∙◌, ℕ, Bool, false, cond, List, [], ◌∷◌, ◌++◌, ap}
use Rattle.base_tables.specs.Table.{is_among}
use Rattle.base_tables.proofs.TableLemmas.{not_before, take-push}
use Rattle.net_names.proofs.new_names.add_input_names.Goals as goal

pub loop-s-preserved : goal.loop-s-preserved
loop-s-preserved c =
    let n = c.args.net.now in
    let s = c.loop-s.s in
    let name = c.name.result.now in
    let fresh : is_among c.loop-s.names name ≡ false = ap (λ (ns : List (List ℕ)). is_among ns name) c.loop-s.invariant ∙ not_before n.names s name c.keeps.ensures.sound.distinct c.name.ensures in
    c.in_ok-add.ensures.ok ∙ ap (λ (b : Bool). cond b c.loop-s.names (c.loop-s.names ++ name ∷ [])) fresh ∙ ap (λ (ns : List (List ℕ)). ns ++ name ∷ []) c.loop-s.invariant ∙ take-push n.names s name c.name.ensures
