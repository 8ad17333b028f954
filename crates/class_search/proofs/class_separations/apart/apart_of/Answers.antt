-- The member of the class, and the value of its enable.
use Rattle.std.proofs.Common.{◌≡◌, ◌≢◌, ◌∙◌, ◌*◌, ◌<◌, ℕ, List, [], ◌∷◌, length, Some, refl, sym, ap, subst, arith}
use Rattle.std.specs.List.{AllPairs}
use Rattle.std.proofs.lemmas.Option.{slice_get-get_or, slice_get_within}
use Rattle.class_search.proofs.flat_net.Places.{one_at}
use Rattle.aig.specs.declared.node.Node.{Node}
use Rattle.aig.specs.Values.{value}
use Rattle.aig.specs.lane_eval.Tables.{Covers}
use Rattle.pair_decide.specs.Queries.{assigned_to}
use Rattle.class_search.specs.declared.compare.Enable.{Enable}
use Rattle.class_search.proofs.class_separations.apart.apart_of.Goals as goal

pub value_in_cone-requires : goal.value_in_cone-requires
value_in_cone-requires c =
    let here = slice_get-get_or c.args.class.now.enables.items c.args.told.now.member c.index-enable.result.now (slice_get_within c.args.class.now.enables.items c.args.told.now.member c.requires.enable c.requires.enable_at) ∙ ap Some (sym c.index-enable.ensures) in
    let same : c.requires.enable ≡ c.index-enable.result.now = one_at c.args.class.now.enables.items c.args.told.now.member c.requires.enable c.index-enable.result.now c.requires.enable_at here in
    record {
      literal = subst (λ (g : List Node). c.index-enable.result.now.value.0 < 2 * length g) (sym c.aig.ensures) (subst (λ (x : Enable). x.value.0 < 2 * length c.args.events.now.graph) same c.requires.within);
      each = ap length c.as_slice-bits.ensures ∙ c.requires.each ∙ sym (ap length c.as_slice-vars.ensures);
      distinct = subst (AllPairs (λ (u v : ℕ). u ≢ v)) (sym c.as_slice-vars.ensures) c.requires.distinct;
      covers = subst (λ (g : List Node). Covers g (c.index-enable.result.now.value.0 ∷ []) c.as_slice-vars.result.now) (sym c.aig.ensures)
          (subst (Covers c.args.events.now.graph (c.index-enable.result.now.value.0 ∷ [])) (sym c.as_slice-vars.ensures) (subst (λ (x : Enable). Covers c.args.events.now.graph (x.value.0 ∷ []) c.args.told.now.difference.vars) same c.requires.covers));
    }

pub returns : goal.returns
returns c =
    let here = slice_get-get_or c.args.class.now.enables.items c.args.told.now.member c.index-enable.result.now (slice_get_within c.args.class.now.enables.items c.args.told.now.member c.requires.enable c.requires.enable_at) ∙ ap Some (sym c.index-enable.ensures) in
    let same : c.requires.enable ≡ c.index-enable.result.now = one_at c.args.class.now.enables.items c.args.told.now.member c.requires.enable c.index-enable.result.now c.requires.enable_at here in
    let named = slice_get-get_or c.args.class.now.tags.items c.args.told.now.member c.index.result.now (slice_get_within c.args.class.now.tags.items c.args.told.now.member c.requires.tag c.requires.tag_at) ∙ ap Some (sym c.index.ensures) in
    record {
      tag = c.requires.tag;
      enable = c.requires.enable;
      tag_at = c.requires.tag_at;
      enable_at = c.requires.enable_at;
      low = ap Some (sym (one_at c.args.class.now.tags.items c.args.told.now.member c.requires.tag c.index.result.now c.requires.tag_at named));
      high = refl;
      vars = c.in_ok-vars.ensures;
      bits = c.in_ok-bits.ensures;
      left = c.in_ok-left.ensures ∙ (λ i. value (c.aig.ensures i) (assigned_to (c.as_slice-vars.ensures i) (c.as_slice-bits.ensures i)) ((sym same i).value.0));
      right = refl;
    }

pub index-requires : goal.index-requires
index-requires c = let inside = slice_get_within c.args.class.now.tags.items c.args.told.now.member c.requires.tag c.requires.tag_at in omega (arith, inside, c.args.class.now.tags.ok)

pub index-enable-requires : goal.index-enable-requires
index-enable-requires c = let inside = slice_get_within c.args.class.now.enables.items c.args.told.now.member c.requires.enable c.requires.enable_at in omega (arith, inside, c.args.class.now.enables.ok)
