use Rattle.std.proofs.Common.{◌≡◌, ◌∙◌, List, ℕ, sym, ap, subst, Some, slice_get}
use Rattle.std.specs.List.{Contains}
use Rattle.std.proofs.lemmas.Option.{get_or_from_slice_get}
use Rattle.base_tables.specs.Table.{AreDistinct}
use Rattle.circuit_theory.specs.declared.Side.TheVariants.{B}
use Rattle.circuit_theory.proofs.Lists.{map_at}
use Rattle.net_names.specs.Renamed.{name_on, new_name}
use Rattle.net_names.specs.declared.latch_pairs.LatchPair.{LatchPair}
use Rattle.net_names.proofs.Renamings.{own_name, paired_name}
use Rattle.net_names.proofs.latch_pairs.LatchPairs.new_name.Goals as goal

pub returns-in-Some : goal.returns-in-Some
returns-in-Some c =
    let pairs = c.self.inside.pairs.items in
    let id = c.in-Some.id in
    let name = c.args.name.now in
    let there = subst (λ (ns : List (List ℕ)). slice_get ns id ≡ Some name) c.self.invariant.1 c.in-Some.ensures.here in
    let p = map_at (name_on B) pairs id name there in
    let once = subst AreDistinct c.self.invariant.1 c.keeps.ensures in
    let item : c.index.result.now ≡ p.0 = c.index.ensures ∙ get_or_from_slice_get pairs id p.0 c.index.result.now p.1 in
    c.as_slice.ensures ∙ ap (λ (x : LatchPair). x.left) item ∙ sym (paired_name pairs id p.0 once p.1) ∙ ap (new_name pairs) p.2 ∙ ap (λ (ps : List LatchPair). new_name ps name) c.self.view_is

pub returns-in-None : goal.returns-in-None
returns-in-None c =
    let pairs = c.self.inside.pairs.items in
    let name = c.args.name.now in
    sym (own_name pairs name (λ h. c.in-None.ensures.absent (subst (λ (ns : List (List ℕ)). Contains ns name) (sym c.self.invariant.1) h)))
    ∙ ap (λ (ps : List LatchPair). new_name ps name) c.self.view_is
