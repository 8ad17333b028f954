use Rattle.std.proofs.Common.{◌≡◌, ◌+◌, ℕ, List, ◌∷◌, [], ◌++◌, false, map, drop, length, length-append, sym, ◌∙◌, ap, refl, if◌then◌else◌}
use Rattle.std.proofs.lemmas.Option.{slice_get_read}
use Rattle.base_tables.specs.Table.{is_among}
use Rattle.blif_read.specs.declared.design.BlifModel.{BlifModel}
use Rattle.blif_read.specs.Fault.{repeats}
use Rattle.elaborate.proofs.Tabled.{names_push, formals_push}
use Rattle.elaborate.proofs.Checked.{rest_at, map_more}
use Rattle.elaborate.proofs.tables.tables_of.Goals as goal

pub loop-model-preserved : goal.loop-model-preserved
loop-model-preserved c =
    let models : List BlifModel = c.args.models.now in
    let i : ℕ = c.loop-model.model-index in
    let m : BlifModel = c.model-item.result in
    let split : drop i models ≡ m ∷ drop (i + 1) models = rest_at models i m c.loop-model-test.true c.model-item.is in
    let apart : repeats c.loop-model.names (m.name ∷ map (λ (x : BlifModel). x.name) (drop (i + 1) models)) ≡ false =
    ap (λ (xs : List BlifModel). repeats c.loop-model.names (map (λ (x : BlifModel). x.name) xs)) (sym split) ∙ c.loop-model.invariant.apart in
    let added : c.add.new.self ≡ (if is_among c.loop-model.names m.name then c.loop-model.names else c.loop-model.names ++ m.name ∷ []) =
    c.in_ok-add.ensures.ok ∙ ap (λ (n : List ℕ). if is_among c.loop-model.names n then c.loop-model.names else c.loop-model.names ++ n ∷ []) c.as_slice.ensures in
    let step = names_push (map (λ (x : BlifModel). x.name) (drop (i + 1) models)) c.loop-model.names c.add.new.self m.name apart added in
    let pushed : c.push.new.self.items ≡ c.loop-model.formals.items ++ c.in_ok-formals_of.field-0 ∷ [] = c.in_ok-push.ensures.items in
    record {
      names = map_more (λ (x : BlifModel). x.name) models i m c.loop-model.names c.add.new.self c.loop-model-test.true c.model-item.is c.loop-model.invariant.names step.0;
      apart = step.1;
      many = ap length pushed ∙ length-append c.loop-model.formals.items (c.in_ok-formals_of.field-0 ∷ []) ∙ ap (λ (n : ℕ). n + 1) c.loop-model.invariant.many;
      each = formals_push models c.loop-model.formals.items c.push.new.self.items c.in_ok-formals_of.field-0 m i (slice_get_read models (length models) i m refl c.loop-model-test.true c.model-item.is) c.loop-model.invariant.many pushed c.in_ok-formals_of.ensures c.loop-model.invariant.each;
    }
