use Rattle.std.proofs.Common.{◌+◌, ℕ, List, [], ◌∷◌, ◌++◌, map, option_map, length, Some, None, sym, ◌∙◌, ap, ap₂, subst, subst₂, refl}
use Rattle.std.specs.List.{list_any}
use Rattle.std.proofs.lemmas.Result.{err_from_is_err_and}
use Rattle.blif_read.specs.declared.design.BlifModel.{BlifModel}
use Rattle.blif_read.specs.declared.design.Pair.{Pair}
use Rattle.blif_read.specs.declared.design.Statement.{Statement}
use Rattle.blif_read.specs.declared.design.Statement.TheVariants.{Names, Latch}
use Rattle.blif_read.specs.Kept.{model_names, names_in_option}
use Rattle.blif_read.specs.Design.{Inside}
use Rattle.elaborate.specs.declared.walked.Walked.{Walked}
use Rattle.elaborate.specs.Flat.{FlatOf, gate, latch, cover_at}
use Rattle.elaborate.specs.Walking.{main_name}
use Rattle.elaborate.specs.Steps.{visits, heads}
use Rattle.elaborate.specs.Scopes.{path_of, IsInside, GoesInside, instance_at, pairs_at, is_long_behind}
use Rattle.elaborate.specs.State.{state, Adds}
use Rattle.elaborate.proofs.Scoped.{plain_taken, plain_refused, gate_spelled, latch_spelled, gate_more, latch_more}
use Rattle.elaborate.proofs.hierarchy.take.Goals as goal

pub returns-in_err-take_gate-in-Names-clause-err : goal.returns-in_err-take_gate-in-Names-clause-err
returns-in_err-take_gate-in-Names-clause-err c =
    let p = err_from_is_err_and c.from_residual.result c.from_residual.ensures.1 in
    let path : List Inside = path_of (model_names c.args.models.now) c.args.scope.now in
    let prefix : List ℕ = c.as_slice-prefix.result.now in
    rw (p.1, p.2) (λ ne.
    ap (λ (s : Statement). visits (main_name c.args.models.now) (state c.args.models.now c.args.walked.now) (heads c.args.models.now path c.args.instance s)) c.in-Names.is
    ∙ plain_refused c.args.models.now (main_name c.args.models.now) path prefix (Names c.in-Names.line c.in-Names.fanins c.in-Names.out c.in-Names.cover) c.args.walked.now
    (length c.as_slice.result.now + 1) (list_any (is_long_behind (length prefix)) (c.as_slice.result.now ++ c.as_slice-in-Names.result.now ∷ [])) c.in_err-take_gate-in-Names.field-0.0 (c.as_slice-prefix.ensures ∙ c.requires.scope.prefix_is)
    (gate_more c.in-Names.fanins c.as_slice.result.now c.in-Names.out c.as_slice.ensures)
    (ap₂ (λ (fs : List (List ℕ)) (o : List ℕ). list_any (is_long_behind (length prefix)) (fs ++ o ∷ [])) c.as_slice.ensures c.as_slice-in-Names.ensures)
    (c.in_err-take_gate-in-Names.ensures.err ne))

pub returns-in_err-take_latch-in-Latch-clause-err : goal.returns-in_err-take_latch-in-Latch-clause-err
returns-in_err-take_latch-in-Latch-clause-err c =
    let p = err_from_is_err_and c.from_residual-in_err-take_latch-in-Latch.result c.from_residual-in_err-take_latch-in-Latch.ensures.1 in
    let path : List Inside = path_of (model_names c.args.models.now) c.args.scope.now in
    let prefix : List ℕ = c.as_slice-prefix.result.now in
    rw (p.1, p.2) (λ ne.
    ap (λ (s : Statement). visits (main_name c.args.models.now) (state c.args.models.now c.args.walked.now) (heads c.args.models.now path c.args.instance s)) c.in-Latch.is
    ∙ plain_refused c.args.models.now (main_name c.args.models.now) path prefix (Latch c.in-Latch.line c.in-Latch.input c.in-Latch.output c.in-Latch.edge c.in-Latch.control c.in-Latch.init) c.args.walked.now
    (2 + length (names_in_option c.in-Latch.control)) (list_any (is_long_behind (length prefix)) (c.as_slice-in-Latch.result.now ∷ c.as_slice-in-Latch-2.result.now ∷ names_in_option c.in-Latch.control)) c.in_err-take_latch-in-Latch.field-0.0 (c.as_slice-prefix.ensures ∙ c.requires.scope.prefix_is)
    (latch_more c.in-Latch.input c.in-Latch.output (names_in_option c.in-Latch.control))
    (ap₂ (λ (i o : List ℕ). list_any (is_long_behind (length prefix)) (i ∷ o ∷ names_in_option c.in-Latch.control)) c.as_slice-in-Latch.ensures c.as_slice-in-Latch-2.ensures)
    (c.in_err-take_latch-in-Latch.ensures.err ne))

pub returns-in_err-take_instance-in-Subckt-clause-err : goal.returns-in_err-take_instance-in-Subckt-clause-err
returns-in_err-take_instance-in-Subckt-clause-err c =
    let p = err_from_is_err_and c.from_residual-in_err-take_instance-in-Subckt.result c.from_residual-in_err-take_instance-in-Subckt.ensures.1 in
    let path : List Inside = path_of (model_names c.args.models.now) c.args.scope.now in
    rw (p.1, p.2) (λ ne.
    ap (λ (s : Statement). visits (main_name c.args.models.now) (state c.args.models.now c.args.walked.now) (heads c.args.models.now path c.args.instance s)) c.in-Subckt.is
    ∙ sym (ap₂ (λ (n : List ℕ) (ps : List Pair). visits (main_name c.args.models.now) (state c.args.models.now c.args.walked.now) (instance_at c.args.models.now c.args.scope.now c.args.instance n ps ∷ pairs_at c.args.models.now c.args.scope.now c.args.instance n ps)) c.as_slice-in-Subckt.ensures c.as_slice-in-Subckt-2.ensures)
    ∙ c.in_err-take_instance-in-Subckt.ensures.err ne)

pub returns-in_ok-take_gate-in-Names-clause-ok : goal.returns-in_ok-take_gate-in-Names-clause-ok
returns-in_ok-take_gate-in-Names-clause-ok c =
    let path : List Inside = path_of (model_names c.args.models.now) c.args.scope.now in
    let prefix : List ℕ = c.as_slice-prefix.result.now in
    let counted : Walked = record c.args.walked.now { count = c.args.walked.now.count + 1; places = c.args.walked.now.places + (length c.as_slice.result.now + 1) } in
    let flat : List BlifModel → FlatOf (List ℕ) = λ models. record { out = prefix ++ c.in-Names.out; reads = map (λ name. prefix ++ name) c.in-Names.fanins; kind = gate (cover_at models c.args.scope.now.model c.args.at) } in
    ap (λ (s : Statement). visits (main_name c.args.models.now) (state c.args.models.now c.args.walked.now) (heads c.args.models.now path c.args.instance s)) c.in-Names.is
    ∙ plain_taken c.args.models.now (main_name c.args.models.now) path prefix (Names c.in-Names.line c.in-Names.fanins c.in-Names.out c.in-Names.cover) c.args.walked.now counted c.take_gate.new.self
    (length c.as_slice.result.now + 1) (list_any (is_long_behind (length prefix)) (c.as_slice.result.now ++ c.as_slice-in-Names.result.now ∷ [])) flat (c.as_slice-prefix.ensures ∙ c.requires.scope.prefix_is)
    (gate_more c.in-Names.fanins c.as_slice.result.now c.in-Names.out c.as_slice.ensures)
    (ap₂ (λ (fs : List (List ℕ)) (o : List ℕ). list_any (is_long_behind (length prefix)) (fs ++ o ∷ [])) c.as_slice.ensures c.as_slice-in-Names.ensures)
    c.in_ok-take_gate-in-Names.ensures.ok refl
    (subst₂ (λ (fs : List (List ℕ)) (o : List ℕ). Adds (λ models. record { out = prefix ++ o; reads = map (λ name. prefix ++ name) fs; kind = gate (cover_at models c.args.scope.now.model c.args.at) } ∷ []) counted c.take_gate.new.self)
    c.as_slice.ensures c.as_slice-in-Names.ensures c.in_ok-take_gate-in-Names.ensures.adds)
    (gate_spelled c.args.models.now path prefix c.args.scope.now.model c.args.at c.in-Names.line c.in-Names.fanins c.in-Names.out c.in-Names.cover (c.as_slice-prefix.ensures ∙ c.requires.scope.prefix_is) (c.requires.here ∙ ap Some c.in-Names.is))

pub returns-in_ok-take_latch-in-Latch-clause-ok : goal.returns-in_ok-take_latch-in-Latch-clause-ok
returns-in_ok-take_latch-in-Latch-clause-ok c =
    let path : List Inside = path_of (model_names c.args.models.now) c.args.scope.now in
    let prefix : List ℕ = c.as_slice-prefix.result.now in
    let more : ℕ = 2 + length (names_in_option c.in-Latch.control) in
    let counted : Walked = record c.args.walked.now { count = c.args.walked.now.count + 1; places = c.args.walked.now.places + (2 + length (names_in_option c.in-Latch.control)) } in
    let flat : List BlifModel → FlatOf (List ℕ) = λ models. record { out = prefix ++ c.in-Latch.output; reads = (prefix ++ c.in-Latch.input) ∷ []; kind = latch c.in-Latch.edge (option_map (λ word. prefix ++ word) c.in-Latch.control) c.in-Latch.init } in
    ap (λ (s : Statement). visits (main_name c.args.models.now) (state c.args.models.now c.args.walked.now) (heads c.args.models.now path c.args.instance s)) c.in-Latch.is
    ∙ plain_taken c.args.models.now (main_name c.args.models.now) path prefix (Latch c.in-Latch.line c.in-Latch.input c.in-Latch.output c.in-Latch.edge c.in-Latch.control c.in-Latch.init) c.args.walked.now counted c.take_latch.new.self
    more (list_any (is_long_behind (length prefix)) (c.as_slice-in-Latch.result.now ∷ c.as_slice-in-Latch-2.result.now ∷ names_in_option c.in-Latch.control)) flat (c.as_slice-prefix.ensures ∙ c.requires.scope.prefix_is)
    (latch_more c.in-Latch.input c.in-Latch.output (names_in_option c.in-Latch.control))
    (ap₂ (λ (i o : List ℕ). list_any (is_long_behind (length prefix)) (i ∷ o ∷ names_in_option c.in-Latch.control)) c.as_slice-in-Latch.ensures c.as_slice-in-Latch-2.ensures)
    c.in_ok-take_latch-in-Latch.ensures.ok refl
    (subst₂ (λ (i o : List ℕ). Adds (λ models. record { out = prefix ++ o; reads = (prefix ++ i) ∷ []; kind = latch c.in-Latch.edge (option_map (λ word. prefix ++ word) c.in-Latch.control) c.in-Latch.init } ∷ []) counted c.take_latch.new.self)
    c.as_slice-in-Latch.ensures c.as_slice-in-Latch-2.ensures c.in_ok-take_latch-in-Latch.ensures.adds)
    (latch_spelled path prefix c.in-Latch.line c.in-Latch.input c.in-Latch.output c.in-Latch.edge c.in-Latch.control c.in-Latch.init (c.as_slice-prefix.ensures ∙ c.requires.scope.prefix_is))

pub returns-in_ok-take_instance-in-Subckt-clause-inside : goal.returns-in_ok-take_instance-in-Subckt-clause-inside
returns-in_ok-take_instance-in-Subckt-clause-inside c =
    subst (λ (s : Statement). GoesInside c.args.models.now c.args.scope.now c.args.instance s (Some c.in_ok-take_instance-in-Subckt.field-0)) (sym c.in-Subckt.is)
    (c.in_ok-take_instance-in-Subckt.field-0, refl, subst (λ (n : List ℕ). IsInside c.args.models.now c.args.scope.now c.args.instance n c.in_ok-take_instance-in-Subckt.field-0) c.as_slice-in-Subckt.ensures c.in_ok-take_instance-in-Subckt.ensures.inside)

pub returns-in_ok-take_instance-in-Subckt-clause-ok : goal.returns-in_ok-take_instance-in-Subckt-clause-ok
returns-in_ok-take_instance-in-Subckt-clause-ok c =
    let path : List Inside = path_of (model_names c.args.models.now) c.args.scope.now in
    ap (λ (s : Statement). visits (main_name c.args.models.now) (state c.args.models.now c.args.walked.now) (heads c.args.models.now path c.args.instance s)) c.in-Subckt.is
    ∙ sym (ap₂ (λ (n : List ℕ) (ps : List Pair). visits (main_name c.args.models.now) (state c.args.models.now c.args.walked.now) (instance_at c.args.models.now c.args.scope.now c.args.instance n ps ∷ pairs_at c.args.models.now c.args.scope.now c.args.instance n ps)) c.as_slice-in-Subckt.ensures c.as_slice-in-Subckt-2.ensures)
    ∙ c.in_ok-take_instance-in-Subckt.ensures.ok

pub returns-in_ok-take_gate-in-Names-clause-kept : goal.returns-in_ok-take_gate-in-Names-clause-kept
returns-in_ok-take_gate-in-Names-clause-kept c = c.in_ok-take_gate-in-Names.ensures.kept

pub returns-in_ok-take_latch-in-Latch-clause-kept : goal.returns-in_ok-take_latch-in-Latch-clause-kept
returns-in_ok-take_latch-in-Latch-clause-kept c = c.in_ok-take_latch-in-Latch.ensures.kept

pub returns-in_ok-take_instance-in-Subckt-clause-kept : goal.returns-in_ok-take_instance-in-Subckt-clause-kept
returns-in_ok-take_instance-in-Subckt-clause-kept c = c.in_ok-take_instance-in-Subckt.ensures.kept

pub returns-in_ok-take_gate-in-Names-clause-inside : goal.returns-in_ok-take_gate-in-Names-clause-inside
returns-in_ok-take_gate-in-Names-clause-inside c = subst (λ (s : Statement). GoesInside c.args.models.now c.args.scope.now c.args.instance s None) (sym c.in-Names.is) refl

pub returns-in_ok-take_latch-in-Latch-clause-inside : goal.returns-in_ok-take_latch-in-Latch-clause-inside
returns-in_ok-take_latch-in-Latch-clause-inside c = subst (λ (s : Statement). GoesInside c.args.models.now c.args.scope.now c.args.instance s None) (sym c.in-Latch.is) refl
