-- Two ands load, have clauses, and these and their refutation are printed.
use Rattle.std.specs.Prelude.{codes}
use Rattle.std.specs.Fmt.{digits}
use Rattle.std.specs.List.{sum_by}
use Rattle.std.proofs.Common.{◌≡◌, ◌∙◌, ℕ, zero, suc, ◌≤◌, Bool, true, false, List, [], ◌∷◌, slice_get, Some, refl, sym, ap, subst, arith, inl, inr}
use Rattle.std.proofs.lemmas.List.Elements.{All-from_recursion}
use Rattle.std.proofs.lemmas.Option.{none-some}
use Rattle.circuit_theory.specs.Asked.{HaveEqualFunctions}
use Rattle.circuit_theory.specs.Cover.{Cover, cover_value}
use Rattle.circuit_theory.specs.Interface.{AreNumbersOf}
use Rattle.circuit_theory.specs.Net.{IsNet}
use Rattle.circuit_theory.specs.Sizes.{Weighed}
use Rattle.circuit_theory.specs.Tree.{Tree, Unfolds, tree_value}
use Rattle.circuit_theory.proofs.Lists.{of_at}
use Rattle.circuit_theory.proofs.Numbers.{one_number}
use Rattle.circuit_laws.proofs.OneTree.{one_tree}
use Rattle.sec_base.specs.Cover.{IsPlace, IsCube, IsCoverSound}
use Rattle.blif_read.specs.declared.design.BlifModel.{BlifModel}
use Rattle.flat_net.specs.View.{NetView, circuit_of}
use Rattle.flatten.specs.DesignFaults.{IsFlatOf}
use Rattle.proof_check.specs.declared.derivation.Chain.{Chain}
use Rattle.proof_check.specs.Chains.{LogDerives}
use Rattle.proof_check.specs.Clauses.{Unsatisfiable}
use Rattle.lrat_core.specs.certificate_writer.Texts.{SpellsClauses, IsAcceptedOver, formula_for}
use Rattle.lrat_core.specs.Hints.{HintsGive}
use Rattle.lrat_core.specs.Sequences.{AdditionGives}
use Rattle.lrat_core.specs.lrat_text.Verdicts.{TextGives}
use Rattle.lrat_core.proofs.lrat_text.Texts.{accepted_sound}
use Rattle.outcome_fits.specs.Fitting.{IsLight}
use Rattle.outcome_fits.specs.Outcome.{HaveDifferentFunctions}
use Rattle.job_base.specs.sec_files.Formats.{Format, IsNetIn}
use Rattle.job_base.specs.sec_files.Loading.{Loads}
use Rattle.job_base.specs.declared.finding.Finding.TheVariants as finding
use Rattle.job_base.specs.declared.status.StatusName.TheVariants as status
use Rattle.job_cert.specs.pair_clauses.Clauses.{ArePairClauses, CanBeUnfolded, TellDifference}
use Rattle.job_cert.specs.Made.{Refutes, IsMadeBy}
use Rattle.job_cert.proofs.Means.{cert_means}
use Rattle.job_cert.proofs.pair_clauses.OneText.{have_one_text_encoding}
use Rattle.pair_texts.specs.check_texts.Texts.{AreComparable}
use Rattle.pair_texts.specs.design_rows.Designs as design
use Rattle.pair_texts.specs.design_rows.Small.{Small, small_and}
use Rattle.pair_texts.specs.design_rows.Texts.{on_and, off_and}
use Rattle.pair_texts.proofs.design_rows.Spelling.{Spells, accepted}
use Rattle.pair_texts.proofs.design_rows.SpelledTexts.{on_and_spells, off_and_spells}
use Rattle.call_rows.proofs.circuit_samples.NetTest.{numbers_distinct-sound}
use Rattle.premise_rows.specs.event_limit_premises.AtLimit.{is, isnt}
use Rattle.premise_rows.specs.certificate_premises.OneGraph.{on_cover, off_cover, and_by, and_tree, and_clauses}
use Rattle.premise_rows.specs.certificate_premises.Printed.{printed_clauses, printed_refutation, of_output, SaysOfAnds, CertificatesOfAnds}
use Rattle.premise_rows.proofs.Examples.{ands_are_comparable}
use Rattle.premise_rows.proofs.block_premises.TurningNets.{each}
use Rattle.premise_rows.proofs.job_rows.Writing.{resolvent, clause, writable}
use Rattle.premise_rows.proofs.job_rows.Refutations.{single}
use Rattle.premise_rows.proofs.certificate_premises.AndNets.{and_is_flat, and_weighs, spots}
use Rattle.premise_rows.proofs.certificate_premises.Clauses.{encoded}
use Rattle.premise_rows.proofs.certificate_premises.Fitting.{certificates_fit}
use Rattle.premise_rows.proofs.certificate_premises.OneGraph.{unfolds, is_net}
use Rattle.premise_rows.proofs.certificate_premises.OneTree.{a_isnt_b, b_isnt_a}

on_sound : IsCoverSound on_cover
on_sound = record { cubes = All-from_recursion (IsCube 2) on_cover.rows ((refl, All-from_recursion IsPlace (codes "11") (inr (inl refl), (inr (inl refl), tt))), tt); empty_is_on = λ e. refl }

off_sound : IsCoverSound off_cover
off_sound = record {
  cubes = All-from_recursion (IsCube 2) off_cover.rows ((refl, All-from_recursion IsPlace (codes "0-") (inl refl, (inr (inr refl), tt))), ((refl, All-from_recursion IsPlace (codes "-0") (inr (inr refl), (inl refl, tt))), tt));
  empty_is_on = λ e. absurd (cc);
}

-- a net of the design that the text spells
loads : (text : List ℕ) (models : List BlifModel) (s : Small) (net : NetView) → Spells text models s → IsFlatOf models net → Loads text net
loads text models s net p flat = record {
  accepted = accepted text models s p;
  flat = subst (λ (f : Format). IsNetIn f text net) (sym p.format) (subst (λ (ms : List BlifModel). IsFlatOf ms net) (sym p.models_are) flat);
}

abbrev on_net : NetView
on_net = and_by on_cover

abbrev off_net : NetView
off_net = and_by off_cover

left_loads : Loads on_and on_net
left_loads = loads on_and design.on_and small_and on_net on_and_spells (and_is_flat on_cover on_sound refl)

right_loads : Loads off_and off_net
right_loads = loads off_and design.off_and (record small_and { weight = 9 }) off_net off_and_spells (and_is_flat off_cover off_sound refl)

-- nothing keeps the nets from being compared
left_light : IsLight on_net
left_light = (sum_by (λ (x : Weighed ℕ). x.weight) (spots on_cover on_sound refl), and_weighs on_cover on_sound refl, few)
  where
    few : sum_by (λ (x : Weighed ℕ). x.weight) (spots on_cover on_sound refl) ≤ 2000000
    few = let is : sum_by (λ (x : Weighed ℕ). x.weight) (spots on_cover on_sound refl) ≡ 6 = refl in omega (arith, is)

right_light : IsLight off_net
right_light = (sum_by (λ (x : Weighed ℕ). x.weight) (spots off_cover off_sound refl), and_weighs off_cover off_sound refl, few)
  where
    few : sum_by (λ (x : Weighed ℕ). x.weight) (spots off_cover off_sound refl) ≤ 2000000
    few = let is : sum_by (λ (x : Weighed ℕ). x.weight) (spots off_cover off_sound refl) ≡ 9 = refl in omega (arith, is)

unfolded : CanBeUnfolded on_net off_net
unfolded =
    let c : AreComparable on_and off_and false false = ands_are_comparable false in
    let broken = c.broken on_net off_net left_loads right_loads in
    record { matches = c.match on_net off_net left_loads right_loads; left_acyclic = broken.0; right_acyclic = broken.1; left_light = left_light; right_light = right_light }

-- both share a and b, in this order
abbrev both_inputs : List (List ℕ)
both_inputs = codes "a" ∷ codes "b" ∷ []

abbrev Common : ℕ → List ℕ → Type 0
Common k name = (i : ℕ) → slice_get both_inputs i ≡ Some name → slice_get (0 ∷ 1 ∷ []) k ≡ Some i

common_a : Common 0 (codes "a")
common_a zero h = refl
common_a (suc zero) h = absurd (b_isnt_a h)
common_a (suc (suc i)) h = absurd (none-some (codes "a") h)

common_b : Common 1 (codes "b")
common_b zero h = absurd (a_isnt_b h)
common_b (suc zero) h = refl
common_b (suc (suc i)) h = absurd (none-some (codes "b") h)

numbers : AreNumbersOf both_inputs both_inputs (0 ∷ 1 ∷ []) (0 ∷ 1 ∷ [])
numbers = record {
  each = refl;
  distinct = numbers_distinct-sound (0 ∷ 1 ∷ []) refl;
  common = λ k i name at h. each Common both_inputs (common_a, (common_b, tt)) k name at i h;
  left_out = λ k i name at out is. absurd (out (of_at both_inputs k name at));
}

-- the functions are equal
same_value : (x y : Bool) → cover_value on_cover (x ∷ y ∷ []) ≡ cover_value off_cover (x ∷ y ∷ [])
unfolding cover_value
same_value true true = refl
same_value true false = refl
same_value false true = refl
same_value false false = refl

same : (bits : ℕ → ℕ → Bool) → tree_value bits (and_tree on_cover) ≡ tree_value bits (and_tree off_cover)
unfolding tree_value
same bits = same_value (bits 0 0) (bits 1 0)

equal : HaveEqualFunctions (circuit_of on_net) (circuit_of off_net) (0 ∷ 1 ∷ []) (0 ∷ 1 ∷ []) 2 2
equal = record { left_tree = and_tree on_cover; right_tree = and_tree off_cover; left_unfolds = (0, unfolds on_cover); right_unfolds = (0, unfolds off_cover); same = λ bits care. same bits }

the_tree : (cover : Cover) (depth : ℕ) (tree : Tree ℕ) → Unfolds (circuit_of (and_by cover)) (0 ∷ 1 ∷ []) 2 0 depth tree → tree ≡ and_tree cover
the_tree cover depth tree u =
    let net : IsNet (circuit_of (and_by cover)) 3 = is_net cover in
    (one_tree (circuit_of (and_by cover)) (0 ∷ 1 ∷ []) net.single (λ p i j x y. one_number (circuit_of (and_by cover)).inputs (0 ∷ 1 ∷ []) net.inputs p i j x y) u (unfolds cover)).0

never_differ : HaveDifferentFunctions (circuit_of on_net) (circuit_of off_net) (0 ∷ 1 ∷ []) (0 ∷ 1 ∷ []) 2 2 → ⊥
never_differ h =
    let l = the_tree on_cover h.left_unfolds.0 h.left_tree h.left_unfolds.1 in
    let r = the_tree off_cover h.right_unfolds.0 h.right_tree h.right_unfolds.1 in
    h.differ (ap (tree_value h.bits) l ∙ (same h.bits ∙ sym (ap (tree_value h.bits) r)))

-- the refutation: the last clause but one is resolved with the last
abbrev log : List Chain
log = record { start = 5; steps = record { pivot = 4; clause = 6 } ∷ [] } ∷ []

derives : LogDerives and_clauses.clauses log ([] ∷ [])
derives = (
  [],
  [],
  (
    is 4 ∷ [],
    refl,
    (
      [],
      (
        isnt 4 ∷ [],
        refl,
        resolvent (is 4 ∷ []) (isnt 4 ∷ []) [] (is 4) (clause (is 4 ∷ []) (tt, tt)) (clause (isnt 4 ∷ []) (tt, tt)) (clause [] tt) (0, omega arith, refl) (0, omega arith, refl) tt ((λ n. absurd (n refl)), tt) ((λ n. absurd (n refl)), tt),
      ),
      refl,
    ),
  ),
  refl,
  refl,
)

is_accepted : IsAcceptedOver and_clauses printed_refutation
is_accepted = (1, TextGives.last refl (AdditionGives.above (omega arith) (HintsGive.unit refl (single (isnt 4)) (HintsGive.conflict refl (λ l h. h)))) refl)

refutes : Refutes 20000 and_clauses printed_refutation
unfolding digits
refutes = record { log = log; few = omega arith; lines = record { derived = [] ∷ []; derives = derives; text_is = refl }; accepted = is_accepted }

unmet : Unsatisfiable and_clauses.clauses
unmet = accepted_sound (formula_for and_clauses) printed_refutation is_accepted.0 is_accepted.1

tell : TellDifference (circuit_of on_net) (circuit_of off_net) (0 ∷ 1 ∷ []) (0 ∷ 1 ∷ []) 2 2 and_clauses
tell = record {
  exactly = (λ met. absurd (unmet met.0 met.1), λ h. absurd (never_differ h));
  equal = λ none. equal;
  small = record {
    variables = omega arith;
    clauses = omega arith;
    range = (writable 4 and_clauses.clauses (omega arith) (omega arith) (
      ((omega arith, omega arith), tt),
      (
        ((omega arith, omega arith), ((omega arith, omega arith), tt)),
        (
          ((omega arith, omega arith), ((omega arith, omega arith), tt)),
          (
            ((omega arith, omega arith), ((omega arith, omega arith), ((omega arith, omega arith), tt))),
            (((omega arith, omega arith), tt), (((omega arith, omega arith), tt), (((omega arith, omega arith), tt), tt))),
          ),
        ),
      ),
    )).range;
  };
  few = omega arith;
}

clauses : ArePairClauses on_net off_net (codes "y") and_clauses
clauses = record {
  unfolded = unfolded;
  left = 0 ∷ 1 ∷ [];
  right = 0 ∷ 1 ∷ [];
  left_numbers = numbers;
  right_numbers = numbers;
  left_place = 2;
  right_place = 2;
  left_output = (0, omega arith, refl);
  right_output = (0, omega arith, refl);
  encoded = encoded;
  tell = tell;
}

spells : SpellsClauses and_clauses printed_clauses
unfolding digits
spells = (refl, refl)

-- what both calls say
says : (refuted : Bool) (text : List ℕ) → IsMadeBy refuted 20000 and_clauses (finding.Done text) → SaysOfAnds refuted text
says refuted text made =
    cert_means (of_output refuted) (Some on_and) (Some off_and) (Some []) (Some text) (finding.Done text) [] status.Done
    (record { a = on_net; b = off_net; left_loads = left_loads; right_loads = right_loads; said = record { cnf = and_clauses; clauses = clauses; made = made } }) (refl, refl, refl)

printed : SaysOfAnds false printed_clauses
printed = says false printed_clauses spells

refuted : SaysOfAnds true printed_refutation
refuted = says true printed_refutation refutes

pub certificates_of_ands : CertificatesOfAnds
certificates_of_ands = record {
  left_loads = left_loads;
  right_loads = right_loads;
  clauses = clauses;
  one = λ a b cnf la lb other. have_one_text_encoding on_and off_and (codes "y") a b on_net off_net cnf and_clauses la lb left_loads right_loads other clauses;
  printed = printed;
  refuted = refuted;
  fit = certificates_fit on_and off_and (codes "y") 20000 20000 (Some []) (Some printed_clauses) (Some []) (Some printed_refutation) [] [] printed refuted;
}
