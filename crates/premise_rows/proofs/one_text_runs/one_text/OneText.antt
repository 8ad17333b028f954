-- A text that is compared with itself is equal: both nets are one, so that each pair has one tree.
use Rattle.std.proofs.Common.{◌≡◌, ◌∙◌, ℕ, ◌<◌, Bool, true, false, true≢false, not, cond, List, [], ◌∷◌, map, length, filter, get_or, slice_get, Option, Some, None, refl, sym, ap, ap₂, subst, arith, inl, inr}
use Rattle.std.specs.Prelude.{◌⊎◌, ◌&&◌, bytes_eq}
use Rattle.std.specs.List.{Contains}
use Rattle.std.proofs.lemmas.List.{same_lists}
use Rattle.std.proofs.lemmas.List.Elements.{Contains-append_left, Contains-append_right}
use Rattle.std.proofs.lemmas.Option.{get_or_from_slice_get}
use Rattle.std.proofs.lemmas.Slice.Eq.{bytes_eq-Decides}
use Rattle.circuit_theory.specs.declared.Side.{Side}
use Rattle.circuit_theory.specs.Names.{same_name, is_among}
use Rattle.circuit_theory.specs.Agree.{cut}
use Rattle.circuit_theory.specs.Circuit.{Circuit, Latch, Named, IsLatch}
use Rattle.circuit_theory.specs.Joined.{moved_name}
use Rattle.circuit_theory.specs.Depth.{HasCycle}
use Rattle.circuit_theory.specs.Interface.{Ports, AreNumbersOf, is_clock, inputs_beside, shared_inputs, first_missing, first_mismatch, ◌or_else◌}
use Rattle.circuit_theory.specs.Net.{IsNet}
use Rattle.circuit_theory.specs.Run.{NoneEnabled}
use Rattle.circuit_theory.specs.Tree.{Tree, Unfolds, IsInputNumber, tree_value}
use Rattle.circuit_theory.proofs.Lists.{Contains-head, Contains-tail, Contains-map, Contains-map_from, map-map, at_of, of_at, filter_test}
use Rattle.circuit_theory.proofs.Inputs.{same_name-sound}
use Rattle.circuit_theory.proofs.Numbers.{distinct_at, slice_get-map, is_among-complete, beside_at}
use Rattle.circuit_laws.proofs.CutLaws.{cut_single}
use Rattle.circuit_laws.proofs.OneTree.{one_tree}
use Rattle.circuit_laws.proofs.Onward.{cut_input}
use Rattle.blif_read.specs.declared.design.BlifModel.{BlifModel}
use Rattle.blif_read.specs.Design.{Place, main_inputs, circuit_of_design}
use Rattle.blif_read.specs.Design as design
use Rattle.blif_read.specs.Reading.{spelled}
use Rattle.flat_net.specs.Sound.{IsSound}
use Rattle.flat_net.specs.View.{NetView, named, circuit_of, ports_of}
use Rattle.flat_net.proofs.Nets.{some_at, sound_is_net, sound_names}
use Rattle.net_assembly.specs.net_alike.Renumbered.{AreRenumbered}
use Rattle.net_assembly.proofs.net_alike.Carrying.{forth}
use Rattle.net_assembly.proofs.net_alike.Cutting.{cut_carried, filter_in, tree_forth}
use Rattle.flatten.specs.DesignFaults.{IsFlatOf}
use Rattle.flatten.specs.OneNet.{AreOneNet}
use Rattle.job_base.proofs.design_laws.KeptNames.{names_are_kept}
use Rattle.sec_base.specs.declared.basics.PairAnswer.{PairAnswer}
use Rattle.sec_base.specs.declared.basics.PairAnswer.TheVariants as answer
use Rattle.sec_setup.proofs.cut_points.expose_pick.Removed.{cycle_fewer}
use Rattle.swept_queries.proofs.Listed.{zip_left}
use Rattle.sec_setup.specs.cut_points.Common.{common_names}
use Rattle.pair_decide.specs.declared.query.Proof.{Proof}
use Rattle.obligations.specs.declared.outcome.verdict.PairResult.{PairResult}
use Rattle.obligations.specs.declared.outcome.verdict.Verdict.{Verdict}
use Rattle.obligations.specs.declared.outcome.verdict.Verdict.TheVariants as verdict
use Rattle.obligations.specs.declared.outcome.verdict.Why.TheVariants as why
use Rattle.obligations.specs.declared.outcome.verdict.Outcome.{Outcome}
use Rattle.sec_base.specs.declared.settings.Settings.{Settings}
use Rattle.plain_check.specs.plain_form.Laws.{HaveOneTree}
use Rattle.sec_setup.specs.ports.Pairs.{NamedPair, named_pairs}
use Rattle.outcome_fits.specs.Outcome.{HaveDifferentFunctions, AnswerFits, PairFits, VerdictFits}
use Rattle.sec_setup.specs.Cycles.{AreBroken}
use Rattle.plain_check.specs.under_base.compare_base.Compared.{IsCompared, AreTooLarge}
use Rattle.sec_setup.specs.Cuts.{IsChoice, columns_of, is_cut}
use Rattle.outcome_fits.specs.Fitting.{IsCutOver, OutcomeFits}
use Rattle.sec_setup.proofs.CutNets.{same_as_cut, cut_numbers}
use Rattle.outcome_fits.proofs.plain_meaning.CutPairs.{IsOutputPair, IsNextPair, one_output, listed_is}
use Rattle.sec_setup.proofs.SameEquations.{same_tree}
use Rattle.job_base.specs.sec_files.Formats.{Format, Blif, Aiger, format_of, IsNetIn}
use Rattle.job_base.specs.sec_files.Loading.{Loads}
use Rattle.job_base.proofs.sec_files.Texts.{text_sound, text_comparable, one_text_net}
use Rattle.premise_rows.specs.one_text_runs.one_text.OneText.{OneTreeIsEqual, OneTextIsEqual, CanBeUnfolded, UnfoldedIsComparable}

-- the main input that the clock comes from is no input of a net
unclocked : (models : List BlifModel) (net : NetView) → IsFlatOf models net → (name : List ℕ) → Contains (ports_of net).inputs name → not (design.is_clock net.clock name) ≡ true
unfolding circuit_of_design
unclocked models net f name h =
    let i = Contains-map_from (λ (n : Named Place). n.name) (circuit_of_design models net.clock).inputs name (subst (λ (ns : List (List ℕ)). Contains ns name) (names_are_kept models net f).inputs h) in
    let n = Contains-map_from design.at_top (filter (λ n. not (design.is_clock net.clock n)) (main_inputs models)) i.0 i.1 in
    let same : n.0 ≡ name = ap (λ (x : Named Place). x.name) n.2 ∙ i.2 in
    subst (λ (w : List ℕ). not (design.is_clock net.clock w) ≡ true) same (filter_test (λ n. not (design.is_clock net.clock n)) (main_inputs models) n.0 n.1)

unclocked_in : (text : List ℕ) (net : NetView) (format : Format) → IsNetIn format text net → (name : List ℕ) → Contains (ports_of net).inputs name → not (design.is_clock net.clock name) ≡ true
unclocked_in text net Blif n name h = unclocked (spelled text) net n name h
unclocked_in text net Aiger n name h = ap (λ (clock : Option (List ℕ)). not (design.is_clock clock name)) n.2.clock

text_unclocked : (text : List ℕ) (net : NetView) → Loads text net → (name : List ℕ) → Contains (ports_of net).inputs name → not (design.is_clock net.clock name) ≡ true
text_unclocked text net loads name h = unclocked_in text net (format_of text) loads.flat name h

-- both ways to look for a clock's name are one
no_clock : (clock : Option (List ℕ)) (ports : Ports) (name : List ℕ) → ports.clock ≡ clock → not (design.is_clock clock name) ≡ true → is_clock ports name ≡ false
no_clock clock ports name same off = go ports.clock same
  where
    go : (c : Option (List ℕ)) → c ≡ clock → is_clock (record ports { clock = c }) name ≡ false
    go None e = refl
    go (Some c) e = by (same_name c name) refl
      where
        by : (b : Bool) → same_name c name ≡ b → b ≡ false
        by false q = refl
        by true q =
            let on : bytes_eq c name ≡ true = (bytes_eq-Decides c name).1 (same_name-sound c name q) in
            absurd (true≢false (sym off ∙ ap (λ (k : Option (List ℕ)). not (design.is_clock k name)) (sym e) ∙ ap not on))

module _ (text : List ℕ) (a b : NetView) (la : Loads text a) (one : AreOneNet a b) where
  -- each input is shared
  shared_is : (name : List ℕ) → Contains (ports_of a).inputs name → Contains (shared_inputs (ports_of a) (ports_of b)) name
  shared_is name h =
      let off : is_clock (ports_of b) name ≡ false = no_clock a.clock (ports_of b) name (ap (λ (p : Ports). p.clock) (sym one.ports)) (text_unclocked text a la name h) in
      filter_in (λ n. not (is_clock (ports_of b) n && not (is_among (ports_of a).read n))) (ports_of a).inputs name h
      (ap (λ (t : Bool). not (t && not (is_among (ports_of a).read name))) off)

-- A net with latches cut out: an input's place has one name, and one number where each input is a column.
module _ (n : NetView) (sound : IsSound n) (names columns : List (List ℕ)) where
  abbrev c : Circuit ℕ
  c = cut names (circuit_of n)

  abbrev input_names : List (List ℕ)
  input_names = map (λ (i : Named ℕ). i.name) (cut names (circuit_of n)).inputs

  one_name : (p : ℕ) (x y : List ℕ) → Contains c.inputs (record { name = x; place = p }) → Contains c.inputs (record { name = y; place = p }) → x ≡ y
  one_name p x y h k = by (cut_input names (circuit_of n) x p h) (cut_input names (circuit_of n) y p k)
    where
      net : IsNet (circuit_of n) (length n.drivers)
      net = sound_is_net n sound

      Input : List ℕ → Type 0
      Input name = Contains (circuit_of n).inputs (record { name = name; place = p })

      Exposed : List ℕ → Type 0
      Exposed name = Contains names name × ((next : ℕ) × IsLatch (circuit_of n) name p next)

      some_is : {X : Type 0} {u v : X} → Some u ≡ Some v → u ≡ v
      some_is q = cc

      by : Input x ⊎ Exposed x → Input y ⊎ Exposed y → x ≡ y
      by (inl i) (inl j) =
          let at = at_of (circuit_of n).inputs (record { name = x; place = p }) i in
          let other = at_of (circuit_of n).inputs (record { name = y; place = p }) j in
          let same : at.0 ≡ other.0 = distinct_at (λ (m : Named ℕ). m.place) (circuit_of n).inputs net.inputs at.0 other.0 (record { name = x; place = p }) (record { name = y; place = p }) at.1 other.1 refl in
          ap (λ (m : Named ℕ). m.name) (some_is (sym at.1 ∙ (ap (slice_get (circuit_of n).inputs) same ∙ other.1)))
      by (inl i) (inr l) = absurd (net.single.no_input (Latch y p l.1.0) l.1.1 (x, i))
      by (inr l) (inl i) = absurd (net.single.no_input (Latch x p l.1.0) l.1.1 (y, i))
      by (inr l) (inr k) = let e : Latch x p l.1.0 ≡ Latch y p k.1.0 = net.single.one (Latch x p l.1.0) (Latch y p k.1.0) l.1.1 k.1.1 refl in cc

  module _ (order others : List ℕ) (numbers : AreNumbersOf input_names columns order others) (all : (name : List ℕ) → Contains input_names name → Contains columns name) where
    one_number : (p i j : ℕ) → IsInputNumber c order p i → IsInputNumber c order p j → i ≡ j
    one_number p i j l r =
        let x = beside_at c.inputs order p i l in
        let y = beside_at c.inputs order p j r in
        let same : x.1.name ≡ y.1.name = one_name p x.1.name y.1.name (here x.0 x.1 x.2 x.3) (here y.0 y.1 y.2 y.3) in
        let at = at_of columns x.1.name (all x.1.name (of_at input_names x.0 x.1.name (slice_get-map (λ (m : Named ℕ). m.name) c.inputs x.0 x.1 x.2))) in
        let left : slice_get order x.0 ≡ Some at.0 = numbers.common x.0 at.0 x.1.name (slice_get-map (λ (m : Named ℕ). m.name) c.inputs x.0 x.1 x.2) at.1 in
        let right : slice_get order y.0 ≡ Some at.0 = numbers.common y.0 at.0 y.1.name (slice_get-map (λ (m : Named ℕ). m.name) c.inputs y.0 y.1 y.2) (at.1 ∙ ap Some same) in
        some_is (sym x.4 ∙ (left ∙ (sym right ∙ y.4)))
      where
        some_is : {X : Type 0} {u v : X} → Some u ≡ Some v → u ≡ v
        some_is q = cc

        here : (k : ℕ) (m : Named ℕ) → slice_get c.inputs k ≡ Some m → m.place ≡ p → Contains c.inputs (record { name = m.name; place = p })
        here k m at is = subst (λ (q : ℕ). Contains c.inputs (record { name = m.name; place = q })) is (of_at c.inputs k m at)

-- the numbers of the same names are the same
same_numbers : (names columns : List (List ℕ)) (left right : List ℕ) → AreNumbersOf names columns left right → AreNumbersOf names columns right left → ((name : List ℕ) → Contains names name → Contains columns name) → left ≡ right
same_numbers names columns left right l r all = same_lists left right (l.each ∙ sym r.each) each
  where
    each : (k d : ℕ) → k < length left → get_or left k d ≡ get_or right k d
    each k d low =
        let within : k < length names = subst (λ (n : ℕ). k < n) l.each low in
        let name = some_at names k within in
        let at = at_of columns name.0 (all name.0 (of_at names k name.0 name.1)) in
        get_or_from_slice_get left k at.0 d (l.common k at.0 name.0 name.1 at.1) ∙ sym (get_or_from_slice_get right k at.0 d (r.common k at.0 name.0 name.1 at.1))

module _ (text : List ℕ) (a b : NetView) (la : Loads text a) (lb : Loads text b) (one : AreOneNet a b) (expose : Bool) (conflicts : ℕ) (o : Outcome) (fits : OutcomeFits a b expose conflicts o) where
  abbrev left_circuit : Circuit ℕ
  left_circuit = cut o.exposed (circuit_of a)

  abbrev right_circuit : Circuit ℕ
  right_circuit = cut o.exposed (circuit_of b)

  abbrev columns : List (List ℕ)
  columns = columns_of a b o.exposed

  abbrev names_in : Circuit ℕ → List (List ℕ)
  names_in c = map (λ (i : Named ℕ). i.name) c.inputs

  cuts : AreRenumbered (cut o.exposed (circuit_of a)) (cut o.exposed (circuit_of b)) one.to one.back
  cuts = cut_carried (circuit_of a) (circuit_of b) one.to one.back one.circuits o.exposed

  same_inputs : names_in left_circuit ≡ names_in right_circuit
  same_inputs = sym (map-map (λ (i : Named ℕ). i.name) (moved_name one.to) left_circuit.inputs) ∙ ap (map (λ (i : Named ℕ). i.name)) cuts.inputs

  all_left : (name : List ℕ) → Contains (names_in left_circuit) name → Contains columns name
  all_left name h =
      let i = Contains-map_from (λ (i : Named ℕ). i.name) left_circuit.inputs name h in
      subst (Contains columns) i.2 (by i.0 (cut_input o.exposed (circuit_of a) i.0.name i.0.place i.1))
    where
      by : (i : Named ℕ) → Contains (circuit_of a).inputs (record { name = i.name; place = i.place }) ⊎ (Contains o.exposed i.name × ((next : ℕ) × IsLatch (circuit_of a) i.name i.place next)) → Contains columns i.name
      by i (inl k) =
          Contains-append_left (shared_inputs (ports_of a) (ports_of b)) o.exposed i.name
          (shared_is text a b la one i.name (subst (λ (ns : List (List ℕ)). Contains ns i.name) (map-map (λ (m : Named ℕ). m.name) named a.inputs) (Contains-map (λ (m : Named ℕ). m.name) (circuit_of a).inputs i k)))
      by i (inr l) = Contains-append_right (shared_inputs (ports_of a) (ports_of b)) o.exposed i.name l.0

  all_right : (name : List ℕ) → Contains (names_in right_circuit) name → Contains columns name
  all_right name h = all_left name (subst (λ (ns : List (List ℕ)). Contains ns name) (sym same_inputs) h)

  left_numbers : AreNumbersOf (names_in left_circuit) columns fits.left fits.right
  left_numbers = cut_numbers o.exposed columns fits.left fits.right a fits.left_cut fits.are_cut.left_circuit fits.left_numbers

  right_numbers : AreNumbersOf (names_in right_circuit) columns fits.right fits.left
  right_numbers = cut_numbers o.exposed columns fits.right fits.left b fits.right_cut fits.are_cut.right_circuit fits.right_numbers

  same_order : fits.left ≡ fits.right
  same_order =
      same_numbers (names_in left_circuit) columns fits.left fits.right left_numbers
      (subst (λ (ns : List (List ℕ)). AreNumbersOf ns columns fits.right fits.left) (sym same_inputs) right_numbers) all_left

  -- a pair's sides are one place of the net
  module _ (x : NamedPair ℕ ℕ) (listed : Contains (named_pairs o.exposed (circuit_of a) (circuit_of b)) x) where
    right_is : one.to x.left ≡ x.right
    right_is = by (listed_is o.exposed (circuit_of a) (circuit_of b) x listed)
      where
        by : IsOutputPair (circuit_of a) (circuit_of b) x ⊎ IsNextPair o.exposed (circuit_of a) (circuit_of b) x → one.to x.left ≡ x.right
        by (inl p) =
            one_output b (text_comparable text b lb).distinct p.name (one.to x.left) x.right ((forth (circuit_of a) (circuit_of b) one.to one.back one.circuits).output p.name x.left p.left_output) p.right_output
        by (inr p) =
            let u = p.left_latch in
            let v = p.right_latch in
            let there : IsLatch (circuit_of b) p.name (one.to u.0) (one.to x.left) = one.circuits.there (Latch p.name u.0 x.left) u.1 in
            let same : one.to u.0 ≡ v.0 = (sound_names b (text_sound text b lb)).latches p.name (one.to u.0) (one.to x.left) v.0 x.right there v.1 in
            let e : Latch p.name (one.to u.0) (one.to x.left) ≡ Latch p.name v.0 x.right = (sound_is_net b (text_sound text b lb)).single.one (Latch p.name (one.to u.0) (one.to x.left)) (Latch p.name v.0 x.right) there v.1 same in
            cc

    one_tree_each : HaveOneTree (circuit_of fits.left_cut) (circuit_of fits.right_cut) fits.left fits.right x.left x.right
    one_tree_each d e s t left right =
        let own : Unfolds left_circuit fits.left x.left 0 d s = same_tree (circuit_of fits.left_cut) left_circuit (same_as_cut o.exposed (circuit_of a) (circuit_of fits.left_cut) fits.are_cut.left_circuit) left in
        let there : Unfolds right_circuit fits.left (one.to x.left) 0 d s = tree_forth left_circuit right_circuit one.to one.back cuts fits.left own in
        let here : Unfolds right_circuit fits.right x.right 0 d s =
        subst (λ (p : ℕ). Unfolds right_circuit fits.right p 0 d s) right_is (subst (λ (order : List ℕ). Unfolds right_circuit order (one.to x.left) 0 d s) same_order there) in
        let other : Unfolds right_circuit fits.right x.right 0 e t = same_tree (circuit_of fits.right_cut) right_circuit (same_as_cut o.exposed (circuit_of b) (circuit_of fits.right_cut) fits.are_cut.right_circuit) right in
        (one_tree right_circuit fits.right (cut_single o.exposed (circuit_of b) (sound_is_net b (text_sound text b lb)).single) (one_number b (text_sound text b lb) o.exposed columns fits.right fits.left right_numbers all_right) here other).0

-- one function doesn't differ from itself
no_difference : (a b : Circuit ℕ) (left right : List ℕ) (p q : ℕ) → HaveOneTree a b left right p q → HaveDifferentFunctions a b left right p q → ⊥
no_difference a b left right p q one h =
    h.differ (ap (λ (t : Tree ℕ). tree_value h.bits t) (one h.left_unfolds.0 h.right_unfolds.0 h.left_tree h.right_tree h.left_unfolds.1 h.right_unfolds.1))

-- an answer on a pair of one tree is equal
only_equal : (a b : Circuit ℕ) (left right : List ℕ) (cut : Bool) (conflicts p q : ℕ) → HaveOneTree a b left right p q → (x : PairAnswer) (proof : Option Proof) → AnswerFits a b left right cut conflicts p q x proof → x ≡ answer.Equal
only_equal a b left right cut conflicts p q one answer.Equal proof fits = refl
only_equal a b left right cut conflicts p q one answer.Different None fits = absurd (no_difference a b left right p q one fits.1)
only_equal a b left right cut conflicts p q one answer.Different (Some proof) fits = absurd fits
only_equal a b left right cut conflicts p q one answer.NotShown None fits = absurd (no_difference a b left right p q one fits.1)
only_equal a b left right cut conflicts p q one answer.NotShown (Some proof) fits = absurd fits
only_equal a b left right cut conflicts p q one answer.Limit None fits = absurd fits
only_equal a b left right cut conflicts p q one answer.Limit (Some proof) fits =
    absurd (fits.two_trees (one fits.left_unfolds.0 fits.right_unfolds.0 fits.left_tree fits.right_tree fits.left_unfolds.1 fits.right_unfolds.1))

-- where each pair has one tree, the verdict is equal
module _ (a b : NetView) (settings : Settings) (o : Outcome) (compared : IsCompared a b settings o)
    (one : (x : NamedPair ℕ ℕ) → Contains (named_pairs o.exposed (circuit_of a) (circuit_of b)) x → HaveOneTree (circuit_of compared.fits.left_cut) (circuit_of compared.fits.right_cut) compared.fits.left compared.fits.right x.left x.right) where
  abbrev fits : OutcomeFits a b settings.expose settings.conflicts o
  fits = compared.fits

  abbrev pairs : List (NamedPair ℕ ℕ)
  pairs = named_pairs o.exposed (circuit_of a) (circuit_of b)

  -- each result is equal
  each_equal : (r : PairResult) → Contains o.pairs r → r.answer ≡ answer.Equal
  each_equal r h =
      let at = at_of o.pairs r h in
      let x = zip_left (PairFits (circuit_of fits.left_cut) (circuit_of fits.right_cut) fits.left fits.right (is_cut o.exposed) settings.conflicts) pairs o.pairs fits.pairs at.0 r at.1 in
      only_equal (circuit_of fits.left_cut) (circuit_of fits.right_cut) fits.left fits.right (is_cut o.exposed) settings.conflicts x.0.left x.0.right
      (one x.0 (of_at pairs at.0 x.0 x.1)) r.answer r.proof x.2.answer_is

  -- so a result with another answer isn't there
  no_other : (index : ℕ) (r : PairResult) (x : PairAnswer) → slice_get o.pairs index ≡ Some r → r.answer ≡ x → (x ≡ answer.Equal → ⊥) → ⊥
  no_other index r x at is other = other (sym is ∙ each_equal r (of_at o.pairs index r at))

  abbrev Fits : Verdict → Type 0
  Fits v = VerdictFits (circuit_of fits.left_cut) (circuit_of fits.right_cut) fits.left fits.right (columns_of a b o.exposed) pairs o.pairs v

  only_verdict : (v : Verdict) → Fits v → v ≡ verdict.Equal
  only_verdict verdict.Equal h = refl
  only_verdict (verdict.Different w) h = absurd (no_other h.index h.result answer.Different h.result_is h.answered (λ e. cc))
  only_verdict (verdict.DifferentFrom w) h = absurd h
  only_verdict (verdict.NotShown (why.Cut w)) h = absurd (no_other h.2.index h.2.result answer.NotShown h.2.result_is h.2.answered (λ e. cc))
  only_verdict (verdict.NotShown (why.Events u)) h = absurd h
  only_verdict (verdict.Limit at) h = absurd (no_other h.index h.result answer.Limit h.result_is h.limit (λ e. cc))

  is_equal : o.verdict ≡ verdict.Equal
  is_equal = only_verdict o.verdict fits.verdict_is

pub one_tree_is_equal : OneTreeIsEqual
one_tree_is_equal a b settings o compared one = is_equal a b settings o compared one

pub one_text_is_equal : OneTextIsEqual
one_text_is_equal text a b la lb settings o compared =
    is_equal a b settings o compared (λ x listed. one_tree_each text a b la lb (one_text_net text a b la lb) settings.expose settings.conflicts o compared.fits x listed)

-- a text can be compared with itself
missing_none : (names others : List (List ℕ)) → ((name : List ℕ) → Contains names name → is_among others name ≡ true) → first_missing names others ≡ None
missing_none [] others h = refl
missing_none (name ∷ names) others h =
    ap (λ (b : Bool). cond (not b) (Some name) (first_missing names others)) (h name (Contains-head name names)) ∙ missing_none names others (λ n k. h n (Contains-tail name n names k))

self_match : (p : Ports) → first_mismatch p p ≡ None
self_match p =
    let inputs : first_missing (inputs_beside p p) (inputs_beside p p) ≡ None = missing_none (inputs_beside p p) (inputs_beside p p) (is_among-complete (inputs_beside p p)) in
    let outputs : first_missing p.outputs p.outputs ≡ None = missing_none p.outputs p.outputs (is_among-complete p.outputs) in
    ap₂ (λ (x y : Option (List ℕ)). x or_else x or_else y or_else y) inputs outputs

module _ (text : List ℕ) (p : CanBeUnfolded text) where
  free : (net : NetView) → Loads text net → (names : List (List ℕ)) → HasCycle (circuit_of net) NoneEnabled names → ⊥
  free net l names h = p.acyclic net l (cycle_fewer (circuit_of net) NoneEnabled names [] (λ name k. absurd (let low = k.1 in omega (arith, low))) h)

  module _ (a b : NetView) (la : Loads text a) (lb : Loads text b) where
    broken : (expose : Bool) → AreBroken a b expose
    broken false = (p.acyclic a la, p.acyclic b lb)
    broken true = (free a la (common_names (circuit_of a) (circuit_of b)), free b lb (common_names (circuit_of a) (circuit_of b)))

    -- no latch is needed
    no_names : (expose : Bool) (names : List (List ℕ)) → IsChoice a b expose names → names ≡ []
    no_names expose [] choice = refl
    no_names expose (name ∷ names) choice = elim (choice.minimal.needed 0 (omega arith)) [ inl h ↦ absurd (free a la names h) | inr h ↦ absurd (free b lb names h) ]

    light : (expose : Bool) (side : Side) → AreTooLarge a b expose side → ⊥
    light expose side (AreTooLarge.left {names = names} choice order over) = p.light a la (subst (λ (ns : List (List ℕ)). IsCutOver ns (circuit_of a)) (no_names expose names choice) over)
    light expose side (AreTooLarge.right {names = names} choice order fine over) = p.light b lb (subst (λ (ns : List (List ℕ)). IsCutOver ns (circuit_of b)) (no_names expose names choice) over)

pub unfolded_is_comparable : UnfoldedIsComparable
unfolded_is_comparable text p expose = record {
  left = p.accepted;
  right = p.accepted;
  match = λ a b la lb. ap (λ (ports : Ports). first_mismatch (ports_of a) ports) (sym (one_text_net text a b la lb).ports) ∙ self_match (ports_of a);
  broken = λ a b la lb. broken text p a b la lb expose;
  light = λ a b la lb. light text p a b la lb expose;
}
