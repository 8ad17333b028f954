-- Where the texts are told and can be compared, what is found of them has the status of a verdict.
use Rattle.std.specs.Prelude.{Err, IfSome, IsSomeAnd}
use Rattle.std.proofs.Common.{◌≡◌, ℕ, Bool, true, false, List, [], refl, sym, ◌∙◌, subst, Option, Some, None}
use Rattle.std.proofs.lemmas.Option.{none-some}
use Rattle.circuit_theory.specs.declared.Mode.{Mode}
use Rattle.circuit_theory.specs.declared.Mode.TheVariants.{Plain, Event}
use Rattle.circuit_theory.specs.declared.Side.TheVariants.{A, B}
use Rattle.circuit_theory.specs.Run.{IsEnabled}
use Rattle.sec_base.specs.declared.settings.Settings.{Settings}
use Rattle.flat_net.specs.View.{NetView, circuit_of}
use Rattle.obligations.specs.declared.outcome.verdict.Verdict.{Verdict}
use Rattle.obligations.specs.declared.outcome.verdict.Verdict.TheVariants as verdict
use Rattle.job_check.specs.check_meaning.check_found.job_base.File.TheVariants as file
use Rattle.job_check.specs.check_meaning.check_found.job_base.LineFault.TheVariants as line_fault
use Rattle.job_check.specs.check_meaning.check_found.job_base.Refusal.{Refusal}
use Rattle.job_check.specs.check_meaning.check_found.job_base.Refusal.TheVariants as refusal
use Rattle.job_check.specs.check_meaning.check_found.job_base.Finding.{Finding}
use Rattle.job_check.specs.check_meaning.check_found.job_base.Finding.TheVariants as finding
use Rattle.job_check.specs.check_meaning.check_found.job_base.Written.{verdict_status, status_of}
use Rattle.sec_setup.specs.cut_points.Common.{common_names}
use Rattle.sec_setup.specs.Cycles.{AreBroken}
use Rattle.job_base.specs.sec_files.Loading.{IsAccepted, Loads, IsTooLong, HasFault, HasDesignFault, HasRecordFault}
use Rattle.job_base.specs.sec_files.job_files.Reading.{Held, IsLoaded}
use Rattle.job_base.proofs.sec_files.job_files.Accepted.{is_short, has_no_fault, is_sound, has_good_records}
use Rattle.job_base.proofs.sec_files.job_files.Reading.{some_and, if_told}
use Rattle.job_check.specs.check_meaning.check_found.Check.{Check}
use Rattle.job_check.specs.check_meaning.check_found.Found.{OfAssumed, IsAnsweredGiven, IsAnsweredAssuming, IsAnsweredBy, IsAnsweredByTwo, IsAnsweredByThree, IsAnsweredUnder, IsRefusal, IsFoundOf}
use Rattle.job_check.specs.check_meaning.Answer.{AreComparableIn, AreComparableUnder, CanAnswerWith, IsAnswer, IsCheckComplete}
use Rattle.pair_texts.specs.check_texts.Texts.{AreComparable}
use Rattle.job_check.specs.check_meaning.event_texts.Texts.{AreEventComparable}
use Rattle.job_check.specs.check_meaning.event_texts.event_setup.Choosing.{HaveNoCycles}
use Rattle.job_check.specs.check_meaning.check_found.Answered.{ComparedUnderIn}
use Rattle.job_check.specs.check_meaning.check_found.Compared.{ComparedIn, ComparedInEvents}
use Rattle.pair_texts.specs.check_texts.CompareError.{CompareError}
use Rattle.pair_texts.specs.check_texts.CompareError.TheVariants as compare_error
use Rattle.pair_texts.specs.check_texts.Compared.{Compared}
use Rattle.pair_texts.proofs.check_texts.ToldCycles.{is_not_free}
use Rattle.sec_setup.specs.cut_points.Exposed.{IsFreeWithout, IsToldCycle}
use Rattle.sec_setup.proofs.cut_points.expose_pick.Cuts.{round_cycle}

-- the text of the assumption is told, where there is one
abbrev IsThirdTold : Held → Option (List ℕ) → Type 0
IsThirdTold held None = Unit {0}
IsThirdTold held (Some path) = (z : List ℕ) × (held path ≡ Some z) × IsAccepted z

-- the texts that are told, and accepted
record AreTold (held : Held) (check : Check) (assumed : Option (List ℕ)) : Type 0 where
  pub left : List ℕ
  pub right : List ℕ
  pub left_is : held check.left ≡ Some left
  pub right_is : held check.right ≡ Some right
  pub left_accepted : IsAccepted left
  pub right_accepted : IsAccepted right
  pub third : IsThirdTold held assumed

-- no refusal of the comparison comes but want of memory
record AreAnswered (held : Held) (check : Check) : Type 0 where
  pub never : (e : CompareError) → (e ≡ compare_error.NoMemory → ⊥) → IsAnsweredBy held check (Err e) → ⊥
  pub never_under : (e : CompareError) → (e ≡ compare_error.NoMemory → ⊥) → IsAnsweredUnder held check (Err e) → ⊥

module _ (held : Held) (check : Check) (told : AreTold held check check.assumed) where
  of_left : (P : List ℕ → Type 0) → IfSome (held check.left) P → P told.left
  of_left P h = if_told (held check.left) P told.left told.left_is h

  of_right : (P : List ℕ → Type 0) → IsLoaded (held check.left) × IfSome (held check.right) P → P told.right
  of_right P h = if_told (held check.right) P told.right told.right_is h.1

  -- the third text has no fault
  of_third : (P : List ℕ → Type 0) → ((z : List ℕ) → IsAccepted z → P z → ⊥) → OfAssumed held check check.assumed P → ⊥
  of_third P apart h = by check.assumed told.third h
    where
      by : (assumed : Option (List ℕ)) → IsThirdTold held assumed → OfAssumed held check assumed P → ⊥
      by None third k = k
      by (Some path) third k = apart third.0 third.2 (if_told (held path) P third.0 third.1 k.2)

  module _ (answered : AreAnswered held check) where
    no_refusal : (r : Refusal) → IsRefusal held check r → ⊥
    no_refusal (refusal.TooLong file.A) h = is_short told.left told.left_accepted (of_left IsTooLong h)
    no_refusal (refusal.TooLong file.B) h = is_short told.right told.right_accepted (of_right IsTooLong h)
    no_refusal (refusal.TooLong file.C) h = of_third IsTooLong is_short h
    no_refusal (refusal.TooLong file.S) h = h
    no_refusal (refusal.Text file.A line (line_fault.Circuit kind)) h = has_no_fault told.left told.left_accepted line kind (of_left (λ x. HasFault x line kind) h)
    no_refusal (refusal.Text file.B line (line_fault.Circuit kind)) h = has_no_fault told.right told.right_accepted line kind (of_right (λ y. HasFault y line kind) h)
    no_refusal (refusal.Text file.C line (line_fault.Circuit kind)) h = of_third (λ z. HasFault z line kind) (λ z accepted. has_no_fault z accepted line kind) h
    no_refusal (refusal.Text file.S line (line_fault.Circuit kind)) h = h
    no_refusal (refusal.Text f line line_fault.BadHeader) h = h
    no_refusal (refusal.Text f line line_fault.BadRow) h = h
    no_refusal (refusal.Text f line (line_fault.Clauses kind)) h = h
    no_refusal (refusal.Design file.A fault) h = is_sound told.left told.left_accepted fault (of_left (λ x. HasDesignFault x fault) h)
    no_refusal (refusal.Design file.B fault) h = is_sound told.right told.right_accepted fault (of_right (λ y. HasDesignFault y fault) h)
    no_refusal (refusal.Design file.C fault) h = of_third (λ z. HasDesignFault z fault) (λ z accepted. is_sound z accepted fault) h
    no_refusal (refusal.Design file.S fault) h = h
    no_refusal (refusal.Record file.A place kind) h = has_good_records told.left told.left_accepted place kind (of_left (λ x. HasRecordFault x place kind) h)
    no_refusal (refusal.Record file.B place kind) h = has_good_records told.right told.right_accepted place kind (of_right (λ y. HasRecordFault y place kind) h)
    no_refusal (refusal.Record file.C place kind) h = of_third (λ z. HasRecordFault z place kind) (λ z accepted. has_good_records z accepted place kind) h
    no_refusal (refusal.Record file.S place kind) h = h
    no_refusal (refusal.Interface name) h = answered.never (compare_error.Interface name) (λ e. cc) h
    no_refusal (refusal.TooLarge side) h = answered.never (compare_error.TooLarge side) (λ e. cc) h
    no_refusal (refusal.Misfit m) h = h
    no_refusal refusal.TooManyEvents h = answered.never compare_error.TooManyEvents (λ e. cc) h
    no_refusal (refusal.Assume fault) h = answered.never_under (compare_error.Assume fault) (λ e. cc) h
    no_refusal refusal.Vacuous h = answered.never_under (compare_error.Vacuous h.0) (λ e. cc) h.1
    no_refusal (refusal.Pair name) h = h
    no_refusal (refusal.Pairs fault) h = h

    -- a finding of them has the status of a verdict
    has_verdict : (f : Finding) → IsFoundOf held check f → IsAnswer (status_of f)
    has_verdict finding.Words h = h
    has_verdict (finding.Refused r) h = no_refusal r h
    has_verdict (finding.Cyclic side names) h = answered.never (compare_error.Cyclic side names) (λ e. cc) h
    has_verdict (finding.Unpaired side names) h = answered.never (compare_error.Unpaired side names) (λ e. cc) h
    has_verdict (finding.Done report) h = absurd h
    has_verdict (finding.Generated o report) h = absurd h
    has_verdict (finding.Replayed differences) h = absurd h
    has_verdict (finding.Unrefuted u) h = absurd h
    has_verdict (finding.Judged j kept text) h = absurd h
    has_verdict (finding.Undecided side name proof) h = absurd h
    has_verdict (finding.Checked o s) h = go o.verdict
      where
        go : (v : Verdict) → IsAnswer (verdict_status v)
        go verdict.Equal = tt
        go (verdict.Different w) = tt
        go (verdict.DifferentFrom w) = tt
        go (verdict.NotShown reason) = tt
        go (verdict.Limit at) = tt

no_fault : {X : Type 0} (x : X) → None ≡ Some x → ⊥
no_fault x e = none-some x e

-- two texts that can be compared by cycles: none of their nets' refusals comes
module _ (x y : List ℕ) (s : Settings) (comparable : AreComparable x y s.expose s.reset) (a b : NetView) (l : Loads x a) (r : Loads y b) where
  free : (expose : Bool) → s.expose ≡ expose → AreBroken a b expose
  free expose e = subst (AreBroken a b) e (comparable.broken a b l r)

  pub never_plain : (e : CompareError) → (e ≡ compare_error.NoMemory → ⊥) → Compared a b s (Err e) → ⊥
  never_plain (compare_error.Interface name) apart k = no_fault _ (sym (comparable.match a b l r) ∙ k)
  never_plain (compare_error.Cyclic A names) apart k = is_not_free a [] names k.2 (free false k.1).0
  never_plain (compare_error.Cyclic B names) apart k = is_not_free b [] names k.3 (free false k.1).1
  never_plain (compare_error.Unpaired A names) apart k = is_not_free a (common_names (circuit_of a) (circuit_of b)) names k.2 (free true k.1).0
  never_plain (compare_error.Unpaired B names) apart k = is_not_free b (common_names (circuit_of a) (circuit_of b)) names k.3 (free true k.1).1
  never_plain (compare_error.TooLarge side) apart k = comparable.light a b l r side k.2
  never_plain compare_error.TooManyEvents apart k = k
  never_plain (compare_error.Assume fault) apart k = k
  never_plain (compare_error.Vacuous by) apart k = k
  never_plain compare_error.NoMemory apart k = apart refl

-- a cycle that is told is one
told_not_free : (n : NetView) (without names : List (List ℕ)) → IsToldCycle Event n without names → IsFreeWithout Event n without → ⊥
told_not_free n without names told free = free (round_cycle (circuit_of n) (IsEnabled (circuit_of n)) without told.latches told.cycle)

-- so in the event mode
module _ (x y : List ℕ) (s : Settings) (comparable : AreEventComparable x y s) (a b : NetView) (l : Loads x a) (r : Loads y b) where
  no_cycles : (expose : Bool) → s.expose ≡ expose → HaveNoCycles a b expose
  no_cycles expose e = subst (HaveNoCycles a b) e (comparable.broken a b l r)

  never_events : (e : CompareError) → (e ≡ compare_error.NoMemory → ⊥) → ComparedInEvents a b s (Err e) → ⊥
  never_events (compare_error.Interface name) apart k = no_fault _ (sym (comparable.match a b l r) ∙ k)
  never_events (compare_error.Cyclic A names) apart k = told_not_free a [] names k.3.1 (no_cycles false k.3.0).0
  never_events (compare_error.Cyclic B names) apart k = told_not_free b [] names k.3.2 (no_cycles false k.3.0).1
  never_events (compare_error.Unpaired A names) apart k = told_not_free a (common_names (circuit_of a) (circuit_of b)) names k.3.1 (no_cycles true k.3.0).0
  never_events (compare_error.Unpaired B names) apart k = told_not_free b (common_names (circuit_of a) (circuit_of b)) names k.3.2 (no_cycles true k.3.0).1
  never_events (compare_error.TooLarge side) apart k = comparable.light a b l r side k.1
  never_events compare_error.TooManyEvents apart k = comparable.few a b l r k.1
  never_events (compare_error.Assume fault) apart k = k
  never_events (compare_error.Vacuous by) apart k = k
  never_events compare_error.NoMemory apart k = apart refl

-- both texts are accepted
both_accepted : (mode : Mode) (x y : List ℕ) (s : Settings) → AreComparableIn mode x y s → IsAccepted x × IsAccepted y
both_accepted Plain x y s comparable = (comparable.left, comparable.right)
both_accepted Event x y s comparable = (comparable.left, comparable.right)

-- so in either mode
never_two : (mode : Mode) (x y : List ℕ) (s : Settings) → AreComparableIn mode x y s → (a b : NetView) → Loads x a → Loads y b → (e : CompareError) → (e ≡ compare_error.NoMemory → ⊥) → ComparedIn mode a b s (Err e) → ⊥
never_two Plain x y s comparable a b l r e apart k = never_plain x y s comparable a b l r e apart k
never_two Event x y s comparable a b l r e apart k = never_events x y s comparable a b l r e apart k

-- and under an assumption
module _ (x y z : List ℕ) (s : Settings) (a b c : NetView) (l : Loads x a) (r : Loads y b) (t : Loads z c) where
  never_assuming : (mode : Mode) → AreComparableUnder mode x y z s → (e : CompareError) → (e ≡ compare_error.NoMemory → ⊥) → ComparedUnderIn mode a b c s (Err e) → ⊥
  never_assuming Plain under (compare_error.Interface name) apart k = never_plain x y s under.comparable a b l r (compare_error.Interface name) apart k
  never_assuming Plain under (compare_error.Cyclic side names) apart k = never_plain x y s under.comparable a b l r (compare_error.Cyclic side names) apart k.1
  never_assuming Plain under (compare_error.Unpaired side names) apart k = never_plain x y s under.comparable a b l r (compare_error.Unpaired side names) apart k.1
  never_assuming Plain under (compare_error.TooLarge side) apart k = never_plain x y s under.comparable a b l r (compare_error.TooLarge side) apart k.1
  never_assuming Plain under compare_error.TooManyEvents apart k = k
  never_assuming Event under (compare_error.Interface name) apart k = never_events x y s under.comparable a b l r (compare_error.Interface name) apart k
  never_assuming Event under (compare_error.Cyclic side names) apart k = never_events x y s under.comparable a b l r (compare_error.Cyclic side names) apart k.1
  never_assuming Event under (compare_error.Unpaired side names) apart k = never_events x y s under.comparable a b l r (compare_error.Unpaired side names) apart k.1
  never_assuming Event under (compare_error.TooLarge side) apart k = never_events x y s under.comparable a b l r (compare_error.TooLarge side) apart k.1
  never_assuming Event under compare_error.TooManyEvents apart k = never_events x y s under.comparable a b l r compare_error.TooManyEvents apart k.1
  never_assuming mode under (compare_error.Assume fault) apart k = under.fits a b c l r t fault k
  never_assuming mode under (compare_error.Vacuous by) apart k = under.met a b c l r t by k
  never_assuming mode under compare_error.NoMemory apart k = apart refl

-- both texts, where they are told and can be compared
both_told : (held : Held) (check : Check) (P : List ℕ → List ℕ → Type 0) → IsSomeAnd (held check.left) (λ x. IsSomeAnd (held check.right) (λ y. P x y)) →
    (x : List ℕ) × (y : List ℕ) × (held check.left ≡ Some x) × (held check.right ≡ Some y) × P x y
both_told held check P h =
    let left = some_and (held check.left) (λ x. IsSomeAnd (held check.right) (λ y. P x y)) h in
    let right = some_and (held check.right) (λ y. P left.0 y) left.2 in
    (left.0, right.0, left.1, right.1, right.2)

module _ (held : Held) (check : Check) (f : Finding) (found : IsFoundOf held check f) where
  abbrev Answers : Option (List ℕ) → CompareError → Type 0
  Answers assumed e = IsAnsweredGiven held check assumed (Err e)

  abbrev AnswersUnder : Option (List ℕ) → CompareError → Type 0
  AnswersUnder assumed e = IsAnsweredAssuming held check assumed (Err e)

  -- texts that can be compared have no refusal
  apart_two : (x y : List ℕ) → held check.left ≡ Some x → held check.right ≡ Some y → AreComparableIn check.settings.mode x y check.settings → (e : CompareError) → (e ≡ compare_error.NoMemory → ⊥) → IsAnsweredByTwo held check (Err e) → ⊥
  apart_two x y left_is right_is comparable e apart n =
      never_two check.settings.mode x y check.settings comparable n.a n.b (if_told (held check.left) (λ t. Loads t n.a) x left_is n.left_loads) (if_told (held check.right) (λ t. Loads t n.b) y right_is n.right_loads) e apart n.said

  apart_three : (x y z path : List ℕ) → held check.left ≡ Some x → held check.right ≡ Some y → held path ≡ Some z → AreComparableUnder check.settings.mode x y z check.settings → (e : CompareError) → (e ≡ compare_error.NoMemory → ⊥) →
      IsAnsweredByThree held check path (Err e) → ⊥
  apart_three x y z path left_is right_is third_is comparable e apart n =
      never_assuming x y z check.settings n.a n.b n.c (if_told (held check.left) (λ t. Loads t n.a) x left_is n.left_loads) (if_told (held check.right) (λ t. Loads t n.b) y right_is n.right_loads)
      (if_told (held path) (λ t. Loads t n.c) z third_is n.assumed_loads) check.settings.mode comparable e apart n.said

  answered : (told : AreTold held check check.assumed) (assumed : Option (List ℕ)) → check.assumed ≡ assumed → ((e : CompareError) → (e ≡ compare_error.NoMemory → ⊥) → Answers assumed e → ⊥) →
      ((e : CompareError) → (e ≡ compare_error.NoMemory → ⊥) → AnswersUnder assumed e → ⊥) → IsAnswer (status_of f)
  answered told assumed is never never_under =
      has_verdict held check told
      (record { never = λ e apart h. never e apart (subst (λ z. Answers z e) is h); never_under = λ e apart h. never_under e apart (subst (λ z. AnswersUnder z e) is h) }) f found

  -- two texts are compared, or under an assumption three
  by_assumed : (assumed : Option (List ℕ)) → check.assumed ≡ assumed → CanAnswerWith held check check.settings.mode assumed → IsAnswer (status_of f)
  by_assumed None is can =
      let t = both_told held check (λ x y. AreComparableIn check.settings.mode x y check.settings) can in
      let accepted = both_accepted check.settings.mode t.0 t.1 check.settings t.4 in
      let told : AreTold held check check.assumed = record { left = t.0; right = t.1; left_is = t.2; right_is = t.3; left_accepted = accepted.0; right_accepted = accepted.1; third = subst (IsThirdTold held) (sym is) tt } in
      answered told None is
      (λ e apart h. apart_two t.0 t.1 t.2 t.3 t.4 e apart h)
      (λ e apart h. h)
  by_assumed (Some path) is can =
      let t = both_told held check (λ x y. IsSomeAnd (held path) (λ z. AreComparableUnder check.settings.mode x y z check.settings)) can in
      let z = some_and (held path) (λ z. AreComparableUnder check.settings.mode t.0 t.1 z check.settings) t.4 in
      let accepted = both_accepted check.settings.mode t.0 t.1 check.settings z.2.comparable in
      let told : AreTold held check check.assumed =
      record { left = t.0; right = t.1; left_is = t.2; right_is = t.3; left_accepted = accepted.0; right_accepted = accepted.1; third = subst (IsThirdTold held) (sym is) (z.0, z.1, z.2.accepted) } in
      let under : (e : CompareError) → (e ≡ compare_error.NoMemory → ⊥) → AnswersUnder (Some path) e → ⊥ =
      λ e apart h. apart_three t.0 t.1 z.0 path t.2 t.3 z.1 z.2 e apart h in
      answered told (Some path) is under under

-- a comparison that can be made is answered, by what is found of it
pub check_complete : (held : Held) (check : Check) (f : Finding) → IsFoundOf held check f → IsCheckComplete held check (status_of f)
check_complete held check f found can = by_assumed held check f found check.assumed refl can
