-- What the status of a comparison by blocks means.
use Rattle.std.specs.Prelude.{IfSome}
use Rattle.std.proofs.Common.{◌≡◌, ℕ, Bool, List, refl, sym, ap, subst, ◌∙◌, inl, inr, ◌⊎◌, Option, Some, None}
use Rattle.base_shelves.specs.Outside.{Takes}
use Rattle.sec_base.specs.declared.basics.Tag.{Tag}
use Rattle.flat_net.specs.View.{NetView}
use Rattle.pair_decide.specs.declared.query.Proof.{Proof}
use Rattle.job_base.specs.sec_files.Loading.{Loads, circuit_of_text}
use Rattle.job_base.proofs.sec_files.Texts.{spelled_circuit}
use Rattle.job_base.proofs.design_laws.text_circuits.Circuits.{text_design}
use Rattle.job_base.proofs.design_laws.text_circuits.Resets.{resets_agree_up}
use Rattle.job_base.proofs.sec_files.job_files.Reading.{is_loaded}
use Rattle.job_base.specs.declared.finding.Judgement.{Judgement}
use Rattle.job_base.specs.declared.finding.Judgement.TheVariants as judgement
use Rattle.job_base.specs.declared.finding.Refusal.{Refusal}
use Rattle.job_base.specs.declared.finding.Finding.{Finding}
use Rattle.job_base.specs.declared.finding.Finding.TheVariants as finding
use Rattle.job_base.specs.declared.status.StatusName.{StatusName}
use Rattle.job_base.specs.declared.status.StatusName.TheVariants as status
use Rattle.job_base.specs.Written.{judgement_status, IsWrittenAs}
use Rattle.induct.specs.declared.induction.InductVerdict.{InductVerdict}
use Rattle.induct.specs.declared.induction.InductVerdict.TheVariants as verdict
use Rattle.induct.specs.Inductions.{IsOver, IsSplitLimitOf}
use Rattle.sec_jobs.specs.job_induct.induct_meaning.Judged.{judgement_of, IsJudged}
use Rattle.job_base.specs.sec_files.job_files.Texts.{OfNets, OfTexts}
use Rattle.sec_jobs.specs.job_induct.induct_meaning.Found.{IsInductFound}
use Rattle.sec_jobs.specs.job_induct.induct_meaning.Answer.{BlocksAgree, IsUnshown, BlocksNotShown, PairUndecided, SplitUndecided, BlocksUndecided, InductMeans}
use Rattle.sec_jobs.proofs.job_induct.induct_meaning.Judging.{tell_apart, pair_undecided, is_no_split, split_undecided}

-- verdicts by their statuses
equal_verdict : (v : InductVerdict) → judgement_status (judgement_of v) ≡ status.Equal → v ≡ verdict.Equal
equal_verdict verdict.Equal e = refl
equal_verdict (verdict.NotShown pair left right vars bits) e = absurd (cc)
equal_verdict (verdict.Limit pair) e = absurd (cc)
equal_verdict (verdict.SplitLimit left right proof) e = absurd (cc)

record IsNotShown (v : InductVerdict) : Type 0 where
  pub pair : List ℕ
  pub left : Bool
  pub right : Bool
  pub vars : List ℕ
  pub bits : List Bool
  pub is : v ≡ verdict.NotShown pair left right vars bits

not_shown_verdict : (v : InductVerdict) → judgement_status (judgement_of v) ≡ status.NotShown → IsNotShown v
not_shown_verdict verdict.Equal e = absurd (cc)
not_shown_verdict (verdict.NotShown pair left right vars bits) e = record { pair = pair; left = left; right = right; vars = vars; bits = bits; is = refl }
not_shown_verdict (verdict.Limit pair) e = absurd (cc)
not_shown_verdict (verdict.SplitLimit left right proof) e = absurd (cc)

-- what is said of nets, of their texts
pub of_texts : (left right : Option (List ℕ)) (a b : NetView) (P : List ℕ → List ℕ → Type 0) → IfSome left (λ x. Loads x a) → IfSome right (λ y. Loads y b) → ((x y : List ℕ) → Loads x a → Loads y b → P x y) → OfTexts left right P
of_texts left right a b P l r f = record { left_loads = is_loaded left a l; right_loads = is_loaded right b r; said = both left right l r }
  where
    both : (o o' : Option (List ℕ)) → IfSome o (λ x. Loads x a) → IfSome o' (λ y. Loads y b) → IfSome o (λ x. IfSome o' (λ y. P x y))
    both None o' here there = tt
    both (Some x) None here there = tt
    both (Some x) (Some y) here there = f x y here there

-- what the judgement of two nets says of them
module _ (conflicts : ℕ) (a b : NetView) (j : Judgement) (proofs : List Proof) (text : List ℕ) (h : IsJudged a b conflicts j proofs text) where
  pub equal_judged : judgement_status j ≡ status.Equal → h.made.verdict ≡ verdict.Equal
  equal_judged e = equal_verdict h.made.verdict (ap judgement_status (sym h.judgement_is) ∙ e)

  pub unshown : judgement_status j ≡ status.NotShown → IsUnshown a b conflicts h.made
  unshown e = go h.is.is
    where
      v : IsNotShown h.made.verdict
      v = not_shown_verdict h.made.verdict (ap judgement_status (sym h.judgement_is) ∙ e)

      go : IsOver a b h.is.own conflicts h.made ⊎ IsSplitLimitOf a b h.is.own conflicts h.made → IsUnshown a b conflicts h.made
      go (inl over) = record {
        own = h.is.own;
        are_own = h.is.are_own;
        over = over;
        pair = v.pair;
        left = v.left;
        right = v.right;
        vars = v.vars;
        bits = v.bits;
        is_verdict = v.is;
        shown = tell_apart a b h.is.own h.is.are_own conflicts h.made over h.left_sound h.right_sound h.matches v.pair v.left v.right v.vars v.bits v.is;
      }
      go (inr split) = absurd (other (sym v.is ∙ split.verdict_is))
        where
          other : {l r : Tag} {proof : Proof} → verdict.NotShown v.pair v.left v.right v.vars v.bits ≡ verdict.SplitLimit l r proof → ⊥
          other q = cc

  pub undecided : judgement_status j ≡ status.Limit → PairUndecided a b conflicts proofs h.made ⊎ SplitUndecided a b conflicts proofs h.made
  undecided e = go h.is.is
    where
      limit : (v : InductVerdict) → h.made.verdict ≡ v → judgement_status (judgement_of v) ≡ status.Limit → IsOver a b h.is.own conflicts h.made → PairUndecided a b conflicts proofs h.made
      limit verdict.Equal is q over = absurd (cc)
      limit (verdict.NotShown pair l r vars bits) is q over = absurd (cc)
      limit (verdict.Limit pair) is q over = pair_undecided a b h.is.own h.is.are_own conflicts h.made over proofs pair is h.proofs_are
      limit (verdict.SplitLimit l r proof) is q over = absurd (is_no_split a b h.is.own h.is.are_own conflicts h.made over l r proof is)

      go : IsOver a b h.is.own conflicts h.made ⊎ IsSplitLimitOf a b h.is.own conflicts h.made → PairUndecided a b conflicts proofs h.made ⊎ SplitUndecided a b conflicts proofs h.made
      go (inl over) = inl (limit h.made.verdict refl (ap judgement_status (sym h.judgement_is) ∙ e) over)
      go (inr split) = inr (split_undecided a b h.is.own h.is.are_own conflicts h.made split proofs h.proofs_are)

module _ (conflicts : ℕ) (before now : Option (List ℕ)) (a b : NetView) (j : Judgement) (proofs : List Proof) (text : List ℕ) (h : IsJudged a b conflicts j proofs text) (taken : Takes before now text) (x y : List ℕ) (left : Loads x a)
    (right : Loads y b) where
  agree : judgement_status j ≡ status.Equal → BlocksAgree x y conflicts before now
  agree e =
      let equal = equal_judged conflicts a b j proofs text h e in
      record {
        left_clock = a.clock;
        right_clock = b.clock;
        left = circuit_of_text x a.clock;
        right = circuit_of_text y b.clock;
        left_spelled = spelled_circuit x a left;
        right_spelled = spelled_circuit y b right;
        left_net = a;
        right_net = b;
        left_loads = left;
        right_loads = right;
        made = h.made;
        is = h.is;
        is_verdict = equal;
        printed = subst (Takes before now) h.text_is taken;
        says = resets_agree_up (text_design x a left) (text_design y b right) (h.agree equal);
        nets_say = h.agree equal;
      }

  not_shown : judgement_status j ≡ status.NotShown → BlocksNotShown x y conflicts before now
  not_shown e = record { left_net = a; right_net = b; left_loads = left; right_loads = right; made = h.made; printed = subst (Takes before now) h.text_is taken; unshown = unshown conflicts a b j proofs text h e }

  limited : judgement_status j ≡ status.Limit → BlocksUndecided x y conflicts proofs before now
  limited e = record { left_net = a; right_net = b; left_loads = left; right_loads = right; made = h.made; printed = subst (Takes before now) h.text_is taken; undecided = undecided conflicts a b j proofs text h e }

-- a verdict is none of the other statuses
pub not_different : (v : InductVerdict) → judgement_status (judgement_of v) ≡ status.Different → ⊥
not_different verdict.Equal q = cc
not_different (verdict.NotShown pair left right vars bits) q = cc
not_different (verdict.Limit pair) q = cc
not_different (verdict.SplitLimit left right proof) q = cc

pub not_done : (j : Judgement) → judgement_status j ≡ status.Done → ⊥
not_done judgement.Equal q = cc
not_done judgement.Different q = cc
not_done judgement.NotShown q = cc
not_done judgement.Limit q = cc

module _ (conflicts : ℕ) (left right before now : Option (List ℕ)) where
  -- a judgement that is written
  judged_means : (j : Judgement) (kept : List Proof) (text : List ℕ) → OfNets left right (λ a b. IsJudged a b conflicts j kept text) → (proofs : List Proof) (name : StatusName) →
      IsWrittenAs before now (finding.Judged j kept text) proofs name → InductMeans conflicts left right before now proofs name
  judged_means j kept text h proofs status.Equal w =
      of_texts left right h.a h.b (λ x y. BlocksAgree x y conflicts before now) h.left_loads h.right_loads (λ x y l r. agree conflicts before now h.a h.b j kept text h.said w.2 x y l r w.1)
  judged_means j kept text h proofs status.Different w = not_different h.said.made.verdict (ap judgement_status (sym h.said.judgement_is) ∙ w.1)
  judged_means j kept text h proofs status.NotShown w =
      of_texts left right h.a h.b (λ x y. BlocksNotShown x y conflicts before now) h.left_loads h.right_loads (λ x y l r. not_shown conflicts before now h.a h.b j kept text h.said w.2 x y l r w.1)
  judged_means j kept text h proofs status.Limit w =
      of_texts left right h.a h.b (λ x y. BlocksUndecided x y conflicts proofs before now) h.left_loads h.right_loads
      (λ x y l r. subst (λ (ps : List Proof). BlocksUndecided x y conflicts ps before now) (sym w.0) (limited conflicts before now h.a h.b j kept text h.said w.2 x y l r w.1))
  judged_means j kept text h proofs status.Refused w = tt
  judged_means j kept text h proofs status.Words w = tt
  judged_means j kept text h proofs status.ReadFault w = tt
  judged_means j kept text h proofs status.WriteFault w = tt
  judged_means j kept text h proofs status.NoMemory w = tt
  judged_means j kept text h proofs status.Cyclic w = tt
  judged_means j kept text h proofs status.Done w = not_done j w.1

  -- a refusal that is written
  refused_means : (r : Refusal) (proofs : List Proof) (name : StatusName) → IsWrittenAs before now (finding.Refused r) proofs name → InductMeans conflicts left right before now proofs name
  refused_means r proofs status.Equal w = absurd (let e : status.Refused ≡ status.Equal = w.1 in cc)
  refused_means r proofs status.Different w = absurd (let e : status.Refused ≡ status.Different = w.1 in cc)
  refused_means r proofs status.NotShown w = absurd (let e : status.Refused ≡ status.NotShown = w.1 in cc)
  refused_means r proofs status.Limit w = absurd (let e : status.Refused ≡ status.Limit = w.1 in cc)
  refused_means r proofs status.Refused w = tt
  refused_means r proofs status.Words w = tt
  refused_means r proofs status.ReadFault w = tt
  refused_means r proofs status.WriteFault w = tt
  refused_means r proofs status.NoMemory w = tt
  refused_means r proofs status.Cyclic w = tt
  refused_means r proofs status.Done w = absurd (let e : status.Refused ≡ status.Done = w.1 in cc)

  -- what a written finding means
  pub induct_means : (f : Finding) (proofs : List Proof) (name : StatusName) → IsInductFound conflicts left right f → IsWrittenAs before now f proofs name → InductMeans conflicts left right before now proofs name
  induct_means finding.Words proofs name h w = absurd h
  induct_means (finding.Refused r) proofs name h w = refused_means r proofs name w
  induct_means (finding.Cyclic side names) proofs name h w = absurd h
  induct_means (finding.Unpaired side names) proofs name h w = absurd h
  induct_means (finding.Checked o s) proofs name h w = absurd h
  induct_means (finding.Done text) proofs name h w = absurd h
  induct_means (finding.Generated o report) proofs name h w = absurd h
  induct_means (finding.Replayed differences) proofs name h w = absurd h
  induct_means (finding.Undecided side latch proof) proofs name h w = absurd h
  induct_means (finding.Unrefuted u) proofs name h w = absurd h
  induct_means (finding.Judged j kept text) proofs name h w = judged_means j kept text h proofs name w
