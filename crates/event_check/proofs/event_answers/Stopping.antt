-- Two circuits that are reached, with and without their class map.
use Rattle.std.proofs.Common.{◌≡◌, ◌∙◌, ◌<◌, ℕ, List, [], length, Option, Result, Ok, Err, refl, sym, ap, subst, inl, inr}
use Rattle.std.specs.List.{All}
use Rattle.std.proofs.lemmas.List.Elements.{All-weaker}
use Rattle.circuit_theory.specs.declared.Side.{Side}
use Rattle.flat_net.specs.Sound.{IsSound}
use Rattle.flat_net.specs.View.{NetView}
use Rattle.sec_setup.specs.declared.ports.pairs.SignalPair.{SignalPair}
use Rattle.sec_setup.specs.ports.Pairs.{ArePairsOf}
use Rattle.pair_decide.specs.declared.query.Proof.{Proof}
use Rattle.sec_base.specs.declared.basics.Tag.{Tag}
use Rattle.sec_base.specs.declared.settings.Settings.{Settings}
use Rattle.obligations.specs.declared.outcome.verdict.LimitAt.{LimitAt}
use Rattle.obligations.specs.declared.outcome.verdict.LimitAt.TheVariants as limit_at
use Rattle.obligations.specs.declared.outcome.verdict.Verdict.TheVariants as verdict
use Rattle.sec_setup.specs.Setup.{AreColumns}
use Rattle.event_classes.specs.declared.error.EventError.{EventError}
use Rattle.event_classes.specs.declared.error.EventError.TheVariants as event_error
use Rattle.event_comparison.specs.class_events.Refused.{IsLimitOf, IsRefusedMap}
use Rattle.event_nodes.specs.View.{EventCircuitView, IsEventCircuit}
use Rattle.event_setup.specs.declared.error.RecoveryError.{RecoveryError}
use Rattle.event_setup.specs.declared.error.RecoveryError.TheVariants as unknown
use Rattle.event_setup.specs.declared.setup.EventSetup.{EventSetup}
use Rattle.event_setup.specs.Recovered.{AreKnown, RecoversBoth}
use Rattle.event_setup.specs.Setup.{IsEventSetupOf, IsPairWithin}
use Rattle.event_setup.proofs.Setups.{pairs_within}
use Rattle.event_check.specs.event_answers.Laws.{HaveClassesGiven}
use Rattle.event_check.proofs.event_answers.Comparing.{setups_compared}
use Rattle.event_form.specs.event_agreement.pair_events.View.{EventsView}
use Rattle.plain_check.specs.declared.under_base.compare_base.error.CompareError.{CompareError}
use Rattle.event_setup.specs.event_meaning.event_names.Asked.{IsPairOf}
use Rattle.event_setup.specs.event_meaning.event_names.event_fits.Circuits.{AreReached}
use Rattle.event_setup.specs.event_meaning.event_names.event_fits.Fitting.{class_limit}
use Rattle.event_setup.specs.event_meaning.event_names.event_fits.Named.{latch_names}
use Rattle.event_setup.specs.declared.event_meaning.event_names.names.Names.{Names}
use Rattle.event_check.specs.declared.event_answers.reaching.Asked.{Asked}
use Rattle.event_check.specs.event_answers.Askable.{AreAskable}
use Rattle.event_check.specs.event_answers.Limits.{TellsLimit, TellsUnknown}
use Rattle.event_check.specs.event_answers.Reached.{StopsAtLimit}

abbrev Told : LimitAt → Result LimitAt CompareError
Told at = Ok at

one_limit : (x y : LimitAt) → Told x ≡ Told y → x ≡ y
one_limit x y q = cc

module _ (a b : NetView) (settings : Settings) where
  -- the limit of a latch's own enable
  unrecovered_stops : (side : Side) (name : List ℕ) (proof : Proof) → RecoversBoth a b settings.conflicts (Err (unknown.Limit side name proof)) → (at : LimitAt) → at ≡ limit_at.Recover side name proof → StopsAtLimit a b settings [] at
  unrecovered_stops side name proof limit at is o exposed classes pairs same =
      inl (record { side = side; name = name; proof = proof; limit = limit; exposed = exposed; classes = classes; pairs = pairs; verdict_is = same ∙ ap verdict.Limit is })

  -- so is what is told where it isn't known which latches are enabled
  pub unknown_stops : (error : RecoveryError) → RecoversBoth a b settings.conflicts (Err error) → (at : LimitAt) → TellsUnknown error (Ok at) → StopsAtLimit a b settings [] at
  unknown_stops (unknown.Limit side name proof) limit at told = unrecovered_stops side name proof limit at (one_limit at (limit_at.Recover side name proof) told)
  unknown_stops (unknown.TooLarge side) limit at told = absurd (cc)
  unknown_stops unknown.NoMemory limit at told = absurd (cc)

  module _ (left_known : AreKnown a) (right_known : AreKnown b) (s : EventSetup) (is : IsEventSetupOf a b settings.expose s) where
    -- the circuits are reached, whatever classes their latches have
    reached : (left right : List ℕ) → IsSound s.left.net → IsSound s.right.net → IsEventCircuit (record s.left { classes = left }) → IsEventCircuit (record s.right { classes = right }) →
        AreReached a b settings.expose s.exposed (record s.left { classes = left }) (record s.right { classes = right })
    reached left right left_sound right_sound left_is right_is = record {
      left_known = left_known;
      right_known = right_known;
      no_cycles = is.no_cycles;
      circuits = record {
        minimal = is.minimal;
        closed = is.closed;
        are_cut = is.are_cut;
        left_ready = record { sound = left_sound; marked = left_is; depths = is.is.left.depths };
        right_ready = record { sound = right_sound; marked = right_is; depths = is.is.right.depths };
        left_columns = subst (λ (cs : List (List ℕ)). AreColumns s.left.net cs s.left.order s.right.order) is.columns is.is.left_columns;
        right_columns = subst (λ (cs : List (List ℕ)). AreColumns s.right.net cs s.right.order s.left.order) is.columns is.is.right_columns;
      };
    }

    -- as they are before the class map is made
    pub reached_first : IsSound s.left.net → IsSound s.right.net → IsEventCircuit s.left → IsEventCircuit s.right → AreReached a b settings.expose s.exposed s.left s.right
    reached_first left_sound right_sound left_is right_is = reached s.left.classes s.right.classes left_sound right_sound left_is right_is

    -- and with it
    pub reached_then : (e : EventsView) → HaveClassesGiven s e → IsSound e.left.net → IsSound e.right.net → IsEventCircuit e.left → IsEventCircuit e.right → AreReached a b settings.expose s.exposed e.left e.right
    reached_then e given left_sound right_sound left_is right_is =
        subst (λ (r : EventCircuitView). AreReached a b settings.expose s.exposed e.left r) (sym given.right)
        (subst (λ (l : EventCircuitView). AreReached a b settings.expose s.exposed l (record s.right { classes = e.right.classes })) (sym given.left)
        (reached e.left.classes e.right.classes (subst (λ (l : EventCircuitView). IsSound l.net) given.left left_sound) (subst (λ (r : EventCircuitView). IsSound r.net) given.right right_sound)
        (subst IsEventCircuit given.left left_is) (subst IsEventCircuit given.right right_is)))

    -- the limit of a class query
    class_stops : (n : Names) → n.left ≡ latch_names s.left.net → n.right ≡ latch_names s.right.net → AreReached a b settings.expose s.exposed s.left s.right → (latch : Tag) (other : Option Tag) (proof : Proof) → IsLimitOf s.left s.right latch other settings.conflicts proof →
        (at : LimitAt) → at ≡ class_limit n.left n.right latch other proof → StopsAtLimit a b settings s.exposed at
    class_stops n left right reaches latch other proof limit at told o exposed classes pairs same = inr (record {
      left = s.left;
      right = s.right;
      reached = subst (λ (names : List (List ℕ)). AreReached a b settings.expose names s.left s.right) (sym exposed) reaches;
      latch = latch;
      other = other;
      proof = proof;
      limit = limit;
      classes = classes;
      pairs = pairs;
      verdict_is = same ∙ ap verdict.Limit (told ∙ (ap (λ (ls : List (List ℕ)). class_limit ls n.right latch other proof) left ∙ ap (λ (rs : List (List ℕ)). class_limit (latch_names s.left.net) rs latch other proof) right));
    })

    -- so is what is told where the classes aren't known
    pub unclassed_stops : {X : Type 0} (n : Names) → n.left ≡ latch_names s.left.net → n.right ≡ latch_names s.right.net → AreReached a b settings.expose s.exposed s.left s.right → (error : EventError) → IsRefusedMap {X = X} s.left s.right settings.conflicts (Err error) →
        (at : LimitAt) → TellsLimit n error (Ok at) → StopsAtLimit a b settings s.exposed at
    unclassed_stops n left right reaches (event_error.Limit latch other proof) h at told = class_stops n left right reaches latch other proof (h.limit latch other proof refl) at told
    unclassed_stops n left right reaches event_error.TooManyEvents h at told = absurd (cc)
    unclassed_stops n left right reaches (event_error.TooLarge side) h at told = absurd (cc)
    unclassed_stops n left right reaches event_error.NoMemory h at told = absurd (cc)

    -- the pairs of the setup can be asked about
    pub setup_askable : (e : EventsView) → HaveClassesGiven s e → IsSound s.left.net → IsSound s.right.net → (n : Names) (x : Asked) → n.columns ≡ s.columns → n.left ≡ latch_names s.left.net → n.right ≡ latch_names s.right.net → x.pairs ≡ s.pairs → x.depths ≡ s.depths → AreAskable e n x
    setup_askable e given left_sound right_sound n x columns left right pairs depths = record {
      within = subst (All (IsPairOf e)) (sym pairs) (All-weaker (IsPairWithin s.left.net s.right.net) (IsPairOf e) pair_of s.pairs (pairs_within s.left.net s.right.net left_sound right_sound s.pairs is.is.pairs));
      shown = subst (λ (l : EventCircuitView). ArePairsOf l.net e.right.net x.pairs) (sym given.left) (subst (λ (r : EventCircuitView). ArePairsOf s.left.net r.net x.pairs) (sym given.right) (subst (ArePairsOf s.left.net s.right.net) (sym pairs) is.is.pairs));
      compared = λ c k. (setups_compared s e c left_sound right_sound is.is given (record { pairs = k.0 ∙ pairs; depths = k.1 ∙ depths; names = k.2 ∙ columns })).1;
      left_columns = subst (λ (l : EventCircuitView). AreColumns l.net n.columns l.order e.right.order) (sym given.left)
          (subst (λ (r : EventCircuitView). AreColumns s.left.net n.columns s.left.order r.order) (sym given.right) (subst (λ (cs : List (List ℕ)). AreColumns s.left.net cs s.left.order s.right.order) (sym columns) is.is.left_columns));
      right_columns = subst (λ (l : EventCircuitView). AreColumns e.right.net n.columns e.right.order l.order) (sym given.left)
          (subst (λ (r : EventCircuitView). AreColumns r.net n.columns r.order s.left.order) (sym given.right) (subst (λ (cs : List (List ℕ)). AreColumns s.right.net cs s.right.order s.left.order) (sym columns) is.is.right_columns));
      left_latches = left ∙ ap (λ (l : EventCircuitView). latch_names l.net) (sym given.left);
      right_latches = right ∙ ap (λ (r : EventCircuitView). latch_names r.net) (sym given.right);
    }
      where
        pair_of : (p : SignalPair) → IsPairWithin s.left.net s.right.net p → IsPairOf e p
        pair_of p h = record {
          left = subst (λ (l : EventCircuitView). p.left.0 < length l.net.drivers) (sym given.left) h.left;
          right = subst (λ (r : EventCircuitView). p.right.0 < length r.net.drivers) (sym given.right) h.right;
        }
