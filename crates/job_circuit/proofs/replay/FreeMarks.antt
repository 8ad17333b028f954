-- Inputs that nothing reads have no effect on what is settled, and initial values have none.
use Rattle.std.proofs.Common.{◌≡◌, ◌≢◌, ℕ, ◌+◌, Bool, true, false, cond, List, refl, sym, ◌∙◌, ap, subst, inl, inr}
use Rattle.std.specs.List.{All, Contains}
use Rattle.std.proofs.lemmas.List.Elements.{All-contains}
use Rattle.circuit_theory.specs.Cover.{cover_value}
use Rattle.circuit_theory.specs.Circuit.{Circuit, Equation, Gate, Latch, Port, Named, IsLatch, IsSource, Reads, Reaches, InCone, Holds, Carries, Meets, out_of}
use Rattle.circuit_theory.specs.Run.{IsRun, ExtendsWith, Loads, Marked, IsEnabled}
use Rattle.circuit_theory.proofs.Lists.{map_same, All-from_each}

-- nothing drives or reads the places that pass the test
pub record AreUnread {P : Type 0} (c : Circuit P) (free : P → Bool) : Type 0 where
  pub outs : (e : Equation P) → Contains c.equations e → free (out_of e) ≡ false
  pub reads : (p q : P) → Reads c p q → free q ≡ false
  pub nexts : (name : List ℕ) (u next : P) → IsLatch c name u next → free next ≡ false

-- the values of v, with those of y at the free places
abbrev pub mixed : {P : Type 0} → (P → Bool) → (P → Bool) → (P → Bool) → P → Bool
mixed free y v p = cond (free p) (y p) (v p)

module _ {P : Type 0} (c : Circuit P) (free : P → Bool) (unread : AreUnread c free) where
  pub mixed_is : (y v : P → Bool) (p : P) → free p ≡ false → mixed free y v p ≡ v p
  mixed_is y v p e = ap (λ b. cond b (y p) (v p)) e

  pub mixed_free : (y v : P → Bool) (p : P) → free p ≡ true → mixed free y v p ≡ y p
  mixed_free y v p e = ap (λ b. cond b (y p) (v p)) e

  -- an equation says the same of the values with others at the free places
  holds_mixed : (y v : P → Bool) (e : Equation P) → Contains c.equations e → Holds v e → Holds (mixed free y v) e
  holds_mixed y v (Gate out fanins cover) h holds =
      mixed_is y v out (unread.outs (Gate out fanins cover) h)
      ∙ (holds ∙ ap (cover_value cover) (map_same v (mixed free y v) fanins (λ p k. sym (mixed_is y v p (unread.reads out p (Reads.by_gate h k))))))
  holds_mixed y v (Latch name out next) h holds = tt
  holds_mixed y v (Port out from) h holds = mixed_is y v out (unread.outs (Port out from) h) ∙ (holds ∙ sym (mixed_is y v from (unread.reads out from (Reads.by_port h))))

  pub meets_mixed : (y v : P → Bool) → Meets c v → Meets c (mixed free y v)
  meets_mixed y v meets = All-from_each (Holds (mixed free y v)) c.equations (λ e h. holds_mixed y v e h (All-contains (Holds v) c.equations e meets h))

  carries_mixed : (y z v w : P → Bool) (e : Equation P) → Contains c.equations e → Carries v w e → Carries (mixed free y v) (mixed free z w) e
  carries_mixed y z v w (Gate out fanins cover) h carries = tt
  carries_mixed y z v w (Latch name out next) h carries = mixed_is z w out (unread.outs (Latch name out next) h) ∙ (carries ∙ sym (mixed_is y v next (unread.nexts name out next h)))
  carries_mixed y z v w (Port out from) h carries = tt

  -- a run with other values at the free places is a run
  pub run_mixed : (n : ℕ) (y run : ℕ → P → Bool) → IsRun c n run → IsRun c n (λ t. mixed free (y t) (run t))
  run_mixed n y run is_run = record {
    meets = λ t h. meets_mixed (y t) (run t) (is_run.meets t h);
    carries = λ t h. All-from_each (Carries (mixed free (y t) (run t)) (mixed free (y (t + 1)) (run (t + 1)))) c.equations
        (λ e k. carries_mixed (y t) (y (t + 1)) (run t) (run (t + 1)) e k (All-contains (Carries (run t) (run (t + 1))) c.equations e (is_run.carries t h) k));
  }

-- the inputs and the equations of both are the same
pub record AreOne {P : Type 0} (c d : Circuit P) : Type 0 where
  pub inputs : c.inputs ≡ d.inputs
  pub equations : c.equations ≡ d.equations

pub one_back : {P : Type 0} (c d : Circuit P) → AreOne c d → AreOne d c
one_back c d one = record { inputs = sym one.inputs; equations = sym one.equations }

module _ {P : Type 0} (c d : Circuit P) (one : AreOne c d) where
  pub one_equation : (e : Equation P) → Contains c.equations e → Contains d.equations e
  one_equation e h = subst (λ (es : List (Equation P)). Contains es e) one.equations h

  pub one_input : (i : Named P) → Contains c.inputs i → Contains d.inputs i
  one_input i h = subst (λ (is : List (Named P)). Contains is i) one.inputs h

  pub one_source : (p : P) → IsSource c p → IsSource d p
  one_source p (inl i) = inl (i.0, one_input _ i.1)
  one_source p (inr l) = inr (l.0, l.1, one_equation _ l.2)

  pub one_reading : {p q : P} → Reads c p q → Reads d p q
  one_reading (Reads.by_gate eq h) = Reads.by_gate (one_equation _ eq) h
  one_reading (Reads.by_port eq) = Reads.by_port (one_equation _ eq)

  one_reach : {p u : P} → Reaches c p u → Reaches d p u
  one_reach Reaches.here = Reaches.here
  one_reach (Reaches.there reads rest) = Reaches.there (one_reading reads) (one_reach rest)

  pub one_cone : (p u : P) → InCone c p u → InCone d p u
  one_cone p u h = (one_source u h.0, one_reach h.1)

  pub one_meets : (v : P → Bool) → Meets c v → Meets d v
  one_meets v meets = subst (λ (es : List (Equation P)). All (Holds v) es) one.equations meets

  pub one_run : (n : ℕ) (run : ℕ → P → Bool) → IsRun c n run → IsRun d n run
  one_run n run is_run = record {
    meets = λ t h. one_meets (run t) (is_run.meets t h);
    carries = λ t h. subst (λ (es : List (Equation P)). All (Carries (run t) (run (t + 1))) es) one.equations (is_run.carries t h);
  }

-- Two circuits that are one, of whose inputs some are free: runs that are one elsewhere have the same marks, where the same latches
-- count as enabled.
module _ {P : Type 0} (c d : Circuit P) (one : AreOne c d) (free : P → Bool) (unread : AreUnread d free) (in_c in_d : P → Type 0)
    (to : (name : List ℕ) (u next : P) → IsLatch c name u next → in_c u → in_d u) (from : (name : List ℕ) (u next : P) → IsLatch c name u next → in_d u → in_c u)
    (r s : ℕ → P → Bool) (same : (t : ℕ) (p : P) → free p ≡ false → s t p ≡ r t p) where
  extends_free : (t : ℕ) (name : List ℕ) (u next : P) → IsLatch c name u next → (bit : Bool) (v : P → Bool) → ExtendsWith c u bit (r t) v → ExtendsWith d u bit (s t) (mixed free (s t) v)
  extends_free t name u next latch bit v ex = record {
    meets = meets_mixed d free unread (s t) v (one_meets c d one v ex.meets);
    sources = λ p source n. go p source n (free p) refl;
    put = mixed_is d free unread (s t) v u (unread.outs (Latch name u next) (one_equation c d one _ latch)) ∙ ex.put;
  }
    where
      go : (p : P) → IsSource d p → p ≢ u → (b : Bool) → free p ≡ b → mixed free (s t) v p ≡ s t p
      go p source n true e = mixed_free d free unread (s t) v p e
      go p source n false e = mixed_is d free unread (s t) v p e ∙ (ex.sources p (one_source d c (one_back c d one) p source) n ∙ sym (same t p e))

  loads_free : (t : ℕ) (name : List ℕ) (u next : P) → IsLatch c name u next → Loads c (r t) u next → Loads d (s t) u next
  loads_free t name u next latch loads =
      let next_read : free next ≡ false = unread.nexts name u next (one_equation c d one _ latch) in
      record {
        low = mixed free (s t) loads.low;
        high = mixed free (s t) loads.high;
        low_is = extends_free t name u next latch false loads.low loads.low_is;
        high_is = extends_free t name u next latch true loads.high loads.high_is;
        same = mixed_is d free unread (s t) loads.low next next_read ∙ (loads.same ∙ sym (mixed_is d free unread (s t) loads.high next next_read));
      }

  pub marks_free : {t : ℕ} {p : P} → Marked c in_c r t p → Marked d in_d s t p
  marks_free (Marked.input i) = Marked.input (i.0, one_input c d one _ i.1)
  marks_free (Marked.gate eq each) = Marked.gate (one_equation c d one _ eq) (λ q h. marks_free (each q h))
  marks_free (Marked.port eq rest) = Marked.port (one_equation c d one _ eq) (marks_free rest)
  marks_free (Marked.plain {name = name} {out = out} {next = next} eq other mark) = Marked.plain (one_equation c d one _ eq) (λ en. other (from name out next eq en)) (marks_free mark)
  marks_free (Marked.loads {t = t} {name = name} {out = out} {next = next} eq en others loads) =
      Marked.loads (one_equation c d one _ eq) (to name out next eq en) (λ u cone ne. marks_free (others u (one_cone d c (one_back c d one) next u cone) ne)) (loads_free t name out next eq loads)
  marks_free (Marked.keeps {t = t} {name = name} {out = out} {next = next} eq en others mark) =
      Marked.keeps (one_equation c d one _ eq) (to name out next eq en) (λ u cone ne. marks_free (others u (one_cone d c (one_back c d one) next u cone) ne)) (marks_free mark)

-- what nothing reads in the one, nothing reads in the other
pub unread_back : {P : Type 0} (c d : Circuit P) → AreOne c d → (free : P → Bool) → AreUnread d free → AreUnread c free
unread_back c d one free unread = record {
  outs = λ e h. unread.outs e (one_equation c d one e h);
  reads = λ p q r. unread.reads p q (one_reading c d one r);
  nexts = λ name u next latch. unread.nexts name u next (one_equation c d one _ latch);
}
