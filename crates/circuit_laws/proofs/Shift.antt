-- What is settled in a run is what the past gives.
use Rattle.std.proofs.Common.{◌≡◌, ℕ, suc, ◌+◌, ◌-◌, ◌<◌, ◌≤◌, Bool, sym, ◌∙◌, ap, arith, add-one}
use Rattle.std.proofs.lemmas.List.Elements.{All-contains}
use Rattle.circuit_theory.specs.Cover.{cover_value}
use Rattle.circuit_theory.specs.Circuit.{Circuit, IsInput, Holds, Carries}
use Rattle.circuit_theory.specs.Run.{IsRun, IsPast, Marked, NoneEnabled}
use Rattle.circuit_theory.proofs.Lists.{map_same}

module _ {P : Type 0} (c : Circuit P) (n : ℕ) (run w : ℕ → P → Bool) (is_run : IsRun c n run) (past : IsPast c w)
    (last : ℕ) (in_run : last < n) (inputs : (p : P) (t : ℕ) → IsInput c p → t ≤ last → w (last - t) p ≡ run t p) where
  pub settled_is_past : {t : ℕ} {p : P} → Marked c NoneEnabled run t p → t ≤ last → w (last - t) p ≡ run t p
  settled_is_past {t} {p} (Marked.input i) le = inputs p t i le
  settled_is_past {t} (Marked.gate {fanins = fanins} {cover = cover} eq marks) le =
      All-contains (Holds (w (last - t))) c.equations _ (past.meets (last - t)) eq
      ∙ (ap (cover_value cover) (map_same (w (last - t)) (run t) fanins (λ p h. settled_is_past (marks p h) le))
      ∙ sym (All-contains (Holds (run t)) c.equations _ (is_run.meets t (omega arith)) eq))
  settled_is_past {t} (Marked.port eq mark) le =
      All-contains (Holds (w (last - t))) c.equations _ (past.meets (last - t)) eq
      ∙ (settled_is_past mark le ∙ sym (All-contains (Holds (run t)) c.equations _ (is_run.meets t (omega arith)) eq))
  settled_is_past (Marked.plain {t = t} {out = out} {next = next} latch other mark) le =
      let back : w (last - suc t) out ≡ w (last - suc t + 1) next = All-contains (Carries (w (last - suc t + 1)) (w (last - suc t))) c.equations _ (past.goes_back (last - suc t)) latch in
      let fwd : run (t + 1) out ≡ run t next = All-contains (Carries (run t) (run (t + 1))) c.equations _ (is_run.carries t (omega arith)) latch in
      let same_time : last - suc t + 1 ≡ last - t = omega arith in
      let ih : w (last - t) next ≡ run t next = settled_is_past mark (omega arith) in
      back ∙ (ap (λ k. w k next) same_time ∙ (ih ∙ (sym fwd ∙ ap (λ k. run k out) (add-one t))))
  settled_is_past (Marked.loads latch en others loads) le = absurd en
  settled_is_past (Marked.keeps latch en others mark) le = absurd en
