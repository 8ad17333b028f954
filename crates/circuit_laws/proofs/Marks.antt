-- Marks are never lost and go down to what is read; a place with a tree is settled exactly from its depth on.
use Rattle.std.proofs.Common.{◌≡◌, ◌≢◌, ℕ, zero, suc, ◌+◌, ◌<◌, ◌≤◌, Bool, List, refl, sym, subst, arith, inl, inr}
use Rattle.std.specs.Prelude.{◌⊎◌}
use Rattle.std.specs.List.{Contains}
use Rattle.circuit_theory.specs.Circuit.{Circuit, Equation, Gate, Latch, Port, IsInput, InCone, Reads, Reaches, out_of, IsSingleDriven}
use Rattle.circuit_theory.specs.Run.{Loads, Marked, NoneEnabled}
use Rattle.circuit_theory.specs.Tree.{Tree, Trees, Unfolds, UnfoldsAll}
use Rattle.circuit_theory.proofs.Lists.{Contains-head, Contains-tail, Contains-cases}
use Rattle.circuit_theory.proofs.Inputs.{beside_is_input}

module _ {P : Type 0} (c : Circuit P) (enabled : P → Type 0) (run : ℕ → P → Bool) where
  pub marks_last : {t : ℕ} {p : P} → Marked c enabled run t p → Marked c enabled run (suc t) p
  marks_last (Marked.input i) = Marked.input i
  marks_last (Marked.gate eq each) = Marked.gate eq (λ p h. marks_last (each p h))
  marks_last (Marked.port eq from) = Marked.port eq (marks_last from)
  marks_last (Marked.plain latch other mark) = Marked.plain latch other (marks_last mark)
  marks_last (Marked.loads latch en others loads) = Marked.keeps latch en (λ u h k. marks_last (others u h k)) (Marked.loads latch en others loads)
  marks_last (Marked.keeps latch en others mark) = Marked.keeps latch en (λ u h k. marks_last (others u h k)) (marks_last mark)

  pub marks_stay : {p : P} (t : ℕ) (more : ℕ) → Marked c enabled run t p → Marked c enabled run (t + more) p
  marks_stay {p} t zero mark = subst (λ s. Marked c enabled run s p) (let e : t ≡ t + 0 = omega arith in e) mark
  marks_stay {p} t (suc more) mark = subst (λ s. Marked c enabled run s p) (let e : suc (t + more) ≡ t + suc more = omega arith in e) (marks_last (marks_stay t more mark))

module _ {P : Type 0} (c : Circuit P) (run : ℕ → P → Bool) (single : IsSingleDriven c) where
  -- what a mark says of the equation that drives the place, in the plain mode
  abbrev pub Says : ℕ → Equation P → Type 0
  Says t (Gate out fanins cover) = (p : P) → Contains fanins p → Marked c NoneEnabled run t p
  Says t (Latch name out next) = (s : ℕ) × (t ≡ suc s) × Marked c NoneEnabled run s next
  Says t (Port out from) = Marked c NoneEnabled run t from

  pub marked_says : {t : ℕ} {p : P} → Marked c NoneEnabled run t p → (e : Equation P) → Contains c.equations e → out_of e ≡ p → Says t e
  marked_says (Marked.input i) e h q = absurd (single.no_input e h (subst (IsInput c) (sym q) i))
  marked_says (Marked.gate {t = t} {out = out} {fanins = fanins} {cover = cover} eq each) e h q = subst (Says t) (single.one (Gate out fanins cover) e eq h (sym q)) each
  marked_says (Marked.port {t = t} {out = out} {from = from} eq mark) e h q = subst (Says t) (single.one (Port out from) e eq h (sym q)) mark
  marked_says (Marked.plain {t = s} {name = name} {out = out} {next = next} latch other mark) e h q =
      subst (Says (suc s)) (single.one (Latch name out next) e latch h (sym q)) (s, refl, mark)
  marked_says (Marked.loads latch en others loads) e h q = absurd en
  marked_says (Marked.keeps latch en others mark) e h q = absurd en

  mutual
    pub settled_depth : {order : List ℕ} {p : P} {k d : ℕ} {tree : Tree ℕ} → Unfolds c order p k d tree → (t : ℕ) → Marked c NoneEnabled run t p → d ≤ t
    settled_depth (Unfolds.input i) t mark = omega arith
    settled_depth (Unfolds.gate {out = out} {fanins = fanins} {cover = cover} eq each) t mark = settled_depths each t (marked_says mark (Gate out fanins cover) eq refl)
    settled_depth (Unfolds.port {out = out} {from = from} eq rest) t mark = settled_depth rest t (marked_says mark (Port out from) eq refl)
    settled_depth (Unfolds.latch {name = name} {out = out} {next = next} eq rest) t mark =
        let s = marked_says mark (Latch name out next) eq refl in
        let ih = settled_depth rest s.0 s.2 in
        omega (arith, s.1)

    pub settled_depths : {order : List ℕ} {ps : List P} {k d : ℕ} {trees : Trees ℕ} → UnfoldsAll c order ps k d trees → (t : ℕ) → ((p : P) → Contains ps p → Marked c NoneEnabled run t p) → d ≤ t
    settled_depths UnfoldsAll.none t marks = omega arith
    settled_depths (UnfoldsAll.more {p = p} {ps = ps} one rest) t marks =
        let a = settled_depth one t (marks p (Contains-head p ps)) in
        let b = settled_depths rest t (λ q h. marks q (Contains-tail p q ps h)) in
        omega arith

-- marks go down to what is read
module _ {P : Type 0} (c : Circuit P) (enabled : P → Type 0) (run : ℕ → P → Bool) (single : IsSingleDriven c) where
  abbrev pub MarkSays : ℕ → Equation P → Type 0
  MarkSays t (Gate out fanins cover) = (p : P) → Contains fanins p → Marked c enabled run t p
  MarkSays t (Latch name out next) =
      ((enabled out → ⊥) × ((s : ℕ) × (t ≡ suc s) × Marked c enabled run s next))
      ⊎ (enabled out × ((s : ℕ) × (s < t) × Loads c (run s) out next × ((u : P) → InCone c next u → u ≢ out → Marked c enabled run s u)))
  MarkSays t (Port out from) = Marked c enabled run t from

  pub mark_says : {t : ℕ} {p : P} → Marked c enabled run t p → (e : Equation P) → Contains c.equations e → out_of e ≡ p → MarkSays t e
  mark_says (Marked.input i) e h q = absurd (single.no_input e h (subst (IsInput c) (sym q) i))
  mark_says (Marked.gate {t = t} {out = out} {fanins = fanins} {cover = cover} eq each) e h q = subst (MarkSays t) (single.one (Gate out fanins cover) e eq h (sym q)) each
  mark_says (Marked.port {t = t} {out = out} {from = from} eq mark) e h q = subst (MarkSays t) (single.one (Port out from) e eq h (sym q)) mark
  mark_says (Marked.plain {t = s} {name = name} {out = out} {next = next} latch other mark) e h q =
      subst (MarkSays (suc s)) (single.one (Latch name out next) e latch h (sym q)) (inl (other, (s, refl, mark)))
  mark_says (Marked.loads {t = s} {name = name} {out = out} {next = next} latch en others loads) e h q =
      subst (MarkSays (suc s)) (single.one (Latch name out next) e latch h (sym q)) (inr (en, (s, omega arith, loads, others)))
  mark_says (Marked.keeps {t = s} {name = name} {out = out} {next = next} latch en others mark) e h q =
      subst (MarkSays (suc s)) (single.one (Latch name out next) e latch h (sym q)) (later (mark_says mark (Latch name out next) latch refl))
    where
      later : MarkSays s (Latch name out next) → MarkSays (suc s) (Latch name out next)
      later (inl x) = absurd (x.0 en)
      later (inr x) = let y = x.1 in inr (x.0, (y.0, omega (arith, y.1), y.2, y.3))

  pub marks_down : {p u : P} → Reaches c p u → (t : ℕ) → Marked c enabled run t p → Marked c enabled run t u
  marks_down Reaches.here t mark = mark
  marks_down (Reaches.there reads rest) t mark = marks_down rest t (step reads mark)
    where
      step : {p q : P} → Reads c p q → Marked c enabled run t p → Marked c enabled run t q
      step {p} {q} (Reads.by_gate {fanins = fanins} {cover = cover} eq h) m = mark_says m (Gate p fanins cover) eq refl q h
      step {p} {q} (Reads.by_port eq) m = mark_says m (Port p q) eq refl

-- The marks of a cycle from those of the cycle before, for places that an equation drives.
module _ {P : Type 0} (c : Circuit P) (enabled : P → Type 0) (run : ℕ → P → Bool) (single : IsSingleDriven c) where
  -- what a mark says at the equation that drives the place, rule by rule
  abbrev pub MarkStep : ℕ → Equation P → Type 0
  MarkStep t (Gate out fanins cover) = (p : P) → Contains fanins p → Marked c enabled run t p
  MarkStep zero (Latch name out next) = ⊥
  MarkStep (suc t) (Latch name out next) =
      ((enabled out → ⊥) × Marked c enabled run t next)
      ⊎ (enabled out × ((u : P) → InCone c next u → u ≢ out → Marked c enabled run t u) × (Loads c (run t) out next ⊎ Marked c enabled run t out))
  MarkStep t (Port out from) = Marked c enabled run t from

  pub mark_step : {t : ℕ} {p : P} → Marked c enabled run t p → (e : Equation P) → Contains c.equations e → out_of e ≡ p → MarkStep t e
  mark_step (Marked.input i) e h q = absurd (single.no_input e h (subst (IsInput c) (sym q) i))
  mark_step (Marked.gate {t = t} {out = out} {fanins = fanins} {cover = cover} eq each) e h q = subst (MarkStep t) (single.one (Gate out fanins cover) e eq h (sym q)) each
  mark_step (Marked.port {t = t} {out = out} {from = from} eq mark) e h q = subst (MarkStep t) (single.one (Port out from) e eq h (sym q)) mark
  mark_step (Marked.plain {t = t} {name = name} {out = out} {next = next} latch other mark) e h q =
      subst (MarkStep (suc t)) (single.one (Latch name out next) e latch h (sym q)) (inl (other, mark))
  mark_step (Marked.loads {t = t} {name = name} {out = out} {next = next} latch en others loads) e h q =
      subst (MarkStep (suc t)) (single.one (Latch name out next) e latch h (sym q)) (inr (en, others, inl loads))
  mark_step (Marked.keeps {t = t} {name = name} {out = out} {next = next} latch en others mark) e h q =
      subst (MarkStep (suc t)) (single.one (Latch name out next) e latch h (sym q)) (inr (en, others, inr mark))

  -- and back: by the rules, what the step says is a mark
  pub step_mark : (t : ℕ) (e : Equation P) → Contains c.equations e → MarkStep t e → Marked c enabled run t (out_of e)
  step_mark t (Gate out fanins cover) h step = Marked.gate h step
  step_mark zero (Latch name out next) h step = absurd step
  step_mark (suc t) (Latch name out next) h (inl plain) = Marked.plain h plain.0 plain.1
  step_mark (suc t) (Latch name out next) h (inr held) = go held.0 held.1 held.2
    where
      go : enabled out → ((u : P) → InCone c next u → u ≢ out → Marked c enabled run t u) → Loads c (run t) out next ⊎ Marked c enabled run t out → Marked c enabled run (suc t) out
      go en others (inl loads) = Marked.loads h en others loads
      go en others (inr mark) = Marked.keeps h en others mark
  step_mark t (Port out from) h step = Marked.port h step

-- what unfolds is settled from its depth on
module _ {P : Type 0} (c : Circuit P) (run : ℕ → P → Bool) where
  mutual
    pub depth_settled : {order : List ℕ} {p : P} {k d : ℕ} {tree : Tree ℕ} → Unfolds c order p k d tree → (t : ℕ) → d ≤ t → Marked c NoneEnabled run t p
    depth_settled {order} {p} (Unfolds.input {i = i} h) t le = Marked.input (beside_is_input c.inputs order p i h)
    depth_settled (Unfolds.gate eq each) t le = Marked.gate eq (λ q h. depths_settled each t le q h)
    depth_settled (Unfolds.port eq rest) t le = Marked.port eq (depth_settled rest t le)
    depth_settled (Unfolds.latch latch rest) zero le = absurd (omega arith)
    depth_settled (Unfolds.latch latch rest) (suc t) le = Marked.plain latch (λ e. e) (depth_settled rest t (omega arith))

    depths_settled : {order : List ℕ} {ps : List P} {k d : ℕ} {trees : Trees ℕ} → UnfoldsAll c order ps k d trees → (t : ℕ) → d ≤ t → (q : P) → Contains ps q → Marked c NoneEnabled run t q
    depths_settled UnfoldsAll.none t le q h = absurd (omega (arith, h.1))
    depths_settled (UnfoldsAll.more {p = p} {ps = ps} {d = d} {e = e} one rest) t le q h =
        pick (Contains-cases p q ps h) (λ l. depth_settled one t l) (λ l k. depths_settled rest t l q k)
      where
        pick : (p ≡ q) ⊎ Contains ps q → (d ≤ t → Marked c NoneEnabled run t p) → (e ≤ t → Contains ps q → Marked c NoneEnabled run t q) → Marked c NoneEnabled run t q
        pick (inl r) one' rest' = subst (λ z. Marked c NoneEnabled run t z) r (one' (omega arith))
        pick (inr k) one' rest' = rest' (omega arith) k
