-- An assembled net has the design's runs.
use Rattle.std.proofs.Common.{arith, ◌≡◌, ℕ, ◌+◌, Bool, List, map, refl, sym, ◌∙◌, ap, subst, Some, slice_get}
use Rattle.std.specs.List.{All, Contains}
use Rattle.std.proofs.lemmas.List.Elements.{All-contains}
use Rattle.circuit_theory.specs.Cover.{cover_value}
use Rattle.circuit_theory.specs.Circuit.{Circuit, Equation, Gate, Latch, Port, Named, IsInput, Holds, Carries}
use Rattle.circuit_theory.specs.Places.{IsPlace}
use Rattle.circuit_theory.specs.Joined.{moved, moved_name}
use Rattle.circuit_theory.specs.Run.{Marked, NoneEnabled}
use Rattle.circuit_theory.specs.Flattened.{IsFlattened, Follows}
use Rattle.circuit_theory.proofs.Lists.{map-map, map_same, Contains-map_from, All-from_each, of_at}
use Rattle.circuit_theory.proofs.Numbers.{slice_get-map}
use Rattle.net_assembly.specs.Assembled.{IsAssembled}

some_is : {X : Type 0} (x y : X) → Some x ≡ Some y → x ≡ y
some_is x y e = cc

-- in values that meet the port equations a place equals each place that its ports lead back to
pub same_value : {P : Type 0} (d : Circuit P) (v : P → Bool) → All (Holds v) d.equations → {p q : P} → Follows d p q → v p ≡ v q
same_value d v meets Follows.here = refl
same_value d v meets (Follows.there eq rest) = All-contains (Holds v) d.equations _ meets eq ∙ same_value d v meets rest

module _ {P : Type 0} (d : Circuit P) (net : Circuit ℕ) (size : ℕ) (clocked : P → Type 0) (origin : ℕ → P) (signal : P → ℕ) (a : IsAssembled d net size clocked origin signal) where
  -- the net's equation of an equation of the design holds at the origins
  holds_down : (v : P → Bool) → All (Holds v) d.equations → (x : Equation P) → Contains d.equations x → Holds (λ s. v (origin s)) (moved signal x)
  holds_down v meets (Gate out fanins cover) h =
      let reads = a.read out fanins cover h in
      sym (same_value d v meets reads.0.follows)
      ∙ All-contains (Holds v) d.equations (Gate out fanins cover) meets h
      ∙ ap (cover_value cover) (map_same v (λ p. v (origin (signal p))) fanins (λ p k. same_value d v meets (reads.1 p k).follows) ∙ sym (map-map (λ s. v (origin s)) signal fanins))
  holds_down v meets (Latch name out next) h = tt
  holds_down v meets (Port out from) h = ap (λ s. v (origin s)) (a.port out from h)

  carries_down : (now later : P → Bool) → All (Holds now) d.equations → All (Holds later) d.equations → All (Carries now later) d.equations → (x : Equation P) → Contains d.equations x →
      Carries (λ s. now (origin s)) (λ s. later (origin s)) (moved signal x)
  carries_down now later meets after carries (Gate out fanins cover) h = tt
  carries_down now later meets after carries (Latch name out next) h =
      let taken = a.taken name out next h in
      sym (same_value d later after taken.0.follows)
      ∙ All-contains (Carries now later) d.equations (Latch name out next) carries h
      ∙ same_value d now meets taken.1.follows
  carries_down now later meets after carries (Port out from) h = tt

  -- a design's equation holds where each place has its signal's value
  holds_up : (v : ℕ → Bool) → All (Holds v) net.equations → (x : Equation P) → Contains d.equations x → Holds (λ p. v (signal p)) x
  holds_up v meets (Gate out fanins cover) h =
      All-contains (Holds v) net.equations (Gate (signal out) (map signal fanins) cover) meets (a.gate out fanins cover h)
      ∙ ap (cover_value cover) (map-map v signal fanins)
  holds_up v meets (Latch name out next) h = tt
  holds_up v meets (Port out from) h = ap v (a.port out from h)

  carries_up : (now later : ℕ → Bool) → All (Carries now later) net.equations → (x : Equation P) → Contains d.equations x → Carries (λ p. now (signal p)) (λ p. later (signal p)) x
  carries_up now later carries (Gate out fanins cover) h = tt
  carries_up now later carries (Latch name out next) h = All-contains (Carries now later) net.equations (Latch name (signal out) (signal next)) carries (a.latch name out next h)
  carries_up now later carries (Port out from) h = tt

  -- an input's signal is an input
  input_down : (p : P) → IsInput d p → IsInput net (signal p)
  input_down p h =
      let found = Contains-map_from (moved_name origin) net.inputs (record { name = h.0; place = p }) (subst (λ (is : List (Named P)). Contains is (record { name = h.0; place = p })) (sym a.inputs) h.1) in
      let same : found.0.place ≡ signal p = sym (a.back found.0.place (a.inputs_within found.0 found.1)) ∙ ap signal (ap (λ (n : Named P). n.place) found.2) in
      (found.0.name, subst (λ (q : ℕ). Contains net.inputs (record { name = found.0.name; place = q })) same found.1)

  -- a mark of the design is a mark of the net
  marks_down : (run : ℕ → P → Bool) {t : ℕ} {p : P} → Marked d NoneEnabled run t p → Marked net NoneEnabled (λ t s. run t (origin s)) t (signal p)
  marks_down run (Marked.input {p = p} h) = Marked.input (input_down p h)
  marks_down run (Marked.gate {out = out} {fanins = fanins} {cover = cover} eq each) = Marked.gate (a.gate out fanins cover eq) (by (λ p k. marks_down run (each p k)))
    where
      by : {t : ℕ} → ((p : P) → Contains fanins p → Marked net NoneEnabled (λ t s. run t (origin s)) t (signal p)) → (s : ℕ) → Contains (map signal fanins) s → Marked net NoneEnabled (λ t s. run t (origin s)) t s
      by {t} of s k = let found = Contains-map_from signal fanins s k in subst (λ (q : ℕ). Marked net NoneEnabled (λ t s. run t (origin s)) t q) found.2 (of found.0 found.1)
  marks_down run (Marked.port {t = t} {out = out} {from = from} eq rest) = subst (λ (q : ℕ). Marked net NoneEnabled (λ t s. run t (origin s)) t q) (sym (a.port out from eq)) (marks_down run rest)
  marks_down run (Marked.plain {name = name} {out = out} {next = next} latch free rest) = Marked.plain (a.latch name out next latch) (λ e. e) (marks_down run rest)
  marks_down run (Marked.loads latch on others loads) = absurd on
  marks_down run (Marked.keeps latch on others kept) = absurd on

  -- the signal of the output at a place
  output_place : (i : ℕ) (o : Named P) (s : Named ℕ) → slice_get d.outputs i ≡ Some o → slice_get net.outputs i ≡ Some s → s.place ≡ signal o.place
  output_place i o s ho hs = ap (λ (n : Named ℕ). n.place) (some_is s (moved_name signal o) (sym hs ∙ ap (λ (os : List (Named ℕ)). slice_get os i) a.outputs ∙ slice_get-map (moved_name signal) d.outputs i o ho))

  -- the net's runs are the design's
  pub assembled_is_flattened : IsFlattened d net size clocked (IsPlace d) origin
  assembled_is_flattened = record {
    inputs = a.inputs;
    outputs = ap (λ (os : List (Named ℕ)). map (λ (o : Named ℕ). o.name) os) a.outputs ∙ map-map (λ (o : Named ℕ). o.name) (moved_name signal) d.outputs;
    output_is = λ i o s ho hs. subst (λ (q : ℕ). Follows d o.place (origin q)) (sym (output_place i o s ho hs)) (a.shown o (of_at d.outputs i o ho)).follows;
    latches = a.latches;
    down = λ n run is_run. record {
      meets = λ t h. All-from_each (Holds (λ s. run t (origin s))) net.equations (λ e k. let x = a.only e k in
          subst (λ (y : Equation ℕ). Holds (λ s. run t (origin s)) y) x.2 (holds_down (run t) (is_run.meets t h) x.0 x.1));
      carries = λ t h. All-from_each (Carries (λ s. run t (origin s)) (λ s. run (t + 1) (origin s))) net.equations (λ e k. let x = a.only e k in
          subst (λ (y : Equation ℕ). Carries (λ s. run t (origin s)) (λ s. run (t + 1) (origin s)) y) x.2
          (carries_down (run t) (run (t + 1)) (is_run.meets t (omega arith)) (is_run.meets (t + 1) h) (is_run.carries t h) x.0 x.1));
    };
    up = λ n run is_run. (
      (λ t p. run t (signal p)),
      record {
        meets = λ t h. All-from_each (Holds (λ p. run t (signal p))) d.equations (holds_up (run t) (is_run.meets t h));
        carries = λ t h. All-from_each (Carries (λ p. run t (signal p)) (λ p. run (t + 1) (signal p))) d.equations (carries_up (run t) (run (t + 1)) (is_run.carries t h));
      },
      λ t s h k. ap (run t) (a.back s k),
    );
    settled = λ n run is_run t i o s h ho hs mark.
        subst (λ (q : ℕ). Marked net NoneEnabled (λ t s. run t (origin s)) t q) (sym (output_place i o s ho hs)) (marks_down run mark);
    one = λ n u v is_u is_v same t p h free at_place.
        let found = a.placed p at_place free in
        same_value d (u t) (is_u.meets t h) found.follows ∙ same t (signal p) h found.within ∙ sym (same_value d (v t) (is_v.meets t h) found.follows);
  }
