-- The computed test of closed lists.
use Rattle.std.proofs.Common.{◌≡◌, ℕ, suc, ◌+◌, ◌*◌, max, Bool, true, if◌then◌else◌, List, [], ◌∷◌, length, subst, arith, inl, inr, eqb-true}
use Rattle.std.specs.Prelude.{◌==◌, ◌&&◌}
use Rattle.std.specs.List.{Contains, list_all}
use Rattle.std.proofs.lemmas.Bool.{and_parts}
use Rattle.std.proofs.lemmas.List.Folds.{Any-from_list_any}
use Rattle.circuit_theory.specs.Circuit.{Circuit, Gate, Latch, Port, Named}
use Rattle.circuit_theory.specs.Sizes.{Weighed}
use Rattle.circuit_theory.proofs.Lists.{Contains-cases}
use Rattle.net_assembly.specs.net_alike.Closed.{StandsAt, IsClosed, stands_at, closes, is_closed}

pub all_in : {X : Type 0} (test : X → Bool) (xs : List X) (x : X) → list_all test xs ≡ true → Contains xs x → test x ≡ true
all_in test [] x h k = absurd (let l = k.1 in omega (arith, l))
all_in test (y ∷ xs) x h k =
    let parts = and_parts (test y) (list_all test xs) h in
    elim (Contains-cases y x xs k) as (λ c. test x ≡ true) [ inl e ↦ subst (λ z. test z ≡ true) e parts.0 | inr r ↦ all_in test xs x parts.1 r ]

chosen : (b c : Bool) → b ≡ true → (if b then c else true) ≡ true → c ≡ true
chosen b c holds h = subst (λ (t : Bool). (if t then c else true) ≡ true) holds h

module _ {P : Type 0} (same : P → P → Bool) (sound : (p q : P) → same p q ≡ true → p ≡ q) (itself : (p : P) → same p p ≡ true) (d : Circuit P) (spots : List (Weighed P)) where
  stands : (p : P) (j : ℕ) → stands_at same spots p j ≡ true → StandsAt spots p j
  stands p j h =
      let a = Any-from_list_any (λ (x : Weighed P). same x.place p && (x.shift == j)) spots h in
      let parts = and_parts (same a.1.place p) (a.1.shift == j) a.4 in
      let here : Contains spots a.1 = (a.0, a.2, a.3) in (
        a.1.weight,
        subst (λ (q : P). Contains spots (record { place = q; shift = j; weight = a.1.weight })) (sound a.1.place p parts.0)
            (subst (λ (i : ℕ). Contains spots (record { place = a.1.place; shift = i; weight = a.1.weight })) (eqb-true a.1.shift j parts.1) here),
      )

  pub is_closed-sound : is_closed same d spots ≡ true → IsClosed d spots
  is_closed-sound h =
      let outer = and_parts (list_all (λ (o : Named P). stands_at same spots o.place 0) d.outputs)
      (list_all (λ (x : Weighed P). list_all (λ (i : Named P). if same i.place x.place then x.weight == 1 else true) d.inputs) spots && list_all (λ (x : Weighed P). list_all (closes same spots x) d.equations) spots) h in
      let inner = and_parts (list_all (λ (x : Weighed P). list_all (λ (i : Named P). if same i.place x.place then x.weight == 1 else true) d.inputs) spots) (list_all (λ (x : Weighed P). list_all (closes same spots x) d.equations) spots) outer.1 in
      record {
        shown = λ name p k. stands p 0 (all_in (λ (o : Named P). stands_at same spots o.place 0) d.outputs (record { name = name; place = p }) outer.0 k);
        input = λ x k i. eqb-true x.weight 1 (chosen (same x.place x.place) (x.weight == 1) (itself x.place)
            (all_in (λ (i : Named P). if same i.place x.place then x.weight == 1 else true) d.inputs (record { name = i.0; place = x.place }) (all_in (λ (x : Weighed P). list_all (λ (i : Named P). if same i.place x.place then x.weight == 1 else true) d.inputs) spots x inner.0 k) i.1));
        gate = λ x fanins cover k e.
            (let own = chosen (same x.place x.place) ((x.weight == (1 + max 1 (length cover.rows) * (length fanins + 1))) && list_all (λ f. stands_at same spots f x.shift) fanins) (itself x.place)
            (all_in (closes same spots x) d.equations (Gate x.place fanins cover) (all_in (λ (x : Weighed P). list_all (closes same spots x) d.equations) spots x inner.1 k) e) in
            let parts = and_parts (x.weight == (1 + max 1 (length cover.rows) * (length fanins + 1))) (list_all (λ f. stands_at same spots f x.shift) fanins) own in
            (eqb-true x.weight (1 + max 1 (length cover.rows) * (length fanins + 1)) parts.0, λ f c. stands f x.shift (all_in (λ f. stands_at same spots f x.shift) fanins f parts.1 c)));
        latch = λ x name next k e.
            (let own = chosen (same x.place x.place) ((x.weight == 1) && stands_at same spots next (suc x.shift)) (itself x.place)
            (all_in (closes same spots x) d.equations (Latch name x.place next) (all_in (λ (x : Weighed P). list_all (closes same spots x) d.equations) spots x inner.1 k) e) in
            let parts = and_parts (x.weight == 1) (stands_at same spots next (suc x.shift)) own in
            (eqb-true x.weight 1 parts.0, stands next (suc x.shift) parts.1));
        port = λ x from k e.
            stands from x.shift (chosen (same x.place x.place) (stands_at same spots from x.shift) (itself x.place)
            (all_in (closes same spots x) d.equations (Port x.place from) (all_in (λ (x : Weighed P). list_all (closes same spots x) d.equations) spots x inner.1 k) e));
      }
