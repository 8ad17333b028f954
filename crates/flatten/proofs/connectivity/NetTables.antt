-- Nets, by the table of where following ports ends.
use Rattle.std.proofs.Common.{◌≡◌, ◌∙◌, ◌<◌, ℕ, zero, suc, List, get_or, slice_get, Option, Some, None, refl, sym, ap, subst}
use Rattle.std.specs.Prelude.{unwrap_or}
use Rattle.std.specs.List.{Contains}
use Rattle.std.proofs.lemmas.Option.{none-some, same_Some, slice_get-get_or}
use Rattle.flatten.specs.connectivity.Wiring.{Wiring}
use Rattle.flatten.specs.connectivity.Faults.{Follows, HasNet}
use Rattle.flatten.specs.connectivity.Tables.{ArePorts, AreNets}
use Rattle.flatten.specs.connectivity.Steps.{ArePortsWithin, back, back_by, AreEnds}
use Rattle.flatten.proofs.connectivity.StepTables.{entry}

module _ (w : Wiring ℕ) (size : ℕ) (froms : List (Option ℕ)) (ports : ArePorts w size froms) where
  pub ports_within : ArePortsWithin froms
  ports_within n m h = subst (λ z. m < z) (sym ports.len) (ports.within n m h)

  -- a step is along a port, or stays
  step_follows : (n q : ℕ) → Follows w (back froms n) q → Follows w n q
  step_follows n q rest = by (get_or froms n None) refl rest
    where
      by : (o : Option ℕ) → get_or froms n None ≡ o → Follows w (unwrap_or o n) q → Follows w n q
      by None e r = r
      by (Some m) e r = Follows.there (ports.from n m (entry froms n m e)) r

  steps_follow : (k n : ℕ) → Follows w n (back_by froms k n)
  unfolding back_by
  steps_follow zero n = Follows.here
  steps_follow (suc k) n = step_follows n (back_by froms k (back froms n)) (steps_follow k (back froms n))

  -- two ports of one number come from one
  one_port : (n a b : ℕ) → Contains w.ports (record { out = n; from = a }) → Contains w.ports (record { out = n; from = b }) → a ≡ b
  one_port n a b ha hb = same_Some a b (same_Some (Some a) (Some b) (sym (ports.all n a ha) ∙ ports.all n b hb))

  at_end : {p b : ℕ} → Follows w p b → ((k : ℕ) → Contains w.ports (record { out = p; from = k }) → ⊥) → p ≡ b
  at_end (Follows.here {p = p}) e = refl
  at_end (Follows.there {p = p} {from = k} {q = b} at rest) e = absurd (e k at)

  one_on : {p b : ℕ} → Follows w p b → ((k : ℕ) → Contains w.ports (record { out = b; from = k }) → ⊥) → (m : ℕ) → Contains w.ports (record { out = p; from = m }) → Follows w m b
  one_on (Follows.here {p = p}) e m at = absurd (e m at)
  one_on (Follows.there {p = p} {from = k} {q = b} there rest) e m at = subst (λ z. Follows w z b) (one_port p k m there at) rest

  one_net : {p a : ℕ} → Follows w p a → ((k : ℕ) → Contains w.ports (record { out = a; from = k }) → ⊥) → (b : ℕ) → HasNet w p b → a ≡ b
  one_net (Follows.here {p = p}) e b h = at_end h.follows e
  one_net (Follows.there {p = p} {from = k} {q = a} at rest) e b h = one_net rest e b (record { follows = one_on h.follows h.ends k at; ends = h.ends })

  -- a number without a net has none
  module _ (nets : List (Option ℕ)) (ends : AreEnds froms nets) where
    no_net : {n m : ℕ} → Follows w n m → slice_get nets n ≡ Some None → ((k : ℕ) → Contains w.ports (record { out = m; from = k }) → ⊥) → ⊥
    no_net (Follows.here {p = n}) h none = let from = ends.ring n h in none from.0 (ports.from n from.0 from.1)
    no_net (Follows.there {p = n} {from = k} {q = m} at rest) h none =
        let from = ends.ring n h in
        let same : from.0 ≡ k = same_Some from.0 k (same_Some (Some from.0) (Some k) (sym from.1 ∙ ports.all n k at)) in
        no_net rest (subst (λ z. slice_get nets z ≡ Some None) same from.2) none

    pub nets_from : AreNets w size nets
    nets_from = record {
      len = ends.len ∙ ports.len;
      net = λ n m h.
          let own = ends.net n m h in
          record {
            follows = subst (λ z. Follows w n z) own.0.1 (steps_follow own.0.0 n);
            ends = λ k at. none-some k (same_Some None (Some k) (sym own.1 ∙ ports.all m k at));
          };
      ring = λ n h. let from = ends.ring n h in (from.0, ports.from n from.0 from.1, from.2);
      no_net = λ n m h net. no_net net.follows h net.ends;
      all = λ n m below net. by_table n m net (get_or nets n None) (slice_get-get_or nets n None (subst (λ z. n < z) (sym (ends.len ∙ ports.len)) below));
    }
      where
        by_table : (n m : ℕ) → HasNet w n m → (o : Option ℕ) → slice_get nets n ≡ Some o → slice_get nets n ≡ Some (Some m)
        by_table n m net None h = absurd (no_net net.follows h net.ends)
        by_table n m net (Some a) h =
            let own = ends.net n a h in
            let same : a ≡ m = one_net (subst (λ z. Follows w n z) own.0.1 (steps_follow own.0.0 n)) (λ k at. none-some k (same_Some None (Some k) (sym own.1 ∙ ports.all a k at))) m net in
            h ∙ ap (λ z. Some (Some z)) same
