-- The signal's literal, and its variables, which the table has.
use Rattle.std.proofs.Common.{◌≡◌, ◌∙◌, ◌<◌, ℕ, List, [], ◌∷◌, ◌++◌, length, sym, subst, rules}
use Rattle.std.specs.List.{All, Contains}
use Rattle.std.proofs.lemmas.List.Elements.{Contains-push}
use Rattle.circuit_laws.specs.reset_laws.Weight.{IsResetOver}
use Rattle.flat_net.specs.View.{circuit_of}
use Rattle.flat_net.specs.Sound.{IsSound}
use Rattle.cbf_unfold.proofs.unfold_places.Lists.{not_both}
use Rattle.reset_form.specs.reset_unfold.Places.{starts_of}
use Rattle.reset_form.specs.reset_unfold.Unfolded.{IsResetUnfolded, FitsReset}
use Rattle.reset_form.specs.reset_unfold.Building.{IsLaterReset}
use Rattle.reset_form.proofs.reset_unfold.Finish.{order_here, base_here, room_here, leaves_listed, numbered_from, cone_here, cone_there, leaves_now}
use Rattle.reset_form.proofs.reset_unfold.unfolder.ResetUnfolder.unfold_next.Goals as goal

pub literal_at-requires : goal.literal_at-requires
literal_at-requires c = record {
  signal = subst (λ (p : ℕ × ℕ). p.1 < length c.args.self.now.net.drivers) (sym c.start.ensures) c.requires.cone.within;
  fits = c.requires.fits;
  nodes = c.requires.nodes;
  entries = c.requires.entries;
}

pub returns-in_err-lit-clause-over : goal.returns-in_err-lit-clause-over
returns-in_err-lit-clause-over c = λ e.
    subst (λ (p : ℕ × ℕ). IsResetOver (circuit_of c.args.self.now.net) (starts_of (c.args.self.now.done ++ p ∷ [])) 2000000) c.start.ensures (c.literal_at.ensures.over (search rules))

pub advance-requires : goal.advance-requires
advance-requires c =
    let u = c.args.self.now in
    let w = c.literal_at.new.self in
    let n = c.net-net.result.now in
    let later = c.literal_at.ensures.later in
    let net : n ≡ w.net = c.net-net.ensures ∙ sym later.net in
    let keeps = c.keeps-2.ensures.unfolder in
    record {
      cone = cone_here u n c.order.result.now c.base.result c.net-net.ensures (c.order.ensures ∙ later.order) (c.base.ensures ∙ later.base) c.args.cone.now c.requires.cone;
      next = c.requires.next;
      order = order_here w n c.order.result.now c.base.result net c.order.ensures c.base.ensures keeps.order;
      base = base_here w n c.order.result.now c.base.result net c.order.ensures c.base.ensures keeps.base;
      room = room_here w n c.order.result.now c.base.result net c.order.ensures c.base.ensures keeps.room;
    }

pub numbers_of-requires-clause-known : goal.numbers_of-requires-clause-known
numbers_of-requires-clause-known c =
    let w = c.literal_at.new.self in
    let later = c.literal_at.ensures.later in
    let sound : IsSound w.net = subst IsSound (c.net-net.ensures ∙ sym later.net) c.keeps.ensures.sound in
    let k = c.args.cone.now in
    let start : ℕ × ℕ = (k.next, k.signal) in
    let among : Contains w.done start = subst (λ (d : List (ℕ × ℕ)). Contains d start) (sym c.in_ok-lit.ensures.done) (subst (λ (p : ℕ × ℕ). Contains (c.args.self.now.done ++ p ∷ []) start) (sym c.start.ensures) (Contains-push c.args.self.now.done start)) in
    subst (All (λ (x : ℕ × ℕ). Contains c.literal_at.new.places (x.1, x.0))) (sym c.found.ensures)
    (leaves_listed w c.literal_at.new.aig c.literal_at.new.places sound c.keeps-2.ensures.unfolder.order c.in_ok-lit.ensures.fits start among c.advance.new.self.found
    (leaves_now w c.net-net.result.now c.order.result.now c.base.result (c.net-net.ensures ∙ sym later.net) c.order.ensures c.base.ensures k c.advance.new.self c.in_ok-advance.ensures.cone c.in_ok-advance.ensures.next c.advance.ensures.same.0))

pub returns-clause-unfolded : goal.returns-clause-unfolded
returns-clause-unfolded c =
    let w = c.literal_at.new.self in
    let later = c.literal_at.ensures.later in
    let sound : IsSound w.net = subst IsSound (c.net-net.ensures ∙ sym later.net) c.keeps.ensures.sound in
    let k = c.args.cone.now in
    let start : ℕ × ℕ = (k.next, k.signal) in
    let here : Contains w.memo (start, c.in_ok-lit.lit) = subst (λ (p : ℕ × ℕ). Contains w.memo (p, c.in_ok-lit.lit)) c.start.ensures c.in_ok-lit.ensures.here in
    let leaves = leaves_now w c.net-net.result.now c.order.result.now c.base.result (c.net-net.ensures ∙ sym later.net) c.order.ensures c.base.ensures k c.advance.new.self c.in_ok-advance.ensures.cone c.in_ok-advance.ensures.next c.advance.ensures.same.0 in
    subst (λ (t : List (ℕ × ℕ)). IsResetUnfolded w.net w.order w.base c.literal_at.new.aig t k.signal k.next c.in_ok-lit.lit.0 c.in_ok-vars.vars) (sym c.numbers_of.ensures.same)
    (numbered_from w sound c.keeps-2.ensures.unfolder.order c.literal_at.new.aig c.literal_at.new.places c.in_ok-lit.ensures.fits.holds start c.in_ok-lit.lit here c.in_ok-vars.vars c.advance.new.self.found c.found.result.now
    c.found.ensures leaves c.in_ok-advance.ensures.cone.leaves_ordered c.in_ok-vars.ensures.numbers)

pub returns-clause-over : goal.returns-clause-over
returns-clause-over c = λ e. absurd (not_both e)

pub returns-clause-fits : goal.returns-clause-fits
returns-clause-fits c = subst (λ (t : List (ℕ × ℕ)). FitsReset c.literal_at.new.self c.literal_at.new.aig t) (sym c.numbers_of.ensures.same) c.in_ok-lit.ensures.fits

pub returns-clause-later : goal.returns-clause-later
returns-clause-later c = subst (λ (t : List (ℕ × ℕ)). IsLaterReset c.args.self.now c.literal_at.new.self c.args.aig.now c.literal_at.new.aig c.args.places.now t) (sym c.numbers_of.ensures.same) c.literal_at.ensures.later

pub returns-clause-done : goal.returns-clause-done
returns-clause-done c = subst (λ (p : ℕ × ℕ). c.literal_at.new.self.done ≡ c.args.self.now.done ++ p ∷ []) c.start.ensures c.in_ok-lit.ensures.done

pub returns-clause-cone : goal.returns-clause-cone
returns-clause-cone c =
    cone_there c.literal_at.new.self c.net-net.result.now c.order.result.now c.base.result (c.net-net.ensures ∙ sym c.literal_at.ensures.later.net) c.order.ensures c.base.ensures c.advance.new.self c.in_ok-advance.ensures.cone
