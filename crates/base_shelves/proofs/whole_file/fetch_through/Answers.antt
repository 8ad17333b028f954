-- A turn takes one piece more of what is held.
use Rattle.std.proofs.Common.{◌≡◌, ◌<◌, ◌≤◌, ◌+◌, ◌∙◌, length, take, refl, ap, arith}
use Rattle.std.proofs.lemmas.List.{length-append, length-take-le}
use Rattle.std.proofs.lemmas.Result.{err_from_is_err_and}
use Rattle.base_shelves.proofs.Fronts.{front_none, longer_told, whole_told, past_limit, none_fell, fell_more, rose_before, ok_err}
use Rattle.base_shelves.proofs.Failures.{too_long_failed, if_ok_none, memory_failed, memory_too_long, read_failed, read_too_long}
use Rattle.base_shelves.proofs.whole_file.fetch_through.Goals as goal

pub loop-shelf-preserved : goal.loop-shelf-preserved
loop-shelf-preserved g c =
    let room : 0 < length c.read_at.new.room = omega arith in
    let at : c.len-in-loop-shelf.result ≡ length c.loop-shelf.text.items = omega (arith, c.loop-shelf.text.ok.0) in
    let fits : c.in_ok-count.count ≤ length c.read_at.new.room = c.in_ok-count.ensures.bound in (
      room,
      λ path. c.in_ok-count.ensures.keeps path ∙ c.loop-shelf.invariant.1 path,
      λ path. omega (arith, c.in_ok-count.ensures.later path, c.loop-shelf.invariant.2 path),
      λ other serves. c.in_ok-count.ensures.serving other (c.loop-shelf.invariant.3 other serves),
      longer_told _ _ c.loop-shelf.text.items c.read_at.new.room _ _ _ (c.loop-shelf.invariant.1 c.args.path.now) at fits c.loop-shelf.invariant.4 c.in_ok-count.ensures.gives c.in_ok-append_front.ensures.ok,
    )

pub loop-shelf-smaller : goal.loop-shelf-smaller
loop-shelf-smaller g c =
    let longer : length c.append_front.new.text.items ≡ length c.loop-shelf.text.items + c.in_ok-count.count =
    ap length c.in_ok-append_front.ensures.ok ∙ length-append c.loop-shelf.text.items (take c.in_ok-count.count c.read_at.new.room)
    ∙ ap (λ n. length c.loop-shelf.text.items + n) (length-take-le c.in_ok-count.count c.read_at.new.room c.in_ok-count.ensures.bound) in
    omega (arith, longer, c.if-count-eq0.false, c.loop-shelf-test.true, c.len.ensures, c.loop-shelf.text.ok.0)

pub loop-shelf-init : goal.loop-shelf-init
loop-shelf-init g c = (c.requires, λ path. refl, none_fell (g.S.Shelf.faults c.args.shelf.now), λ other serves. serves, front_none (g.S.Shelf.held c.args.shelf.now c.args.path.now) c.new-text.result.items c.new-text.ensures.items)

pub append_front-requires : goal.append_front-requires
append_front-requires g c = c.in_ok-count.ensures.bound

pub returns-in_err-append_front : goal.returns-in_err-append_front
returns-in_err-append_front g c = record {
  ok = if_ok_none _ c.from_residual-in_err-append_front.result c.from_residual-in_err-append_front.ensures.0;
  short = if_ok_none _ c.from_residual-in_err-append_front.result c.from_residual-in_err-append_front.ensures.0;
  too_long = λ long.
      let p = err_from_is_err_and c.from_residual-in_err-append_front.result c.from_residual-in_err-append_front.ensures.1 in
      absurd (memory_too_long c.from_residual-in_err-append_front.result p.0 p.1 p.2 long);
  cause = λ failed.
      let p = err_from_is_err_and c.from_residual-in_err-append_front.result c.from_residual-in_err-append_front.ensures.1 in
      absurd (memory_failed c.from_residual-in_err-append_front.result p.0 p.1 p.2 failed);
  keeps = λ path. c.in_ok-count.ensures.keeps path ∙ c.loop-shelf.invariant.1 path;
  later = fell_more (g.S.Shelf.faults c.args.shelf.now) (g.S.Shelf.faults c.loop-shelf.shelf) (g.S.Shelf.faults c.read_at.new.self) c.loop-shelf.invariant.2 c.in_ok-count.ensures.later;
  served = λ serves failed.
      let p = err_from_is_err_and c.from_residual-in_err-append_front.result c.from_residual-in_err-append_front.ensures.1 in
      memory_failed c.from_residual-in_err-append_front.result p.0 p.1 p.2 failed;
  serving = λ other serves. c.in_ok-count.ensures.serving other (c.loop-shelf.invariant.3 other serves);
}

pub returns-in_err-count : goal.returns-in_err-count
returns-in_err-count g c = record {
  ok = if_ok_none _ c.from_residual.result c.from_residual.ensures.0;
  short = if_ok_none _ c.from_residual.result c.from_residual.ensures.0;
  too_long = λ long.
      let p = err_from_is_err_and c.from_residual.result c.from_residual.ensures.1 in
      absurd (read_too_long c.from_residual.result p.0 c.in_err-count.field-0.0 p.1 p.2 long);
  cause = λ failed.
      let p = err_from_is_err_and c.from_residual.result c.from_residual.ensures.1 in
      rose_before (g.S.Shelf.faults c.args.shelf.now c.args.path.now) (g.S.Shelf.faults c.loop-shelf.shelf c.args.path.now) (g.S.Shelf.faults c.read_at.new.self c.args.path.now) (c.loop-shelf.invariant.2 c.args.path.now)
      (c.in_err-count.ensures.cause (read_failed c.from_residual.result p.0 c.in_err-count.field-0.0 p.1 p.2 failed));
  keeps = λ path. c.in_err-count.ensures.keeps path ∙ c.loop-shelf.invariant.1 path;
  later = fell_more (g.S.Shelf.faults c.args.shelf.now) (g.S.Shelf.faults c.loop-shelf.shelf) (g.S.Shelf.faults c.read_at.new.self) c.loop-shelf.invariant.2 c.in_err-count.ensures.later;
  served = λ serves failed.
      let p = err_from_is_err_and c.from_residual.result c.from_residual.ensures.1 in
      c.in_err-count.ensures.served (c.loop-shelf.invariant.3 c.args.path.now serves) (read_failed c.from_residual.result p.0 c.in_err-count.field-0.0 p.1 p.2 failed);
  serving = λ other serves. c.in_err-count.ensures.serving other (c.loop-shelf.invariant.3 other serves);
}

pub returns-then-count-eq0 : goal.returns-then-count-eq0
returns-then-count-eq0 g c = record {
  ok = let wide : 0 < length c.read_at.new.room = omega arith in
      let at : c.len-in-loop-shelf.result ≡ length c.loop-shelf.text.items = omega (arith, c.len-in-loop-shelf.ensures, c.loop-shelf.text.ok.0) in
      whole_told _ _ c.loop-shelf.text.items c.read_at.new.room c.from_vec.result _ _ (c.loop-shelf.invariant.1 c.args.path.now) c.from_vec.ensures at c.if-count-eq0.true wide c.loop-shelf.invariant.4 c.in_ok-count.ensures.gives;
  short = let made = ap length c.from_vec.ensures in omega (arith, made, c.loop-shelf-test.true, c.len.ensures, c.loop-shelf.text.ok.0);
  too_long = λ wrong. absurd (ok_err _ _ wrong);
  cause = λ wrong. absurd (ok_err _ _ wrong);
  keeps = λ path. c.in_ok-count.ensures.keeps path ∙ c.loop-shelf.invariant.1 path;
  later = λ path. omega (arith, c.in_ok-count.ensures.later path, c.loop-shelf.invariant.2 path);
  served = λ serves wrong. ok_err _ _ wrong;
  serving = λ other serves. c.in_ok-count.ensures.serving other (c.loop-shelf.invariant.3 other serves);
}

pub returns : goal.returns
returns g c = record {
  ok = tt;
  short = tt;
  too_long = λ is. past_limit (g.S.Shelf.held c.args.shelf.now c.args.path.now) c.loop-shelf.text.items c.args.limit (omega (arith, c.loop-shelf-test.false, c.len.ensures, c.loop-shelf.text.ok.0)) c.loop-shelf.invariant.4;
  cause = λ wrong. absurd (too_long_failed wrong);
  keeps = c.loop-shelf.invariant.1;
  later = c.loop-shelf.invariant.2;
  served = λ serves wrong. too_long_failed wrong;
  serving = c.loop-shelf.invariant.3;
}
