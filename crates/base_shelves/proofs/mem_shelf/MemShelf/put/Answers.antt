-- An insert at one path leaves the other paths.
use Rattle.std.proofs.Common.{◌∙◌, Option, refl, ap, arith}
use Rattle.std.proofs.lemmas.Map.Text.{text_keys}
use Rattle.std.specs.Prelude.{option_map}
use Rattle.std.specs.Option.{option_map_or}
use Rattle.base_shelves.specs.declared.mem_shelf.HeldFile.{HeldFile}
use Rattle.base_shelves.proofs.Calls.{same_entries, put_here}
use Rattle.base_shelves.proofs.Failures.{on_ok_none, on_err_any}
use Rattle.base_shelves.proofs.mem_shelf.MemShelf.put.Goals as goal

pub returns-in_err-from_str : goal.returns-in_err-from_str
returns-in_err-from_str c = record {
  here = on_ok_none _ c.from_residual-in_err-from_str.result c.from_residual-in_err-from_str.ensures.0;
  others = on_ok_none _ c.from_residual-in_err-from_str.result c.from_residual-in_err-from_str.ensures.0;
  counts = λ other. refl;
  err = on_err_any _ c.from_residual-in_err-from_str.result (λ path. refl);
  fails = refl;
  calls = refl;
  more = refl;
}

pub returns : goal.returns
returns c = record {
  here = tt;
  others = tt;
  counts = λ other. ap (λ (o : Option HeldFile). option_map_or (λ (f : HeldFile). f.faults) o c.args.self.now.absent_faults) (same_entries c.args.self.now.files c.insert.new.self c.in-Err.ensures.err other);
  err = λ path. ap (option_map (λ (f : HeldFile). f.bytes)) (same_entries c.args.self.now.files c.insert.new.self c.in-Err.ensures.err path);
  fails = refl;
  calls = refl;
  more = refl;
}

pub returns-in-Ok : goal.returns-in-Ok
returns-in-Ok c = record {
  here = put_here c.insert.new.self c.in_ok-from_str.field-0 c.args.path.now c.args.bytes.now _ c.in-Ok.ensures.updates.1 c.in_ok-from_str.ensures.ok (c.from_vec.ensures ∙ c.in_ok-text.ensures.items_if_clones_equal (λ x y e. e));
  others = grind (arith, text_keys);
  counts = grind (arith, text_keys);
  err = tt;
  fails = refl;
  calls = refl;
  more = refl;
}

pub returns-in_err-text : goal.returns-in_err-text
returns-in_err-text c = record {
  here = on_ok_none _ c.from_residual.result c.from_residual.ensures.0;
  others = on_ok_none _ c.from_residual.result c.from_residual.ensures.0;
  counts = λ other. refl;
  err = on_err_any _ c.from_residual.result (λ path. refl);
  fails = refl;
  calls = refl;
  more = refl;
}
