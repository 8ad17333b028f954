-- A name that isn't there goes last.
use Rattle.std.proofs.Common.{sym}
use Rattle.base_tables.proofs.Hashed.{put-known, put-added, put-either}
use Rattle.base_tables.proofs.tables.NameTable.intern.Goals as goal

pub returns-in-None-clause-known : goal.returns-in-None-clause-known
returns-in-None-clause-known c = put-known c.put.result c.args.self.now c.put.new.self c.args.name.now (sym c.in-None.ensures.found) c.put.ensures.ok

pub returns-in-None-clause-added : goal.returns-in-None-clause-added
returns-in-None-clause-added c = put-added c.put.result c.args.self.now c.put.new.self c.args.name.now (sym c.in-None.ensures.found) c.put.ensures.ok

pub returns-in-None-clause-ok : goal.returns-in-None-clause-ok
returns-in-None-clause-ok c = put-either c.put.result c.args.self.now c.put.new.self c.args.name.now (sym c.in-None.ensures.found) c.put.ensures.ok
