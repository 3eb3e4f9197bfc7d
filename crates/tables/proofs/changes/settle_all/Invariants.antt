use Rattle.std.proofs.Common.{◌≡◌, ◌++◌, map, take, drop}
use Rattle.rules.specs.TableRules.{settle_entry}
use Rattle.tables.proofs.changes.settle_all.Given as goal

abbrev pub invariant-loop-entry : goal.invariant-loop-entry
invariant-loop-entry g l = l.versions ≡ map (settle_entry l.last l.name l.phase) (take l.entry-index l.initial.versions) ++ drop l.entry-index l.initial.versions
