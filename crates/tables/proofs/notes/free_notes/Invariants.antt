use Rattle.std.proofs.Common.{◌≡◌, ◌++◌, map, take, drop}
use Rattle.rules.specs.TableRules.{without_note}
use Rattle.tables.proofs.notes.free_notes.Given as goal

abbrev pub invariant-loop-entry : goal.invariant-loop-entry
invariant-loop-entry g l = l.notes ≡ map (without_note l.name) (take l.entry-index l.initial.notes) ++ drop l.entry-index l.initial.notes
