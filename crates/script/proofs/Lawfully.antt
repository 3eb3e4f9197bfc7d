-- The run that a script makes keeps the law. Assumes nothing.
use Rattle.std.proofs.Common.{◌≡◌, T, List, [], ◌∷◌, refl, ap}
use Rattle.keys.specs.declared.CardNumber.{CardNumber}
use Rattle.keys.specs.declared.Score.{Score}
use Rattle.keys.specs.Kinds.{card_order, card_total}
use Rattle.rules.specs.declared.Call.TheVariants as call
use Rattle.rules.specs.Worlds.{with_rows}
use Rattle.rules.specs.Checks as checks
use Rattle.rules.specs.Book.{is_done}
use Rattle.rules.specs.Runs.{Position, Run}
use Rattle.rules.proofs.Final.{serial_law}
use Rattle.calls.specs.Promises.{afterwards, Answers}
use Rattle.calls.specs.Performing.{world_of}
use Rattle.calls.proofs.Going.{goes_on, begins}
use Rattle.calls.proofs.Performing.{performs}
use Rattle.script_lines.specs.Lines.{lines}
use Rattle.script.specs.Running.{ScriptDesk, ScriptCall, fresh, carried, opened, other_lines, asked_calls, LawfulThrough, ScriptLaw}

answers : (d : ScriptDesk) (a : ScriptCall) → Answers card_order (world_of d) (world_of (carried d a).0) a (carried d a).1
unfolding carried
answers d a = performs card_order d a

lawful_through : (p : Position CardNumber Score) (d : ScriptDesk) (calls : List ScriptCall) → p.world ≡ world_of d → Run card_order p → LawfulThrough p d calls
lawful_through p d [] at run = (at, run, serial_law CardNumber Score card_order card_total p run)
lawful_through p d (a ∷ calls) at run =
    let on = goes_on card_order card_total (world_of d) (world_of (carried d a).0) a (carried d a).1 (answers d a) p run (ap (λ z. with_rows z d.rows) at) in
    ((at, run, serial_law CardNumber Score card_order card_total p run), lawful_through (afterwards p (world_of (carried d a).0) a (carried d a).1) (carried d a).0 calls refl on.0)

accepted : T (is_done (carried fresh (call.Open 0)).1)
unfolding carried checks.or_as_found checks.◌>>◌ checks.refuse_if
accepted = tt

pub script_law : (script : List _) → ScriptLaw script
script_law script =
    let begun = begins card_order card_total (world_of fresh) (world_of opened) (call.Open 0) (carried fresh (call.Open 0)).1 (answers fresh (call.Open 0)) accepted in
    lawful_through (record { world = world_of opened; history = [] }) opened (asked_calls (other_lines (lines script))) refl begun.0
