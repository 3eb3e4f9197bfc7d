use Rattle.std.proofs.Common.{◌+◌, Some, refl}
use Rattle.tables.proofs.Steps.{exit}
use Rattle.walks.proofs.Listing.{list_ends, list_stops, list_passes, list_full, list_writes}
use Rattle.walks.proofs.Search.list_rows.Goals as goal

pub returns-in_err-version : goal.returns-in_err-version
returns-in_err-version g c =
    rw (exit _ _ c.from_residual.ensures.1)
    (list_stops g.I.Key.Key.order c.args.self.now.slots.now c.args.self.now.versions.now c.args.self.now.name c.args.room _ (record { last = c.loop-key.last; count = c.loop-key.count; table = c.loop-key.rows }) _ c.loop-key.invariant _ _ c.in-Some.ensures.steps c.in_err-version.field-0.0 c.in_err-version.ensures.says)

pub returns-then-count-room : goal.returns-then-count-room
returns-then-count-room g c =
    list_full g.I.Key.Key.order c.args.self.now.slots.now c.args.self.now.versions.now c.args.self.now.name c.args.room _ (record { last = c.loop-key.last; count = c.loop-key.count; table = c.loop-key.rows }) _ c.loop-key.invariant _ _ c.in-Some.ensures.steps
    (c.in_ok-version.field-0-0, c.in_ok-version.version) c.in_ok-version.ensures.says _ c.if-is_row.ensures refl c.if-count-room.true

pub loop-key-preserved-then-is_row : goal.loop-key-preserved-then-is_row
loop-key-preserved-then-is_row g c =
    list_writes g.I.Key.Key.order c.args.self.now.slots.now c.args.self.now.versions.now c.args.self.now.name c.args.room _ (record { last = c.loop-key.last; count = c.loop-key.count; table = c.loop-key.rows }) _ c.loop-key.invariant _ _ c.in-Some.ensures.steps
    (c.in_ok-version.field-0-0, c.in_ok-version.version) c.in_ok-version.ensures.says _ c.if-is_row.ensures _ refl c.if-count-room.false
    (λ j. record { last = Some c.in_ok-version.version.key; count = c.loop-key.count + 1; table = c.set_at.ensures j })

pub loop-key-preserved : goal.loop-key-preserved
loop-key-preserved g c =
    list_passes g.I.Key.Key.order c.args.self.now.slots.now c.args.self.now.versions.now c.args.self.now.name c.args.room _ (record { last = c.loop-key.last; count = c.loop-key.count; table = c.loop-key.rows }) _ c.loop-key.invariant _ _ c.in-Some.ensures.steps
    (c.in_ok-version.field-0-0, c.in_ok-version.version) c.in_ok-version.ensures.says _ c.if-is_row.ensures _ refl refl

pub returns : goal.returns
returns g c = (_, list_ends g.I.Key.Key.order c.args.self.now.slots.now c.args.self.now.versions.now c.args.self.now.name c.args.room _ (record { last = c.loop-key.last; count = c.loop-key.count; table = c.loop-key.rows }) _ c.loop-key.invariant c.in-None.ensures.steps.0, refl, refl)
