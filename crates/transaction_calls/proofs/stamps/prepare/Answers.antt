use Rattle.tables.proofs.Steps.{exit}
use Rattle.transaction_calls.proofs.Stamping.{prepare_unsound, prepare_last, prepared}
use Rattle.transaction_calls.proofs.stamps.prepare.Goals as goal

pub returns-in_err-one : goal.returns-in_err-one
returns-in_err-one g c = prepare_unsound _ _ _ _ _ c.of.ensures _ _ c.in_err-one.ensures _ (exit _ _ c.from_residual.ensures.1)

pub returns-then-store-ge-LARGEST_STAMP : goal.returns-then-store-ge-LARGEST_STAMP
returns-then-store-ge-LARGEST_STAMP g c = prepare_last _ _ _ _ _ c.of.ensures _ _ _ c.in_ok-one.ensures c.if-store-ge-LARGEST_STAMP.true

pub returns : goal.returns
returns g c = prepared _ _ _ _ _ c.of.ensures _ _ _ c.in_ok-one.ensures c.if-store-ge-LARGEST_STAMP.false _ _ c.stamp_end.ensures.stamp c.stamp_end.ensures.leaves
