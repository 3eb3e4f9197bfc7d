use Rattle.transaction_calls.proofs.Stamping.{begin_lengths, begin_taken, begin_last, begun}
use Rattle.transaction_calls.proofs.stamps.begin.Goals as goal

pub returns-then-not-is_in_order : goal.returns-then-not-is_in_order
returns-then-not-is_in_order g c = begin_lengths _ _ _ _ _ c.of.ensures _ c.if-not-is_in_order.ensures

pub returns-in_default : goal.returns-in_default
returns-in_default g c = begin_taken _ _ _ _ _ c.of.ensures _ c.if-not-is_in_order.ensures c.in_default.ensures.seats

pub returns-then-store-ge-LARGEST_STAMP : goal.returns-then-store-ge-LARGEST_STAMP
returns-then-store-ge-LARGEST_STAMP g c = begin_last _ _ _ _ _ c.of.ensures _ c.if-not-is_in_order.ensures _ c.in-Some.ensures.seats c.if-store-ge-LARGEST_STAMP.true

pub returns : goal.returns
returns g c = begun _ _ _ _ _ c.of.ensures _ c.if-not-is_in_order.ensures _ c.in-Some.ensures.seats c.if-store-ge-LARGEST_STAMP.false _ _ c.seat.ensures.stamp c.seat.ensures.leaves
