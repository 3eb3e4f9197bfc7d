use Rattle.std.proofs.Common.{sym}
use Rattle.index.proofs.Nexts.{is_greater, is_equal, not_beyond, past_upper, at_key, at_upper, no_key, key_past, key_next}
use Rattle.index.proofs.next_pair.Goals as goal

pub returns-then-is_beyond : goal.returns-then-is_beyond
returns-then-is_beyond g c =
    past_upper g.I.Key.Key.order g.I.Key.Key.laws.total _ (g.met.I.Index.distinct c.args.index.now) c.args.key c.args.from c.args.upper
    (is_greater _ (sym c.if-is_beyond.ensures))

pub returns-in-Some : goal.returns-in-Some
returns-in-Some g c =
    at_key g.I.Key.Key.order g.I.Key.Key.laws.total _ (g.met.I.Index.distinct c.args.index.now) c.args.key c.args.from c.args.upper c.in-Some.place
    (not_beyond _ (sym c.if-is_beyond.ensures)) c.in-Some.ensures

pub returns-then-is_last : goal.returns-then-is_last
returns-then-is_last g c =
    at_upper g.I.Key.Key.order g.I.Key.Key.laws.total _ (g.met.I.Index.distinct c.args.index.now) c.args.key c.args.from c.args.upper c.in_default.ensures
    (is_equal _ (sym c.if-is_last.ensures))

pub returns-in_err-next : goal.returns-in_err-next
returns-in_err-next g c =
    rw c.from_residual.ensures
    (no_key g.I.Key.Key.order g.I.Key.Key.laws.total _ (g.met.I.Index.distinct c.args.index.now) c.args.key c.args.from c.args.upper c.in_default.ensures c.in_err-next.ensures)

pub returns-then-is_beyond-2 : goal.returns-then-is_beyond-2
returns-then-is_beyond-2 g c =
    key_past g.I.Key.Key.order g.I.Key.Key.laws.total _ (g.met.I.Index.distinct c.args.index.now) c.args.key c.args.from c.args.upper c.in_default.ensures
    c.in_ok-next.next c.in_ok-next.ensures (is_greater _ (sym c.if-is_beyond-2.ensures))

pub returns : goal.returns
returns g c =
    key_next g.I.Key.Key.order g.I.Key.Key.laws.total _ (g.met.I.Index.distinct c.args.index.now) c.args.key c.args.from c.args.upper c.in_default.ensures
    c.in_ok-next.next c.in_ok-next.ensures c.in_ok-place.place
    (not_beyond _ (sym c.if-is_beyond-2.ensures)) c.in_ok-place.ensures
