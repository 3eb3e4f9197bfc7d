use Rattle.std.proofs.Common.{set, ap, ◌∙◌}
use Rattle.chains.proofs.arena.Arena.replace.Goals as goal

pub returns : goal.returns
returns g c =
    record {
      pairs = c.link_in.ensures.pairs ∙ ap (λ ys. set ys c.args.at c.args.pair) c.unlink.ensures.pairs;
      limit = c.link_in.ensures.limit ∙ c.unlink.ensures.limit;
      wired = c.link_in.ensures.wired;
    }
