use Rattle.core_loop.proofs.Sweeps.{HasTraded, posts-refused, takes-refused}
use Rattle.core_loop.proofs.one_core.Core.trade.Given.{Over}
use Rattle.core_loop.proofs.one_core.Core.trade.Goals as goal
use Rattle.core_loop.proofs.one_core.Core.trade.Goals.{In-Ok}

-- the posts were swept, and then the takes
traded : (g : Over) (c : In-Ok g)
    → HasTraded g.P.Ports.keeps g.P.Ports.busy g.P.Ports.empty c.args.ports.now c.take_all.new.ports c.take_all.new.self
traded g c = record {
  transitive = g.met.P.Ports.keeps_trans;
  first = c.args.self.now;
  between = c.post_all-posts.new.self;
  ports = c.post_all-posts.new.ports;
  posts = c.post_all-posts.result;
  takes = c.in-Ok.takes;
  posted = c.post_all-posts.ensures.swept;
  taken = c.in-Ok.ensures.swept;
  only = c.take_all.ensures.only;
}

pub returns-clause-posts : goal.returns-clause-posts
returns-clause-posts g c = λ works. posts-refused (traded g (goal.at.returns-clause-posts g c).In-Ok)

pub returns-clause-takes : goal.returns-clause-takes
returns-clause-takes g c = λ works. takes-refused (traded g (goal.at.returns-clause-takes g c).In-Ok)
