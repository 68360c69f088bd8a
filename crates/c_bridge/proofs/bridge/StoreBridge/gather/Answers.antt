use Rattle.c_bridge.proofs.NewsLemmas.{settled, settled_not, settled_same}
use Rattle.c_bridge.proofs.bridge.StoreBridge.gather.Goals as goal

pub returns-clause-gathered : goal.returns-clause-gathered
returns-clause-gathered c =
    settled c.args.store.now c.news_since-news.new.store c.args.self.now c.settle.new.self c.news_since-news.result c.settle.result
    c.news_since-news.ensures.given c.news_since-news.ensures.there c.news_since-news.ensures.refused c.settle.ensures

pub returns-clause-refused : goal.returns-clause-refused
returns-clause-refused c =
    settled_not c.args.store.now c.news_since-news.new.store c.args.self.now c.settle.new.self c.news_since-news.result c.settle.result
    c.news_since-news.ensures.there c.news_since-news.ensures.refused c.settle.ensures

pub returns-clause-same : goal.returns-clause-same
returns-clause-same c =
    settled_same c.news_since-news.new.store c.args.self.now c.settle.new.self c.news_since-news.result c.settle.result c.settle.ensures
