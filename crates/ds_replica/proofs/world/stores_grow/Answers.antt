use Rattle.ds_replica.proofs.CheckLemmas.{news_new}
use Rattle.ds_replica.proofs.TurnLemmas.{front_of}
use Rattle.ds_replica.proofs.world.stores_grow.Goals as goal

pub returns-clause-news : goal.returns-clause-news
returns-clause-news c = news_new

pub returns-clause-front : goal.returns-clause-front
returns-clause-front c = front_of
