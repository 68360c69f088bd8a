use Rattle.std.proofs.Common.{◌≡◌, [], ap, refl}
use Rattle.std.proofs.lemmas.List.Elements.{All-same}
use Rattle.desk.specs.Pass.{calls}
use Rattle.ds_live.specs.Homes.{home_of}
use Rattle.ds_live.specs.Workers.{IsAtHome}
use Rattle.ds_live.proofs.HireLemmas.{new_at_home, new_called_nothing}
use Rattle.ds_live.proofs.hiring.open_desk.Goals as goal

pub returns-in-Ok-open-clause-fresh : goal.returns-in-Ok-open-clause-fresh
returns-in-Ok-open-clause-fresh c =
    All-same (λ p. calls p ≡ []) c.into_vec.result.items c.in-Ok-open.passes c.into_vec.ensures
    (new_called_nothing _ _ _ _ c.in-Ok-open.passes c.in-Ok-open.ensures.passes.0)

pub returns-in-Ok-open-clause-home : goal.returns-in-Ok-open-clause-home
returns-in-Ok-open-clause-home c = let home = home_of c.in-Ok-open.desk in
    All-same (λ p. IsAtHome home p) c.into_vec.result.items c.in-Ok-open.passes c.into_vec.ensures
    (new_at_home home _ _ _ c.in-Ok-open.passes refl (ap (λ m. m.value) c.in-Ok-open.ensures.desk.0) c.in-Ok-open.ensures.passes.0)
