use Rattle.std.proofs.Common.{subst}
use Rattle.ds_replica.specs.World.{World}
use Rattle.ds_replica.specs.Known.{Account}
use Rattle.ds_world.specs.World.{WorldRecord, world_of, WorldStands}
use Rattle.ds_world.specs.Account.{IsFor}
use Rattle.ds_world.proofs.StandLemmas.{some_world}
use Rattle.ds_world.proofs.AccountLemmas.{some_account}
use Rattle.ds_world.proofs.world.World.store.Goals as goal

pub returns-in-A-clause-stands : goal.returns-in-A-clause-stands
returns-in-A-clause-stands c =
    let inside = c.self.inside in
    let a = c.cursor.ensures.stood in
    let b = c.cursor-2.ensures.stood in
    subst (λ (v : WorldRecord). (w : World) × WorldStands v w) c.self.view_is
    (some_world (world_of inside.a inside.b inside.maps.items inside.messages.items) a.0 b.0 a.1 b.1 c.self.invariant.1)

pub returns-in-A-clause-account : goal.returns-in-A-clause-account
returns-in-A-clause-account c =
    let inside = c.self.inside in
    let a = c.cursor.ensures.stood in
    let b = c.cursor-2.ensures.stood in
    subst (λ (v : WorldRecord). (known : Account) × IsFor known v) c.self.view_is
    (some_account (world_of inside.a inside.b inside.maps.items inside.messages.items) a.0 b.0 a.1 b.1 c.self.invariant.0
    c.self.invariant.1)

pub returns-in-B-clause-stands : goal.returns-in-B-clause-stands
returns-in-B-clause-stands c =
    let inside = c.self.inside in
    let a = c.cursor.ensures.stood in
    let b = c.cursor-2.ensures.stood in
    subst (λ (v : WorldRecord). (w : World) × WorldStands v w) c.self.view_is
    (some_world (world_of inside.a inside.b inside.maps.items inside.messages.items) a.0 b.0 a.1 b.1 c.self.invariant.1)

pub returns-in-B-clause-account : goal.returns-in-B-clause-account
returns-in-B-clause-account c =
    let inside = c.self.inside in
    let a = c.cursor.ensures.stood in
    let b = c.cursor-2.ensures.stood in
    subst (λ (v : WorldRecord). (known : Account) × IsFor known v) c.self.view_is
    (some_account (world_of inside.a inside.b inside.maps.items inside.messages.items) a.0 b.0 a.1 b.1 c.self.invariant.0
    c.self.invariant.1)
