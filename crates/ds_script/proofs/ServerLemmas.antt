-- The answers of RS and the tables are answers of their session.
use Rattle.std.proofs.Common.{ℕ, List, inl, inr, refl, ap}
use Rattle.rs_core.specs.declared.event.Event as services
use Rattle.ds_replica.specs.declared.event.Side.{Side}
use Rattle.ds_world.specs.World.{WorldRecord}
use Rattle.script_services.specs.Servers.{Servers, ServersRecord}
use Rattle.script_services.specs.Waiting.{AppendsLed, AppendsLedOrRefuses, AppendsService}
use Rattle.ds_script.specs.Session.{SessionContent}
use Rattle.ds_script.specs.Answer.{AppendsByServers, AppendsByServices, AppendsSettings}

-- the session of these parts
abbrev pub session_of : WorldRecord → Side → ServersRecord → SessionContent
session_of world side servers = record { world = world; side = side; servers = servers }

module _ (world : WorldRecord) (side : Side) (old new : ServersRecord) (before after : List ℕ) where
  pub led : (R : Servers → List ℕ → Servers → Type 0) → AppendsLed R before after old new →
      AppendsByServers R before after (session_of world side old) (session_of world side new)
  led R a = (a.0, a.1, (a.2, refl, refl))

  pub accepted : (text : List ℕ) → AppendsLedOrRefuses text before after old new →
      AppendsSettings text before after (session_of world side old) (session_of world side new)
  accepted text a = (
    a.0,
    a.1,
    elim a.2 [
      | inl done ↦ inl (done, refl, refl)
      | inr refused ↦ inr (
        inr (refused.none, refused.takes),
        (ap (λ (v : ServersRecord). session_of world side v) refused.kept, refused.told),
      )
    ],
  )

  pub served : (event : services.Event) (tick : ℕ) (to : WorldRecord) → AppendsService event tick side before after old world new to →
      AppendsByServices event tick before after (session_of world side old) (session_of to side new)
  served event tick to a = (a.0, a.1, (a.2, refl))
