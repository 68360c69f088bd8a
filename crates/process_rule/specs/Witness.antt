-- A worked run: the laws are about hosts on which something happens.
use Rattle.std.specs.Prelude.{◌≡◌, List, [], ◌∷◌, Some, None}
use Rattle.process_rule.specs.Supervisor.{Host, new_service}
use Rattle.process_rule.specs.Events.{Event, OccurAll, IsNewHost}

-- A host with no process but the supervisor, whose file has never been written.
abbrev pub new_host : Host
new_host =
    record {
      processes = λ q. None;
      services = λ k. new_service;
      next = 1;
      file = 1;
      now = 0;
      run = 0;
      given = [];
      begun = [];
      reported = [];
    }

-- A law: an instance begins, exits, is reported and reaped, and the next one of its label begins with the same process number.
pub record NumbersComeAgain : Type 0 where
  pub host : Host
  pub events : List Event
  pub new : IsNewHost new_host
  pub occurred : OccurAll new_host events host
  pub instance : (host.services 0).instance ≡ Some (record { generation = 2; leader = 7; deadline = None })
  pub begun : host.begun ≡ 2 ∷ 1 ∷ []
  pub reported : host.reported ≡ 1 ∷ []
