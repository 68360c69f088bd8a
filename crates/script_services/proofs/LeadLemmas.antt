-- From the tables that values stand for to the effects of lines on them.
use Rattle.std.proofs.Common.{◌≡◌, ℕ, List, [], ◌++◌, Option, Some, None, Result, refl, sym, ap, subst, ◌∙◌, append-nil}
use Rattle.ds_entry.specs.declared.item.Item.{Item}
use Rattle.rs_core.specs.State.{RsRecord}
use Rattle.driver_tables.specs.declared.fault.TableFault.{TableFault}
use Rattle.driver_tables.specs.declared.moves.Move.{Move}
use Rattle.driver_tables.specs.DriverTable.{DriverTable}
use Rattle.driver_tables.specs.Run.{Call, TableStep, table_outcome}
use Rattle.driver_tables.specs.Stands.{TableRecord, TableStands}
use Rattle.script_commands.specs.declared.service.Server.TheVariants.{File, Net}
use Rattle.script_services.specs.Servers.{ServersLead, servers_of}
use Rattle.rs_to_store.specs.Submitting.{FollowsAndTakes, FollowedAndTaken, all_in}
use Rattle.script_services.specs.Tables.{AnswersCall, AnswersExactly, AnswersFollow, AnswersSubmit, FollowsNext, ended_by, moves_text}
use Rattle.script_services.specs.Kept.{FollowedNext, BothFollowed}

-- ---- calls

-- the code's table of one of the servers is replaced
module _ (services : Option RsRecord) (file net new : TableRecord) (call : Call) (text : Result (List Move) TableFault → List ℕ)
    (answer : Result (List Move) TableFault) where
  pub file_called : ((t : DriverTable) → TableStands file t → (u : DriverTable) × TableStep t call answer u × TableStands new u)
      → ServersLead (λ s t. AnswersCall File call text s (text answer) t) (servers_of services file net) (servers_of services new net)
  file_called step s stands =
      let done = step s.file stands.file in (
        record s { file = done.0 },
        record { answer = answer; table = done.0; step = done.1; after = refl; told = refl },
        record
            { services = stands.services; file = done.2; net = stands.net },
      )

  pub net_called : ((t : DriverTable) → TableStands net t → (u : DriverTable) × TableStep t call answer u × TableStands new u)
      → ServersLead (λ s t. AnswersCall Net call text s (text answer) t) (servers_of services file net) (servers_of services file new)
  net_called step s stands =
      let done = step s.net stands.net in (
        record s { net = done.0 },
        record { answer = answer; table = done.0; step = done.1; after = refl; told = refl },
        record
            { services = stands.services; file = stands.file; net = done.2 },
      )

  -- The answer is exact if the call's is.
  pub file_exactly : ((t : DriverTable) → TableStands file t → (u : DriverTable) × TableStep t call answer u × TableStands new u)
      → ((t : DriverTable) → TableStands file t → answer ≡ (table_outcome t call).0)
      → ServersLead (λ s t. AnswersExactly File call text s (text answer) t) (servers_of services file net) (servers_of services new net)
  file_exactly step exact s stands =
      let done = step s.file stands.file in (
        record s { file = done.0 },
        record {
          answers = record { answer = answer; table = done.0; step = done.1; after = refl; told = refl };
          exact = exact s.file stands.file;
        },
        record
            { services = stands.services; file = done.2; net = stands.net },
      )

  pub net_exactly : ((t : DriverTable) → TableStands net t → (u : DriverTable) × TableStep t call answer u × TableStands new u)
      → ((t : DriverTable) → TableStands net t → answer ≡ (table_outcome t call).0)
      → ServersLead (λ s t. AnswersExactly Net call text s (text answer) t) (servers_of services file net) (servers_of services file new)
  net_exactly step exact s stands =
      let done = step s.net stands.net in (
        record s { net = done.0 },
        record {
          answers = record { answer = answer; table = done.0; step = done.1; after = refl; told = refl };
          exact = exact s.net stands.net;
        },
        record
            { services = stands.services; file = stands.file; net = done.2 },
      )

-- ---- follows

-- the network server's table follows, unless something ended the first
next_follows : (stop : Option TableFault) (held : List Item) (old new : TableRecord) (before after : List (List Move))
    (fault : Option TableFault) → FollowedNext stop held old new before after fault → (t : DriverTable) → TableStands old t
    → (u : DriverTable) × (rounds : List (List Move)) × (after ≡ before ++ rounds) × FollowsNext stop held t rounds fault u ×
    TableStands new u
next_follows None held old new before after fault h t stands = h t stands
next_follows (Some stop) held old new before after fault h t stands =
    (t, [], h.0 ∙ sym (append-nil before), (refl, h.1, refl), subst (λ (v : TableRecord). TableStands v t) (sym h.2) stands)

pub both_lead : (services : Option RsRecord) (file net new_file new_net : TableRecord) (held : List Item) (rounds : List (List Move))
    (fault : Option TableFault)
    → BothFollowed held file new_file net new_net [] rounds fault
    → ServersLead (λ s t. AnswersFollow (Some held) s (moves_text (all_in rounds) (ended_by fault)) t) (servers_of services file net)
    (servers_of services new_file new_net)
both_lead services file net new_file new_net held rounds fault (mid, stop, first, next) s stands =
    let a = first s.file stands.file in
    let b = next_follows stop held net new_net mid rounds fault next s.net stands.net in (
      record s { file = a.0; net = b.0 },
      (
        rounds,
        fault,
        record {
          first = a.1;
          next = b.1;
          stop = stop;
          file = a.3;
          net = b.3;
          services = refl;
          all =
              b.2 ∙ ap (λ (l : List (List Move)). l ++ b.1) a.2;
        },
        refl,
      ),
      record { services = stands.services; file = a.4; net = b.4 },
    )

-- ---- follows with requests

module _ (services : Option RsRecord) (file net new : TableRecord) (held : List Item) (id unit : ℕ) (rounds : List (List Move))
    (own : Result (List Move) TableFault) where
  pub file_led : FollowedAndTaken held id unit file new [] rounds own
      → ServersLead (λ s t. AnswersSubmit File id unit (Some held) s (moves_text (all_in rounds) own) t) (servers_of services file net)
      (servers_of services new net)
  file_led taken s stands =
      let done = taken s.file stands.file in (
        record s { file = done.0 },
        (
          rounds,
          own,
          done.0,
          subst (λ (l : List (List Move)). FollowsAndTakes held id unit s.file l own done.0) (sym done.2) done.3,
          refl,
          refl,
        ),
        record { services = stands.services; file = done.4; net = stands.net },
      )

  pub net_led : FollowedAndTaken held id unit net new [] rounds own
      → ServersLead (λ s t. AnswersSubmit Net id unit (Some held) s (moves_text (all_in rounds) own) t) (servers_of services file net)
      (servers_of services file new)
  net_led taken s stands =
      let done = taken s.net stands.net in (
        record s { net = done.0 },
        (
          rounds,
          own,
          done.0,
          subst (λ (l : List (List Move)). FollowsAndTakes held id unit s.net l own done.0) (sym done.2) done.3,
          refl,
          refl,
        ),
        record { services = stands.services; file = stands.file; net = done.4 },
      )
