-- Runs of a system's events, and what holds since it was new.
use Rattle.std.proofs.Common.{◌≡◌, List, [], ◌∷◌, ◌++◌, map, append-nil, All, refl, ap, sym, ◌∙◌, subst}
use Rattle.std.proofs.lemmas.Grind.{flat_map-append}
use Rattle.history.proofs.RunLemmas.{path_push, path_join, path_cut}
use Rattle.ds_system.specs.declared.event.SystemEvent.{SystemEvent}
use Rattle.ds_system.specs.declared.outcome.SystemOutcome.{SystemOutcome}
use Rattle.ds_system.specs.System.{System}
use Rattle.ds_submap.specs.Map.{IsMap}
use Rattle.ds_machine.specs.Says.{SnappedSays, PagedSays, JournaledSays}
use Rattle.ds_world.specs.World.{WorldRecord}
use Rattle.ds_world.specs.Told.{AreTold}
use Rattle.ds_world.specs.Laws.{Laws}
use Rattle.ds_world.proofs.HeadlineLemmas.{turns}
use Rattle.ds_world.proofs.LawLemmas as worlds
use Rattle.ds_world.proofs.ReplyLemmas.{told_on, replies_are_kept, messages_stay}
use Rattle.ds_system.specs.Steps.{WorldEvents}
use Rattle.ds_system.specs.Happening.{SystemDoes, SystemEntry, SystemRun, all_events}
use Rattle.ds_system.proofs.LawLemmas.{systems_keep_laws}
use Rattle.ds_system.proofs.OlderLemmas.{no_send_to_older}
use Rattle.ds_system.proofs.ApartLemmas.{labels_are_apart}
use Rattle.ds_system.proofs.RecoveryLemmas.{instances_serve}
use Rattle.ds_system.specs.Stands.{SystemRecord, SystemEventLeads}
use Rattle.ds_system.specs.Since.{SystemRunLeads, WorldRan, SystemPast, account_begun, IsRightAmong, HoldsOfPast, SystemLawsHold}

abbrev Entered : System → SystemEntry → System → Type 0
Entered s e t = SystemDoes s e.event e.outcome e.steps t

-- ---- runs
pub run_none : (value : SystemRecord) → SystemRunLeads [] [] value value
run_none value s st = (s, [], record { events_are = refl; outcomes_are = refl }, refl, st, refl)

mapped : {X : Type 0} (f : SystemEntry → X) (entries : List SystemEntry) (xs : List X) (e : SystemEntry) → map f entries ≡ xs →
    map f (entries ++ e ∷ []) ≡ xs ++ f e ∷ []
mapped {X} f entries xs e q = over entries ∙ ap (λ (l : List X). l ++ f e ∷ []) q
  where
    over : (l : List SystemEntry) → map f (l ++ e ∷ []) ≡ map f l ++ f e ∷ []
    over [] = refl
    over (z ∷ l) = ap (λ (k : List X). f z ∷ k) (over l)

all_of : (xs ys : List SystemEntry) → all_events (xs ++ ys) ≡ all_events xs ++ all_events ys
all_of xs ys = flat_map-append (λ (e : SystemEntry). e.steps.events) xs ys

all_more : (xs : List SystemEntry) (e : SystemEntry) → all_events (xs ++ e ∷ []) ≡ all_events xs ++ e.steps.events
all_more xs e = all_of xs (e ∷ []) ∙ ap (λ (l : WorldEvents). all_events xs ++ l) (append-nil e.steps.events)

-- one more event after a run
pub run_more : (a b c : SystemRecord) (es : List SystemEvent) (os : List SystemOutcome) (event : SystemEvent) (outcome : SystemOutcome)
    → SystemRunLeads es os a b → SystemEventLeads event outcome b c → SystemRunLeads (es ++ event ∷ []) (os ++ outcome ∷ []) a c
run_more a b c es os event outcome led one s st =
    let first = led s st in
    let next = one first.0 first.4 in
    let e : SystemEntry = record { event = event; outcome = outcome; steps = next.1 } in (
      next.0,
      first.1 ++ e ∷ [],
      record {
        events_are = mapped (λ (e : SystemEntry). e.event) first.1 es e first.2.events_are;
        outcomes_are =
            mapped (λ (e : SystemEntry). e.outcome) first.1 os e first.2.outcomes_are;
      },
      path_push Entered s first.0 next.0 first.1 e first.3 next.2,
      next.3,
      subst (λ (l : WorldEvents). AreTold a.world l c.world) (sym (all_more first.1 e))
          (told_on (all_events first.1) next.1.events a.world b.world c.world first.5 next.4),
    )

-- ---- since a system was new
-- each entry, among all that happened
right_among : (past : SystemPast) (front back : List SystemEntry) (entry : SystemEntry) → past.entries ≡ front ++ entry ∷ back →
    IsRightAmong past front entry back
right_among past front back entry e =
    let cut = path_cut Entered past.start past.now front (entry ∷ back)
    (subst (λ (l : List SystemEntry). SystemRun past.start l past.now) e past.run) in
    record {
      before = cut.0;
      after = cut.2.0;
      led = cut.1;
      does = cut.2.1;
      leads = cut.2.2;
      right = no_send_to_older past.settings past.a past.b past.next past.start cut.0 cut.2.0 front entry past.is_new cut.1 cut.2.1;
      served = instances_serve past.settings past.a past.b past.next past.start cut.0 cut.2.0 front entry past.is_new cut.1 cut.2.1;
    }

holds_of : (past : SystemPast) → HoldsOfPast past
holds_of past = record {
  laws = systems_keep_laws past.settings past.a past.b past.next past.start past.now past.entries past.is_new past.run;
  turns = right_among past;
  apart = labels_are_apart past.settings past.a past.b past.next past.start past.now past.entries past.is_new past.run;
}

-- what the world ran, as a world's run says it
module _ (snapped : SnappedSays) (paged : PagedSays) (journaled : JournaledSays) where
  ran_so : (old new : WorldRecord) (events : WorldEvents) → AreTold old events new → All IsMap new.maps → WorldRan old events new
  ran_so old new events told maps = record {
    told = told;
    replies = replies_are_kept old new events told;
    messages = messages_stay old new events told;
    laws = worlds.laws_hold snapped paged journaled old new events told maps;
    turns = turns old new events told;
  }

  pub laws_hold : (old new : SystemRecord) (es : List SystemEvent) (os : List SystemOutcome) → SystemRunLeads es os old new →
      All IsMap new.world.maps → SystemLawsHold es os old new
  laws_hold old new es os led maps past is =
      let went = led past.now is.stands in
      let ran = ran_so old.world new.world (all_events went.1) went.5 maps in
      let world : Laws (account_begun past.a past.b) (all_events (past.entries ++ went.1)) new.world =
      subst (λ (l : WorldEvents). Laws (account_begun past.a past.b) l new.world) (sym (all_of past.entries went.1))
      (ran.laws (account_begun past.a past.b) (all_events past.entries) is.came) in
      let later : SystemPast = record {
        settings = past.settings;
        a = past.a;
        b = past.b;
        next = past.next;
        start = past.start;
        is_new = past.is_new;
        entries = past.entries ++ went.1;
        now = went.0;
        run = path_join Entered past.start past.now went.0 past.entries went.1 past.run went.3;
      } in
      record {
        entries = went.1;
        are = went.2;
        later = later;
        goes_on = record { settings_are = refl; a_is = refl; b_is = refl; next_is = refl; start_is = refl; entries_are = refl };
        ran = ran;
        is = record { stands = went.4; came = world.came };
        holds = holds_of later;
        world = world;
      }
