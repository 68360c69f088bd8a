-- What becomes of a follower's map, call by call.
use Rattle.std.proofs.Common.{◌≡◌, ◌≢◌, ℕ, List, [], ◌∷◌, ◌++◌, length, take, Option, Some, None, refl, ap, sym, ◌∙◌, subst, inl, inr}
use Rattle.std.proofs.Math.Seq.{take-length}
use Rattle.history.specs.declared.entry.Entry.{Entry}
use Rattle.history.specs.History.{entry}
use Rattle.history.proofs.RunLemmas.{path_join}
use Rattle.ds_entry.specs.declared.item.Item.{Item}
use Rattle.ds_machine.specs.declared.command.Command.{Command}
use Rattle.ds_machine.specs.declared.reply.Reply.{Reply}
use Rattle.ds_machine.specs.declared.reply.Reply.TheVariants.{Subscribed, Checked, Refused}
use Rattle.ds_submap.specs.Map.{SubMapRecord, empty_map}
use Rattle.ds_submap.specs.Take.{JoinsUnder}
use Rattle.desk_store.specs.Called.{Made, MadeCall}
use Rattle.desk_store.specs.CallFaults.{FailsAsking}
use Rattle.desk_store.specs.Record.{PassRecord}
use Rattle.desk_store.specs.declared.call_fault.CallFault.{CallFault}
use Rattle.desk_store.specs.Follower.{FollowerRecord, follower_of}
use Rattle.desk_store.specs.Refresh.{FollowerIsLed, LeadsFollower, MapIsLed, TakesFirst}
use Rattle.desk_store.proofs.RecordLemmas.{made_more, made_none}

abbrev leads_on : FollowerRecord → Entry Command Reply → FollowerRecord → Type 0
leads_on f e g = LeadsFollower f e.reply g

-- ---- calls in order
pub led_none : (p : PassRecord) (f : FollowerRecord) → FollowerIsLed p p f f
led_none p f = record { own = []; made = made_none p; leads = refl }

led_one : (p q : PassRecord) (f g : FollowerRecord) (command : Command) (reply : Reply) →
    Made p q (entry p.origin.number command reply ∷ []) → LeadsFollower f reply g → FollowerIsLed p q f g
led_one p q f g command reply made leads =
    record { own = entry p.origin.number command reply ∷ []; made = made; leads = (g, leads, refl) }

pub led_more : (p q r : PassRecord) (f g h : FollowerRecord) → FollowerIsLed p q f g → FollowerIsLed q r g h → FollowerIsLed p r f h
led_more p q r f g h a b = record {
  own = a.own ++ b.own;
  made = made_more p q r a.own b.own a.made b.made;
  leads = path_join leads_on f g h a.own b.own a.leads b.leads;
}

-- ---- the map after a call that failed
pub map_none : (p : PassRecord) (f : FollowerRecord) → MapIsLed p p f f
map_none p f = record { last = f; calls = led_none p f; map = refl }

pub map_failed : (p q : PassRecord) (f : FollowerRecord) (command : Command) (fault : CallFault) → FailsAsking p q command fault →
    MapIsLed p q f f
map_failed p q f command fault (inl (fall, found, is)) =
    record { last = f; calls = record { own = []; made = found.made; leads = refl }; map = refl }
map_failed p q f command fault (inr (refusal, place, called, tells)) =
    record { last = f; calls = led_one p q f f command (Refused refusal) called.made refl; map = refl }

pub map_more : (p q r : PassRecord) (f g h : FollowerRecord) → FollowerIsLed p q f g → MapIsLed q r g h → MapIsLed p r f h
map_more p q r f g h a b = record { last = b.last; calls = led_more p q r f g b.last a b.calls; map = b.map }

-- ---- each call of a follower with these parts
module _ (p q : PassRecord) (f : FollowerRecord) (sub : ℕ) (stamp : Option ℕ) (map : SubMapRecord) (command : Command) (place : ℕ)
    (parts : f ≡ follower_of sub stamp map) where
  pub led_subscribed : (new : SubMapRecord) (told owed : ℕ) → new ≡ empty_map map.query →
      MadeCall p q command (Subscribed told owed) place → FollowerIsLed p q f (follower_of sub (Some told) new)
  led_subscribed new told owed empty called =
      led_one p q f (follower_of sub (Some told) new) command (Subscribed told owed) called.made
      (refl, subst (λ (x : FollowerRecord). new ≡ empty_map x.map.query) (sym parts) empty)

  module _ (items : List Item) (last before after : ℕ) (stamped : stamp ≡ Some last)
      (called : MadeCall p q command (Checked items before after) place) where
    stamp_is : f.stamp ≡ Some last
    stamp_is = ap (λ (x : FollowerRecord). x.stamp) parts ∙ stamped

    pub led_other : before ≢ last → FollowerIsLed p q f (follower_of sub None map)
    led_other differs = led_one p q f (follower_of sub None map) command (Checked items before after) called.made
        (inr (other, refl, ap (λ (x : FollowerRecord). x.map) (sym parts)))
      where
        other : f.stamp ≢ Some before
        other e = let q : Some before ≡ Some last = sym e ∙ stamp_is in differs (cc)

    pub led_checked : before ≡ last → (new : SubMapRecord) (count : ℕ) → JoinsUnder map.query map.held (take count items) new.held →
        new.query ≡ map.query → FollowerIsLed p q f (follower_of sub (Some after) new)
    led_checked own new count joined query =
        led_one p q f (follower_of sub (Some after) new) command (Checked items before after) called.made
        (inl (stamp_is ∙ ap (λ (s : ℕ). Some s) (sym own), refl, takes))
      where
        takes : TakesFirst f.map items new
        takes = subst (λ (x : FollowerRecord). TakesFirst x.map items new) (sym parts) (count, joined, query)

    pub led_whole : before ≡ last → (new : SubMapRecord) → JoinsUnder map.query map.held items new.held → new.query ≡ map.query →
        FollowerIsLed p q f (follower_of sub (Some after) new)
    led_whole own new joined query = led_checked own new (length items)
        (subst (λ (l : List Item). JoinsUnder map.query map.held l new.held) (sym (take-length items)) joined) query

    pub map_stopped : before ≡ last → (g : FollowerRecord) (new : SubMapRecord) (count : ℕ) →
        JoinsUnder map.query map.held (take count items) new.held → new.query ≡ map.query → g.map ≡ new → MapIsLed p q f g
    map_stopped own g new count joined query same =
        record { last = follower_of sub (Some after) new; calls = led_checked own new count joined query; map = same }
