-- The checks of a subscription in a list of events.
use Rattle.std.proofs.Common.{◌≡◌, ◌==◌, ℕ, suc, ◌<◌, Bool, true, false, ◌&&◌, ◌||◌, cond, List, [], ◌∷◌, ◌++◌, length, take, Option, Some}
use Rattle.std.proofs.Common.{None, refl, ap, sym, ◌∙◌, subst, inl, inr, ◌⊎◌, arith, append_assoc, append-nil}
use Rattle.std.proofs.lemmas.Bool.Decides.{eqb_tells}
use Rattle.std.specs.List.{list_any}
use Rattle.ds_entry.specs.declared.item.Item.{Item}
use Rattle.ds_feed.specs.Feed.{Feed, position}
use Rattle.ds_pattern.specs.declared.query.Query.{Query}
use Rattle.ds_pattern.specs.Under.{is_under}
use Rattle.ds_replica.specs.Sent.{Sent, given}
use Rattle.ds_replica.specs.Taking.{items_of}
use Rattle.ds_replica.specs.Front.{IsFront}
use Rattle.ds_replica.specs.Whole.{IsWhole}
use Rattle.ds_replica.specs.Checked.{CheckTurn, IsCheckTurn, AreChecks, check_items}
use Rattle.ds_replica.proofs.WholeLemmas.{front_same, front_later}
use Rattle.ds_replica.proofs.CheckedLemmas as wholes
use Rattle.ds_machine.specs.Subscription.{Subscription}
use Rattle.ds_machine.specs.State.{State, held, unseen}
use Rattle.ds_machine.specs.Machine.{Step}
use Rattle.ds_machine.specs.Effect.{GoesOn}
use Rattle.ds_machine.specs.declared.command.Command.TheVariants.{Subscribe, Check}
use Rattle.ds_machine.specs.declared.reply.Reply.{Reply}
use Rattle.ds_machine.specs.declared.reply.Reply.TheVariants.{Subscribed}
use Rattle.ds_replica.specs.Growth.{NewsAreNew}
use Rattle.ds_replica.specs.declared.event.Side.{Side}
use Rattle.ds_replica.specs.declared.event.Holder.{Holder}
use Rattle.ds_replica.specs.declared.event.Holder.TheVariants.{Store}
use Rattle.ds_replica.specs.declared.event.Event.{Event}
use Rattle.ds_replica.specs.declared.event.Event.TheVariants.{Ask}
use Rattle.ds_replica.specs.declared.outcome.Outcome.{Outcome}
use Rattle.ds_replica.specs.declared.outcome.Outcome.TheVariants.{Replied, Made}
use Rattle.ds_replica.specs.World.{World, store_at, with_state}
use Rattle.ds_replica.specs.Happens.{items_given, ask_outcome, Happens, HappenAll}
use Rattle.ds_replica.specs.Known.{Account, store_of, message_items, extended, extended_all}
use Rattle.ds_replica.specs.Fits.{Fits}
use Rattle.ds_replica.specs.Turns.{is_side, empties_by, empties, Stays}
use Rattle.ds_replica.specs.Messages.{IsAsked, feed_of, IsMessage}
use Rattle.ds_replica.specs.Checks.{subscribes_by, is_subscribing, sent_in, check_sent, checks_sent, ChecksAreWholeInWorlds}
use Rattle.ds_replica.proofs.GivenLemmas.{check_given}
use Rattle.ds_replica.proofs.FitLemmas.{store_fits, own_fits, items_given_back}
use Rattle.ds_replica.proofs.EventLemmas.{event_fits, events_fit}
use Rattle.ds_replica.proofs.TurnLemmas.{items_store, goes_on, front_of}
use Rattle.ds_machine.proofs.ReachedLemmas.{held_is_top}
use Rattle.ds_replica.proofs.MessageLemmas.{gave, front}
use Rattle.ds_replica.proofs.SeerLemmas.{Shows, same_seer, begins_shown, side_itself, one_side, store_put, itself, and_false}
use Rattle.ds_replica.proofs.ShowLemmas.{check_none, event_shows}
use Rattle.std.proofs.lemmas.Bool.{or_parts, and_from}

-- ---- checks, in order
-- the event is a Check of the subscription that made a message, or showed it nothing
is_check : (side : Side) (sub : ℕ) (account : Account) (event : Event) (out : Outcome) →
    (check_sent side sub account event out ≡ []) ⊎ ((max : ℕ) × (k : ℕ) × (event ≡ Ask side (Check sub max)) × (out ≡ Made k))
is_check side sub account (Ask s (Check n max)) (Made k) = by_test (is_side s side) refl (eqb_tells n sub)
  where
    by_test : (b : Bool) → is_side s side ≡ b → (((n == sub) ≡ true) × (n ≡ sub)) ⊎ (((n == sub) ≡ false) × (n ≡ sub → ⊥))
        → (check_sent side sub account (Ask s (Check n max)) (Made k) ≡ []) ⊎
        ((max' : ℕ) × (k' : ℕ) × (Ask s (Check n max) ≡ Ask side (Check sub max')) × (Made k ≡ Made k'))
    by_test false q d = inl (check_none side sub account s (Check n max) (Made k) (ap (λ (b : Bool). b && (n == sub)) q))
    by_test true q (inl y) = inr
        (max, k, ap (λ (m : ℕ). Ask s (Check m max)) y.1 ∙ ap (λ (x : Side). Ask x (Check sub max)) (one_side s side q), refl)
    by_test true q (inr d) = inl (check_none side sub account s (Check n max) (Made k) (and_false (is_side s side) (n == sub) d.0))
is_check side sub account (Ask s (Check n max)) out = inl refl
is_check side sub account (Ask s command) out = inl refl
is_check side sub account event out = inl refl

items_append : (xs ys : List Sent) → items_of (xs ++ ys) ≡ items_of xs ++ items_of ys
items_append [] ys = refl
items_append (x ∷ xs) ys = ap (λ (l : List Item). x.item ∷ l) (items_append xs ys)

pub record Rounds (account : Account) (side : Side) (sub : ℕ) (query : Query) (early f : Feed) (shown : List Item)
    (events : List (Event × Outcome)) : Type 0 where
  pub turns : List CheckTurn
  pub are : AreChecks early f (is_under query) shown turns
  pub sent_are : check_items turns ≡ checks_sent side sub account events
  pub last : (t : CheckTurn) → IsCheckTurn early f (is_under query) (shown ++ items_of (checks_sent side sub account events)) t →
      AreChecks early f (is_under query) shown (turns ++ t ∷ [])
  pub shows : Shows (store_of (extended_all account events) side).state sub query (shown ++ items_of (checks_sent side sub account events))

-- a check of the subscription, as a turn
turn_at : (account : Account) (w late : World) (side : Side) (sub : ℕ) (query : Query) (max k : ℕ) (events : List (Event × Outcome))
    (early f : Feed) (shown : List Item) → IsAsked account w side (Check sub max) k events late
    → Shows (store_of account side).state sub query shown → IsFront early (feed_of account side) →
    IsFront (feed_of (extended_all account ((Ask side (Check sub max), Made k) ∷ events)) side) f
    → (t : CheckTurn) × IsCheckTurn early f (is_under query) shown t × (t.max ≡ max) × (t.feed ≡ feed_of account side) ×
    (check_sent side sub account (Ask side (Check sub max)) (Made k) ≡ given t.known t.items)
    × IsMessage (extended_all account ((Ask side (Check sub max), Made k) ∷ events)) k (given t.known t.items)
turn_at account w late side sub query max k events early f shown asked h earlier later =
    let a = store_of account side in
    let own = own_fits account w side asked.fits in
    let g = gave account w late side (Check sub max) k events asked in
    let one = gave account w asked.happen.0 side (Check sub max) k []
    (record { fits = asked.fits; happen = (asked.happen.0, asked.happen.1, refl); stays = refl }) in
    let c = check_given a.state own.reached sub max g.items g.given_is in
    let d = check_given a.state own.reached sub max one.items one.given_is in
    let seer : c.0 ≡ h.seer = same_seer c.0 h.seer (sym c.1 ∙ h.here) in
    let other : d.0 ≡ h.seer = same_seer d.0 h.seer (sym d.1 ∙ h.here) in
    let l = take max (unseen a.state h.seer) in
    let all : g.items ≡ l = sym c.2 ∙ ap (λ (x : Subscription). take max (unseen a.state x)) seer in
    let each : one.items ≡ l = sym d.2 ∙ ap (λ (x : Subscription). take max (unseen a.state x)) other in
    let t : CheckTurn = record { feed = a.state.feed; known = a.known; held = held a.state; max = max; items = l } in
    let test = and_from (is_side side side) (sub == sub) (side_itself side) (itself sub) in
    let turn : IsCheckTurn early f (is_under h.seer.query) h.seer.shown t = record {
      later = earlier;
      front = front_later a.state.feed (feed_of (extended_all account ((Ask side (Check sub max), Made k) ∷ events)) side) f
          (front account w late side (Check sub max) k events asked) later;
      knows = own.accepted;
      top = held_is_top a.state own.reached;
      given = refl;
    } in (
      t,
      subst (λ (x : List Item). IsCheckTurn early f (is_under query) x t) h.shown_is
          (subst (λ (x : Query). IsCheckTurn early f (is_under x) h.seer.shown t) h.query_is turn),
      refl,
      refl,
      ap (λ (b : Bool). cond b (sent_in (extended account (Ask side (Check sub max)) (Made k)) k) []) test ∙
          (ap message_items one.message ∙ ap (given a.known) each),
      subst (λ (x : List Item). IsMessage (extended_all account ((Ask side (Check sub max), Made k) ∷ events)) k (given a.known x)) all
          g.message,
    )

or_none : (b : Bool) → b ≡ false → b || false ≡ false
or_none true e = e
or_none false e = refl

module _ (side : Side) (sub : ℕ) (query : Query) (early f : Feed) where
  -- one more event, before rounds
  module _ (account : Account) (w mid late : World) (shown : List Item) (es : List (Event × Outcome)) (fits : Fits account w)
      (h : Shows (store_of account side).state sub query shown) (earlier : IsFront early (feed_of account side))
      (happen : HappenAll mid es late) (stays : Stays (Store side) es)
    where
      longer : (cs rs : List Sent) → (shown ++ items_of cs) ++ items_of rs ≡ shown ++ items_of (cs ++ rs)
      longer cs rs = append_assoc shown (items_of cs) (items_of rs) ∙ ap (λ (l : List Item). shown ++ l) (sym (items_append cs rs))

      -- it showed the subscription nothing
      by_other : (event : Event) (out : Outcome) → check_sent side sub account event out ≡ [] →
          Rounds (extended account event out) side sub query early f (shown ++ items_of (check_sent side sub account event out)) es →
          Rounds account side sub query early f shown ((event, out) ∷ es)
      by_other event out e r =
          let cs = check_sent side sub account event out in
          let rs = checks_sent side sub (extended account event out) es in
          let same : shown ++ items_of cs ≡ shown = ap (λ (l : List Sent). shown ++ items_of l) e ∙ append-nil shown in
          record {
            turns = r.turns;
            are = subst (λ (x : List Item). AreChecks early f (is_under query) x r.turns) same r.are;
            sent_are = r.sent_are ∙ sym (ap (λ (l : List Sent). l ++ rs) e);
            last = λ t c. subst (λ (x : List Item). AreChecks early f (is_under query) x (r.turns ++ t ∷ [])) same
                (r.last t (subst (λ (x : List Item). IsCheckTurn early f (is_under query) x t) (sym (longer cs rs)) c));
            shows = subst (Shows (store_of (extended_all account ((event, out) ∷ es)) side).state sub query) (longer cs rs) r.shows;
          }

      -- it was a Check of the subscription
      by_check : (max k : ℕ) → Happens w (Ask side (Check sub max)) (Made k) mid →
          IsFront (feed_of (extended_all account ((Ask side (Check sub max), Made k) ∷ es)) side) f
          → Rounds (extended account (Ask side (Check sub max)) (Made k)) side sub query early f
          (shown ++ items_of (check_sent side sub account (Ask side (Check sub max)) (Made k)))
          es → Rounds account side sub query early f shown ((Ask side (Check sub max), Made k) ∷ es)
      by_check max k a later r =
          let cs = check_sent side sub account (Ask side (Check sub max)) (Made k) in
          let rs = checks_sent side sub (extended account (Ask side (Check sub max)) (Made k)) es in
          let t = turn_at account w late side sub query max k es early f shown
          (record { fits = fits; happen = (mid, a, happen); stays = stays }) h earlier later in
          let same : items_of cs ≡ t.0.items = ap items_of t.4 ∙ items_given_back t.0.known t.0.items in
          record {
            turns = t.0 ∷ r.turns;
            are = (t.1, subst (λ (x : List Item). AreChecks early f (is_under query) (shown ++ x) r.turns) same r.are);
            sent_are = ap (λ (l : List Sent). l ++ check_items r.turns) (sym t.4) ∙ ap (λ (l : List Sent). cs ++ l) r.sent_are;
            last = λ u c. (
              t.1,
              subst (λ (x : List Item). AreChecks early f (is_under query) (shown ++ x) (r.turns ++ u ∷ [])) same
                  (r.last u (subst (λ (x : List Item). IsCheckTurn early f (is_under query) x u) (sym (longer cs rs)) c)),
            );
            shows = subst (Shows (store_of (extended_all account ((Ask side (Check sub max), Made k) ∷ es)) side).state sub query)
                (longer cs rs) r.shows;
          }

      by_event : (event : Event) (out : Outcome) →
          (check_sent side sub account event out ≡ []) ⊎ ((max : ℕ) × (k : ℕ) × (event ≡ Ask side (Check sub max)) × (out ≡ Made k))
          → Happens w event out mid → IsFront (feed_of (extended_all account ((event, out) ∷ es)) side) f →
          Rounds (extended account event out) side sub query early f (shown ++ items_of (check_sent side sub account event out)) es
          → Rounds account side sub query early f shown ((event, out) ∷ es)
      by_event event out (inl e) a later r = by_other event out e r
      by_event event out (inr c) a later r =
          subst (λ (x : Event). Happens w x out mid → IsFront (feed_of (extended_all account ((x, out) ∷ es)) side) f →
          Rounds (extended account x out) side sub query early f (shown ++ items_of (check_sent side sub account x out)) es →
          Rounds account side sub query early f shown ((x, out) ∷ es))
          (sym c.2)
          (subst (λ (o : Outcome). Happens w (Ask side (Check sub c.0)) o mid →
          IsFront (feed_of (extended_all account ((Ask side (Check sub c.0), o) ∷ es)) side) f
          → Rounds (extended account (Ask side (Check sub c.0)) o) side sub query early f
          (shown ++ items_of (check_sent side sub account (Ask side (Check sub c.0)) o)) es →
          Rounds account side sub query early f shown ((Ask side (Check sub c.0), o) ∷ es))
          (sym c.3) (λ x y z. by_check c.0 c.1 x y z))
          a later r

  rounds : (events : List (Event × Outcome)) (account : Account) (w late : World) (shown : List Item) → Fits account w →
      HappenAll w events late → Stays (Store side) events → list_any (is_subscribing side sub) events ≡ false
      → Shows (store_of account side).state sub query shown → IsFront early (feed_of account side) →
      IsFront (feed_of (extended_all account events) side) f → Rounds account side sub query early f shown events
  rounds [] account w late shown fits happen stays none h earlier later =
      record {
        turns = [];
        are = tt;
        sent_are = refl;
        last = λ t c. (subst (λ (x : List Item). IsCheckTurn early f (is_under query) x t) (append-nil shown) c, tt);
        shows = subst (Shows (store_of account side).state sub query) (sym (append-nil shown)) h;
      }
  rounds ((event, out) ∷ es) account w late shown fits happen stays none h earlier later =
      let n = or_parts (empties_by (Store side) event out) (list_any (empties (Store side)) es) stays in
      let m = or_parts (subscribes_by side sub event out) (list_any (is_subscribing side sub) es) none in
      let mid = happen.0 in
      let next = event_fits account w mid event out fits happen.1 in
      let here = subst (λ (s : State). Shows s sub query shown) (store_fits account w side fits).state_is h in
      let moved = event_shows account w mid side sub query shown fits here event out happen.1 n.0 m.0 in
      let cs = check_sent side sub account event out in
      let shows = subst (λ (s : State). Shows s sub query (shown ++ items_of cs))
      (sym (store_fits (extended account event out) mid side next).state_is) moved in
      let goes = goes_on account w mid side ((event, out) ∷ []) fits (mid, happen.1, refl)
      (or_none (empties_by (Store side) event out) n.0) in
      let front = front_later early (feed_of account side) (feed_of (extended account event out) side) earlier
      (front_of (store_of account side).state (store_of (extended account event out) side).state goes) in
      by_event account w mid late shown es fits h earlier happen.2 n.1 event out (is_check side sub account event out) happen.1 later
      (rounds es (extended account event out) mid late (shown ++ items_of cs) next happen.2 n.1 m.1 shows front later)

-- ---- from the Subscribe to the last Check
pub happen_last : (events : List (Event × Outcome)) (w mid late : World) (event : Event) (out : Outcome) → HappenAll w events mid →
    Happens mid event out late → HappenAll w (events ++ (event, out) ∷ []) late
happen_last [] w mid late event out h a = (late, subst (λ (x : World). Happens x event out late) h a, refl)
happen_last (e ∷ events) w mid late event out h a = (h.0, h.1, happen_last events h.0 mid late event out h.2 a)

extended_last : (events : List (Event × Outcome)) (account : Account) (event : Event) (out : Outcome) →
    extended_all account (events ++ (event, out) ∷ []) ≡ extended (extended_all account events) event out
extended_last [] account event out = refl
extended_last (e ∷ events) account event out = extended_last events (extended account e.0 e.1) event out

stays_last : (h : Holder) (events : List (Event × Outcome)) (event : Event) (out : Outcome) → Stays h events →
    empties_by h event out ≡ false → Stays h (events ++ (event, out) ∷ [])
stays_last h [] event out e q = or_none (empties_by h event out) q
stays_last h (x ∷ events) event out e q =
    let n = or_parts (empties h x) (list_any (empties h) events) e in
    ap (λ (b : Bool). b || list_any (empties h) (events ++ (event, out) ∷ [])) n.0 ∙ stays_last h events event out n.1 q

pub news_new : NewsAreNew
news_new accepted [] n = wholes.one_by_one_is_new.none accepted
news_new accepted (i ∷ items) n = wholes.one_by_one_is_new.one_before accepted items i n.0.newer (news_new (accepted ++ i ∷ []) items n.1)

given_long : (known items : List Item) → length (given known items) ≡ length items
given_long known [] = refl
given_long known (i ∷ items) = ap suc (given_long known items)

checks_last : (turns : List CheckTurn) (t : CheckTurn) → check_items (turns ++ t ∷ []) ≡ check_items turns ++ given t.known t.items
checks_last [] t = append-nil (given t.known t.items)
checks_last (x ∷ turns) t = ap (λ (l : List Sent). given x.known x.items ++ l) (checks_last turns t) ∙
    sym (append_assoc (given x.known x.items) (check_items turns) (given t.known t.items))

told_subscribed : (w : World) (reply : Reply) (stamp owed : ℕ) (o : Option (List Item)) →
    Replied (Subscribed stamp owed) ≡ ask_outcome w reply o → reply ≡ Subscribed stamp owed
told_subscribed w reply stamp owed None e = let n : Subscribed stamp owed ≡ reply = cc in sym n
told_subscribed w reply stamp owed (Some items) e = absurd (let n : Replied (Subscribed stamp owed) ≡ Made (length w.messages) = e in cc)

pub checks_are_whole : ChecksAreWholeInWorlds
checks_are_whole account w begun before late side sub query overwrite stamp owed events max k fits b h stays none e few =
    let first = extended account (Ask side (Subscribe sub query true overwrite)) (Replied (Subscribed stamp owed)) in
    let mid = extended_all first events in
    let now = extended mid (Ask side (Check sub max)) (Made k) in
    let fits1 : Fits first begun = event_fits account w begun (Ask side (Subscribe sub query true overwrite))
    (Replied (Subscribed stamp owed)) fits b in
    let fits2 : Fits mid before = events_fit first begun before events fits1 h in
    let a = b.1 in
    let reply = told_subscribed w a.reply stamp owed (items_given a.reply) a.outcome_is in
    let begins = begins_shown (store_at w side) a.after sub (store_fits account w side fits).reached query overwrite stamp owed
    (subst (λ (x : Reply). Step (store_at w side) (Subscribe sub query true overwrite) x a.after) reply a.step) in
    let at : store_at begun side ≡ a.after = ap (λ (x : World). store_at x side) a.world_is ∙
    (items_store (with_state w side a.after) (items_given a.reply) side ∙ store_put w side a.after) in
    let shows = subst (λ (s : State). Shows s sub query []) (sym (store_fits first begun side fits1).state_is)
    (subst (λ (s : State). Shows s sub query []) (sym at) begins) in
    let goes = subst (λ (x : Account). GoesOn (store_of first side).state (store_of x side).state)
    (extended_last events first (Ask side (Check sub max)) (Made k))
    (goes_on first begun late side (events ++ (Ask side (Check sub max), Made k) ∷ []) fits1
    (happen_last events begun before late (Ask side (Check sub max)) (Made k) h e)
    (stays_last (Store side) events (Ask side (Check sub max)) (Made k) stays refl)) in
    let early = feed_of first side in
    let f = feed_of now side in
    let last = front_of (store_of mid side).state (store_of now side).state
    (goes_on mid before late side ((Ask side (Check sub max), Made k) ∷ []) fits2 (late, e, refl) refl) in
    let middle = front_of (store_of first side).state (store_of mid side).state (goes_on first begun before side events fits1 h stays) in
    let r = rounds side sub query early f events first begun before [] fits1 h stays none shows (front_same early) last in
    let t = turn_at mid before late side sub query max k [] early f (items_of (checks_sent side sub first events))
    (record { fits = fits2; happen = (late, e, refl); stays = refl }) r.shows middle (front_same f) in
    let sent : sent_in now k ≡ given t.0.known t.0.items = ap message_items t.5 in
    let long : length (sent_in now k) ≡ length t.0.items = ap length sent ∙ given_long t.0.known t.0.items in
    let less : length t.0.items < t.0.max = omega (arith, long, few, t.2) in
    let whole = wholes.checks_are_whole early f (is_under query) goes.grown.0 r.turns t.0 goes.grown.2
    (news_new early.accepted goes.grown.0 goes.grown.1) (r.last t.0 t.1) less in
    subst (λ (l : List Sent). IsWhole f (is_under query) l (position (feed_of mid side)))
    (checks_last r.turns t.0 ∙ (ap (λ (l : List Sent). l ++ given t.0.known t.0.items) r.sent_are ∙
    ap (λ (l : List Sent). checks_sent side sub first events ++ l) (sym sent)))
    (subst (λ (x : Feed). IsWhole f (is_under query) (check_items (r.turns ++ t.0 ∷ [])) (position x)) t.3 whole)
