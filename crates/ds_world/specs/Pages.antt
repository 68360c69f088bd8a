-- What all the pages of a run leave out nothing of.
use Rattle.std.specs.Prelude.{◌≡◌, ℕ, ◌≤◌, Bool, List, [], ◌∷◌, ◌++◌, Option, None, Some, MatchBool}
use Rattle.std.specs.List.{flat_map, slice_get}
use Rattle.ds_names.specs.declared.key.Key.{Key}
use Rattle.ds_feed.specs.declared.cursor.Cursor.{Cursor}
use Rattle.ds_replica.specs.Under.{KeepsQuery}
use Rattle.ds_replica.specs.Whole.{IsWhole}
use Rattle.ds_replica.specs.Paged.{last_key}
use Rattle.ds_machine.specs.Scope.{keeps}
use Rattle.ds_machine.specs.declared.command.Scope.{Scope}
use Rattle.ds_machine.specs.declared.command.Command.TheVariants.{Since, Page}
use Rattle.ds_machine.specs.declared.reply.Reply.{Reply}
use Rattle.ds_machine.specs.declared.reply.Reply.TheVariants.{Journaled, Paged}
use Rattle.ds_replica.specs.declared.event.Side.{Side}
use Rattle.ds_replica.specs.declared.event.Event.{Event}
use Rattle.ds_replica.specs.declared.outcome.Outcome.{Outcome}
use Rattle.ds_replica.specs.Known.{Account, extended_all}
use Rattle.ds_replica.specs.Messages.{feed_of}
use Rattle.ds_replica.specs.Checks.{sent_in}
use Rattle.ds_world.specs.Messages.{WasGiven, GivenSince, GivenPage}

-- Whether, among the events, a store made these page messages, up to the last page. Each was read after the last key of
-- the one before, and at no earlier position.
abbrev pub WerePaged : List (Event × Outcome) → List Reply → Side → Scope → Option Key → ℕ → List GivenPage → Type 0
WerePaged events messages side scope after p [] = ⊥
WerePaged events messages side scope after p (x ∷ xs) =
    WasGiven events side (Page scope after x.max) x.message × (slice_get messages x.message ≡ Some (Paged x.page)) ×
    (p ≤ x.page.cursor.position)
    × MatchBool x.page.last (xs ≡ []) (WerePaged events messages side scope (last_key after x.page.items) x.page.cursor.position xs)

-- Whether, among the events, its journal made these messages, each read from the cursor of the one before.
abbrev pub WereJournaled : List (Event × Outcome) → List Reply → Side → Scope → Cursor → List GivenSince → Type 0
WereJournaled events messages side scope at [] = Unit {0}
WereJournaled events messages side scope at (x ∷ xs) =
    WasGiven events side (Since scope at x.max) x.message × (slice_get messages x.message ≡ Some (Journaled x.since)) ×
    WereJournaled events messages side scope x.since.cursor xs

-- The cursor of the last of them, or `at` if there is none.
abbrev pub last_page : Cursor → List GivenPage → Cursor
last_page at [] = at
last_page at (x ∷ xs) = last_page x.page.cursor xs

abbrev pub last_since : Cursor → List GivenSince → Cursor
last_since at [] = at
last_since at (x ∷ xs) = last_since x.since.cursor xs

-- Whether the items of all pages, with those of the journal from the first page's cursor on, are whole up to the
-- journal's last cursor, if that one isn't before the last page's. It doesn't matter what happened between them, or in
-- which order they were read.
abbrev pub AllPagesAreWhole : Account → List (Event × Outcome) → List Reply → Type 0
AllPagesAreWhole account events messages =
    (side : Side) (scope other : Scope) (query : Key → Bool) (first : GivenPage) (pages : List GivenPage) (sinces : List GivenSince) →
    KeepsQuery (keeps scope) query → KeepsQuery (keeps other) query →
    WerePaged events messages side scope None 0 (first ∷ pages) → WereJournaled events messages side other first.page.cursor sinces →
    let now = extended_all account events in
    let to = last_since first.page.cursor sinces in
    (last_page first.page.cursor pages).position ≤ to.position →
    IsWhole (feed_of now side) query
    (flat_map (λ x. sent_in now x.message) (first ∷ pages) ++ flat_map (λ x. sent_in now x.message) sinces) to.position
