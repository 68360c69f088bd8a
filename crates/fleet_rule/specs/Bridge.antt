-- One bridge: its state, and the moves that it makes.
use Rattle.std.specs.Prelude.{ℕ, Bool, true, false, List, [], ◌∷◌, ◌++◌, drop, Option, Some, None}
use Rattle.fleet_rule.specs.Covered.{uncovered}

pub record Bridge (I : Type 0) : Type 0 where
  pub held : List I  -- the items of its store, and the dead letters beside it
  pub outbox : List I  -- the items that no server acknowledged, in order
  pub in_flight : ℕ  -- the outbox's first items, which the question under way adds
  pub consumed : List I  -- the items read since it met this history
  pub position : ℕ  -- the log's first items, which were read, or were in a snapshot that was
  pub must_resend : Bool  -- all held items have yet to be put into the outbox
  pub met : Option ℕ  -- the history of the server that it met last
  pub has_dropped : Bool  -- an item that was read is held nowhere here

module _ {I : Type 0} where
  abbrev pub new_bridge : Bridge I
  new_bridge =
      record {
        held = [];
        outbox = [];
        in_flight = 0;
        consumed = [];
        position = 0;
        must_resend = false;
        met = None;
        has_dropped = false;
      }

  -- A change of its own took effect.
  abbrev pub changed : Bridge I → I → List I → Bridge I
  changed b i held = record b { held = held; outbox = b.outbox ++ i ∷ [] }

  -- It asked the server to add the outbox's first n items.
  abbrev pub sending : Bridge I → ℕ → Bridge I
  sending b n = record b { in_flight = n }

  -- The server acknowledged the items in flight.
  abbrev pub acknowledged : Bridge I → Bridge I
  acknowledged b = record b { outbox = drop b.in_flight b.outbox; in_flight = 0 }

  -- It met a server of another history: it reads everything, then sends all that isn't there.
  abbrev pub meeting : Bridge I → ℕ → Bridge I
  meeting b h = record b { consumed = []; position = 0; must_resend = true; met = Some h; has_dropped = false }

  -- It read items, up to a position.
  abbrev pub consuming : Bridge I → List I → ℕ → List I → Bridge I
  consuming b items position held = record b { held = held; consumed = b.consumed ++ items; position = position }

  -- It read items, and had to drop some of them.
  abbrev pub dropping : Bridge I → List I → ℕ → List I → Bridge I
  dropping b items position held = record b { held = held; consumed = b.consumed ++ items; position = position; has_dropped = true }

  -- There is memory again: it reads everything once more.
  abbrev pub rereading : Bridge I → Bridge I
  rereading b = record b { position = 0; has_dropped = false }

  -- The outbox is long, and all held items replace it.
  abbrev pub folded : Bridge I → Bridge I
  folded b = record b { outbox = b.held; in_flight = 0 }

  -- Another bridge holds something else: all held items are to be sent once more.
  abbrev pub doubting : Bridge I → Bridge I
  doubting b = record b { must_resend = true }

module _ {I : Type 0} (covers : I → I → Bool) where
  -- All held items are put into the outbox, except those that it has, or that were read.
  abbrev pub refilled : Bridge I → Bridge I
  refilled b = record b { outbox = b.outbox ++ uncovered covers (b.consumed ++ b.outbox) b.held; must_resend = false }
