-- The state of a bridge's decisions after each of its moves.
use Rattle.std.specs.Prelude.{◌≡◌, ◌⊎◌, ℕ, ◌+◌, ◌-◌, ◌<◌, ◌≤◌, Bool, true, false, ◌||◌, Some, None}
use Rattle.fleet_bridge.specs.declared.bridge.Bridge.{Bridge}
use Rattle.fleet_bridge.specs.declared.question.Reading.{Reading}

abbrev pub new_state : Bridge
new_state =
    record {
      outbox = 0;
      in_flight = 0;
      position = 0;
      must_resend = false;
      has_dropped = false;
      met = None;
      is_met = false;
      has_gap = false;
      is_at_end = false;
    }

abbrev pub changed : Bridge → Bridge
changed b = record b { outbox = b.outbox + 1 }

abbrev pub refilled : Bridge → ℕ → Bridge
refilled b count = record b { outbox = b.outbox + count; must_resend = false }

abbrev pub folded : Bridge → ℕ → Bridge
folded b count = record b { outbox = count; in_flight = 0 }

abbrev pub rereading : Bridge → Bridge
rereading b = record b { position = 0; has_dropped = false; is_at_end = false }

abbrev pub doubting : Bridge → Bridge
doubting b = record b { must_resend = true }

abbrev pub parted : Bridge → Bridge
parted b = record b { is_met = false; has_gap = false; is_at_end = false }

-- The bridge that met a server of another history.
abbrev pub met_another : Bridge → ℕ → Bridge
met_another b h =
    record b { position = 0; must_resend = true; has_dropped = false; met = Some h; is_met = true; has_gap = false; is_at_end = false }

-- The bridge that met a server: one of the history that it met last changes little.
pub record MetBy (old : Bridge) (h : ℕ) (new : Bridge) : Type 0 where
  pub same : old.met ≡ Some h → new ≡ record old { is_met = true }
  pub another : (old.met ≡ Some h → ⊥) → new ≡ met_another old h

abbrev pub acknowledged : Bridge → Bridge
acknowledged b = record b { outbox = b.outbox - b.in_flight; in_flight = 0 }

abbrev pub fetched : Bridge → ℕ → Bool → Bridge
fetched b end has_dropped = record b { position = end; has_dropped = b.has_dropped || has_dropped; has_gap = false; is_at_end = false }

-- What becomes of a bridge that gets an answer to a reading: taken, or ignored.
abbrev pub ConsumedBy : Bridge → Reading → Bool → Bridge → Type 0
ConsumedBy old r true new =
    (old.met ≡ r.history) × (old.position ≡ r.from) × (r.end ≤ r.from) ×
    (new ≡ record old { position = r.last; has_dropped = old.has_dropped || r.has_dropped; is_at_end = r.is_all })
ConsumedBy old r false new =
    ((new ≡ old) × ((old.met ≡ r.history → ⊥) ⊎ (old.position ≡ r.from → ⊥))) ⊎ ((new ≡ record old { has_gap = true }) × (r.from < r.end))
