-- What is there before a change and before a floor, in a content and in the state that it stands for.
use Rattle.std.proofs.Common.{◌≡◌, ℕ, List, Option, Some, None, IfNone, length, refl, ap, sym, ◌∙◌, subst}
use Rattle.std.specs.Option.{option_map}
use Rattle.ds_entry.specs.Change.{ChangeRecord}
use Rattle.ds_entry.specs.Floor.{floor_of}
use Rattle.ds_entry.specs.Void.{is_void}
use Rattle.ds_entry.specs.declared.body.Body.{Body}
use Rattle.ds_entry.specs.declared.floor.Floor.{Floor}
use Rattle.ds_entry.specs.declared.item.Item.{Item}
use Rattle.ds_entry.specs.declared.item.Item.TheVariants.{Change as Changed, Floor as Floored}
use Rattle.ds_held.specs.Held.{Holding, held_items, floor_for, is_below, IsSound}
use Rattle.ds_machine.specs.Parts.{floors_in, floor_at}
use Rattle.ds_machine.specs.State.{State}
use Rattle.ds_machine.specs.Order.{first_cause}
use Rattle.ds_machine.specs.Standing.{Standing, FloorStanding, standing_of, against_change, against_floor, cause_of, IsFree}
use Rattle.ds_machine.specs.Asking.{AskedChange, against_asked, change_asked, name_of, cause_against}
use Rattle.ds_machine.specs.declared.refusal.Cause.{Cause}
use Rattle.ds_machine.proofs.PartLemmas.{owner_found}
use Rattle.ds_store.specs.Asked.{is_void_under}
use Rattle.ds_content.specs.Content.{ContentRecord}
use Rattle.ds_content.specs.Stands.{ContentStands}
use Rattle.ds_content.proofs.HoldingLemmas.{floor_at-is, void-is}
use Rattle.ds_content.specs.Standing.{standing_in, floor_standing_in}
use Rattle.ds_content.proofs.RoomLemmas.{standing_at, floor_standing_at}

-- ---- floors
pub floor_back : (held : List Item) (owner : List ℕ) →
    option_map (floor_of owner) (option_map (λ (f : Floor). f.generation) (floor_at held owner)) ≡ floor_at held owner
floor_back held owner = by_found (floor_at held owner) refl
  where
    by_found : (o : Option Floor) → floor_at held owner ≡ o → option_map (floor_of owner) (option_map (λ (f : Floor). f.generation) o) ≡ o
    by_found None e = refl
    by_found (Some f) e = ap (λ (o : List ℕ). Some (floor_of o f.generation)) (owner_found held owner f e).1

generation_back : (owner : List ℕ) (o : Option ℕ) → option_map (λ (f : Floor). f.generation) (option_map (floor_of owner) o) ≡ o
generation_back owner None = refl
generation_back owner (Some g) = refl

below_is : (o : Option ℕ) (c : ChangeRecord) → is_below o c ≡ is_void_under o c
below_is None c = refl
below_is (Some g) c = refl

-- a change is void by the floor of its owner alone
pub void_is : (h : Holding) → IsSound h → (held : List Item) → held_items h ≡ held → (c : ChangeRecord) →
    is_void held c ≡ is_void_under (option_map (λ (f : Floor). f.generation) (floor_at held c.owner)) c
void_is h sound held e c =
    subst (λ (l : List Item). is_void l c ≡ is_void_under (option_map (λ (f : Floor). f.generation) (floor_at l c.owner)) c) e
    (void-is h sound c ∙ below_is (floor_for h c.owner) c
    ∙ sym (ap (λ o. is_void_under o c) (ap (option_map (λ (f : Floor). f.generation)) (floor_at-is h sound c.owner) ∙
    generation_back c.owner (floor_for h c.owner))))

-- ---- standings
abbrev pub floor_told : Option Floor → ℕ → ℕ → FloorStanding
floor_told held count position = record { held = held; count = count; position = position }

pub floor_told_same : (v : ContentRecord) (f : Floor) (o : Option Floor) (count position : ℕ) → o ≡ floor_at v.held f.owner →
    count ≡ length (floors_in v.held) →
    position ≡ v.journal.position → floor_told o count position ≡ floor_standing_in v f
floor_told_same v f o count position p q r = λ i. record { held = p i; count = q i; position = r i }

-- ---- the first cause
pub asked_cause : (v : ContentRecord) (s : State) (a : AskedChange) (body : Body) (caller : Option (List ℕ)) (t : Standing)
    (o : Option Cause) → ContentStands v s →
    caller ≡ name_of v.held a.caller → t ≡ standing_in v (change_asked caller a body)
    → o ≡ first_cause (Some a.version) (against_asked t caller a body) → o ≡ cause_against s a body
asked_cause v s a body caller t o stands named same first =
    first ∙ ap (λ (x : Standing). first_cause (Some a.version) (against_asked x caller a body))
    (same ∙ standing_at v s (change_asked caller a body) stands)
    ∙ ap (λ m. first_cause (Some a.version) (against_asked (standing_of s (change_asked m a body)) m a body))
    (named ∙ ap (λ (hs : List Item). name_of hs a.caller) stands.held)

pub change_cause : (v : ContentRecord) (s : State) (c : ChangeRecord) (t : Standing) (o : Option Cause) → ContentStands v s →
    t ≡ standing_in v c → o ≡ first_cause (Some c.version) (against_change t c) → o ≡ cause_of s (Changed c)
change_cause v s c t o stands same first =
    first ∙ ap (λ (x : Standing). first_cause (Some c.version) (against_change x c)) (same ∙ standing_at v s c stands)

pub floor_cause : (v : ContentRecord) (s : State) (f : Floor) (t : FloorStanding) (o : Option Cause) → ContentStands v s →
    t ≡ floor_standing_in v f → o ≡ first_cause None (against_floor t f) → o ≡ cause_of s (Floored f)
floor_cause v s f t o stands same first = first ∙
    ap (λ (x : FloorStanding). first_cause None (against_floor x f)) (same ∙ floor_standing_at v s f stands)

-- ---- what is free
pub none_free : (o : Option Cause) (v : ContentRecord) (c : ChangeRecord) (t : Standing) → t ≡ standing_in v c → IfNone o (IsFree t c) →
    IfNone o (IsFree (standing_in v c) c)
none_free o v c t e x = subst (λ (z : Standing). IfNone o (IsFree z c)) e x
