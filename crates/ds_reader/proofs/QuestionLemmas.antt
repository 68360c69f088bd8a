-- Commands in order.
use Rattle.std.proofs.Common.{◌≡◌, ℕ, ◌+◌, ◌≤◌, [], ◌∷◌, ◌++◌, Option, refl, ap, subst, arith, inr}
use Rattle.std.proofs.lemmas.List.{length_push}
use Rattle.std.proofs.lemmas.List.Elements.{All-nil, All-push}
use Rattle.history.proofs.RunLemmas.{path_push}
use Rattle.ds_names.specs.declared.key.Key.{Key}
use Rattle.ds_feed.specs.declared.cursor.Cursor.{Cursor}
use Rattle.ds_pattern.specs.declared.query.Query.{Query}
use Rattle.ds_machine.specs.declared.command.Command.{Command}
use Rattle.ds_machine.specs.declared.command.Command.TheVariants.{Check, Page, Since}
use Rattle.ds_machine.specs.declared.command.Scope.{Scope}
use Rattle.ds_machine.specs.declared.command.Scope.TheVariants.{Under}
use Rattle.ds_reader.specs.Asked.{subscribe_anew}
use Rattle.ds_reader.specs.Questions.{AsksByChecks, AsksByPages, AsksFew, AsksSoManyChecks, IsPageOf, IsSinceOf}
use Rattle.ds_reader.specs.declared.reading.Reading.{Reading}

module _ {A : Type 0} (asks_once : A → Command → A → Type 0) where
  pub none_asked : (is_one : Command → Type 0) (most : ℕ) (it : A) → AsksFew asks_once is_one most it it
  none_asked is_one most it = record { commands = []; asked = refl; all = All-nil is_one; few = omega arith }

  -- one question more
  one_more : (is_one : Command → Type 0) (count : ℕ) (old mid new : A) (command : Command) → AsksFew asks_once is_one count old mid →
      asks_once mid command new → is_one command → AsksFew asks_once is_one (count + 1) old new
  one_more is_one count old mid new command few asks is = record {
    commands = few.commands ++ command ∷ [];
    asked = path_push asks_once old mid new few.commands command few.asked asks;
    all = All-push is_one few.commands command few.all is;
    few = omega (arith, few.few, length_push few.commands command);
  }

  -- fewer than may be
  pub fewer : (is_one : Command → Type 0) (count most : ℕ) (old new : A) → count ≤ most → AsksFew asks_once is_one count old new →
      AsksFew asks_once is_one most old new
  fewer is_one count most old new small few =
      record { commands = few.commands; asked = few.asked; all = few.all; few = omega (arith, few.few, small) }

  -- ---- a reader by checks, after `count` of them
  module _ (sub : ℕ) (reading : Reading) where
    abbrev IsCheck : Command → Type 0
    IsCheck command = command ≡ Check sub reading.max

    abbrev pub HasChecked : ℕ → A → A → Type 0
    HasChecked count old now = AsksSoManyChecks asks_once sub reading count old now

    pub has_begun : (old new : A) (query : Query) → query ≡ reading.query → asks_once old (subscribe_anew sub query) new →
        HasChecked 0 old new
    has_begun old new query same asks = record {
      subscribed = new;
      begins = subst (λ (q : Query). asks_once old (subscribe_anew sub q) new) same asks;
      commands = [];
      asked = refl;
      all = All-nil IsCheck;
      counted = refl;
    }

    pub checks_more : (count : ℕ) (old now new : A) → HasChecked count old now → asks_once now (Check sub reading.max) new →
        HasChecked (count + 1) old new
    checks_more count old now new h asks = record {
      subscribed = h.subscribed;
      begins = h.begins;
      commands = h.commands ++ Check sub reading.max ∷ [];
      asked = path_push asks_once h.subscribed now new h.commands (Check sub reading.max) h.asked asks;
      all = All-push IsCheck h.commands (Check sub reading.max) h.all refl;
      counted = omega (arith, h.counted, length_push h.commands (Check sub reading.max));
    }

    pub by_checks : (count : ℕ) (old new : A) → count ≤ reading.questions → HasChecked count old new →
        AsksByChecks asks_once sub reading old new
    by_checks count old new small h =
        inr record {
          subscribed = h.subscribed;
          begins = h.begins;
          checks = record { commands = h.commands; asked = h.asked; all = h.all; few = omega (arith, h.counted, small) };
        }

  -- ---- a reader by pages
  module _ (reading : Reading) where
    abbrev pub Sinces : ℕ → A → A → Type 0
    Sinces count old new = AsksFew asks_once (IsSinceOf reading) count old new

    abbrev pub Pages : ℕ → A → A → Type 0
    Pages count old new = AsksFew asks_once (IsPageOf reading) count old new

    pub sinces_more : (count : ℕ) (old mid new : A) (scope : Scope) (at : Cursor) → scope ≡ Under reading.query → Sinces count old mid →
        asks_once mid (Since scope at reading.max) new → Sinces (count + 1) old new
    sinces_more count old mid new scope at same few asks =
        one_more (IsSinceOf reading) count old mid new (Since scope at reading.max) few asks
        (at, ap (λ (s : Scope). Since s at reading.max) same)

    pub pages_more : (count : ℕ) (old mid new : A) (scope : Scope) (after : Option Key) → scope ≡ Under reading.query →
        Pages count old mid →
        asks_once mid (Page scope after reading.max) new → Pages (count + 1) old new
    pages_more count old mid new scope after same few asks =
        one_more (IsPageOf reading) count old mid new (Page scope after reading.max) few asks
        (after, ap (λ (s : Scope). Page s after reading.max) same)

    -- with no question to the journal yet
    pub by_pages : (count : ℕ) (old new : A) → count ≤ reading.questions → Pages count old new → AsksByPages asks_once reading old new
    by_pages count old new small few = record {
      paged = new;
      pages = fewer (IsPageOf reading) count reading.questions old new small few;
      sinces = none_asked (IsSinceOf reading) reading.questions new;
    }

    pub by_both : (count : ℕ) (old mid new : A) → count ≤ reading.questions → Pages count old mid → Sinces reading.questions mid new →
        AsksByPages asks_once reading old new
    by_both count old mid new small few sinces =
        record { paged = mid; pages = fewer (IsPageOf reading) count reading.questions old mid small few; sinces = sinces }
