-- The five facts about `covers` that all proofs above use, and how they are shown.
use Rattle.std.proofs.Common.{◌≡◌, ℕ, Bool, true, false, ◌&&◌, List, refl, sym, ap, ◌∙◌, subst}
use Rattle.std.specs.declared.cmp.Ordering.{Ordering}
use Rattle.std.specs.declared.cmp.Ordering.TheVariants.{Less, Equal, Greater}
use Rattle.std.specs.List.{Contains}
use Rattle.std.specs.Cmp.{IsTotalOrder}
use Rattle.std.specs.Ordering.{eq_by_cmp, is_le, is_gt, is_eq, ordering_reverse}
use Rattle.std.proofs.lemmas.Cmp.{on_total, nat_list_cmp_total, upto, tied_itself}
use Rattle.std.proofs.lemmas.Map.Lookups.{exact_bytes}
use Rattle.ds_names.specs.declared.key.Key.{Key}
use Rattle.ds_names.specs.declared.version.Version.{Version}
use Rattle.ds_names.specs.Key.{name_cmp, key_cmp}
use Rattle.ds_names.specs.Version.{version_cmp}
use Rattle.ds_names.proofs.OrderLemmas.{keys_total, exact_keys, versions_total, exact_versions}
use Rattle.ds_entry.specs.Change.{ChangeRecord}
use Rattle.ds_entry.specs.Covers.{covers, is_at_most, change_cmp}
use Rattle.ds_entry.specs.SingleNumbered.{IsSingleNumbered}
use Rattle.std.proofs.lemmas.Bool.{and_parts, and_from}
use Rattle.ds_names.proofs.Tests.{equal_is}

pub same_key : (a b : Key) → eq_by_cmp key_cmp a b ≡ true → a ≡ b
same_key a b e = exact_keys a b (equal_is (key_cmp a b) e)

pub same_key-refl : (a b : Key) → a ≡ b → eq_by_cmp key_cmp a b ≡ true
same_key-refl a b e = subst (λ (k : Key). eq_by_cmp key_cmp a k ≡ true) e (ap is_eq (tied_itself keys_total a))

pub same_name : (m n : List ℕ) → eq_by_cmp name_cmp m n ≡ true → m ≡ n
same_name m n e = exact_bytes m n (equal_is (name_cmp m n) e)

pub same_name-refl : (m n : List ℕ) → m ≡ n → eq_by_cmp name_cmp m n ≡ true
same_name-refl m n e = subst (λ (k : List ℕ). eq_by_cmp name_cmp m k ≡ true) e (ap is_eq (tied_itself nat_list_cmp_total m))

-- ---- versions
not_greater : (o : Ordering) → is_le o ≡ true → is_gt o ≡ false
not_greater Less e = refl
not_greater Equal e = refl
not_greater Greater e = cc

from_not_greater : (o : Ordering) → is_gt o ≡ false → is_le o ≡ true
from_not_greater Less e = refl
from_not_greater Equal e = refl
from_not_greater Greater e = cc

pub is_at_most-refl : (v : Version) → is_at_most v v ≡ true
is_at_most-refl v = ap is_le (tied_itself versions_total v)

pub is_at_most-trans : (u v w : Version) → is_at_most u v ≡ true → is_at_most v w ≡ true → is_at_most u w ≡ true
is_at_most-trans u v w e f =
    from_not_greater (version_cmp u w) (upto versions_total u v w (not_greater (version_cmp u v) e) (not_greater (version_cmp v w) f))

level : (o p : Ordering) → o ≡ ordering_reverse p → is_le o ≡ true → is_le p ≡ true → o ≡ Equal
level o Less e h t = let g : false ≡ true = sym (ap is_le e) ∙ h in absurd (cc)
level o Equal e h t = e
level o Greater e h t = cc

pub is_at_most-antisym : (v w : Version) → is_at_most v w ≡ true → is_at_most w v ≡ true → v ≡ w
is_at_most-antisym v w e f = exact_versions v w (level (version_cmp v w) (version_cmp w v) (versions_total.antisymm v w) e f)

turned : (o p : Ordering) → o ≡ ordering_reverse p → is_le o ≡ false → is_le p ≡ true
turned o Less e h = refl
turned o Equal e h = refl
turned o Greater e h = let g : true ≡ false = sym (ap is_le e) ∙ h in absurd (cc)

pub is_at_most-total : (v w : Version) → is_at_most v w ≡ false → is_at_most w v ≡ true
is_at_most-total v w e = turned (version_cmp v w) (version_cmp w v) (versions_total.antisymm v w) e

-- ---- covers, and its parts

pub covers-key : (d c : ChangeRecord) → covers d c ≡ true → c.key ≡ d.key
covers-key d c h = same_key c.key d.key (and_parts (eq_by_cmp key_cmp c.key d.key)
    (eq_by_cmp name_cmp c.owner d.owner && is_at_most c.version d.version) h).0

covers-rest : (d c : ChangeRecord) → covers d c ≡ true →
    (eq_by_cmp name_cmp c.owner d.owner ≡ true) × (is_at_most c.version d.version ≡ true)
covers-rest d c h =
    and_parts (eq_by_cmp name_cmp c.owner d.owner) (is_at_most c.version d.version)
    (and_parts (eq_by_cmp key_cmp c.key d.key) (eq_by_cmp name_cmp c.owner d.owner && is_at_most c.version d.version) h).1

pub covers-owner : (d c : ChangeRecord) → covers d c ≡ true → c.owner ≡ d.owner
covers-owner d c h = same_name c.owner d.owner (covers-rest d c h).0

pub covers-version : (d c : ChangeRecord) → covers d c ≡ true → is_at_most c.version d.version ≡ true
covers-version d c h = (covers-rest d c h).1

pub covers-make : (d c : ChangeRecord) → c.key ≡ d.key → c.owner ≡ d.owner → is_at_most c.version d.version ≡ true → covers d c ≡ true
covers-make d c k o v =
    and_from (eq_by_cmp key_cmp c.key d.key) (eq_by_cmp name_cmp c.owner d.owner && is_at_most c.version d.version)
    (same_key-refl c.key d.key k)
    (and_from (eq_by_cmp name_cmp c.owner d.owner) (is_at_most c.version d.version) (same_name-refl c.owner d.owner o) v)

-- Of two changes of one key and one owner, one covers the other.
pub covers-total : (c d : ChangeRecord) → c.key ≡ d.key → c.owner ≡ d.owner → covers d c ≡ false → covers c d ≡ true
covers-total c d k o e = by_version (is_at_most c.version d.version) refl
  where
    by_version : (b : Bool) → is_at_most c.version d.version ≡ b → covers c d ≡ true
    by_version true v = let t : true ≡ false = sym (covers-make d c k o v) ∙ e in absurd (cc)
    by_version false v = covers-make c d (sym k) (sym o) (is_at_most-total c.version d.version v)

-- ---- the facts
-- a change covers itself
pub covers-refl : (c : ChangeRecord) → covers c c ≡ true
covers-refl c = covers-make c c refl refl (is_at_most-refl c.version)

pub covers-trans : (e d c : ChangeRecord) → covers e d ≡ true → covers d c ≡ true → covers e c ≡ true
covers-trans e d c h k =
    covers-make e c (covers-key d c k ∙ covers-key e d h) (covers-owner d c k ∙ covers-owner e d h)
    (is_at_most-trans c.version d.version e.version (covers-version d c k) (covers-version e d h))

-- What covers a change under a query of keys is under it too.
pub covers-query : (query : Key → Bool) (d c : ChangeRecord) → covers d c ≡ true → query c.key ≡ true → query d.key ≡ true
covers-query query d c h p = ap query (sym (covers-key d c h)) ∙ p

-- Single-numbered changes that cover each other are equal.
pub covers-same : (changes : List ChangeRecord) → IsSingleNumbered changes → (c d : ChangeRecord) → Contains changes c →
    Contains changes d → covers d c ≡ true → covers c d ≡ true → c ≡ d
covers-same changes n c d h k e f =
    n.one_change c d h k (covers-key d c e) (is_at_most-antisym c.version d.version (covers-version d c e) (covers-version c d f))

pub single_part : (part whole : List ChangeRecord) → ((c : ChangeRecord) → Contains part c → Contains whole c) → IsSingleNumbered whole →
    IsSingleNumbered part
single_part part whole sub n =
    record {
      one_change = λ c d h k e v. n.one_change c d (sub c h) (sub d k) e v;
      one_owner = λ c d h k e. n.one_owner c d (sub c h) (sub d k) e;
    }

pub changes_total : IsTotalOrder change_cmp
changes_total = on_total (λ (c : ChangeRecord). c.key) keys_total

-- What covers a change compares equal to it.
pub covers-tied : (d c : ChangeRecord) → covers d c ≡ true → change_cmp c d ≡ Equal
covers-tied d c h = equal_is (change_cmp c d)
    (and_parts (eq_by_cmp key_cmp c.key d.key) (eq_by_cmp name_cmp c.owner d.owner && is_at_most c.version d.version) h).0
