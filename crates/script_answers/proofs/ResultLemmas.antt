-- Facts of a call that succeeded or failed.
use Rattle.std.proofs.Common.{◌≡◌, Bool, true, false, not, sym, ap, ◌∙◌, Option, Some, None, Result, Ok, Err, OnOk, OnErr, refl}
use Rattle.std.specs.Option.{is_some}
use Rattle.std.specs.Result.{is_err}
use Rattle.std.proofs.lemmas.Bool.{false≢true}

pub on_ok : {T E P Q : Type 0} (r : Result T E) → (P → Q) → OnOk r P → OnOk r Q
on_ok (Ok x) f h = f h
on_ok (Err e) f h = tt

pub on_err : {T E P Q : Type 0} (r : Result T E) → (P → Q) → OnErr r P → OnErr r Q
on_err (Ok x) f h = tt
on_err (Err e) f h = f h

pub not_err : {T E P : Type 0} (r : Result T E) → false ≡ is_err r → OnOk r P → P
not_err (Ok x) e h = h
not_err (Err x) e h = absurd (false≢true e)

pub none_of : {T : Type 0} (o : Option T) (b : Bool) → is_some o ≡ not b → b ≡ true → o ≡ None
none_of None b h t = refl
none_of (Some x) b h t = absurd (false≢true (sym (h ∙ ap not t)))
