-- A call that got no turn.
use Rattle.std.proofs.Common.{ℕ, ◌≡◌, true, false, length, refl, ap}
use Rattle.std.specs.Prelude.{is_some}
use Rattle.history.specs.History.{Stepped}
use Rattle.desk_rule.specs.declared.turn.NoTurn.{NoTurn}
use Rattle.desk_rule.specs.declared.turn.NoTurn.TheVariants.{Busy, Worn}
use Rattle.desk_rule.specs.declared.view.View.{View}
use Rattle.desk_rule.specs.Free.{FindsNoTurn}
use Rattle.desk_rule.specs.Passes.{notices_of}
use Rattle.desk.specs.declared.pass.Sight.{Ghosts}
use Rattle.desk.specs.Free.{MissesCall}
use Rattle.desk.specs.Pass.{Pass}
use Rattle.desk.proofs.SeeLemmas.{sees_looked, sees_worn}

module _ {M C R S : Type 0} {G : Ghosts (View M C R)} (stands : M → S → Type 0) (steps : S → C → R → S → Type 0) (owes : R → ℕ) where
  pub misses : (p q : Pass M C R G) (stop : NoTurn) → FindsNoTurn (Stepped stands steps) owes stop p.seat q.seat →
      length p.seat.me.0.passes ≡ 1 → is_some p.seat.me.0.opening ≡ true
      → MissesCall stands steps owes stop p q
  misses p q Busy f one opened = let b = f.1 in
      (sees_looked stands steps p q b.found false b.looks f.0.0 one, ap (λ (x : View M C R). notices_of x.passes) b.looks.is, b.taken)
  misses p q Worn f one opened = let w = sees_worn stands steps p q false f.looks f.same.0 one opened in (refl, w.0, w.1, w.2)
