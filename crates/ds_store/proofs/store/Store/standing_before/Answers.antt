use Rattle.std.proofs.Common.{◌≡◌, ℕ, List, Some, ap, sym, ◌∙◌}
use Rattle.std.specs.Option.{unwrap_or}
use Rattle.ds_entry.specs.Change.{change_of}
use Rattle.ds_entry.specs.Void.{is_void}
use Rattle.ds_machine.specs.Asking.{change_asked}
use Rattle.ds_store.specs.Asked.{request_of, is_void_under}
use Rattle.ds_content.specs.Content.{ContentRecord}
use Rattle.ds_store.proofs.StandingLemmas.{void_is}
use Rattle.ds_store.proofs.store.Store.standing_before.Goals as goal
use Rattle.ds_store.proofs.store.Store.standing_before.Goals.{in-Some, in-None}
use Rattle.ds_names.specs.Name.{rs_name}
use Rattle.ds_content.specs.Standing.{standing_in, standing_with}

pub returns : goal.returns
returns c = λ body.
    let v = c.deref-content.result.now in
    let s = c.args.self.now in
    let a = request_of c.args.asked.now in
    let owner = c.match-caller.owner in
    let same : owner ≡ unwrap_or c.args.caller.now rs_name = elim c.match-caller.branch [
      | in-Some w ↦ w.owner-is ∙ sym (ap (λ o. unwrap_or o rs_name) w.in-Some.is)
      | in-None w ↦ w.owner-is ∙ w.rs-owner.ensures ∙ sym (ap (λ o. unwrap_or o rs_name) w.in-None.is)
    ] in
    let change = change_asked (Some owner) a body in
    let void : c.is_void_under-void.result ≡ is_void s.held change =
    c.is_void_under-void.ensures owner body ∙ ap (λ o. is_void_under o change) c.floor.ensures ∙
    sym (void_is c.held-held.result.now c.held-held.ensures.sound v.held c.held-held.ensures.items change)
    ∙ ap (λ (x : ContentRecord). is_void x.held change) (c.deref-content.ensures ∙ c.self.view_is) in
    c.standing.ensures ∙ ap (standing_with s a.key) void ∙ ap (λ (o : List ℕ). standing_in s (change_of a.key o a.version body)) same
