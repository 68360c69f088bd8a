-- The store's turns for RS's actions, in sequence.
use Rattle.std.proofs.Common.{◌≡◌, suc, List, [], ◌∷◌, ◌++◌, length, Option, refl, ap, subst}
use Rattle.ds_content.specs.Content.{ContentRecord}
use Rattle.ds_machine.specs.declared.reply.Reply.{Reply}
use Rattle.rs_to_store.specs.Asked.{command_of}
use Rattle.rs_core.specs.declared.action.Action.{Action}
use Rattle.rs_store.specs.Serving.{TurnFor, TurnsFor}

pub turns_more : (acts : List Action) (rs : List (Option Reply)) (a b c : ContentRecord) (x : Action) (r : Option Reply)
    → TurnsFor a acts rs b → TurnFor b (command_of x) r c → TurnsFor a (acts ++ x ∷ []) (rs ++ r ∷ []) c
turns_more [] [] a b c x r none one = (c, subst (λ (s : ContentRecord). TurnFor s (command_of x) r c) none one, refl)
turns_more (y ∷ acts) (q ∷ rs) a b c x r all one = (all.0, all.1, turns_more acts rs all.0 b c x r all.2 one)
turns_more [] (q ∷ rs) a b c x r all one = absurd all
turns_more (y ∷ acts) [] a b c x r all one = absurd all

pub turns_long : (acts : List Action) (rs : List (Option Reply)) (a b : ContentRecord) → TurnsFor a acts rs b → length rs ≡ length acts
turns_long [] [] a b none = refl
turns_long (y ∷ acts) (q ∷ rs) a b all = ap suc (turns_long acts rs all.0 b all.2)
turns_long [] (q ∷ rs) a b all = absurd all
turns_long (y ∷ acts) [] a b all = absurd all
