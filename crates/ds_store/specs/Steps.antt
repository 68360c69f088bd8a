-- What a call of a store says about the states that its content stands for.
use Rattle.ds_machine.specs.State.{State}
use Rattle.ds_content.specs.Content.{ContentRecord}
use Rattle.ds_content.specs.Stands.{ContentStands, InEachState}

-- Whether each state that the old content stands for leads to one that the new content stands for.
abbrev pub ContentSteps : ContentRecord → (State → State → Type 0) → ContentRecord → Type 0
ContentSteps old leads new = InEachState old (λ s. (t : State) × leads s t × ContentStands new t)
