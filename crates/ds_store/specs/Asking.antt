-- What a caller asks for, given what a store holds.
use Rattle.ds_entry.specs.declared.body.Body.{Body}
use Rattle.ds_entry.specs.Change.{ChangeRecord}
use Rattle.ds_machine.specs.Asking.{AskedChange, change_asked, name_of}
use Rattle.ds_content.specs.Content.{ContentRecord}

-- The change asked for, under the name that the caller has in this content.
abbrev pub asked_here : ContentRecord → AskedChange → Body → ChangeRecord
asked_here content a body = change_asked (name_of content.held a.caller) a body
