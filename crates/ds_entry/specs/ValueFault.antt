-- The causes for which bytes aren't a text or a blob. The first one that applies is reported, then NoRoom.
use Rattle.std.specs.Prelude.{ℕ, ◌<◌, ◌≤◌, IsTrue, List, length}
use Rattle.std.specs.List.{list_all}
use Rattle.ds_entry.specs.Value.{is_text_byte, IsText, IsBlob}
use Rattle.ds_entry.specs.declared.text.TextFault.{TextFault}
use Rattle.ds_entry.specs.declared.text.TextFault.TheVariants as text
use Rattle.ds_entry.specs.declared.blob.BlobFault.{BlobFault}
use Rattle.ds_entry.specs.declared.blob.BlobFault.TheVariants as blob

-- Whether the fault is the first that applies to the bytes as a text. NoRoom applies only to bytes that are one.
abbrev pub IsTextFault : TextFault → List ℕ → Type 0
IsTextFault text.TooLong bytes = 256 < length bytes
IsTextFault text.BadText bytes = (length bytes ≤ 256) × (¬ IsTrue (list_all is_text_byte bytes))
IsTextFault text.NoRoom bytes = IsText bytes

-- Whether the fault is the first that applies to the bytes as a blob. NoRoom applies only to bytes that are one.
abbrev pub IsBlobFault : BlobFault → List ℕ → Type 0
IsBlobFault blob.TooLong bytes = 1024 < length bytes
IsBlobFault blob.NoRoom bytes = IsBlob bytes
