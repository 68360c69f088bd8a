-- The driver of a major device.
use Rattle.std.specs.Prelude.{ℕ, List}
use Rattle.driver_tables.specs.declared.device.Class.{Class}
use Rattle.driver_tables.specs.declared.device.Class.TheVariants as classes
use Rattle.driver_tables.specs.declared.file_table.FileClass.{FileClass}
use Rattle.driver_tables.specs.declared.file_table.FileClass.TheVariants.{Block, Character}
use Rattle.driver_tables.specs.Driver.{Driver}

abbrev pub class_of_file : FileClass → Class
class_of_file Block = classes.Block
class_of_file Character = classes.Character

abbrev pub file_driver : FileClass → List ℕ → Driver
file_driver class label = record { class = class_of_file class; label = label }
