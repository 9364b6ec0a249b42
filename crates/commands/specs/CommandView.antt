-- A command of the code, without where it lies in memory.
use Rattle.std.specs.Prelude.{◌≡◌, ◌⊎◌, ℕ, ◌^◌, ◌<◌, ◌≤◌, List, length, Option, Some, None, Result, Ok, Err}
use Rattle.std.specs.Option.{option_map}
use Rattle.std.specs.Str.{IsUtf8}
use Rattle.tree_model.specs.CodeTexts.{text_of_code}
use Rattle.tree_model.specs.declared.code.Refusal.{Refusal}
use Rattle.tree_model.specs.declared.code.Refusal.TheVariants as refusal
use Rattle.commands.specs.CommandCodes.{XKCM0001, XKLM0001, command_code_text}
use Rattle.commands.specs.Commands.{Input, text, file, Form, table, create, storage, list, query, export, exit, not_built, no_form, form_of, trimmed}
use Rattle.commands.specs.declared.command.Command.{Command}
use Rattle.commands.specs.declared.command.Command.TheVariants as command
use Rattle.commands.specs.declared.input.Input.{Input as CodeInput}
use Rattle.commands.specs.declared.input.Input.TheVariants as input
use Rattle.commands.specs.declared.input.DocumentInput.{DocumentInput}
use Rattle.commands.specs.declared.input.DocumentInput.TheVariants as document

abbrev pub input_of : CodeInput → Input
input_of (input.Text xml) = text xml
input_of (input.File name) = file name

abbrev pub input_of_document : DocumentInput → Input
input_of_document (document.Text xml) = text xml
input_of_document (document.File name) = file name

abbrev pub form_of_command : Command → Form
form_of_command (command.Table given) = table (input_of given)
form_of_command (command.CreateDb name given) = create name.now (option_map input_of_document given)
form_of_command (command.InfoStorage range) = storage range
form_of_command command.List = list
form_of_command (command.Query words) = query words
form_of_command (command.Export path name) = export path name
form_of_command command.Exit = exit
form_of_command command.NotBuilt = not_built

-- what was read, or that it has no form
abbrev pub form_of_read : Option Command → Form
form_of_read (Some command) = form_of_command command
form_of_read None = no_form

-- a line has no form, or isn't UTF-8
abbrev pub IsNoCommand : List ℕ → Type 0
IsNoCommand line = (¬ IsUtf8 line) ⊎ (form_of (trimmed line) ≡ no_form)

-- what reading a line answers: first by its length, then by its form
abbrev pub ReadsCommand : List ℕ → Result Command Refusal → Type 0
ReadsCommand line (Ok command) = (length line ≤ 2 ^ 24) × IsUtf8 line × (form_of (trimmed line) ≡ form_of_command command)
ReadsCommand line (Err (refusal.Code code)) =
    ((2 ^ 24 < length line) × (text_of_code code ≡ command_code_text XKLM0001))
    ⊎ ((length line ≤ 2 ^ 24) × IsNoCommand line × (text_of_code code ≡ command_code_text XKCM0001))
ReadsCommand line (Err refusal.NoMemory) = ⊥
