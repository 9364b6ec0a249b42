use Rattle.std.proofs.Common.{◌≡◌, ◌++◌, map, drop}
use Rattle.std.specs.List.{concat}
use Rattle.std.specs.String.{string_bytes}
use Rattle.name_scopes.specs.Declares.{text_of}
use Rattle.name_scopes.proofs.declared.contents_text.Given as goal

abbrev pub invariant-loop-content : goal.invariant-loop-content
invariant-loop-content l = string_bytes l.text ++ concat (map text_of (drop l.content-index l.value)) ≡ concat (map text_of l.value)
