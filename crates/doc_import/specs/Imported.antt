-- What an import gives.
use Rattle.std.specs.Prelude.{ℕ, Bool, List, Result, Ok, Err, ⊤}
use Rattle.tree_model.specs.Forest.{Forest}
use Rattle.tree_model.specs.Labels.{Label}
use Rattle.node_table.specs.Views.{part_view, view_forest, KeepsTrees}
use Rattle.node_table.specs.declared.part.Part.{Part}
use Rattle.tree_model.specs.XmlMeaning.{unknown_entity, bad_namespace}
use Rattle.tree_model.specs.XmlReads.{ReadsXml, as_tree, too_many_bytes, not_utf8, other_encoding, internal_subset, not_well_formed, first_fault, too_many_nodes}
use Rattle.doc_import.specs.declared.fault.ImportFault.{ImportFault}
use Rattle.doc_import.specs.declared.fault.ImportFault.TheVariants.{TooLong, NotUtf8, Encoding, InternalSubset, Malformed, UnknownEntity, Namespace, TooManyRows, NoMemory}

-- a document as rows with names and values of their own
abbrev pub Built : Type 0
Built = Part

-- the one forest that they stand for
abbrev pub built_forest : Built → Forest Label
built_forest built = view_forest (part_view built)

-- the rows are those of the forest, and each has a name and a value of its own
abbrev pub IsBuilt : Built → Type 0
IsBuilt built = KeepsTrees (part_view built)

-- the tree that is read, or the first fault; want of memory may be answered to any text
abbrev pub IsImport : List ℕ → Bool → Result Built ImportFault → Type 0
IsImport text strip (Ok built) = IsBuilt built × ReadsXml text strip (as_tree (built_forest built))
IsImport text strip (Err TooLong) = ReadsXml text strip too_many_bytes
IsImport text strip (Err (NotUtf8 at)) = ReadsXml text strip (not_utf8 at)
IsImport text strip (Err (Encoding at)) = ReadsXml text strip (other_encoding at)
IsImport text strip (Err (InternalSubset at)) = ReadsXml text strip (internal_subset at)
IsImport text strip (Err Malformed) = ReadsXml text strip not_well_formed
IsImport text strip (Err (UnknownEntity at)) = ReadsXml text strip (first_fault (unknown_entity at))
IsImport text strip (Err (Namespace at)) = ReadsXml text strip (first_fault (bad_namespace at))
IsImport text strip (Err TooManyRows) = ReadsXml text strip too_many_nodes
IsImport text strip (Err NoMemory) = ⊤
