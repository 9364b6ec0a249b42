use Rattle.std.proofs.Common.{inl, refl}
use Rattle.tree_model.specs.XmlMeaning.{unknown_entity, bad_namespace}
use Rattle.tree_model.specs.XmlReads.{too_many_bytes, not_utf8, other_encoding, internal_subset, not_well_formed, first_fault, too_many_nodes}
use Rattle.kernel_session.proofs.content.refusal_of.Goals as goal

pub returns-in-TooLong : goal.returns-in-TooLong
returns-in-TooLong c text strip h = inl (too_many_bytes, rw c.in-TooLong.is at h, refl)

pub returns-in-NotUtf8 : goal.returns-in-NotUtf8
returns-in-NotUtf8 c text strip h = inl (not_utf8 _, rw c.in-NotUtf8.is at h, refl)

pub returns-in-Encoding : goal.returns-in-Encoding
returns-in-Encoding c text strip h = inl (other_encoding _, rw c.in-Encoding.is at h, refl)

pub returns-in-InternalSubset : goal.returns-in-InternalSubset
returns-in-InternalSubset c text strip h = inl (internal_subset _, rw c.in-InternalSubset.is at h, refl)

pub returns-in-Malformed : goal.returns-in-Malformed
returns-in-Malformed c text strip h = inl (not_well_formed, rw c.in-Malformed.is at h, refl)

pub returns-in-UnknownEntity : goal.returns-in-UnknownEntity
returns-in-UnknownEntity c text strip h = inl (first_fault (unknown_entity _), rw c.in-UnknownEntity.is at h, refl)

pub returns-in-Namespace : goal.returns-in-Namespace
returns-in-Namespace c text strip h = inl (first_fault (bad_namespace _), rw c.in-Namespace.is at h, refl)

pub returns-in-TooManyRows : goal.returns-in-TooManyRows
returns-in-TooManyRows c text strip h = inl (too_many_nodes, rw c.in-TooManyRows.is at h, refl)
