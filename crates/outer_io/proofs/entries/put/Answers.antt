use Rattle.std.proofs.Common.{◌≡◌, List, ℕ, set, get_or, ap, ◌∙◌}
use Rattle.outer_io.specs.Files.{Entry, have_different_names}
use Rattle.outer_io.proofs.NamedFiles.{new_file, file_set, names_differ}
use Rattle.outer_io.proofs.entries.put.Goals as goal

pub returns-in-Some-clause-ok : goal.returns-in-Some-clause-ok
returns-in-Some-clause-ok c =
    let copied : c.in_ok-bytes.bytes.items ≡ c.args.bytes.now = c.in_ok-bytes.ensures.items_if_clones_equal (λ x y e. e) in
    let told = rw c.as_slice.ensures.value at c.in-Some.ensures in
    ap (set c.args.entries.now.items c.in-Some.place)
    (c.set_bytes.ensures ∙ ap (λ (entry : Entry). record entry { bytes = c.in_ok-bytes.bytes.items }) c.index_mut.ensures.value
    ∙ ap (λ (bytes : List ℕ). record (get_or c.args.entries.now.items c.in-Some.place c.index_mut.result.now) { bytes = bytes }) copied)
    ∙ file_set c.args.name.now c.args.bytes.now c.args.entries.now.items c.in-Some.place c.index_mut.result.now told

pub returns-clause-ok : goal.returns-clause-ok
returns-clause-ok c =
    let copied : c.in_ok-bytes.bytes.items ≡ c.args.bytes.now = c.in_ok-bytes.ensures.items_if_clones_equal (λ x y e. e) in
    let told = rw c.as_slice.ensures.value at c.in_default.ensures in
    c.in_ok-push.ensures.items ∙ rw (c.in_ok-name.ensures.ok, copied) (new_file c.args.name.now c.args.bytes.now c.args.entries.now.items told)

pub returns-in-Some-clause-different : goal.returns-in-Some-clause-different
returns-in-Some-clause-different c =
    ap have_different_names (returns-in-Some-clause-ok c) ∙ names_differ c.args.name.now c.args.bytes.now c.args.entries.now.items c.requires

pub returns-clause-different : goal.returns-clause-different
returns-clause-different c =
    ap have_different_names (returns-clause-ok c) ∙ names_differ c.args.name.now c.args.bytes.now c.args.entries.now.items c.requires
