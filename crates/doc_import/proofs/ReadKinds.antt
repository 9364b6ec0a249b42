-- A tree that is read has its kinds in their places.
use Rattle.std.proofs.Common.{◌≡◌, ℕ, ◌≤◌, ◌^◌, Bool, List, refl, arith}
use Rattle.std.specs.Prelude.{codes}
use Rattle.node_table.specs.Views.{HasKinds}
use Rattle.node_table.proofs.KeptKinds.{kept_kinds}
use Rattle.tree_model.specs.Forest.{Forest, none, tree, count}
use Rattle.tree_model.specs.Labels.{Label, with_path}
use Rattle.tree_model.specs.Sound.{IsSound}
use Rattle.tree_model.specs.XmlReads.{ReadsXml, as_tree}
use Rattle.tree_model.proofs.Looseness.{sound_loose}
use Rattle.tree_model.proofs.XmlSoundness.{xml_reads_sound}

path_kinds : (path : List ℕ) (f : Forest Label) → HasKinds (with_path path f) → HasKinds f
path_kinds path none h = h
path_kinds path (tree label attrs kids rest) h = h

path_count : (path : List ℕ) (f : Forest Label) → count (with_path path f) ≡ count f
path_count path none = refl
path_count path (tree label attrs kids rest) = refl

pub read_kinds : (strip : Bool) (text : List ℕ) (f : Forest Label) → ReadsXml text strip (as_tree f) → HasKinds f
read_kinds strip text f r =
    let path : List ℕ = codes "x" in
    let sound : IsSound (with_path path f) (count f) = record { rules = xml_reads_sound strip text path f r.0.1 r.3 refl; few = omega (arith, r.4, path_count path f) } in
    path_kinds path f (kept_kinds (with_path path f) (sound_loose (with_path path f) (count f) sound).places)
