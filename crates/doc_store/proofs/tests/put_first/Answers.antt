use Rattle.std.proofs.Common.{◌≡◌, ℕ, ◌+◌, ◌≤◌, ◌^◌, true, ◌&&◌, List, [], ◌∷◌, length, codes, Result, Ok, Err, refl, sym, ap, ◌∙◌, subst, arith}
use Rattle.std.specs.Prelude.{OnOk}
use Rattle.std.specs.List.{list_all}
use Rattle.std.specs.Str.{is_utf8, chars}
use lib.Utf8.{encode}
use Rattle.tree_model.specs.Forest.{Forest, none, tree, walk, join, count}
use Rattle.tree_model.specs.Labels.{Label, doc_label, text_label, numbered, with_path}
use Rattle.tree_model.specs.Sound.{IsLoose, are_chars, is_loose_label}
use Rattle.tree_model.specs.declared.code.Refusal.{Refusal}
use Rattle.tree_model.proofs.Numbering.{numbered_once, numbered_below}
use Rattle.doc_store.specs.Stored.{branch_forest}
use Rattle.doc_store.proofs.tests.put_first.Goals as goal

abbrev words_under : List ℕ → Forest Label
words_under path = tree (doc_label path) [] (tree (text_label (codes "words")) [] none none) none

good_labels : (path : List ℕ) → are_chars path ≡ true → list_all is_loose_label (walk (numbered 0 (words_under path))) ≡ true
unfolding is_utf8 chars encode
good_labels path good = ap (λ b. b && true) good

words_loose : (path : List ℕ) → are_chars path ≡ true → IsLoose (numbered 0 (words_under path)) 2
words_loose path good = record {
  roots = (refl, tt);
  places = (refl, (refl, tt), (refl, tt, tt, tt), tt);
  nodes = good_labels path good;
  ids_once = λ id. (numbered_once id 0 (words_under path)).most;
  ids_below = numbered_below 0 2 (words_under path) (omega arith);
  few = omega arith;
}

under : (f : Forest Label) (path given : List ℕ) → f ≡ numbered 0 (words_under []) → path ≡ given → with_path path f ≡ numbered 0 (words_under given)
under f path given f_is path_is = ap (with_path path) f_is ∙ ap (λ p. numbered 0 (words_under p)) path_is

put_loose : (f : Forest Label) (path given : List ℕ) (n : ℕ) → f ≡ numbered 0 (words_under []) → path ≡ given → n ≡ 2 → are_chars given ≡ true → IsLoose (with_path path f) n
put_loose f path given n f_is path_is n_is good =
    subst (λ m. IsLoose (with_path path f) m) (sym n_is) (subst (λ g. IsLoose g 2) (sym (under f path given f_is path_is)) (words_loose given good))

-- as it is told for every cut, at the one before all
put_forest : (r : Result (Unit {0}) Refusal) (f others new : Forest Label) (path given : List ℕ) (next : ℕ) → f ≡ numbered 0 (words_under []) → path ≡ given
    → OnOk r ((before after : Forest Label) → others ≡ join before after → count before ≡ 0 → new ≡ join before (join (numbered next (with_path path f)) after))
    → OnOk r (new ≡ join (numbered next (words_under given)) others)
put_forest (Ok x) f others new path given next f_is path_is told = told none others refl refl ∙ ap (λ g. join (numbered next g) others) (under f path given f_is path_is)
put_forest (Err e) f others new path given next f_is path_is told = tt

pub add_document-requires-clause-document : goal.add_document-requires-clause-document
add_document-requires-clause-document c =
    put_loose _ c.in_ok-path.path c.args.path.now _ c.in_ok-built.ensures.forest c.in_ok-path.ensures c.in_ok-built.ensures.len c.requires.chars

pub add_document-requires-clause-place : goal.add_document-requires-clause-place
add_document-requires-clause-place c = (none, _, refl, refl)

pub returns-clause-forest : goal.returns-clause-forest
returns-clause-forest c =
    put_forest c.add_document.result _ (branch_forest c.args.d.now c.args.b.now) (branch_forest c.add_document.new.self c.add_document.new.b) c.in_ok-path.path c.args.path.now c.args.b.now.next
    c.in_ok-built.ensures.forest c.in_ok-path.ensures c.add_document.ensures.forest
