use Rattle.std.proofs.Common.{◌≡◌, ℕ, true, List, [], codes, Result, Ok, Err, refl, sym, ap, ◌∙◌, subst}
use Rattle.std.specs.Prelude.{OnOk}
use Rattle.std.specs.Str.{is_utf8, chars}
use lib.Utf8.{encode}
use Rattle.tree_model.specs.Forest.{Forest, none, tree, join}
use Rattle.tree_model.specs.Labels.{Label, doc_label, text_label, numbered}
use Rattle.tree_model.specs.Sound.{IsSound, IsLoose, are_chars}
use Rattle.tree_model.specs.declared.code.Refusal.{Refusal}
use Rattle.doc_store.specs.Stored.{Stored, Branched, branch_forest, IsBranchOf}
use Rattle.doc_store.proofs.tests.put_two.Goals as goal

abbrev words_under : List ℕ → Forest Label
words_under path = tree (doc_label path) [] (tree (text_label (codes "words")) [] none none) none

-- what these two documents keep beyond what all keep while an update is applied
two_sound : (n m next : ℕ) (f : Forest Label) → f ≡ join (numbered m (words_under (codes "a.xml"))) (join (numbered n (words_under (codes "b.xml"))) none) → IsLoose f next → IsSound f next
unfolding is_utf8 chars encode
two_sound n m next f is loose =
    let rules = subst (λ g. IsLoose g next) is loose in
    subst (λ g. IsSound g next) (sym is) (record {
      rules = record {
        roots = rules.roots;
        places = (refl, (refl, tt), (refl, tt, tt, tt), (refl, (refl, tt), (refl, tt, tt, tt), tt));
        nodes = refl;
        ids_once = rules.ids_once;
        ids_below = rules.ids_below;
        texts = refl;
        paths = refl;
        paths_differ = refl;
      };
      few = rules.few;
    })

good_first : are_chars (codes "b.xml") ≡ true
unfolding is_utf8 chars encode
good_first = refl

good_second : are_chars (codes "a.xml") ≡ true
unfolding is_utf8 chars encode
good_second = refl

pub put_first-requires-clause-chars : goal.put_first-requires-clause-chars
put_first-requires-clause-chars c = good_first

pub put_first-requires-2-clause-chars : goal.put_first-requires-2-clause-chars
put_first-requires-2-clause-chars c = good_second

sound_after : (r : Result (Unit {0}) Refusal) (d : Stored) (b : Branched) (n m : ℕ) (before first : Forest Label) → before ≡ none → first ≡ join (numbered n (words_under (codes "b.xml"))) before → OnOk r (IsBranchOf d b)
    → OnOk r (branch_forest d b ≡ join (numbered m (words_under (codes "a.xml"))) first) → OnOk r (IsSound (branch_forest d b) b.next)
sound_after (Ok x) d b n m before first none_is first_is own forest =
    two_sound n m b.next (branch_forest d b)
    (forest ∙ ap (join (numbered m (words_under (codes "a.xml")))) (first_is ∙ ap (join (numbered n (words_under (codes "b.xml")))) none_is)) own.loose
sound_after (Err e) d b n m before first none_is first_is own forest = tt

pub returns-clause-sound : goal.returns-clause-sound
returns-clause-sound c =
    sound_after _ _ _ c.args.b.now.next c.put_first.new.b.next (branch_forest c.args.d.now c.args.b.now) _ c.requires.first c.in_ok-put_first.ensures.forest c.put_first-2.ensures.own c.put_first-2.ensures.forest
