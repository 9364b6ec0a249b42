-- The answers determine what commands leave.
use Rattle.std.proofs.Common.{◌≡◌, ◌≢◌, inl, inr, ℕ, Bool, true, false, cond, List, [], ◌∷◌, ◌++◌, Option, Some, None, refl, sym, ap, ap₂, ◌∙◌, ◌^◌, length, subst, append_assoc, rules}
use Rattle.std.specs.Prelude.{IfSome, option_map}
use Rattle.std.specs.List.{All, Contains}
use Rattle.std.specs.Str.{bytes_eq}
use Rattle.std.proofs.lemmas.List.Elements.{All-head, All-contains_itself, Contains-append_left, Contains-append_right}
use Rattle.std.proofs.lemmas.Bool.{cases_lt, false≢true}
use Rattle.std.proofs.lemmas.Slice.Eq.{bytes_eq-Decides}
use Rattle.outer_io.specs.Files.{Entry, file_in, with_file, FilesSeen, OthersStay}
use Rattle.outer_io.proofs.NamedFiles.{written_is_found, others_stay}
use Rattle.tree_model.specs.Forest.{Forest, none}
use Rattle.tree_model.specs.Labels.{Label, with_path}
use Rattle.tree_model.specs.Printing.{documents_text}
use Rattle.tree_model.specs.States.{State, Base, document_under, new_base, with_new}
use Rattle.tree_model.specs.XmlReads.{ReadsXml, as_tree}
use Rattle.round_trip.proofs.Heads.{one_tree_spelled}
use Rattle.commands.specs.declared.options.Options.{Options}
use Rattle.commands.specs.Commands.{Input, text, file, path_of_input, Form, table, create, storage, list, query, export, exit, not_built, no_form, without_return}
use Rattle.commands.specs.CommandCodes.{CommandCode}
use Rattle.kernel_session.specs.FileCodes.{XKFI0002, file_code_text}
use Rattle.kernel_session.specs.LineAnswers.{line_form, IsAnswered, Right}
use Rattle.kernel_session.specs.Replies.{Answer, accepted, refused}
use Rattle.kernel_session.specs.Steps.{AreAsBefore, IsGiven, IsNoContent, IsContent, AreDocuments, AreNoDocuments, IsExported, IsNotExported, open_base, state_refusal, IsAccepted, IsRefused, Goes, StepBy, Step}
use Rattle.kernel_session.specs.Workspaces.{Workspace}
use Rattle.session_laws.specs.Determined.{unwritten, read_from, reads, all_unwritten, ReadsNone, AgreeBut, AreAlike, AnswersDetermine}

-- ---- files

abbrev Names : Type 0
Names = List (List ℕ)

-- the same bytes under all names but these
abbrev SameBut : Names → List Entry → List Entry → Type 0
SameBut names a b = (name : List ℕ) → (¬ Contains names name) → file_in name a ≡ file_in name b

agree_refl : (names : Names) (m : Option (List Entry)) (a : List Entry) → m ≡ Some a → AgreeBut names m m
agree_refl names m a is = record { some = a; more = a; told = is; also = is; same = λ name not. refl }

-- more names may be open
wider : (names more : Names) (m n : Option (List Entry)) → AgreeBut names m n → AgreeBut (names ++ more) m n
wider names more m n h = record {
  some = h.some;
  more = h.more;
  told = h.told;
  also = h.also;
  same = λ name not. h.same name (λ held. not (Contains-append_left names more name held));
}

-- what agrees with files that agree
agree_through : (names own : Names) (w v w' v' : Option (List Entry)) → AgreeBut names w v → AgreeBut own w w' → AgreeBut own v v' → AgreeBut (names ++ own) w' v'
agree_through names own w v w' v' h x y = record {
  some = x.more;
  more = y.more;
  told = x.also;
  also = y.also;
  same = λ name not.
      let within : ¬ Contains own name = λ held. not (Contains-append_right names own name held) in
      let outside : ¬ Contains names name = λ held. not (Contains-append_left names own name held) in
      sym (x.same name within) ∙ ap (file_in name) (told_once w x.some h.some x.told h.told) ∙ h.same name outside ∙ ap (file_in name) (told_once v h.more y.some h.also y.told) ∙ y.same name within;
}
  where
    told_once : (m : Option (List Entry)) (a b : List Entry) → m ≡ Some a → m ≡ Some b → a ≡ b
    told_once m a b e f = let same : Some a ≡ Some b = sym e ∙ f in cc

-- files that no call has changed
kept : (own : Names) (m n : Option (List Entry)) (a : List Entry) → m ≡ Some a → n ≡ m → AgreeBut own m n
kept own m n a told e = record { some = a; more = a; told = told; also = e ∙ told; same = λ name not. refl }

given_kept : (input : Input) (before now : FilesSeen) (bytes : List ℕ) → IsGiven input before now bytes → now.map ≡ before.map
given_kept (text xml) before now bytes h = ap (λ (s : FilesSeen). s.map) h.1
given_kept (file name) before now bytes h = h.0.same

no_content_kept : (strip : Bool) (input : Input) (before now : FilesSeen) (code : List ℕ) → IsNoContent strip input before now code → now.map ≡ before.map
no_content_kept strip (text xml) before now code (inl h) = absurd h
no_content_kept strip (file name) before now code (inl h) = h.0.same
no_content_kept strip input before now code (inr h) = given_kept input before now h.0 h.1

-- what is given is the same where the file is the same
given_same : (input : Input) (names : Names) (b n b' n' : FilesSeen) (x y : List ℕ) → AgreeBut names b.map b'.map → All (λ name. ¬ Contains names name) (read_from input) → IsGiven input b n x → IsGiven input b' n' y → x ≡ y
given_same (text xml) names b n b' n' x y h closed g k = g.0 ∙ sym k.0
given_same (file name) names b n b' n' x y h closed g k =
    let one : file_in name h.some ≡ Some x = subst (λ m. IfSome m (λ entries. file_in name entries ≡ Some x)) h.told g.2 in
    let other : file_in name h.more ≡ Some y = subst (λ m. IfSome m (λ entries. file_in name entries ≡ Some y)) h.also k.2 in
    let same : Some x ≡ Some y = sym one ∙ h.same name (All-head (λ (n : List ℕ). ¬ Contains names n) name [] closed) ∙ other in
    cc

tree_same : (strip : Bool) (x y : List ℕ) (f g : Forest Label) → x ≡ y → ReadsXml x strip (as_tree f) → ReadsXml y strip (as_tree g) → f ≡ g
tree_same strip x y f g e r s = one_tree_spelled strip y f g (subst (λ z. ReadsXml z strip (as_tree f)) e r).3 s.3

content_same : (strip : Bool) (path : List ℕ) (input : Input) (names : Names) (b n b' n' : FilesSeen) (f g : Forest Label) → AgreeBut names b.map b'.map → All (λ name. ¬ Contains names name) (read_from input)
    → IsContent strip path input b n f → IsContent strip path input b' n' g → f ≡ g
content_same strip path input names b n b' n' f g h closed x y =
    x.4 ∙ ap (with_path path) (tree_same strip x.0 y.0 x.2 y.2 (given_same input names b n b' n' x.0 y.0 h closed x.1 y.1) x.3 y.3) ∙ sym y.4

documents_same : (strip : Bool) (name : List ℕ) (input : Option Input) (names : Names) (b n b' n' : FilesSeen) (f g : Forest Label) → AgreeBut names b.map b'.map → All (λ name. ¬ Contains names name) (reads (create name input))
    → AreDocuments strip name input b n f → AreDocuments strip name input b' n' g → f ≡ g
documents_same strip name None names b n b' n' f g h closed x y = x.0 ∙ sym y.0
documents_same strip name (Some input) names b n b' n' f g h closed x y = content_same strip (path_of_input name input) input names b n b' n' f g h closed x y

documents_kept : (strip : Bool) (name : List ℕ) (input : Option Input) (before now : FilesSeen) (f : Forest Label) → AreDocuments strip name input before now f → now.map ≡ before.map
documents_kept strip name None before now f h = ap (λ (s : FilesSeen). s.map) h.1
documents_kept strip name (Some input) before now f h = given_kept input before now h.0 h.1

no_documents_kept : (strip : Bool) (input : Option Input) (before now : FilesSeen) (code : List ℕ) → AreNoDocuments strip input before now code → now.map ≡ before.map
no_documents_kept strip None before now code h = absurd h
no_documents_kept strip (Some input) before now code h = no_content_kept strip input before now code h

-- ---- one command

-- what a command that writes no file leaves of the files, but for the names that are open then
export_open : (name path code : List ℕ) (before now : FilesSeen) (a : List Entry) → before.map ≡ Some a → IsNotExported name before now → code ≡ file_code_text XKFI0002
    → AgreeBut (unwritten (export path name) (Some (refused code))) before.map now.map
export_open name path code before now a told h e = subst (λ c. AgreeBut (unwritten (export path name) (Some (refused c))) before.map now.map) (sym e) (by now.map refl)
  where
    by : (m : Option (List Entry)) → now.map ≡ m → AgreeBut (name ∷ []) before.map now.map
    by None is = absurd (subst (λ x. OthersStay name x None) told (subst (OthersStay name before.map) is h.others))
    by (Some b) is = record {
      some = a;
      more = b;
      told = told;
      also = is;
      same = λ other not. sym (subst (λ x. OthersStay name x (Some b)) told (subst (OthersStay name before.map) is h.others) other (λ e. not (subst (λ n. Contains (name ∷ []) n) (sym e) (All-head (Contains (name ∷ [])) name [] (All-contains_itself (name ∷ []))))));
    }

refused_open : (options : Options) (w : Workspace) (form : Form) (code : List ℕ) (w' : Workspace) (a : List Entry) → w.files.map ≡ Some a → Goes options w form (refused code) w'
    → AgreeBut (unwritten form (Some (refused code))) w.files.map w'.files.map
refused_open options w form code w' a told (inr h) = kept _ w.files.map w'.files.map a told h.files.same
refused_open options w (table input) code w' a told (inl h) = kept _ w.files.map w'.files.map a told (no_content_kept options.strip input w.files w'.files code h.0)
refused_open options w (create name input) code w' a told (inl h) = kept _ w.files.map w'.files.map a told (no_documents_kept options.strip input w.files w'.files code h.0)
refused_open options w (storage range) code w' a told (inl h) = absurd h
refused_open options w list code w' a told (inl h) = absurd h
refused_open options w (query words) code w' a told (inl h) = kept _ w.files.map w'.files.map a told (ap (λ (x : Workspace). x.files.map) h.1)
refused_open options w (export path name) code w' a told (inl h) = export_open name path code w.files w'.files a told h.1 h.0
refused_open options w exit code w' a told (inl h) = absurd h
refused_open options w not_built code w' a told (inl h) = absurd h
refused_open options w no_form code w' a told (inl h) = absurd h

refused_state : (options : Options) (w : Workspace) (form : Form) (code : List ℕ) (w' : Workspace) → Goes options w form (refused code) w' → w'.state ≡ w.state
refused_state options w form code w' (inr h) = h.state
refused_state options w (table input) code w' (inl h) = h.1.0
refused_state options w (create name input) code w' (inl h) = h.1.0
refused_state options w (storage range) code w' (inl h) = absurd h
refused_state options w list code w' (inl h) = absurd h
refused_state options w (query words) code w' (inl h) = ap (λ (x : Workspace). x.state) h.1
refused_state options w (export path name) code w' (inl h) = h.2.0
refused_state options w exit code w' (inl h) = absurd h
refused_state options w not_built code w' (inl h) = absurd h
refused_state options w no_form code w' (inl h) = absurd h

-- what was done alike by two commands that leave their states and files as they were
alike_after : (names own : Names) (w v w' v' : Workspace) → AreAlike names w v → w'.state ≡ w.state → v'.state ≡ v.state → AgreeBut own w.files.map w'.files.map → AgreeBut own v.files.map v'.files.map → AreAlike (names ++ own) w' v'
alike_after names own w v w' v' h s t x y = record {
  state = s ∙ h.state ∙ sym t;
  files = agree_through names own w.files.map v.files.map w'.files.map v'.files.map h.files x y;
}

alike_same : (names own : Names) (w v w' v' : Workspace) → AreAlike names w v → w'.state ≡ w.state → v'.state ≡ v.state → w'.files.map ≡ w.files.map → v'.files.map ≡ v.files.map → AreAlike (names ++ own) w' v'
alike_same names own w v w' v' h s t x y =
    alike_after names own w v w' v' h s t (kept own w.files.map w'.files.map h.files.some h.files.told x) (kept own v.files.map v'.files.map h.files.more h.files.also y)

-- the same text under one name
written_alike : (names : Names) (name t u : List ℕ) (m n m' n' : Option (List Entry)) → AgreeBut names m n → t ≡ u → m' ≡ option_map (with_file name t) m → n' ≡ option_map (with_file name u) n → AgreeBut names m' n'
written_alike names name t u m n m' n' h e x y = record {
  some = with_file name t h.some;
  more = with_file name u h.more;
  told = x ∙ ap (option_map (with_file name t)) h.told;
  also = y ∙ ap (option_map (with_file name u)) h.also;
  same = λ other not. by other not (bytes_eq other name) refl;
}
  where
    by : (other : List ℕ) → (¬ Contains names other) → (b : Bool) → bytes_eq other name ≡ b → file_in other (with_file name t h.some) ≡ file_in other (with_file name u h.more)
    by other not true is =
        let same : other ≡ name = (bytes_eq-Decides other name).0 is in
        ap (λ o. file_in o (with_file name t h.some)) same ∙ written_is_found name t h.some ∙ ap Some e ∙ sym (written_is_found name u h.more) ∙ ap (λ o. file_in o (with_file name u h.more)) (sym same)
    by other not false is =
        let apart : other ≢ name = λ same. false≢true (sym is ∙ (bytes_eq-Decides other name).1 same) in
        others_stay name t other h.some apart ∙ h.same other not ∙ sym (others_stay name u other h.more apart)

same_base : (s t : State) (a b : Base) → s ≡ t → open_base s ≡ Some a → open_base t ≡ Some b → a ≡ b
same_base s t a b e x y = let same : Some a ≡ Some b = sym x ∙ ap open_base e ∙ y in cc

same_document : (path : List ℕ) (a b : Base) (d e : Forest Label) → a ≡ b → document_under path a.documents ≡ Some d → document_under path b.documents ≡ Some e → d ≡ e
same_document path a b d e same x y = let both : Some d ≡ Some e = sym x ∙ ap (λ (z : Base). document_under path z.documents) same ∙ y in cc

same_wide : (names own : Names) (w v w' v' : Workspace) → AreAlike names w v → w' ≡ w → v' ≡ v → AreAlike (names ++ own) w' v'
same_wide names own w v w' v' h x y =
    alike_same names own w v w' v' h (ap (λ (s : Workspace). s.state) x) (ap (λ (s : Workspace). s.state) y) (ap (λ (s : Workspace). s.files.map) x) (ap (λ (s : Workspace). s.files.map) y)

same_alike : (names : Names) (w v w' v' : Workspace) → AreAlike names w v → w' ≡ w → v' ≡ v → AreAlike (names ++ []) w' v'
same_alike names w v w' v' h x y = same_wide names [] w v w' v' h x y

accepted_alike : (options : Options) (names : Names) (w v : Workspace) (form : Form) (payload : List ℕ) (w' v' : Workspace) → AreAlike names w v → All (λ name. ¬ Contains names name) (reads form)
    → IsAccepted options w form payload w' → IsAccepted options v form payload v' → AreAlike (names ++ unwritten form (Some (accepted payload))) w' v'
accepted_alike options names w v (table input) payload w' v' h closed x y =
    alike_same names [] w v w' v' h x.3.0 y.3.0 (given_kept input w.files w'.files x.1.0 x.1.1) (given_kept input v.files v'.files y.1.0 y.1.1)
accepted_alike options names w v (create name input) payload w' v' h closed x y = record {
  state = x.3 ∙ ap₂ (λ f s. with_new (new_base name f) s) (documents_same options.strip name input names w.files w'.files v.files v'.files x.0 y.0 h.files closed x.1 y.1) h.state ∙ sym y.3;
  files = agree_through names [] w.files.map v.files.map w'.files.map v'.files.map h.files
      (kept [] w.files.map w'.files.map h.files.some h.files.told (documents_kept options.strip name input w.files w'.files x.0 x.1))
      (kept [] v.files.map v'.files.map h.files.more h.files.also (documents_kept options.strip name input v.files v'.files y.0 y.1));
}
accepted_alike options names w v (storage range) payload w' v' h closed x y = same_alike names w v w' v' h x.3 y.3
accepted_alike options names w v list payload w' v' h closed x y = same_alike names w v w' v' h x.1 y.1
accepted_alike options names w v (query words) payload w' v' h closed x y =
    alike_same names [] w v w' v' h x.5.0 y.5.0 (ap (λ (s : FilesSeen). s.map) x.5.1) (ap (λ (s : FilesSeen). s.map) y.5.1)
accepted_alike options names w v (export path name) payload w' v' h closed x y = record {
  state = x.6.0 ∙ h.state ∙ sym y.6.0;
  files = wider names [] w'.files.map v'.files.map (written_alike names name (documents_text x.2) (documents_text y.2) w.files.map v.files.map w'.files.map v'.files.map h.files
      (ap documents_text (same_document path x.0 y.0 x.2 y.2 (same_base w.state v.state x.0 y.0 h.state x.1 y.1) x.3 y.3)) x.5.written y.5.written);
}
accepted_alike options names w v exit payload w' v' h closed x y = same_alike names w v w' v' h x.1 y.1
accepted_alike options names w v not_built payload w' v' h closed x y = absurd x
accepted_alike options names w v no_form payload w' v' h closed x y = absurd x

step_alike : (options : Options) (names : Names) (w v : Workspace) (form : Form) (answer : Answer) (w' v' : Workspace) → AreAlike names w v → All (λ name. ¬ Contains names name) (reads form)
    → Step options w form answer w' → Step options v form answer v' → AreAlike (names ++ unwritten form (Some answer)) w' v'
step_alike options names w v form answer w' v' h closed x y =
    by (state_refusal w.state form) answer x (subst (λ s. StepBy (state_refusal s form) options v form answer v') (sym h.state) y)
  where
    by : (code : Option CommandCode) (answer : Answer) → StepBy code options w form answer w' → StepBy code options v form answer v' → AreAlike (names ++ unwritten form (Some answer)) w' v'
    by (Some code) answer x y = same_wide names (unwritten form (Some answer)) w v w' v' h x.1 y.1
    by None (accepted payload) x y = accepted_alike options names w v form payload w' v' h closed x y
    by None (refused code) x y = alike_after names (unwritten form (Some (refused code))) w v w' v' h (refused_state options w form code w' x) (refused_state options v form code v' y)
        (refused_open options w form code w' h.files.some h.files.told x) (refused_open options v form code v' h.files.more h.files.also y)

-- ---- lines

line_alike : (options : Options) (names : Names) (w v : Workspace) (l : List ℕ) (answer : Option Answer) (w' v' : Workspace) → AreAlike names w v → All (λ name. ¬ Contains names name) (reads (line_form (without_return l)))
    → IsAnswered options w l answer w' → IsAnswered options v l answer v' → AreAlike (names ++ unwritten (line_form (without_return l)) answer) w' v'
line_alike options names w v l None w' v' h closed x y = same_wide names _ w v w' v' h x.2 y.2
line_alike options names w v l (Some answer) w' v' h closed x y = elim (cases_lt (2 ^ 24) (length l)) [
  | inl lt ↦ same_wide names _ w v w' v' h (x.long lt).1 (y.long lt).1
  | inr le ↦ step_alike options names w v (line_form (without_return l)) answer w' v' h closed (x.short le).1 (y.short le).1
]

pub determined : AnswersDetermine
determined options names w v w' v' [] [] h closed x y = same_alike names w v w' v' h x y
determined options names w v w' v' [] (answer ∷ answers) h closed x y = absurd x
determined options names w v w' v' (l ∷ lines) [] h closed x y = absurd x
determined options names w v w' v' (l ∷ lines) (answer ∷ answers) h closed x y =
    let own : Names = unwritten (line_form (without_return l)) answer in
    let next = line_alike options names w v l answer x.0 y.0 h closed.0 x.1 y.1 in
    subst (λ names. AreAlike names w' v') (append_assoc names own (all_unwritten lines answers)) (determined options (names ++ own) x.0 y.0 w' v' lines answers next closed.1 x.2 y.2)
