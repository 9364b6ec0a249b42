use Rattle.std.proofs.Common.{subst, sym, ◌∙◌, ◌≡◌, ℕ, List}
use Rattle.std.specs.String.{string_bytes}
use Rattle.xml_rows.specs.Numbers.{uri_at}
use Rattle.xml_rows.proofs.Finding.{text_found, text_stored}
use Rattle.xml_rows.proofs.uris.Uris.number.Goals as goal

pub returns-in-Some-clause-uri : goal.returns-in-Some-clause-uri
returns-in-Some-clause-uri c =
    subst (λ (uris : List (List ℕ)). uri_at uris c.in-Some.number ≡ c.args.uri.now) c.self.view_is
    (text_found string_bytes c.args.uri.now c.self.inside.texts.keys c.in-Some.number (sym c.get_index_of.ensures.index ∙ c.in-Some.is))

pub returns-clause-uri : goal.returns-clause-uri
returns-clause-uri c =
    let stored = c.in_ok-found.ensures.stored in
    text_stored string_bytes _ c.insert_full.new.self.keys c.in_ok-found.found.0 stored.0 stored.1 stored.2 ∙ c.in_ok-text.ensures.ok
