use Rattle.std.proofs.Common.{arith, ◌<◌, length, ap, ◌≡◌, subst, ℕ, List, eqb}
use Rattle.std.specs.Str.{bytes_eq}
use Rattle.std.specs.String.{string_bytes}
use Rattle.std.proofs.lemmas.List.{length-map}
use Rattle.xml_rows.specs.Numbers.{uri_at}
use Rattle.xml_rows.proofs.Finding.{texts_differ}
use Rattle.xml_rows.proofs.uris.Uris.len.Goals as goal

pub returns-clause-distinct : goal.returns-clause-distinct
returns-clause-distinct c = λ a b a_in b_in.
    let long = ap length c.self.view_is in
    let many = length-map c.self.inside.texts.keys string_bytes in
    let first : a < length c.self.inside.texts.keys = omega (arith, a_in, long, many) in
    let second : b < length c.self.inside.texts.keys = omega (arith, b_in, long, many) in
    subst (λ (uris : List (List ℕ)). eqb a b ≡ bytes_eq (uri_at uris a) (uri_at uris b)) c.self.view_is
    (texts_differ string_bytes c.self.inside.texts.keys a b c.len.ensures.unique first second)
