use Rattle.std.proofs.Common.{◌≡◌, ◌∙◌, List, [], ◌∷◌, ap, arith, length, refl, sym, true}
use Rattle.std.proofs.lemmas.Bool.Decides.{Decides-eqb}
use Rattle.std.specs.Prelude.{◌==◌}
use Rattle.exchange.specs.Exchanging.{Exchanging}
use Rattle.exchange.specs.declared.request.Request.{Request}
use Rattle.exchange.proofs.exchange.Exchange.is_empty.Goals as goal

none_there : (requests : List Request) → (length requests == 0) ≡ true → requests ≡ []
none_there [] e = refl
none_there (r ∷ requests) e = let k : length (r ∷ requests) ≡ 0 = (Decides-eqb (length (r ∷ requests)) 0).0 e in absurd (omega arith)

pub returns : goal.returns
returns c =
    let requests = c.args.self.now.requests in
    let told : c.is_empty.result ≡ (length requests == 0) = c.is_empty.ensures ∙ ap (λ (rs : List Request). length rs == 0) (c.as_slice.ensures ∙ ap (λ (x : Exchanging). x.requests) c.self.view_is) in
    (λ h. none_there requests (sym told ∙ h), λ none. told ∙ ap (λ (rs : List Request). length rs == 0) none)
