-- The options of the program have names.
use Rattle.std.proofs.Common.{◌≡◌, arith, Bool, true, false, refl, subst, List, [], ◌∷◌}
use Rattle.std.specs.Prelude.{codes}
use Rattle.std.specs.Str.{bytes_eq}
use Rattle.std.proofs.lemmas.Slice.Eq.{bytes_eq-Decides}
use Rattle.tool_words.specs.Asked.{explain_options, query_options, test_options}
use Rattle.tool_words.specs.Said.{Text}
use Rattle.tool_words.specs.Says.{AreNames, IsName}

pub no_names : AreNames []
no_names name among = absurd (cc)

one_more : (n : Text) (names : List Text) → IsName n → AreNames names → AreNames (n ∷ names)
one_more n names is others name among = go (bytes_eq n name) refl
  where
    go : (b : Bool) → bytes_eq n name ≡ b → IsName name
    go true e = subst IsName ((bytes_eq-Decides n name).0 e) is
    go false e = others name (rw e at among)

pub test_names : AreNames test_options
test_names =
    one_more (codes "edges") (codes "batch" ∷ codes "opts" ∷ codes "engines" ∷ []) (record { some = omega arith; plain = refl })
    (one_more (codes "batch") (codes "opts" ∷ codes "engines" ∷ []) (record { some = omega arith; plain = refl })
    (one_more (codes "opts") (codes "engines" ∷ []) (record { some = omega arith; plain = refl })
    (one_more (codes "engines") [] (record { some = omega arith; plain = refl })
    no_names)))

pub query_names : AreNames query_options
query_names =
    one_more (codes "edges") (codes "batch" ∷ codes "opts" ∷ codes "engines" ∷ codes "at" ∷ codes "from" ∷ codes "to" ∷ codes "step" ∷ []) (record { some = omega arith; plain = refl })
    (one_more (codes "batch") (codes "opts" ∷ codes "engines" ∷ codes "at" ∷ codes "from" ∷ codes "to" ∷ codes "step" ∷ []) (record { some = omega arith; plain = refl })
    (one_more (codes "opts") (codes "engines" ∷ codes "at" ∷ codes "from" ∷ codes "to" ∷ codes "step" ∷ []) (record { some = omega arith; plain = refl })
    (one_more (codes "engines") (codes "at" ∷ codes "from" ∷ codes "to" ∷ codes "step" ∷ []) (record { some = omega arith; plain = refl })
    (one_more (codes "at") (codes "from" ∷ codes "to" ∷ codes "step" ∷ []) (record { some = omega arith; plain = refl })
    (one_more (codes "from") (codes "to" ∷ codes "step" ∷ []) (record { some = omega arith; plain = refl })
    (one_more (codes "to") (codes "step" ∷ []) (record { some = omega arith; plain = refl })
    (one_more (codes "step") [] (record { some = omega arith; plain = refl })
    no_names)))))))

pub explain_names : AreNames explain_options
explain_names =
    one_more (codes "opts") (codes "engines" ∷ []) (record { some = omega arith; plain = refl })
    (one_more (codes "engines") [] (record { some = omega arith; plain = refl })
    no_names)
