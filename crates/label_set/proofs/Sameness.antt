-- Lists of texts are equal by `==` exactly where they are the same texts.
use Rattle.std.proofs.Common.{◌≡◌, ℕ, true, List, refl}
use Rattle.std.specs.Prelude.{bytes_eq}
use Rattle.std.specs.Cmp.Lexicographic.{pointwise}
use Rattle.std.proofs.lemmas.Slice.Eq.{slice_eq-Decides, bytes_eq-Decides}

pub texts_from_eq : (xs ys : List (List ℕ)) → pointwise bytes_eq xs ys ≡ true → xs ≡ ys
texts_from_eq xs ys e = (slice_eq-Decides bytes_eq-Decides xs ys _ refl).0 e

pub texts_to_eq : (xs ys : List (List ℕ)) → xs ≡ ys → pointwise bytes_eq xs ys ≡ true
texts_to_eq xs ys e = (slice_eq-Decides bytes_eq-Decides xs ys _ refl).1 e
