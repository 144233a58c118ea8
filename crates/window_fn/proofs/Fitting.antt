-- The sums that a line is fitted by, with one more point.
use Rattle.std.proofs.Common.{◌≡◌, ◌∙◌, ℕ, ◌+◌, ◌<◌, ◌≤◌, take, get_or, List, [], ◌∷◌, ◌++◌, length, map, refl, ap, arith}
use Rattle.std.specs.List.{zip}
use Rattle.std.specs.Prelude.{ℤ, ◌-ℤ◌}
use Rattle.std.proofs.lemmas.List.{map-append, length-map, get_or-map, take_more}
use Rattle.std.proofs.lemmas.Slice.Zip.{length-zip}
use Rattle.ticks.specs.declared.moment.Ms.{Ms}
use Rattle.window_fn.specs.Points.{milliseconds}
use Rattle.xfrac.specs.Arithmetic.{arithmetic}
use Rattle.xfrac.specs.declared.value.ArithOp.TheVariants.{Mul}
use Rattle.xfrac.specs.declared.value.XFrac.{XFrac}
use Rattle.window_fn.specs.Slopes.{products, spans, squares}

zip-more : {A B : Type 0} (xs : List A) (ys : List B) (x : A) (y : B) → length xs ≡ length ys → zip (xs ++ x ∷ []) (ys ++ y ∷ []) ≡ zip xs ys ++ (x, y) ∷ []
zip-more [] [] x y l = refl
zip-more [] (b ∷ ys) x y l = absurd (omega arith)
zip-more (a ∷ xs) [] x y l = absurd (omega arith)
zip-more (a ∷ xs) (b ∷ ys) x y l = ap (λ r. (a, b) ∷ r) (zip-more xs ys x y (omega arith))

pub products-more : (xs ys : List XFrac) (x y : XFrac) → length xs ≡ length ys → products (xs ++ x ∷ []) (ys ++ y ∷ []) ≡ products xs ys ++ arithmetic Mul x y ∷ []
products-more xs ys x y l =
    ap (map (λ p. arithmetic Mul p.0 p.1)) (zip-more xs ys x y l) ∙ map-append (λ p. arithmetic Mul p.0 p.1) (zip xs ys) ((x, y) ∷ [])

pub squares-more : (xs : List XFrac) (x : XFrac) → squares (xs ++ x ∷ []) ≡ squares xs ++ arithmetic Mul x x ∷ []
squares-more xs x = map-append (λ a. arithmetic Mul a a) xs (x ∷ [])

pub length-products : (xs ys : List XFrac) → length (products xs ys) ≤ length xs
length-products xs ys = omega (arith, length-map (zip xs ys) (λ p. arithmetic Mul p.0 p.1), length-zip xs ys)

pub length-squares : (xs : List XFrac) → length (squares xs) ≡ length xs
length-squares xs = length-map xs (λ x. arithmetic Mul x x)

pub spans-more : (origin : ℤ) (times : List Ms) (i : ℕ) (d : Ms) → i < length times →
    take (i + 1) (spans origin times) ≡ take i (spans origin times) ++ milliseconds ((get_or times i d).0 -ℤ origin) ∷ []
spans-more origin times i d l =
    let f : Ms → XFrac = λ t. milliseconds (t.0 -ℤ origin) in
    take_more (spans origin times) i (f d) (omega (arith, length-map times f)) ∙ ap (λ x. take i (spans origin times) ++ x ∷ []) (get_or-map f times i d (f d) l)

pub length-spans : (origin : ℤ) (times : List Ms) → length (spans origin times) ≡ length times
length-spans origin times = length-map times (λ t. milliseconds (t.0 -ℤ origin))
