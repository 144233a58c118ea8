-- Answers in sequence: what comes of an answer once it is there. A fault stays, and stops what follows. (The bind of results; `do` notation reads by it.)
use Rattle.std.specs.Prelude.{Result, Ok, Err, IfOk}

infixl 10 ◌>>=◌
abbrev pub ◌>>=◌ : {A B E : Type 0} → Result A E → (A → Result B E) → Result B E
(Ok value) >>= next = next value
(Err fault) >>= next = Err fault

-- where P holds of an answer, and Q of what comes of each value that P holds of, Q holds of both in sequence: a lemma that the crates above cite
pub then_holds : {A B E : Type 0} (P : A → Type 0) (Q : B → Type 0) (r : Result A E) (next : A → Result B E) → IfOk r P → ((x : A) → P x → IfOk (next x) Q) → IfOk (r >>= next) Q
then_holds P Q (Ok value) next here later = later value here
then_holds P Q (Err fault) next here later = tt
