-- What building makes of the command, and that it is simple.
use Rattle.std.proofs.Common.{◌<◌, ◌≤◌, arith, drop, length, zero, suc, ◌≡◌, ◌∙◌, ℕ, Bool, true, false, ◌&&◌, refl, sym, ap, ap₂, List, [], ◌∷◌, ◌++◌, map, append_assoc, append-nil}
use Rattle.std.specs.Prelude.{count_by, is_some, ◌+◌}
use Rattle.std.specs.Borrow.{Bor}
use Rattle.std.specs.List.{fold, list_all, list_any, slice_index_or}
use Rattle.clap.specs.Words.{with_rule}
use Rattle.clap.specs.Walk.{Rule, Text, is_early_multiple}
use Rattle.clap.specs.Simple.{App, Shape, built, filled, filled_from, is_buildable, is_ready, is_ready_leaf, is_simple, with_index}
use Rattle.clap.specs.Faults.{is_free_app, is_simple_and_free}
use Rattle.tool_words.specs.Commands.{app, bare_app, option_rule, place_rule, with_option}

-- the rules of a built command
abbrev pub option_built : Text → Rule
option_built name = filled (option_rule name)

abbrev pub place_built : Rule
place_built = with_index 1 (filled place_rule)

abbrev pub rules : List Text → List Rule
rules options = map option_built options ++ place_built ∷ []

fold_rules : (a : App) (xs : List Text) → fold with_option a xs ≡ record a { top = record a.top { rules = a.top.rules ++ map option_rule xs } }
fold_rules a [] = ap (λ rs. record a { top = record a.top { rules = rs } }) (sym (append-nil a.top.rules))
fold_rules a (x ∷ xs) = fold_rules (with_option a x) xs ∙ ap (λ rs. record a { top = record a.top { rules = rs } }) (append_assoc a.top.rules (option_rule x ∷ []) (map option_rule xs))

-- the command before it is built
abbrev pub unbuilt : Text → List Text → App
unbuilt name options = record (bare_app name) { top = record ((bare_app name).top) { rules = map option_rule options ++ place_rule ∷ [] } }

pub is_unbuilt : (name : Text) (options : List Text) → app name options ≡ unbuilt name options
is_unbuilt name options = ap (λ (a : App). record a { top = record a.top { rules = a.top.rules ++ place_rule ∷ [] } }) (fold_rules (bare_app name) options)

filled_rules : (options : List Text) → filled_from 1 (map option_rule options ++ place_rule ∷ []) ≡ rules options
filled_rules [] = refl
filled_rules (x ∷ xs) = ap (λ rs. option_built x ∷ rs) (filled_rules xs)

abbrev pub shape : Text → List Text → Shape
shape name options = record ((bare_app name).top) { rules = rules options; is_built = true; disable_help_subcommand = true }

abbrev pub ready : Text → List Text → App
ready name options = record { top = shape name options; subs = [] }

pub built_is : (name : Text) (options : List Text) → built (app name options) ≡ ready name options
built_is name options = ap built (is_unbuilt name options) ∙ ap (λ rs. record { top = record (shape name options) { rules = rs }; subs = [] }) (filled_rules options)

all_simple : (options : List Text) → list_all (λ a. a.is_simple) (map option_rule options ++ place_rule ∷ []) ≡ true
all_simple [] = refl
all_simple (x ∷ xs) = all_simple xs

all_simple_built : (options : List Text) → list_all (λ a. a.is_simple) (rules options) ≡ true
all_simple_built [] = refl
all_simple_built (x ∷ xs) = all_simple_built xs

all_free : (options : List Text) → list_all (λ a. a.is_free) (rules options) ≡ true
all_free [] = refl
all_free (x ∷ xs) = all_free xs

one_place : (options : List Text) → count_by (λ a. is_some a.index) (rules options) ≡ 1
one_place [] = refl
one_place (x ∷ xs) = one_place xs

none_early : (options : List Text) → list_any (is_early_multiple 1) (rules options) ≡ false
none_early [] = refl
none_early (x ∷ xs) = none_early xs

abbrev simple_of : App → App → Bool
simple_of a b = (is_buildable a && (is_ready b.top && list_all is_ready_leaf b.subs)) && is_free_app b

simple_ready : (name : Text) (options : List Text) → simple_of (unbuilt name options) (ready name options) ≡ true
simple_ready name options = rw (all_simple options, all_simple_built options, one_place options, none_early options, all_free options) refl

pub simple : (name : Text) (options : List Text) → is_simple_and_free (app name options) ≡ true
simple name options = ap₂ simple_of (is_unbuilt name options) (built_is name options) ∙ simple_ready name options

and_left : (a b : Bool) → (a && b) ≡ true → a ≡ true
and_left true b e = refl
and_left false b e = absurd (cc)

pub simple_app : (name : Text) (options : List Text) → is_simple (app name options) ≡ true
simple_app name options = and_left (is_simple (app name options)) (is_free_app (built (app name options))) (simple name options)

-- ---- the loop over the options

options_step : (a : App) (options : List (Bor Text)) (i : ℕ) (d : Bor Text) → i < length options
    → fold with_option (with_option a (slice_index_or options i d).now) (drop (suc i) (map (λ x. x.now) options)) ≡ fold with_option a (drop i (map (λ x. x.now) options))
options_step a [] i d lt = absurd (omega arith)
options_step a (x ∷ xs) zero d lt = refl
options_step a (x ∷ xs) (suc i) d lt = options_step a xs i d (omega arith)

pub options_next : (a b base : App) (r : Rule) (options : List (Bor Text)) (i : ℕ) (d : Bor Text) → i < length options → b ≡ with_rule a r
    → r ≡ option_rule (slice_index_or options i d).now → fold with_option a (drop i (map (λ x. x.now) options)) ≡ base
    → fold with_option b (drop (i + 1) (map (λ x. x.now) options)) ≡ base
options_next a b base r options i d lt is rule so_far =
    let next : i + 1 ≡ suc i = omega arith in
    ap₂ (λ (v : App) (k : ℕ). fold with_option v (drop k (map (λ x. x.now) options))) (is ∙ ap (with_rule a) rule) next
    ∙ options_step a options i d lt ∙ so_far

pub options_end : (a base : App) (options : List (Bor Text)) (i : ℕ) → length options ≤ i → fold with_option a (drop i (map (λ x. x.now) options)) ≡ base → a ≡ base
options_end a base [] zero past e = e
options_end a base [] (suc i) past e = e
options_end a base (x ∷ xs) zero past e = absurd (omega arith)
options_end a base (x ∷ xs) (suc i) past e = options_end a base xs i (omega arith) e
