-- What is built of a text before it is kept, and what searches for it then.
use Rattle.std.specs.Prelude.{◌≡◌, ℕ, Bool, List, Option, is_none}
use Rattle.std.specs.Option.{ForSome}
use Rattle.regex.specs.Strings.{matcher_names, matcher_pattern}
use Rattle.regex.specs.declared.string.matcher.Matcher.{Matcher}
use Rattle.match_rule.specs.Patterns.{FindsAs, is_plain, regex_text}
use Rattle.match_rule.specs.declared.built.Built.{Built}

-- nothing of a plain text, and else what `regex` builds of it
abbrev pub IsBuiltFor : Bool → List ℕ → Option Built → Type 0
IsBuiltFor whole text built = (is_none built ≡ is_plain text) × ForSome built (λ b. b.source ≡ regex_text whole text)

-- nothing searches for a plain text, and else a matcher finds what `regex` reads in it
abbrev pub IsSearchedBy : Bool → List ℕ → Option Matcher → Type 0
IsSearchedBy whole text matcher =
    (is_none matcher ≡ is_plain text) × ForSome matcher (λ m. FindsAs (matcher_pattern m) (matcher_names m) (regex_text whole text))
