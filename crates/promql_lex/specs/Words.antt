-- The words of the grammar, the aggregations among them. (PromQL's lexer.)
use Rattle.std.specs.Prelude.{ℕ, List, [], ◌∷◌, Option, codes}
use Rattle.std.specs.Map.{lookup}
use Rattle.frac_text.specs.Readings.{is_word}
use Rattle.func_table.specs.declared.table.Aggregate.TheVariants.{Sum, Avg, Min, Max, Count, Group, Stdvar, TopK, BottomK, Quantile, CountValues}
use Rattle.promql_lex.specs.declared.word.Word.{Word}
use Rattle.promql_lex.specs.declared.word.Word.TheVariants.{And, Or, Unless, By, Without, On, Ignoring, GroupLeft, GroupRight, Bool as Flag, Offset, Start, End, Atan2, Over}

-- each word beside its spelling in small letters
abbrev pub words : List (List ℕ × Word)
words =
    (codes "and", And) ∷ (codes "or", Or) ∷ (codes "unless", Unless) ∷ (codes "by", By) ∷ (codes "without", Without) ∷ (codes "on", On)
    ∷ (codes "ignoring", Ignoring) ∷ (codes "group_left", GroupLeft) ∷ (codes "group_right", GroupRight) ∷ (codes "bool", Flag) ∷ (codes "offset", Offset)
    ∷ (codes "start", Start) ∷ (codes "end", End) ∷ (codes "atan2", Atan2) ∷ (codes "sum", Over Sum) ∷ (codes "avg", Over Avg) ∷ (codes "min", Over Min)
    ∷ (codes "max", Over Max) ∷ (codes "count", Over Count) ∷ (codes "group", Over Group) ∷ (codes "stdvar", Over Stdvar) ∷ (codes "topk", Over TopK)
    ∷ (codes "bottomk", Over BottomK) ∷ (codes "quantile", Over Quantile) ∷ (codes "count_values", Over CountValues) ∷ []

-- the word that a spelling is, in any case
abbrev pub word_of : List ℕ → Option Word
word_of spelling = lookup (λ other. is_word spelling other) words
