-- Each local expression is parted.
use Rattle.std.proofs.Common.{inl, inr}
use Rattle.step_table.specs.Laws.{UnionHasMarks, UnionHasNotes}
use Rattle.parting_laws.specs.Locals.{LocalsAreParted}
use Rattle.parting_laws.specs.Locals.{selector, paren, sign, element, timestamp, sort, sort_desc, scalar_right, scalar_left, of_range, of_subquery, quantile_of_range, quantile_of_subquery, label_replace, label_join, histogram_quantile}
use Rattle.parting_laws.proofs.LabelsParted.{histograms_parted, label_joins_parted, replacements_parted}
use Rattle.parting_laws.proofs.Locals.{elements_parted, left_parted, parens_parted, ranges_parted, right_parted, selectors_parted, signs_parted, sorts_parted, timestamps_parted}
use Rattle.parting_laws.proofs.SubqueriesParted.{subqueries_parted}
use Rattle.parting_laws.proofs.WindowsParted.{quantiles_parted, window_functions_parted}

module _ (u : UnionHasMarks) (n : UnionHasNotes) where
  pub locals_parted : LocalsAreParted
  locals_parted names _ (selector e s is) = selectors_parted names e s is
  locals_parted names _ (paren e inner is h) = parens_parted names e inner is (locals_parted names inner h)
  locals_parted names _ (sign e inner is h) = signs_parted u n names e inner is (locals_parted names inner h)
  locals_parted names _ (element e inner f others is none h) = elements_parted u n names e inner f others is none (locals_parted names inner h)
  locals_parted names _ (timestamp e inner is h) = timestamps_parted u n names e inner is (locals_parted names inner h)
  locals_parted names _ (sort e inner is h) = sorts_parted u n names e inner (inl is) (locals_parted names inner h)
  locals_parted names _ (sort_desc e inner is h) = sorts_parted u n names e inner (inr is) (locals_parted names inner h)
  locals_parted names _ (scalar_right e left right op pairing is constant h) = right_parted u n names e left right op pairing is constant (locals_parted names left h)
  locals_parted names _ (scalar_left e left right op pairing is constant h) = left_parted u n names e left right op pairing is constant (locals_parted names right h)
  locals_parted names _ (of_range e windows f others s range is single none range_is) = window_functions_parted u n names e windows f others is single none (ranges_parted names windows s range range_is)
  locals_parted names _ (of_subquery e windows inner f others range step moment is single none subquery_is h) =
      window_functions_parted u n names e windows f others is single none (subqueries_parted u n names windows inner range step moment subquery_is (locals_parted names inner h))
  locals_parted names _ (quantile_of_range e quantile windows s range is none range_is) = quantiles_parted u n names e quantile windows is none (ranges_parted names windows s range range_is)
  locals_parted names _ (quantile_of_subquery e quantile windows inner range step moment is none subquery_is h) =
      quantiles_parted u n names e quantile windows is none (subqueries_parted u n names windows inner range step moment subquery_is (locals_parted names inner h))
  locals_parted names _ (label_replace e inner target label others is target_is apart none h) = replacements_parted u n names e inner target label others is target_is apart none (locals_parted names inner h)
  locals_parted names _ (label_join e inner target label others is target_is apart none h) = label_joins_parted u n names e inner target label others is target_is apart none (locals_parted names inner h)
  locals_parted names _ (histogram_quantile e quantile inner is apart none h) = histograms_parted u n names e quantile inner is apart none (locals_parted names inner h)
