use Rattle.script_read.proofs.Kept.{search_stands}
use Rattle.script_read.proofs.expectation.wanted_for.Goals as goal

pub returns-in_ok-search-in-Search-clause-said : goal.returns-in_ok-search-in-Search-clause-said
returns-in_ok-search-in-Search-clause-said c =
    λ more. rw c.in-Search.is (search_stands c.in-Search.text.now c.args.searches.now c.search.new.self more c.in_ok-search-in-Search.field-0 c.in_ok-search-in-Search.ensures.ok c.in_ok-search-in-Search.ensures.number)
