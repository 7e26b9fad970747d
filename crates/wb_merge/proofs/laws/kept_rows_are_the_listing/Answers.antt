use Rattle.wb_merge.proofs.FoundLemmas.{listed_in-unnamed}
use Rattle.wb_merge.proofs.ScratchLemmas.{built-kept, listed-kept, listing_of-kept, versions-kept}
use Rattle.wb_merge.proofs.laws.kept_rows_are_the_listing.Goals as goal

pub returns-clause-listing : goal.returns-clause-listing
returns-clause-listing c = listing_of-kept

pub returns-clause-listed : goal.returns-clause-listed
returns-clause-listed c = listed-kept

pub returns-clause-built : goal.returns-clause-built
returns-clause-built c = built-kept

pub returns-clause-available : goal.returns-clause-available
returns-clause-available c = versions-kept

pub returns-clause-unnamed : goal.returns-clause-unnamed
returns-clause-unnamed c = listed_in-unnamed
