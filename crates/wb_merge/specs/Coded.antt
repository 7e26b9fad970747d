-- The listing as a value that a prover can distinguish from others.
use Rattle.std.specs.Prelude.{refl}
use Rattle.std.specs.Coded.{Coded, code_by, coded×}
use Rattle.std.specs.FinMap as map
use Rattle.deb_relations.specs.Satisfaction.{Pairs, coded_pairs}
use Rattle.deb_text.specs.Text.{text_cmp, coded_text}
use Rattle.wb_merge.specs.declared.listing.Listed.{Listed}
use Rattle.wb_merge.specs.declared.listing.Built.{Built}
use Rattle.wb_merge.specs.contracts.listing.Listed as listed
use Rattle.wb_merge.specs.contracts.listing.Built as built
use Rattle.wb_merge.specs.Listing.{ArchiveListing}

-- the fields of a listing, one after another
abbrev pub ListingFields : Type 0
ListingFields = map.FinMap text_cmp Listed × (map.FinMap text_cmp Built × Pairs)

-- the code of the fields
abbrev pub coded_fields : Coded ListingFields
coded_fields =
    coded× (map.code coded_text listed.the_row.coded) (coded× (map.code coded_text built.the_row.coded) coded_pairs)

-- the code of a listing
abbrev pub coded_listing : Coded ArchiveListing
coded_listing =
    code_by ListingFields coded_fields (λ listing. (listing.listed, (listing.built, listing.available)))
    (λ p. record { listed = p.0; built = p.1.0; available = p.1.1 })
    (λ _. refl)
