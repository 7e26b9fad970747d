-- What each CREATE of the office makes of the schema before it.
use Rattle.std.proofs.Common.{◌≡◌, refl}
use Rattle.sqlite.specs.Schema.{Schema}
use Rattle.sqlite.specs.Change.{created}
use Rattle.wb_sql.specs.Tables.{office, arch, builder, source_record, scratch_source, scratch_binary}
use Rattle.wb_sql.specs.Tables.{record_order, record_take, source_name, binary_source, binary_name}
use Rattle.wb_sql.specs.Making.{with_index, with_office, with_arch, with_builder, with_source_record, with_record_order, with_record_take}
use Rattle.wb_sql.specs.Making.{with_scratch_source, with_source_name, with_scratch_binary, with_binary_source, with_tables}

pub office_is : (base : Schema) → with_office base ≡ created base office
unfolding with_office
office_is base = refl

pub arch_is : (base : Schema) → with_arch base ≡ created (with_office base) arch
unfolding with_arch
arch_is base = refl

pub builder_is : (base : Schema) → with_builder base ≡ created (with_arch base) builder
unfolding with_builder
builder_is base = refl

pub source_record_is : (base : Schema) → with_source_record base ≡ created (with_builder base) source_record
unfolding with_source_record
source_record_is base = refl

pub record_order_is : (base : Schema) → with_record_order base ≡ with_index (with_source_record base) source_record record_order
unfolding with_record_order
record_order_is base = refl

pub record_take_is : (base : Schema) → with_record_take base ≡ with_index (with_record_order base) source_record record_take
unfolding with_record_take
record_take_is base = refl

pub scratch_source_is : (base : Schema) → with_scratch_source base ≡ created (with_record_take base) scratch_source
unfolding with_scratch_source
scratch_source_is base = refl

pub source_name_is : (base : Schema) → with_source_name base ≡ with_index (with_scratch_source base) scratch_source source_name
unfolding with_source_name
source_name_is base = refl

pub scratch_binary_is : (base : Schema) → with_scratch_binary base ≡ created (with_source_name base) scratch_binary
unfolding with_scratch_binary
scratch_binary_is base = refl

pub binary_source_is : (base : Schema) → with_binary_source base ≡ with_index (with_scratch_binary base) scratch_binary binary_source
unfolding with_binary_source
binary_source_is base = refl

pub binary_name_is : (base : Schema) → with_tables base ≡ with_index (with_binary_source base) scratch_binary binary_name
unfolding with_tables
binary_name_is base = refl
