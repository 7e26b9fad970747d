use Rattle.wb_rows.proofs.FormLemmas.{of_arch, of_builder, of_record, of_take}
use Rattle.wb_rows.proofs.laws.rows_of_an_office_are_read.Goals as goal

pub returns-clause-records : goal.returns-clause-records
returns-clause-records c = λ machine arch source current sound. of_record machine sound arch source current

pub returns-clause-takes : goal.returns-clause-takes
returns-clause-takes c = λ machine arch source current sound. of_take machine sound arch source current

pub returns-clause-archs : goal.returns-clause-archs
returns-clause-archs c = λ machine name words sound. of_arch machine sound name words

pub returns-clause-builders : goal.returns-clause-builders
returns-clause-builders c = λ machine builder arch sound. of_builder machine sound builder arch
