-- The state of the office as a value that a prover can distinguish from others.
use Rattle.std.specs.Prelude.{ℕ, List, refl}
use Rattle.std.specs.Coded.{Coded, code_by, coded×, coded_ℕ}
use Rattle.std.specs.FinMap as map
use Rattle.std.specs.FinSet as set
use Rattle.wb_states.specs.declared.record.Record.{Record}
use Rattle.wb_states.specs.declared.arch.OsCpu.{OsCpu}
use Rattle.wb_states.specs.contracts.record.Record as row
use Rattle.wb_states.specs.contracts.arch.OsCpu as words
use Rattle.deb_text.specs.Text.{text_cmp, coded_text, pair_cmp}
use Rattle.wb_states.specs.Machine.{Machine}

-- the code of a pair of texts
abbrev pub coded_pair : Coded (List ℕ × List ℕ)
coded_pair = coded× coded_text coded_text

-- the code of the records
abbrev pub coded_records : Coded (map.FinMap pair_cmp Record)
coded_records = map.code coded_pair row.the_row.coded

-- the fields of the state, one after another
abbrev pub MachineFields : Type 0
MachineFields = map.FinMap pair_cmp Record × (map.FinMap text_cmp OsCpu × (set.FinSet pair_cmp × (ℕ × ℕ)))

-- the code of the fields
abbrev pub coded_fields : Coded MachineFields
coded_fields =
    coded× coded_records
    (coded× (map.code coded_text words.the_row.coded)
    (coded× (set.code coded_pair) (coded× coded_ℕ coded_ℕ)))

-- the code of the state
abbrev pub coded_machine : Coded Machine
coded_machine =
    code_by MachineFields coded_fields (λ m. (m.records, (m.archs, (m.builders, (m.handed, m.accepted)))))
    (λ p. record {
      records = p.0;
      archs = p.1.0;
      builders = p.1.1.0;
      handed = p.1.1.1.0;
      accepted = p.1.1.1.1;
    })
    (λ _. refl)
