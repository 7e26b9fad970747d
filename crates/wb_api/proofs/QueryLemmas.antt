-- What the objects of records and of counts are printed as.
use Rattle.std.proofs.Common.{◌≡◌, ◌∙◌, ap, append_assoc, append-nil, ℕ, List, [], ◌∷◌}
use Rattle.std.proofs.Common.{◌++◌, codes, true, false, refl, sym}
use Rattle.std.specs.Prelude.{Bool, Option, None, Some, ℤ, pos, negsuc, decimal}
use Rattle.std.specs.Fmt.{signed_decimal}
use Rattle.std.specs.List.{concat}
use Rattle.json.specs.Print.{quoted}
use Rattle.serde_json.specs.Data.{boolean, string}
use Rattle.serde_json.specs.Find.{is_float, of_integer}
use Rattle.serde_json.specs.Written.{compact_text, number_text, has_float}
use Rattle.serde_json.proofs.OnLiterals.{serde_json_on_literals}
use Rattle.wb_states.specs.declared.record.Record.{Record}
use Rattle.wb_states.specs.declared.keyed.KeyedRecord.{KeyedRecord}
use Rattle.wb_states.specs.Machine.{Key}
use Rattle.wb_states.specs.declared.arch.OsCpu.{OsCpu}
use Rattle.wb_states.specs.declared.counts.StateCounts.{StateCounts}
use Rattle.wb_states.specs.declared.query.Answer.TheVariants.{Mine, Depends, Summary, Office, Archs, Builders}
use Rattle.wb_api.specs.Queries.{truth_text, quoted_or_null, decimal_or_null, fields_text, record_text, records_text}
use Rattle.wb_api.specs.Queries.{waiting_text, arch_text, archs_text, pair_text, pairs_text, counts_text, query_text}
use Rattle.wb_api.specs.QueryValues.{number_or_null, string_or_null, value_of_fields, value_of_record, value_of_waiting}
use Rattle.wb_api.specs.QueryValues.{value_of_depends, value_of_counts, value_of_summary, value_of_office}
use Rattle.wb_api.specs.QueryValues.{value_of_arch, value_of_pair}

-- an integer is no float
is_float-of_integer : (z : ℤ) → is_float (of_integer z) ≡ false
is_float-of_integer (pos n) = refl
is_float-of_integer (negsuc n) = refl

has_float-string_or_null : (text : Option (List ℕ)) → has_float (string_or_null text) ≡ false
has_float-string_or_null None = refl
has_float-string_or_null (Some text) = refl

has_float-number_or_null : (n : Option ℕ) → has_float (number_or_null n) ≡ false
has_float-number_or_null None = refl
has_float-number_or_null (Some n) = refl

-- no number of a record is a float
has_float-value_of_fields : (arch source : List ℕ) (current : Record) → has_float (value_of_fields arch source current) ≡ false
has_float-value_of_fields arch source current =
    rw (is_float-of_integer current.build_priority) (rw (has_float-string_or_null current.holder)
    (rw (has_float-number_or_null current.take) refl))

pub has_float-value_of_record : (row : KeyedRecord) → has_float (value_of_record row) ≡ false
has_float-value_of_record row = has_float-value_of_fields row.arch row.source row.current

-- what the parts of a record are printed as
number_text-of_integer : (z : ℤ) → number_text (of_integer z) ≡ signed_decimal z
number_text-of_integer (pos n) = refl
number_text-of_integer (negsuc n) = refl

compact_text-boolean : (b : Bool) → compact_text (boolean b) ≡ truth_text b
compact_text-boolean true = refl
compact_text-boolean false = refl

compact_text-string_or_null : (text : Option (List ℕ)) → compact_text (string_or_null text) ≡ quoted_or_null text
compact_text-string_or_null None = refl
compact_text-string_or_null (Some text) = refl

compact_text-number_or_null : (n : Option ℕ) → compact_text (number_or_null n) ≡ decimal_or_null n
compact_text-number_or_null None = refl
compact_text-number_or_null (Some n) = refl

-- what a record's object is printed as
compact_text-value_of_fields : (arch source : List ℕ) (current : Record)
    → compact_text (value_of_fields arch source current) ≡ fields_text arch source current
unfolding serde_json_on_literals fields_text
compact_text-value_of_fields arch source current =
    rw (sym (number_text-of_integer current.build_priority)) (rw (sym (compact_text-boolean current.earlier))
    (rw (sym (compact_text-string_or_null current.holder)) (rw (sym (compact_text-number_or_null current.take)) refl)))

pub compact_text-value_of_record : (row : KeyedRecord) → compact_text (value_of_record row) ≡ record_text row
compact_text-value_of_record row = compact_text-value_of_fields row.arch row.source row.current

-- what a record of a queue is printed as
pub has_float-value_of_waiting : (row : KeyedRecord) → has_float (value_of_waiting row) ≡ false
has_float-value_of_waiting row = refl

pub compact_text-value_of_waiting : (row : KeyedRecord) → compact_text (value_of_waiting row) ≡ waiting_text row
unfolding serde_json_on_literals waiting_text
compact_text-value_of_waiting row = refl

-- what is printed for records
pub ruleset printing_of_records =
    (has_float-value_of_record, compact_text-value_of_record, has_float-value_of_waiting, compact_text-value_of_waiting)

-- what a text is printed as
pub has_float-string : (text : List ℕ) → has_float (string text) ≡ false
has_float-string text = refl

pub compact_text-string : (text : List ℕ) → compact_text (string text) ≡ quoted text
compact_text-string text = refl

-- what is printed for texts
pub ruleset printing_of_texts = (has_float-string, compact_text-string)

-- what was written piece by piece
regroup : (a b c d e : List ℕ) → (((a ++ b) ++ c) ++ d) ++ e ≡ concat (a ∷ b ∷ c ∷ d ∷ e ∷ [])
regroup a b c d e = simp (append_assoc, append-nil)

-- what is written of a list: what comes first, a text, a key, the list, and what comes last
written : (first text key list last begun keyed listed ended : List ℕ) → begun ≡ first ++ text → keyed ≡ begun ++ key
    → listed ≡ keyed ++ list → ended ≡ listed ++ last → ended ≡ concat (first ∷ text ∷ key ∷ list ∷ last ∷ [])
written first text key list last begun keyed listed ended one two three four =
    four ∙ ap (λ x. x ++ last) (three ∙ ap (λ x. x ++ list) (two ∙ ap (λ x. x ++ key) one))
    ∙ regroup first text key list last

-- what is written of what a builder holds
pub mine_written : (builder begun keyed listed ended : List ℕ) (rows : List KeyedRecord)
    → begun ≡ codes "{\"builder\":" ++ quoted builder
    → keyed ≡ begun ++ codes ",\"records\":[" → listed ≡ keyed ++ records_text rows → ended ≡ listed ++ codes "]}"
    → ended ≡ query_text (Mine builder rows)
unfolding query_text
mine_written builder begun keyed listed ended rows =
    written (codes "{\"builder\":") (quoted builder) (codes ",\"records\":[") (records_text rows) (codes "]}")
    begun keyed listed ended

-- what the object of what a source package needs is printed as
pub has_float-value_of_depends : (arch source : List ℕ) (depends : Option (List ℕ)) → has_float (value_of_depends arch source depends) ≡ false
has_float-value_of_depends arch source depends = rw (has_float-string_or_null depends) refl

pub compact_text-value_of_depends : (arch source : List ℕ) (depends : Option (List ℕ))
    → compact_text (value_of_depends arch source depends) ≡ query_text (Depends arch source depends)
unfolding serde_json_on_literals query_text
compact_text-value_of_depends arch source depends = rw (sym (compact_text-string_or_null depends)) refl

-- what is printed for what a source package needs
pub ruleset printing_of_depends = (has_float-value_of_depends, compact_text-value_of_depends)

-- what the object of the numbers of records is printed as
pub has_float-value_of_summary : (accepted : ℕ) (arch : List ℕ) (counts : StateCounts) → has_float (value_of_summary accepted arch counts) ≡ false
has_float-value_of_summary accepted arch counts = refl

compact_text-value_of_counts : (counts : StateCounts) → compact_text (value_of_counts counts) ≡ counts_text counts
unfolding serde_json_on_literals counts_text
compact_text-value_of_counts counts = refl

pub compact_text-value_of_summary : (accepted : ℕ) (arch : List ℕ) (counts : StateCounts)
    → compact_text (value_of_summary accepted arch counts) ≡ query_text (Summary accepted arch counts)
unfolding serde_json_on_literals query_text
compact_text-value_of_summary accepted arch counts = rw (sym (compact_text-value_of_counts counts)) refl

-- what is printed for summaries
pub ruleset printing_of_summaries = (has_float-value_of_summary, compact_text-value_of_summary)

-- what the objects of the office, of an architecture and of a builder are printed as
pub has_float-value_of_office : (accepted handed : ℕ) → has_float (value_of_office accepted handed) ≡ false
has_float-value_of_office accepted handed = refl

pub compact_text-value_of_office : (accepted handed : ℕ)
    → compact_text (value_of_office accepted handed) ≡ query_text (Office accepted handed)
unfolding serde_json_on_literals query_text
compact_text-value_of_office accepted handed = refl

pub has_float-value_of_arch : (arch : List ℕ × OsCpu) → has_float (value_of_arch arch) ≡ false
has_float-value_of_arch arch = refl

pub compact_text-value_of_arch : (arch : List ℕ × OsCpu) → compact_text (value_of_arch arch) ≡ arch_text arch
unfolding serde_json_on_literals arch_text
compact_text-value_of_arch arch = refl

pub has_float-value_of_pair : (pair : Key) → has_float (value_of_pair pair) ≡ false
has_float-value_of_pair pair = refl

pub compact_text-value_of_pair : (pair : Key) → compact_text (value_of_pair pair) ≡ pair_text pair
unfolding serde_json_on_literals pair_text
compact_text-value_of_pair pair = refl

-- what is printed for the office, and for what was added to it
pub ruleset printing_of_the_office = (
  has_float-value_of_office,
  compact_text-value_of_office,
  has_float-value_of_arch,
  compact_text-value_of_arch,
  has_float-value_of_pair,
  compact_text-value_of_pair,
)

-- what is written of the architectures, and of the builders
pub archs_written : (accepted : ℕ) (begun keyed listed ended : List ℕ) (archs : List (List ℕ × OsCpu))
    → begun ≡ codes "{\"accepted\":" ++ decimal accepted
    → keyed ≡ begun ++ codes ",\"archs\":[" → listed ≡ keyed ++ archs_text archs → ended ≡ listed ++ codes "]}"
    → ended ≡ query_text (Archs accepted archs)
unfolding query_text
archs_written accepted begun keyed listed ended archs =
    written (codes "{\"accepted\":") (decimal accepted) (codes ",\"archs\":[") (archs_text archs) (codes "]}")
    begun keyed listed ended

pub builders_written : (accepted : ℕ) (begun keyed listed ended : List ℕ) (pairs : List Key)
    → begun ≡ codes "{\"accepted\":" ++ decimal accepted
    → keyed ≡ begun ++ codes ",\"builders\":[" → listed ≡ keyed ++ pairs_text pairs → ended ≡ listed ++ codes "]}"
    → ended ≡ query_text (Builders accepted pairs)
unfolding query_text
builders_written accepted begun keyed listed ended pairs =
    written (codes "{\"accepted\":") (decimal accepted) (codes ",\"builders\":[") (pairs_text pairs) (codes "]}")
    begun keyed listed ended
