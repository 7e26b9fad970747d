use Rattle.std.proofs.Common.{refl}
use Rattle.std.specs.Str.{is_utf8, chars}
use Rattle.deb_control.specs.Fields.{continued, has_colon, name_of, first_of, is_name_char, begins_name, is_name, field_of, form_fault, line_fault, names_after, fields_at, fault_of, reading_of, folded_of}
use Rattle.deb_control.specs.Lines.{body_of, lines_in, front_line, is_separator, paragraphs_in, begins_separator, begins_paragraph, trim_end, trim}
use Rattle.deb_control.proofs.laws.examples_of_paragraphs.Goals as goal

pub returns-clause-field : goal.returns-clause-field
unfolding is_utf8 chars lib.Utf8.encode continued has_colon name_of first_of is_name_char begins_name is_name field_of form_fault line_fault names_after fields_at fault_of reading_of folded_of body_of lines_in front_line is_separator paragraphs_in begins_separator begins_paragraph trim_end trim
returns-clause-field c = refl

pub returns-clause-fields : goal.returns-clause-fields
unfolding is_utf8 chars lib.Utf8.encode continued has_colon name_of first_of is_name_char begins_name is_name field_of form_fault line_fault names_after fields_at fault_of reading_of folded_of body_of lines_in front_line is_separator paragraphs_in begins_separator begins_paragraph trim_end trim
returns-clause-fields c = refl

pub returns-clause-folded : goal.returns-clause-folded
unfolding is_utf8 chars lib.Utf8.encode continued has_colon name_of first_of is_name_char begins_name is_name field_of form_fault line_fault names_after fields_at fault_of reading_of folded_of body_of lines_in front_line is_separator paragraphs_in begins_separator begins_paragraph trim_end trim
returns-clause-folded c = refl

pub returns-clause-faults : goal.returns-clause-faults
unfolding is_utf8 chars lib.Utf8.encode continued has_colon name_of first_of is_name_char begins_name is_name field_of form_fault line_fault names_after fields_at fault_of reading_of folded_of body_of lines_in front_line is_separator paragraphs_in begins_separator begins_paragraph trim_end trim
returns-clause-faults c = (refl, refl, refl, refl)

pub returns-clause-paragraphs : goal.returns-clause-paragraphs
unfolding is_utf8 chars lib.Utf8.encode continued has_colon name_of first_of is_name_char begins_name is_name field_of form_fault line_fault names_after fields_at fault_of reading_of folded_of body_of lines_in front_line is_separator paragraphs_in begins_separator begins_paragraph trim_end trim
returns-clause-paragraphs c = refl
