-- What a proof unfolds, beside the definitions of `httparse` and `serde_json`, to compute what a request asks for.
use Rattle.std.specs.Prelude.{⊤}
use Rattle.std.specs.Fmt.{digits}
use Rattle.std.specs.Str.{chars, is_utf8}
use Rattle.wb_api.specs.Commands.{add_arch_in, add_builder_in, attempted_in, build_priority_in, command_of, enter_in}
use Rattle.wb_api.specs.Commands.{forget_in, json_of, remove_arch_in, remove_builder_in, report_in, named_source_in}
use Rattle.wb_streams.specs.Fields.{is_same_number, length_stated, limited}
use Rattle.percent_encoding.specs.Percent.{percent_decode}
use Rattle.wb_api.specs.Merges.{is_list_name, merge_in, merge_of, part_in}
use Rattle.wb_api.specs.Requests.{body_asked, body_wanted, length_wanted, query_wanted}
use Rattle.wb_api.specs.Routes.{decoded_text, query_of, route_at}

unfoldable pub http_on_literals : ⊤
unfolding digits chars is_utf8 add_arch_in add_builder_in attempted_in build_priority_in command_of enter_in forget_in
    json_of remove_arch_in remove_builder_in report_in named_source_in is_same_number length_stated limited body_asked body_wanted length_wanted
    query_wanted percent_decode decoded_text query_of route_at is_list_name merge_in merge_of part_in
http_on_literals = tt
